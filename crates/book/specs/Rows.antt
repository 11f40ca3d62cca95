-- A row of places counted from 1: what stands at one, the row with another put there, the lowest that passes a test.
use Rattle.std.specs.Prelude.{Bool, cond, List, ℕ, zero, suc, eqb, get_or, set}

-- what stands at place p, or `none` where there is no such place
unfoldable pub at : {A : Type 0} → A → List A → ℕ → A
at none xs zero = none
at none xs (suc k) = get_or xs k none

-- the row with x at place p
unfoldable pub put : {A : Type 0} → List A → ℕ → A → List A
put xs zero x = xs
put xs (suc k) x = set xs k x

-- the lowest of 1 to n that passes a test, 0 where none does
unfoldable pub lowest : ℕ → (ℕ → Bool) → ℕ
lowest zero f = 0
lowest (suc k) f = cond (eqb (lowest k f) 0) (cond (f (suc k)) (suc k) 0) (lowest k f)
