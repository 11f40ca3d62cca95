-- Demand 3: "From power-up, for every table within the limits, all heads obeying the rules, and every order of accepted steps: whenever nothing is due
-- at the present tick, all active heads hold the same slot and the same instant for the next one; and with two heads or more, once the clock stands
-- six rounds or more past the latest wake, every head is active." Proved in proofs/InStep.antt of each state of each run; whoever reads this file
-- needs the rules beside it, and nothing else.
use Rattle.std.specs.Prelude.{◌≡◌, true, false, List, [], ◌∷◌, ◌++◌, ℕ, zero, suc, ◌+◌, ◌*◌, ◌≤◌, max}
use Rattle.words.specs.declared.Step.{Step}
use Rattle.rules.specs.declared.Phase.TheVariants.{Active}
use Rattle.rules.specs.declared.State.{State}
use Rattle.rules.specs.declared.Table.{Table}
use Rattle.rules.specs.Table.{round, wake_of, table_fits}
use Rattle.rules.specs.State.{phase_of, timeout_of, fresh}
use Rattle.rules.specs.Step.{due}
use Rattle.rules.specs.Judge.{refusal, judged}
use Rattle.rules.specs.Conditions.{IsHead}

-- "From power-up, [..] every order of accepted steps": the steps taken, in their order, and the state they have led to. A step is accepted by the
-- definition that the contract of the judged step cites, and leads to the state that this contract answers.
pub data Run (t : Table) : List Step → State → Type 0 where
  power_up : Run t [] (fresh t)
  then : {xs : List Step} {s : State} → Run t xs s → (x : Step) → refusal t s x ≡ 0 → Run t (xs ++ (x ∷ [])) (judged t s x)

-- The same over any steps, given to the judged step one after another from power-up: one that is refused leaves the state as it is.
unfoldable pub played_from : Table → State → List Step → State
played_from t s [] = s
played_from t s (x ∷ xs) = played_from t (judged t s x) xs

abbrev pub played : Table → List Step → State
played t xs = played_from t (fresh t) xs

-- head i is active, in some slot
abbrev pub IsActive : State → ℕ → Type 0
IsActive s i = (k : ℕ) × (phase_of s i ≡ Active k)

-- "all active heads hold the same slot and the same instant for the next one"
abbrev pub Agreed : Table → State → Type 0
Agreed t s = (i j : ℕ) → IsHead t i → IsHead t j → (k l : ℕ) → phase_of s i ≡ Active k → phase_of s j ≡ Active l → (k ≡ l) × (timeout_of s i ≡ timeout_of s j)

-- "every head is active"
abbrev pub AllActive : Table → State → Type 0
AllActive t s = (i : ℕ) → IsHead t i → IsActive s i

-- the latest wake of heads 1 to k
unfoldable pub last_of : Table → ℕ → ℕ
last_of t zero = 0
last_of t (suc k) = max (last_of t k) (wake_of t (suc k))

-- "the latest wake"
abbrev pub last_wake : Table → ℕ
last_wake t = last_of t t.n

-- "six rounds"
abbrev pub six_rounds : Table → ℕ
six_rounds t = 6 * round t

-- beyond the demand: the tick by which the last head joins, three rounds, a slot and a propagation after the latest wake; proofs/Reached.antt comes to it
abbrev pub bound : Table → ℕ
bound t = last_wake t + 3 * round t + t.s + t.p

-- what the demand asks of a state
pub record InStep (t : Table) (s : State) : Type 0 where
  -- "whenever nothing is due at the present tick, all active heads hold the same slot and the same instant for the next one"
  pub agreed : due t s ≡ false → Agreed t s
  -- "with two heads or more, once the clock stands six rounds or more past the latest wake, every head is active", whether or not something is due
  pub joined : 2 ≤ t.n → last_wake t + six_rounds t ≤ s.clock → AllActive t s
  -- and more: while some head is not active, the clock is at most at the bound
  pub sharp : 2 ≤ t.n → (i : ℕ) → IsHead t i → (IsActive s i → ⊥) → s.clock ≤ bound t
  -- and at the bound, once nothing is due, every head is active
  pub sharp_idle : 2 ≤ t.n → due t s ≡ false → bound t ≤ s.clock → AllActive t s

-- the demand: "for every table within the limits", of every run
abbrev pub Demand3 : Type 0
Demand3 = (t : Table) → table_fits t ≡ true → (xs : List Step) (s : State) → Run t xs s → InStep t s

-- and of the judged step, whatever steps it is given
abbrev pub Demand3Judged : Type 0
Demand3Judged = (t : Table) → table_fits t ≡ true → (xs : List Step) → InStep t (played t xs)
