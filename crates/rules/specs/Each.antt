-- "Heads 1 to N": a test of each of them, and of some of them.
use Rattle.std.specs.Prelude.{Bool, true, false, ◌&&◌, ◌||◌, ℕ, zero, suc, leb}

-- whether x is from a to b
abbrev pub between : ℕ → ℕ → ℕ → Bool
between a b x = leb a x && leb x b

-- whether f holds of each of 1 to n
unfoldable pub every : ℕ → (ℕ → Bool) → Bool
every zero f = true
every (suc k) f = every k f && f (suc k)

-- whether f holds of one of 1 to n
unfoldable pub some : ℕ → (ℕ → Bool) → Bool
some zero f = false
some (suc k) f = some k f || f (suc k)
