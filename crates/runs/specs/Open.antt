-- Document 01, "Steps": "The step list holds all accepted steps, each once, as pairs: heads rising, timer before hear for one head; advance alone when nothing
-- is due; empty when that advance would pass the ceiling."
use Rattle.std.specs.Prelude.{Bool, true, false, cond, List, [], ◌∷◌, ◌++◌, ℕ, zero, suc, leb}
use Rattle.words.specs.declared.Step.{Step}
use Rattle.words.specs.declared.Step.TheVariants.{Advance, Timer, Hear}
use Rattle.words.specs.Pair.{kind_of, head_number}
use Rattle.rules.specs.declared.State.{State}
use Rattle.rules.specs.declared.Table.{Table}
use Rattle.rules.specs.Limits.{ceiling}
use Rattle.rules.specs.Calendar.{hear_due}
use Rattle.rules.specs.Step.{timer_due, due, next_instant}

-- a step where a test holds, otherwise none
unfoldable pub only_if : Bool → Step → List Step
only_if true x = x ∷ []
only_if false x = []

-- what is due at head i: "timer before hear for one head"
unfoldable pub open_at : State → ℕ → List Step
open_at s i = only_if (timer_due s i) (Timer i) ++ only_if (hear_due s.clock s.calendar i) (Hear i)

-- what is due at heads 1 to k: "heads rising"
unfoldable pub open_to : State → ℕ → List Step
open_to s zero = []
open_to s (suc k) = open_to s k ++ open_at s (suc k)

-- "advance alone when nothing is due; empty when that advance would pass the ceiling"
unfoldable pub open_steps : Table → State → List Step
open_steps t s = cond (due t s) (open_to s t.n) (only_if (leb (next_instant t s) ceiling) Advance)

-- "as pairs": "0,0 advance; 1,i timer; 2,i hear"
unfoldable pub step_bytes : List Step → List ℕ
step_bytes [] = []
step_bytes (x ∷ rest) = kind_of x ∷ head_number x ∷ step_bytes rest

-- the first step of a list, or another where it is empty
unfoldable pub first_or : Step → List Step → Step
first_or x [] = x
first_or x (y ∷ rest) = y

-- "The search ends at the first due step it meets and yields that step": of heads 1 to n, or advance where nothing is due
unfoldable pub first_due : State → ℕ → Step
first_due s n = first_or Advance (open_to s n)
