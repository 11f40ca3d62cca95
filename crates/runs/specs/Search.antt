-- What the search reads: timeouts, the clock and the calendar, and not the state.
use Rattle.std.specs.Prelude.{List, [], ◌++◌, ℕ, zero, suc, eqb, get_or}
use Rattle.words.specs.declared.Step.{Step}
use Rattle.words.specs.declared.Step.TheVariants.{Timer, Hear}
use Rattle.rules.specs.declared.Calendar.{Calendar}
use Rattle.rules.specs.Calendar.{hear_due}
use Rattle.runs.specs.Open.{only_if}

-- what is due at heads 1 to k: "heads rising, timer before hear for one head"
unfoldable pub due_to : List ℕ → ℕ → Calendar → ℕ → List Step
due_to es clock c zero = []
due_to es clock c (suc k) = due_to es clock c k ++ (only_if (eqb (get_or es k 0) clock) (Timer (suc k)) ++ only_if (hear_due clock c (suc k)) (Hear (suc k)))
