-- Document 01, "Steps": a run of given steps.
use Rattle.std.specs.Prelude.{cond, List, [], ◌∷◌, ℕ, suc, eqb}
use Rattle.words.specs.declared.Refusal.TheVariants.{NoSuchStep}
use Rattle.words.specs.Refusal.{number_of, verdict_number}
use Rattle.words.specs.Pair.{step_of}
use Rattle.rules.specs.declared.State.{State}
use Rattle.rules.specs.declared.Table.{Table}
use Rattle.rules.specs.Step.{moved}
use Rattle.rules.specs.Judge.{step_refusal, record_refusal}
use Rattle.runs.specs.declared.Ran.{Ran}

-- "A run answers the state, the number accepted and the refusal number, 0 if none"
pub record Outcome : Type 0 where
  pub state : State
  pub accepted : ℕ
  pub refusal : ℕ

abbrev pub stopped : State → ℕ → ℕ → Outcome
stopped s accepted number = record { state = s; accepted = accepted; refusal = number }

-- the code's answer in these terms
abbrev pub told : Ran → Outcome
told r = stopped r.state r.accepted (verdict_number r.verdict)

-- "A run stops at the first step that is refused": in the state before it; otherwise it goes on
unfoldable pub onward : State → ℕ → ℕ → Outcome → Outcome
onward s accepted number rest = cond (eqb number 0) rest (stopped s accepted number)

-- what is left of a run after some accepted steps: "An empty list accepts 0 steps." "A lone last byte counts as a refused step (7)."
unfoldable pub run_from : Table → State → ℕ → List ℕ → Outcome
run_from t s accepted [] = stopped s accepted 0
run_from t s accepted (kind ∷ []) = stopped s accepted (number_of NoSuchStep)
run_from t s accepted (kind ∷ i ∷ rest) = onward s accepted (step_refusal t s (step_of kind i)) (run_from t (moved t s (step_of kind i)) (suc accepted) rest)

-- "an unfit table or state is refused before the first step, with 0 accepted", and returns the given state
unfoldable pub checked : Table → State → Outcome → Outcome
checked t s o = onward s 0 (record_refusal t s) o

unfoldable pub run : Table → State → List ℕ → Outcome
run t s pairs = checked t s (run_from t s 0 pairs)
