-- Document 01, "Steps": a run by the fixed policy.
use Rattle.std.specs.Prelude.{List, [], ◌∷◌, ℕ, zero, suc, min}
use Rattle.words.specs.declared.Step.{Step}
use Rattle.rules.specs.declared.State.{State}
use Rattle.rules.specs.declared.Table.{Table}
use Rattle.rules.specs.Step.{moved}
use Rattle.runs.specs.Open.{open_steps}
use Rattle.runs.specs.Run.{Outcome, stopped, checked}

-- "0 to 100,000; a larger one is treated as 100,000"
abbrev pub longest_run : ℕ
longest_run = 100_000

-- what is made of the first step of a list, or the answer where the list is empty
unfoldable pub on_first : {A : Type 0} → List Step → (Step → A) → A → A
on_first [] go none = none
on_first (x ∷ rest) go none = go x

-- what is left of a run after some steps: "A policy run takes the first step of that list again and again, up to a given count." "It stops early, with 0, when the list is empty."
unfoldable pub policy_from : Table → State → ℕ → ℕ → Outcome
policy_from t s taken zero = stopped s taken 0
policy_from t s taken (suc count) = on_first (open_steps t s) (λ x. policy_from t (moved t s x) (suc taken) count) (stopped s taken 0)

unfoldable pub policy : Table → State → ℕ → Outcome
policy t s count = checked t s (policy_from t s 0 (min count longest_run))

-- the steps that the policy chooses
unfoldable pub chosen : Table → State → ℕ → List Step
chosen t s zero = []
chosen t s (suc count) = on_first (open_steps t s) (λ x. x ∷ chosen t (moved t s x) count) []
