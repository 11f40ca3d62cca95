-- What one more step makes of a run under way.
use Rattle.std.specs.Prelude.{◌≡◌, ℕ, Result}
use Rattle.words.specs.declared.Step.{Step}
use Rattle.words.specs.declared.Step.TheVariants.{Advance, Timer, Hear}
use Rattle.words.specs.declared.Refusal.{Refusal}
use Rattle.words.specs.Refusal.{verdict_number}
use Rattle.rules.specs.declared.State.{State}
use Rattle.rules.specs.declared.Table.{Table}
use Rattle.rules.specs.Judge.{step_refusal, state_after}
use Rattle.runs.specs.declared.run.Run.{Run}

-- what refuses a step that moves a head, a timer or a hearing
abbrev pub moving_refusal : Table → State → Step → ℕ
moving_refusal t s Advance = 0
moving_refusal t s (Timer i) = step_refusal t s (Timer i)
moving_refusal t s (Hear i) = step_refusal t s (Hear i)

-- its verdict, and the table and the state after it: "a refused step returns the given state"
pub record Stepped (x : Step) (before after : Run) (verdict : Result (Unit {0}) Refusal) : Type 0 where
  pub number : verdict_number verdict ≡ step_refusal before.table before.state x
  pub table : after.table ≡ before.table
  pub state : after.state ≡ state_after before.table before.state x (step_refusal before.table before.state x)
