-- Document 01, "Refusal numbers", the order for steps: "table record 3, state record 6, then 7; then 8, 9 or 10 by kind; then 11 or 13".
use Rattle.std.specs.Prelude.{cond, not, [], ◌∷◌, ℕ, eqb, leb}
use Rattle.words.specs.declared.Step.{Step}
use Rattle.words.specs.declared.Step.TheVariants.{Advance, Timer, Hear}
use Rattle.words.specs.declared.Refusal.TheVariants.{NoSuchStep, SomethingDue, TimerNotDue, NotHearing, PastCeiling, OwnFrame}
use Rattle.words.specs.Refusal.{unless, first_refusal}
use Rattle.rules.specs.declared.State.{State}
use Rattle.rules.specs.declared.Table.{Table}
use Rattle.rules.specs.Limits.{ceiling}
use Rattle.rules.specs.Table.{is_head, table_refusal}
use Rattle.rules.specs.Calendar.{hear_due}
use Rattle.rules.specs.State.{state_refusal}
use Rattle.rules.specs.Step.{due, timer_due, next_instant, moved}

-- "7: no such step: kind above 2, advance with a head, head 0 or above N"
unfoldable pub name_refusal : Table → Step → ℕ
name_refusal t Advance = 0
name_refusal t (Timer i) = unless (is_head t i) NoSuchStep
name_refusal t (Hear i) = unless (is_head t i) NoSuchStep

-- "8: advance while something is due. 9: that timer isn't due. 10: that head isn't a hearer, or delivery isn't now"
unfoldable pub due_refusal : Table → State → Step → ℕ
due_refusal t s Advance = unless (not (due t s)) SomethingDue
due_refusal t s (Timer i) = unless (timer_due s i) TimerNotDue
due_refusal t s (Hear i) = unless (hear_due s.clock s.calendar i) NotHearing

-- "11: advance would pass the ceiling. 13: the hearing head is the frame's origin"
unfoldable pub last_refusal : Table → State → Step → ℕ
last_refusal t s Advance = unless (leb (next_instant t s) ceiling) PastCeiling
last_refusal t s (Timer i) = 0
last_refusal t s (Hear i) = unless (not (eqb i s.calendar.origin)) OwnFrame

-- the refusals of a step on a table and a state that fit
unfoldable pub step_refusal : Table → State → Step → ℕ
step_refusal t s x = first_refusal (name_refusal t x ∷ due_refusal t s x ∷ last_refusal t s x ∷ [])

-- the state after a step that is refused with a number, or accepted with 0: "A refused step returns the given state"
unfoldable pub state_after : Table → State → Step → ℕ → State
state_after t s x number = cond (eqb number 0) (moved t s x) s

-- the record refusals: table record 3, state record 6
unfoldable pub record_refusal : Table → State → ℕ
record_refusal t s = first_refusal (table_refusal t ∷ state_refusal t s ∷ [])

-- the refusal of a proposed step on any table and state; 0 where it is accepted
unfoldable pub refusal : Table → State → Step → ℕ
refusal t s x = first_refusal (table_refusal t ∷ state_refusal t s ∷ step_refusal t s x ∷ [])

-- the state that a judged step answers
unfoldable pub judged : Table → State → Step → State
judged t s x = state_after t s x (refusal t s x)
