-- A step on the parts of a state: what each rule of document 01 reads and what it changes, with nothing of the state besides. proofs/Parts shows that together
-- they are the step.
use Rattle.std.specs.Prelude.{Bool, true, false, cond, not, List, [], ◌∷◌, map, ℕ, zero, suc, ◌-◌, min, eqb, leb, get_or, Option, Some, None}
use Rattle.words.specs.declared.Step.{Step}
use Rattle.words.specs.declared.Step.TheVariants.{Advance, Timer, Hear}
use Rattle.words.specs.declared.Refusal.TheVariants.{NoSuchStep, SomethingDue, TimerNotDue, NotHearing, PastCeiling, OwnFrame}
use Rattle.words.specs.Refusal.{unless, first_refusal}
use Rattle.rules.specs.declared.Phase.{Phase}
use Rattle.rules.specs.declared.Phase.TheVariants.{Init, Listen, Coldstart, Active}
use Rattle.rules.specs.declared.Head.{Head}
use Rattle.rules.specs.declared.Calendar.{Calendar}
use Rattle.rules.specs.declared.Table.{Table}
use Rattle.rules.specs.Each.{between}
use Rattle.rules.specs.Limits.{max_heads, ceiling}
use Rattle.rules.specs.Table.{is_head}
use Rattle.rules.specs.Calendar.{quiet, left, send, hear_due}
use Rattle.rules.specs.Step.{timer_head, timer_frame, sends, hear_head}

-- the place of head i, counted from 0; the first where there is none
unfoldable pub place : ℕ → ℕ
place i = cond (between 1 max_heads i) (i - 1) 0

-- the timeouts of all places
unfoldable pub timeouts : List Head → List ℕ
timeouts hs = map (λ h. h.timeout) hs

-- the least of the first k timeouts (and of the first, for a k of 0)
unfoldable pub least : List ℕ → ℕ → ℕ
least es zero = get_or es 0 0
least es (suc k) = min (least es k) (get_or es k 0)

-- "the least of the timeouts of heads 1 to N and, if hearers wait, the delivery tick"
unfoldable pub instant : List ℕ → ℕ → Calendar → ℕ
instant es n c = cond (quiet c) (least es n) (min (least es n) c.delivery)

-- the clock after a step
unfoldable pub clock_after : List ℕ → ℕ → ℕ → Calendar → Step → ℕ
clock_after es n clock c Advance = instant es n c
clock_after es n clock c (Timer i) = clock
clock_after es n clock c (Hear i) = clock

-- the kind of a frame, or none where that is 0
unfoldable pub frame_of : ℕ → Option ℕ
frame_of zero = None
frame_of (suc k) = Some (suc k)

-- the calendar after a frame of a kind is sent by i, or as it was where there is none
unfoldable pub sent : Table → ℕ → Option ℕ → ℕ → Calendar → Calendar
sent t clock None i c = c
sent t clock (Some kind) i c = send t clock kind i c

-- the calendar after a step
unfoldable pub calendar_after : Table → ℕ → Calendar → Head → Step → Calendar
calendar_after t clock c h Advance = c
calendar_after t clock c h (Timer i) = sends t clock (timer_frame t i h.phase) i c
calendar_after t clock c h (Hear i) = left c i

-- the head that a step names, after it
unfoldable pub head_after : Table → ℕ → Calendar → Head → Step → Head
head_after t clock c h Advance = h
head_after t clock c h (Timer i) = timer_head t clock i h.phase
head_after t clock c h (Hear i) = hear_head t clock i c h h.phase

-- whether a head in a phase changes when it hears a frame
unfoldable pub heeds : Phase → Bool
heeds Init = false
heeds Listen = true
heeds Coldstart = true
heeds (Active k) = false

-- "then 7; then 8, 9 or 10 by kind; then 11 or 13", an advance by the instant it comes to
unfoldable pub advance_refusal : ℕ → ℕ → ℕ
advance_refusal clock next = first_refusal (unless (not (eqb next clock)) SomethingDue ∷ unless (leb next ceiling) PastCeiling ∷ [])

unfoldable pub timer_refusal : Table → ℕ → Head → ℕ → ℕ
timer_refusal t clock h i = first_refusal (unless (is_head t i) NoSuchStep ∷ unless (eqb h.timeout clock) TimerNotDue ∷ [])

unfoldable pub hear_refusal : Table → ℕ → Calendar → ℕ → ℕ
hear_refusal t clock c i = first_refusal (unless (is_head t i) NoSuchStep ∷ unless (hear_due clock c i) NotHearing ∷ unless (not (eqb i c.origin)) OwnFrame ∷ [])

unfoldable pub part_refusal : Table → ℕ → ℕ → Calendar → Head → Step → ℕ
part_refusal t clock later c h Advance = advance_refusal clock later
part_refusal t clock later c h (Timer i) = timer_refusal t clock h i
part_refusal t clock later c h (Hear i) = hear_refusal t clock c i
