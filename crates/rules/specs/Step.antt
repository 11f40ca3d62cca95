-- Document 01, "Steps": what each step does to a state, whether or not it is enabled.
use Rattle.std.specs.Prelude.{Bool, cond, ◌||◌, ℕ, zero, suc, ◌+◌, ◌-◌, min, eqb, ltb}
use Rattle.words.specs.declared.Step.{Step}
use Rattle.words.specs.declared.Step.TheVariants.{Advance, Timer, Hear}
use Rattle.rules.specs.declared.Phase.{Phase}
use Rattle.rules.specs.declared.Phase.TheVariants.{Init, Listen, Coldstart, Active}
use Rattle.rules.specs.declared.Head.{Head}
use Rattle.rules.specs.declared.Calendar.{Calendar}
use Rattle.rules.specs.declared.State.{State}
use Rattle.rules.specs.declared.Table.{Table}
use Rattle.rules.specs.Each.{some}
use Rattle.rules.specs.Calendar.{coldstart_frame, i_frame, quiet, left, send, delivery_due}
use Rattle.rules.specs.State.{head_in, head_of, put, phase_of, timeout_of, listen_wait, coldstart_wait}

-- ---- due, and the next instant

-- "a timeout of heads 1 to N equal to the clock"
unfoldable pub timer_due : State → ℕ → Bool
timer_due s i = eqb (timeout_of s i) s.clock

-- "Due means a timeout of heads 1 to N equal to the clock, or hearers waiting with delivery equal to the clock."
unfoldable pub due : Table → State → Bool
due t s = some t.n (timer_due s) || delivery_due s.clock s.calendar

-- the least of the timeouts of heads 1 to k (and of head 1, for a k of 0)
unfoldable pub least_timeout : State → ℕ → ℕ
least_timeout s zero = timeout_of s 1
least_timeout s (suc k) = min (least_timeout s k) (timeout_of s (suc k))

-- "the least of the timeouts of heads 1 to N and, if hearers wait, the delivery tick"
unfoldable pub next_instant : Table → State → ℕ
next_instant t s = cond (quiet s.calendar) (least_timeout s t.n) (min (least_timeout s t.n) s.calendar.delivery)

-- ---- "Advance": "The clock becomes the least [..]. Nothing else changes."
unfoldable pub advance : Table → State → State
advance t s = record { clock = next_instant t s; n = s.n; calendar = s.calendar; heads = s.heads }

-- ---- "Timer i", at the clock T

-- "slot becomes the next (N is followed by 1)"
unfoldable pub slot_after : Table → ℕ → ℕ
slot_after t k = cond (ltb k t.n) (k + 1) 1

-- "init: to listen, timeout T + 2R + (i-1)S. listen or coldstart: to coldstart, timeout T + R + (i-1)S. active: slot becomes the next, timeout T + S."
unfoldable pub timer_head : Table → ℕ → ℕ → Phase → Head
timer_head t clock i Init = head_in Listen (clock + listen_wait t i)
timer_head t clock i Listen = head_in Coldstart (clock + coldstart_wait t i)
timer_head t clock i Coldstart = head_in Coldstart (clock + coldstart_wait t i)
timer_head t clock i (Active k) = head_in (Active (slot_after t k)) (clock + t.s)

-- the kind of frame that the timer sends, 0 for none: "listen or coldstart: send a coldstart frame. active: if the new slot is i, send an i-frame."
unfoldable pub timer_frame : Table → ℕ → Phase → ℕ
timer_frame t i Init = 0
timer_frame t i Listen = coldstart_frame
timer_frame t i Coldstart = coldstart_frame
timer_frame t i (Active k) = cond (eqb (slot_after t k) i) i_frame 0

-- the calendar after a frame of kind k is sent, or unchanged where k is 0
unfoldable pub sends : Table → ℕ → ℕ → ℕ → Calendar → Calendar
sends t clock k i c = cond (eqb k 0) c (send t clock k i c)

unfoldable pub timer : Table → State → ℕ → State
timer t s i = record {
  clock = s.clock;
  n = s.n;
  calendar = sends t s.clock (timer_frame t i (phase_of s i)) i s.calendar;
  heads = put s.heads i (timer_head t s.clock i (phase_of s i));
}

-- ---- "Hear i", at the clock T: "Head i leaves the hearers, and:"

-- how long a listener waits that hears a coldstart frame: R + (i-1)S
unfoldable pub listener_wait : Table → ℕ → ℕ
listener_wait t i = coldstart_wait t i

-- "to active, slot = origin, timeout T + S - P"
abbrev pub joined : Table → ℕ → Calendar → Head
joined t clock c = head_in (Active c.origin) (clock + t.s - t.p)

-- "init or active: nothing else. listen, coldstart frame: to coldstart, timeout T + R + (i-1)S. listen with an i-frame, or coldstart with either kind: to active"
unfoldable pub hear_head : Table → ℕ → ℕ → Calendar → Head → Phase → Head
hear_head t clock i c h Init = h
hear_head t clock i c h Listen = cond (eqb c.kind coldstart_frame) (head_in Coldstart (clock + listener_wait t i)) (joined t clock c)
hear_head t clock i c h Coldstart = joined t clock c
hear_head t clock i c h (Active k) = h

unfoldable pub hear : Table → State → ℕ → State
hear t s i = record {
  clock = s.clock;
  n = s.n;
  calendar = left s.calendar i;
  heads = put s.heads i (hear_head t s.clock i s.calendar (head_of s.heads i) (phase_of s i));
}

-- ---- the state after a step that is taken
unfoldable pub moved : Table → State → Step → State
moved t s Advance = advance t s
moved t s (Timer i) = timer t s i
moved t s (Hear i) = hear t s i
