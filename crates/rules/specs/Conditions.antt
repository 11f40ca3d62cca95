-- The rules once more, as conditions instead of tests: what a fitting table and state meet, and when a step is enabled. Nothing computes with these;
-- that they say the same as the tests is proved (proofs/Meaning.antt, and the crate exact).
use Rattle.std.specs.Prelude.{◌≡◌, ◌⊎◌, ℕ, ◌+◌, ◌*◌, ◌≤◌, ◌<◌, length}
use Rattle.hearers.specs.Set.{has}
use Rattle.words.specs.declared.Step.{Step}
use Rattle.words.specs.declared.Step.TheVariants.{Advance, Timer, Hear}
use Rattle.rules.specs.declared.Phase.{Phase}
use Rattle.rules.specs.declared.Phase.TheVariants.{Init, Listen, Coldstart, Active}
use Rattle.rules.specs.declared.Calendar.{Calendar}
use Rattle.rules.specs.declared.State.{State}
use Rattle.rules.specs.declared.Table.{Table}
use Rattle.rules.specs.Limits.{max_heads, shortest_slot, longest_slot, latest_wake, ceiling}
use Rattle.rules.specs.Table.{wake_of}
use Rattle.rules.specs.Calendar.{coldstart_frame, i_frame, empty_calendar}
use Rattle.rules.specs.State.{no_head, head_of, timeout_of, listen_wait, coldstart_wait}

-- "N heads are numbered 1 to N."
pub record IsHead (t : Table) (i : ℕ) : Type 0 where
  pub low : 1 ≤ i
  pub high : i ≤ t.n

-- "The head table": what is allowed
pub record TableMeets (t : Table) : Type 0 where
  pub places : length t.wakes ≡ max_heads
  pub some_head : 1 ≤ t.n
  pub heads : t.n ≤ max_heads
  pub slot_low : shortest_slot ≤ t.s
  pub slot_high : t.s ≤ longest_slot
  pub propagation : 1 ≤ t.p
  pub short : 2 * t.p < t.s
  pub wake_low : (i : ℕ) → IsHead t i → 1 ≤ wake_of t i
  pub wake_high : (i : ℕ) → IsHead t i → wake_of t i ≤ latest_wake
  pub spare : (i : ℕ) → t.n < i → wake_of t i ≡ 0

-- head i waits for the frame
abbrev pub Hears : Calendar → ℕ → Type 0
Hears c i = has c.hearers i ≡ 1

-- "if hearers wait: kind 1 or 2, origin 1 to N and not a hearer, delivery = sent + P, sent <= clock <= delivery"
pub record FrameMeets (t : Table) (clock : ℕ) (c : Calendar) : Type 0 where
  pub kind : (c.kind ≡ coldstart_frame) ⊎ (c.kind ≡ i_frame)
  pub origin : IsHead t c.origin
  pub deaf : Hears c c.origin → ⊥
  pub flight : c.delivery ≡ c.sent + t.p
  pub sent : c.sent ≤ clock
  pub ahead : clock ≤ c.delivery

-- "Init: timeout is the head's wake. Listen, head i: timeout <= clock + 2R + (i-1)S. Coldstart: <= clock + R + (i-1)S. Active: <= clock + S, and slot 1 to N."
unfoldable pub PhaseMeets : Table → ℕ → ℕ → ℕ → Phase → Type 0
PhaseMeets t clock i e Init = e ≡ wake_of t i
PhaseMeets t clock i e Listen = e ≤ clock + listen_wait t i
PhaseMeets t clock i e Coldstart = e ≤ clock + coldstart_wait t i
PhaseMeets t clock i e (Active k) = (e ≤ clock + t.s) × IsHead t k

-- "State rules, against a table"
pub record StateMeets (t : Table) (s : State) : Type 0 where
  pub places : length s.heads ≡ max_heads
  pub clock : s.clock ≤ ceiling
  pub count : s.n ≡ t.n
  pub empty : s.calendar.hearers ≡ 0 → s.calendar ≡ empty_calendar
  pub few : (i : ℕ) → Hears s.calendar i → IsHead t i
  pub frame : (s.calendar.hearers ≡ 0 → ⊥) → FrameMeets t s.clock s.calendar
  pub ahead : (i : ℕ) → IsHead t i → s.clock ≤ timeout_of s i
  pub phases : (i : ℕ) → IsHead t i → PhaseMeets t s.clock i (timeout_of s i) (head_of s.heads i).phase
  pub spare : (i : ℕ) → t.n < i → head_of s.heads i ≡ no_head

-- "Due": a timeout of heads 1 to N equal to the clock, or a hearer waiting with delivery equal to the clock
pub data Due (t : Table) (s : State) : Type 0 where
  a_timer : (i : ℕ) → IsHead t i → timeout_of s i ≡ s.clock → Due t s
  a_delivery : (i : ℕ) → Hears s.calendar i → s.calendar.delivery ≡ s.clock → Due t s

-- an instant that the clock may come to: a timeout of heads 1 to N or, if hearers wait, the delivery tick
pub data Instant (t : Table) (s : State) (c : ℕ) : Type 0 where
  at_timeout : (i : ℕ) → IsHead t i → timeout_of s i ≡ c → Instant t s c
  at_delivery : (i : ℕ) → Hears s.calendar i → s.calendar.delivery ≡ c → Instant t s c

-- the least of them
pub record Least (t : Table) (s : State) (c : ℕ) : Type 0 where
  pub instant : Instant t s c
  pub first : (d : ℕ) → Instant t s d → c ≤ d

-- "Advance: enabled when nothing is due and the new clock is at most the ceiling." "Timer i: enabled when head i's timeout equals the clock T."
-- "Hear i: enabled when i is a hearer and delivery equals T."
unfoldable pub Enabled : Table → State → Step → Type 0
Enabled t s Advance = (Due t s → ⊥) × ((c : ℕ) × (Least t s c × (c ≤ ceiling)))
Enabled t s (Timer i) = IsHead t i × (timeout_of s i ≡ s.clock)
Enabled t s (Hear i) = Hears s.calendar i × (s.calendar.delivery ≡ s.clock)
