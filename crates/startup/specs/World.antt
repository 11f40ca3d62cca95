-- The numeric view of the system: a table and a state as plain numbers and functions, and a step as a relation between two states.
-- Phases are 0 (init), 1 (listen), 2 (coldstart), 3 (active) and a hearer flag is 0 or 1, so `omega` reads all of it.
use Rattle.std.specs.Prelude.{ℕ, ◌+◌, ◌*◌, ◌-◌, ◌≤◌, ◌<◌, ◌≡◌, cond, eqb, ltb}

-- A head table: head count, slot length, propagation, a bound on the latest wake, and the wake of each head.
pub record Tab : Type 0 where
  pub n : ℕ
  pub s : ℕ
  pub p : ℕ
  pub top : ℕ
  pub wake : ℕ → ℕ

-- One of the heads (or slots) 1 to N.
pub record In (t : Tab) (j : ℕ) : Type 0 where
  pub low : 1 ≤ j
  pub high : j ≤ t.n

-- What the proof needs of a table.
pub record Fit (t : Tab) : Type 0 where
  pub some : 1 ≤ t.n
  pub moving : 1 ≤ t.p
  pub short : t.p + t.p < t.s
  pub last : (j : ℕ) → In t j → t.wake j ≤ t.top

-- R, the length of a round.
unfoldable pub round : Tab → ℕ
round t = t.n * t.s

-- The start of a head's slot within a round.
unfoldable pub offset : Tab → ℕ → ℕ
offset t i = (i - 1) * t.s

-- The slot after slot c.
unfoldable pub next_slot : Tab → ℕ → ℕ
next_slot t c = cond (eqb c t.n) 1 (c + 1)

-- How many whole slots lie between slot c and the next slot i.
unfoldable pub slots_between : Tab → ℕ → ℕ → ℕ
slots_between t c i = cond (ltb c i) (i - c - 1) (t.n + i - c - 1)

-- The ticks from the end of slot c to the next start of slot i.
unfoldable pub distance : Tab → ℕ → ℕ → ℕ
distance t c i = slots_between t c i * t.s

-- How long a listener waits in coldstart after it has heard a coldstart frame.
unfoldable pub listener_wait : Tab → ℕ → ℕ
listener_wait t j = round t + offset t j

-- A state: clock, calendar, and for each head its hearer flag, phase, slot and timeout.
pub record World : Type 0 where
  pub clock : ℕ
  pub kind : ℕ
  pub origin : ℕ
  pub sent : ℕ
  pub delivery : ℕ
  pub hears : ℕ → ℕ
  pub phase : ℕ → ℕ
  pub slot : ℕ → ℕ
  pub timeout : ℕ → ℕ

-- Head j stands as it was.
pub record Still (a b : World) (j : ℕ) : Type 0 where
  pub phase_is : b.phase j ≡ a.phase j
  pub slot_is : b.slot j ≡ a.slot j
  pub timeout_is : b.timeout j ≡ a.timeout j

-- The frame in the calendar stands as it was.
pub record SameFrame (a b : World) : Type 0 where
  pub kind_is : b.kind ≡ a.kind
  pub origin_is : b.origin ≡ a.origin
  pub sent_is : b.sent ≡ a.sent
  pub delivery_is : b.delivery ≡ a.delivery

-- The whole calendar stands as it was.
pub record SameCalendar (a b : World) : Type 0 where
  pub hears_is : (j : ℕ) → b.hears j ≡ a.hears j
  pub frame_is : SameFrame a b

-- Head i leaves the hearers; the frame stays as long as somebody waits for it.
pub record Leaves (a b : World) (i : ℕ) : Type 0 where
  pub gone : (j : ℕ) → j ≡ i → b.hears j ≡ 0
  pub others : (j : ℕ) → (j ≡ i → ⊥) → b.hears j ≡ a.hears j
  pub frame_is : (h : ℕ) → b.hears h ≡ 1 → SameFrame a b

-- The frame of kind k that head i sends now.
pub record NewFrame (t : Tab) (a b : World) (i k : ℕ) : Type 0 where
  pub kind_is : b.kind ≡ k
  pub origin_is : b.origin ≡ i
  pub sent_is : b.sent ≡ a.clock
  pub delivery_is : b.delivery ≡ a.clock + t.p

-- Nobody waited, so the calendar takes the frame for all heads but i (for none, if N = 1).
pub record Taken (t : Tab) (a b : World) (i k : ℕ) : Type 0 where
  pub quiet : (j : ℕ) → a.hears j ≡ 0
  pub self : (j : ℕ) → j ≡ i → b.hears j ≡ 0
  pub others : (j : ℕ) → (j ≡ i → ⊥) → In t j → b.hears j ≡ 1
  pub hearers : (j : ℕ) → b.hears j ≡ 1 → In t j
  pub flags : (j : ℕ) → b.hears j ≤ 1
  pub frame : (h : ℕ) → b.hears h ≡ 1 → NewFrame t a b i k

-- Somebody waited, so the frame is dropped and the other one stays; head i no longer hears that one, for it sends.
pub record Dropped (a b : World) (i : ℕ) : Type 0 where
  pub deaf : (j : ℕ) → j ≡ i → b.hears j ≡ 0
  pub others : (j : ℕ) → (j ≡ i → ⊥) → b.hears j ≡ a.hears j
  pub frame_is : (h : ℕ) → b.hears h ≡ 1 → SameFrame a b

-- Head i sends a frame of kind k: taken, or dropped because some h still waits for another one.
pub data Sent (t : Tab) (a b : World) (i k : ℕ) : Type 0 where
  taken : Taken t a b i k → Sent t a b i k
  dropped : (h : ℕ) → a.hears h ≡ 1 → Dropped a b i → Sent t a b i k

-- Nothing is due: no timeout of a head, and no delivery that somebody waits for, equals the clock.
pub record Idle (t : Tab) (a : World) : Type 0 where
  pub timers : (j : ℕ) → In t j → a.timeout j ≡ a.clock → ⊥
  pub frame : (h : ℕ) → a.hears h ≡ 1 → a.delivery ≡ a.clock → ⊥

-- Advance: nothing is due; the clock grows, past no timeout and past no delivery that somebody waits for.
pub record Advance (t : Tab) (a b : World) : Type 0 where
  pub idle : Idle t a
  pub up : a.clock < b.clock
  pub timers : (j : ℕ) → In t j → b.clock ≤ a.timeout j
  pub frame : (h : ℕ) → a.hears h ≡ 1 → b.clock ≤ a.delivery
  pub rest : (j : ℕ) → Still a b j
  pub calendar : SameCalendar a b

-- What a step does to its own head i is said of every j with j ≡ i, so that no proof rewrites an index.
-- Timer in init.
pub record Listens (t : Tab) (a b : World) (j : ℕ) : Type 0 where
  pub was : a.phase j ≡ 0
  pub due : a.timeout j ≡ a.clock
  pub phase_is : b.phase j ≡ 1
  pub timeout_is : b.timeout j ≡ a.clock + 2 * round t + offset t j

-- Timer in listen or coldstart.
pub record Coldstarts (t : Tab) (a b : World) (j : ℕ) : Type 0 where
  pub was_low : 1 ≤ a.phase j
  pub was_high : a.phase j ≤ 2
  pub due : a.timeout j ≡ a.clock
  pub phase_is : b.phase j ≡ 2
  pub timeout_is : b.timeout j ≡ a.clock + round t + offset t j

-- Timer in active.
pub record Turns (t : Tab) (a b : World) (j : ℕ) : Type 0 where
  pub was : a.phase j ≡ 3
  pub due : a.timeout j ≡ a.clock
  pub phase_is : b.phase j ≡ 3
  pub slot_is : b.slot j ≡ next_slot t (a.slot j)
  pub timeout_is : b.timeout j ≡ a.clock + t.s

-- Hear in init or active.
pub record Ignores (a b : World) (j : ℕ) : Type 0 where
  pub was : 1 ≤ a.phase j → a.phase j ≡ 3
  pub still : Still a b j

-- Hear a coldstart frame in listen.
pub record Follows (t : Tab) (a b : World) (j : ℕ) : Type 0 where
  pub was : a.phase j ≡ 1
  pub coldstart : a.kind ≡ 1
  pub phase_is : b.phase j ≡ 2
  pub timeout_is : b.timeout j ≡ a.clock + listener_wait t j

-- Hear an i-frame in listen, or any frame in coldstart.
pub record Joins (t : Tab) (a b : World) (j : ℕ) : Type 0 where
  pub was_low : 1 ≤ a.phase j
  pub was_high : a.phase j ≤ 2
  pub was_told : a.phase j ≡ 1 → a.kind ≡ 1 → ⊥
  pub phase_is : b.phase j ≡ 3
  pub slot_is : b.slot j ≡ a.origin
  pub timeout_is : b.timeout j + t.p ≡ a.clock + t.s

-- A step of head i: the clock and the other heads stand.
pub record Alone (t : Tab) (a b : World) (i : ℕ) : Type 0 where
  pub is : In t i
  pub clock_is : b.clock ≡ a.clock
  pub rest : (j : ℕ) → (j ≡ i → ⊥) → Still a b j

-- Head i hears: it waited, delivery is now, and it waits no more.
pub record Hears (a b : World) (i : ℕ) : Type 0 where
  pub waits : (j : ℕ) → j ≡ i → a.hears j ≡ 1
  pub now : a.delivery ≡ a.clock
  pub leaves : Leaves a b i

-- An accepted step from a to b.
pub data Move (t : Tab) (a b : World) : Type 0 where
  advance : Advance t a b → Move t a b
  listens : (i : ℕ) → Alone t a b i → ((j : ℕ) → j ≡ i → Listens t a b j) → SameCalendar a b → Move t a b
  coldstarts : (i : ℕ) → Alone t a b i → ((j : ℕ) → j ≡ i → Coldstarts t a b j) → Sent t a b i 1 → Move t a b
  turns : (i : ℕ) → Alone t a b i → ((j : ℕ) → j ≡ i → Turns t a b j) → ((j : ℕ) → j ≡ i → b.slot j ≡ j → ⊥) → SameCalendar a b → Move t a b
  speaks : (i : ℕ) → Alone t a b i → ((j : ℕ) → j ≡ i → Turns t a b j) → ((j : ℕ) → j ≡ i → b.slot j ≡ j) → Sent t a b i 2 → Move t a b
  ignores : (i : ℕ) → Alone t a b i → Hears a b i → ((j : ℕ) → j ≡ i → Ignores a b j) → Move t a b
  follows : (i : ℕ) → Alone t a b i → Hears a b i → ((j : ℕ) → j ≡ i → Follows t a b j) → Move t a b
  joins : (i : ℕ) → Alone t a b i → Hears a b i → ((j : ℕ) → j ≡ i → Joins t a b j) → Move t a b
