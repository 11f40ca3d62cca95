-- The program's tables and states as the numbers that the proof is about, and the one link: an enabled step is a move.
use Rattle.std.proofs.Common.{ℕ, ◌+◌, ◌*◌, ◌≤◌, ◌≡◌, refl, sym, ap, subst, ◌∙◌, false, cond, inl, inr, arith, lt-ltb, le-ltb, eq-eqb, ne_eqb}
use borrow.Author.Tests.{eqb-false}
use Rattle.hearers.specs.Set.{has}
use Rattle.hearers.proofs.Laws.{has_low, has_none}
use Rattle.words.specs.declared.Step.{Step}
use Rattle.words.specs.declared.Step.TheVariants.{Advance, Timer, Hear}
use Rattle.rules.specs.declared.Phase.{Phase}
use Rattle.rules.specs.declared.Phase.TheVariants.{Init, Listen, Coldstart, Active}
use Rattle.rules.specs.declared.Head.{Head}
use Rattle.rules.specs.declared.Calendar.{Calendar}
use Rattle.rules.specs.declared.State.{State}
use Rattle.rules.specs.declared.Table.{Table}
use Rattle.rules.specs.Table.{round, offset, wake_of}
use Rattle.rules.specs.Calendar.{coldstart_frame, i_frame, left, send}
use Rattle.rules.specs.State.{phase_number, slot_number, head_in, head_of, put, phase_of, timeout_of, listen_wait, coldstart_wait}
use Rattle.rules.specs.Step.{due, next_instant, advance, slot_after, timer_head, timer_frame, sends, timer, listener_wait, joined, hear_head, hear, moved}
use Rattle.rules.specs.Conditions.{IsHead, TableMeets, Hears, PhaseMeets, StateMeets, a_timer, a_delivery, Enabled}
use Rattle.rules.proofs.Each.{same_or_not, either_or_not, not_both}
use Rattle.rules.proofs.Meaning.{hearer_waits}
use Rattle.rules.proofs.Moves.{due_is, put_same, put_other, somebody_hears, left_same, left_other, left_frame, taken_same, taken_other, taken_few, taken_frame, send_quiet, send_waiting, sends_none, sends_some, next_timeout, next_delivery, clock_next, is_due, due_is_now}
use Rattle.startup.specs.World as W
use Rattle.startup.specs.World.{Tab, In, next_slot, World, Still, SameFrame, SameCalendar, Leaves, Sent, taken, dropped, Idle, Alone, Move, Listens, Coldstarts, Turns, Follows, Joins, listens, coldstarts, turns, speaks, ignores, follows, joins}
use Rattle.startup.specs.Demand.{last_wake}

abbrev pub tab : Table → Tab
tab t = record { n = t.n; s = t.s; p = t.p; top = last_wake t; wake = wake_of t }

abbrev pub view : State → World
view s = record {
  clock = s.clock;
  kind = s.calendar.kind;
  origin = s.calendar.origin;
  sent = s.calendar.sent;
  delivery = s.calendar.delivery;
  hears = has s.calendar.hearers;
  phase = λ j. phase_number (phase_of s j);
  slot = λ j. slot_number (phase_of s j);
  timeout = timeout_of s;
}

-- ---- the words of both sides: heads, waits, and the next slot, which differ only above N

pub in_head : {t : Table} {i : ℕ} → IsHead t i → In (tab t) i
in_head h = record { low = h.low; high = h.high }

pub head_in_lem : {t : Table} {i : ℕ} → In (tab t) i → IsHead t i
head_in_lem h = record { low = h.low; high = h.high }

module _ (t : Table) where
  pub round_is : W.round (tab t) ≡ round t
  unfolding W.round round
  round_is = refl

  listen_is : (i : ℕ) → 2 * W.round (tab t) + W.offset (tab t) i ≡ listen_wait t i
  unfolding W.round W.offset listen_wait round offset
  listen_is i = refl

  coldstart_is : (i : ℕ) → W.round (tab t) + W.offset (tab t) i ≡ coldstart_wait t i
  unfolding W.round W.offset coldstart_wait round offset
  coldstart_is i = refl

  listener_is : (i : ℕ) → W.listener_wait (tab t) i ≡ listener_wait t i
  unfolding W.listener_wait W.round W.offset listener_wait coldstart_wait round offset
  listener_is i = refl

  next_is : (k : ℕ) → k ≤ t.n → slot_after t k ≡ next_slot (tab t) k
  unfolding slot_after next_slot
  next_is k l = elim (same_or_not k t.n) [ inl e ↦ rw (le-ltb k t.n (omega arith), eq-eqb _ _ e) | inr e ↦ rw (lt-ltb k t.n (omega arith), ne_eqb _ _ e) ]

-- ---- head places

-- a head that has the same place
still : (s u : State) (j : ℕ) → head_of u.heads j ≡ head_of s.heads j → Still (view s) (view u) j
still s u j e = record { phase_is = ap (λ (h : Head). phase_number h.phase) e; slot_is = ap (λ (h : Head). slot_number h.phase) e; timeout_is = ap (λ (h : Head). h.timeout) e }

-- ---- the calendar

-- a frame stands, with any hearers
same_frame : (s u : State) (h : ℕ) → u.calendar ≡ record { hearers = h; kind = s.calendar.kind; origin = s.calendar.origin; sent = s.calendar.sent; delivery = s.calendar.delivery } → SameFrame (view s) (view u)
same_frame s u h e = record {
  kind_is = ap (λ (c : Calendar). c.kind) e;
  origin_is = ap (λ (c : Calendar). c.origin) e;
  sent_is = ap (λ (c : Calendar). c.sent) e;
  delivery_is = ap (λ (c : Calendar). c.delivery) e;
}

-- and so does the calendar, with the same
same_calendar : (s u : State) → u.calendar ≡ s.calendar → SameCalendar (view s) (view u)
same_calendar s u e = record { hears_is = λ j. ap (λ (c : Calendar). has c.hearers j) e; frame_is = same_frame s u s.calendar.hearers e }

-- head i leaves the hearers
leaves : (s u : State) (i : ℕ) → u.calendar ≡ left s.calendar i → Leaves (view s) (view u) i
leaves s u i e = record {
  gone = λ j x. rw x (ap (λ (c : Calendar). has c.hearers i) e ∙ left_same s.calendar i);
  others = λ j n. ap (λ (c : Calendar). has c.hearers j) e ∙ left_other s.calendar i j n;
  frame_is = λ h x. same_frame s u _ (e ∙ left_frame s.calendar i (λ z. hearer_waits u.calendar h x (ap (λ (c : Calendar). c.hearers) e ∙ z)));
}

-- head i sends
sent : (t : Table) (s u : State) (i k : ℕ) → u.calendar ≡ send t s.clock k i s.calendar → Sent (tab t) (view s) (view u) i k
sent t s u i k e = elim (same_or_not s.calendar.hearers 0) [
  | inl z ↦ let q : u.calendar ≡ _ = e ∙ send_quiet t s.clock k i s.calendar z in taken record {
    quiet = λ j. ap (λ (x : ℕ). has x j) z ∙ has_none j;
    self = λ j x. rw x (ap (λ (c : Calendar). has c.hearers i) q ∙ taken_same t s.clock k i);
    others = λ j n h. ap (λ (c : Calendar). has c.hearers j) q ∙ taken_other t s.clock k i j (head_in_lem h) n;
    hearers = λ j x. in_head (taken_few t s.clock k i j (sym (ap (λ (c : Calendar). has c.hearers j) q) ∙ x));
    flags = λ j. has_low u.calendar.hearers j;
    frame = λ h x. let f = q ∙ taken_frame t s.clock k i (λ y. hearer_waits u.calendar h x (ap (λ (c : Calendar). c.hearers) q ∙ y)) in record {
      kind_is = ap (λ (c : Calendar). c.kind) f;
      origin_is = ap (λ (c : Calendar). c.origin) f;
      sent_is = ap (λ (c : Calendar). c.sent) f;
      delivery_is = ap (λ (c : Calendar). c.delivery) f;
    };
  }
  | inr n ↦ let r = somebody_hears s.calendar n in let l = leaves s u i (e ∙ send_waiting t s.clock k i s.calendar n) in dropped r.0 r.1 record { deaf = l.gone; others = l.others; frame_is = l.frame_is }
]

-- nothing is due
pub idle : (t : Table) (s : State) → due t s ≡ false → Idle (tab t) (view s)
idle t s e = record {
  timers = λ j h x. not_both (due t s) (is_due t s (a_timer j (head_in_lem h) x)) e;
  frame = λ h w x. not_both (due t s) (is_due t s (a_delivery h w x)) e;
}

-- ---- a step

module _ (t : Table) (F : TableMeets t) (s : State) (G : StateMeets t s) where
  -- a step of head i that leaves the clock and puts h in i's place
  record Placed (u : State) (i : ℕ) (h : Head) : Type 0 where
    is : IsHead t i
    clock_is : u.clock ≡ s.clock
    heads_is : u.heads ≡ put s.heads i h

  -- the head that is put
  there : (u : State) (i : ℕ) (h : Head) → Placed u i h → head_of u.heads i ≡ h
  there u i h m = let k = m.is in let l = F.heads in let p = G.places in ap (λ hs. head_of hs i) m.heads_is ∙ put_same s.heads i h k.low (omega arith)

  -- and all that the other heads see
  alone : (u : State) (i : ℕ) (h : Head) → Placed u i h → Alone (tab t) (view s) (view u) i
  alone u i h m = record { is = in_head m.is; clock_is = m.clock_is; rest = λ j n. still s u j (ap (λ hs. head_of hs j) m.heads_is ∙ put_other s.heads i j h n) }

  -- ---- timers

  -- the state after the timer of head i, by the phase of i
  abbrev timed : ℕ → Phase → State
  timed i p = record {
    clock = s.clock;
    n = s.n;
    calendar = sends t s.clock (timer_frame t i p) i s.calendar;
    heads = put s.heads i (timer_head t s.clock i p);
  }

  module _ (i : ℕ) (k : IsHead t i) (now : timeout_of s i ≡ s.clock) where
    -- what every timer does to the head places
    placed : (p : Phase) (h : Head) → timer_head t s.clock i p ≡ h → Placed (timed i p) i h
    placed p h e = record { is = k; clock_is = refl; heads_is = ap (put s.heads i) e }

    -- init
    wakes : phase_of s i ≡ Init → Move (tab t) (view s) (view (timed i Init))
    unfolding timer_head timer_frame
    wakes e = listens i (alone (timed i Init) i h m) (λ j x. rw x w) (same_calendar s (timed i Init) (sends_none t s.clock i s.calendar))
      where
        h : Head
        h = head_in Listen (s.clock + listen_wait t i)

        m : Placed (timed i Init) i h
        m = placed Init h refl

        w : Listens (tab t) (view s) (view (timed i Init)) i
        w = let q = there (timed i Init) i h m in let d = ap (λ (x : Head). x.timeout) q in
            record { was = ap phase_number e; due = now; phase_is = ap (λ (x : Head). phase_number x.phase) q; timeout_is = omega (arith, listen_is t i) }

    -- listen or coldstart: both do the same
    starts : (p : Phase) → phase_of s i ≡ p → 1 ≤ phase_number p → phase_number p ≤ 2 → timer_frame t i p ≡ coldstart_frame
        → timer_head t s.clock i p ≡ head_in Coldstart (s.clock + coldstart_wait t i) → Move (tab t) (view s) (view (timed i p))
    starts p e low high f g = coldstarts i (alone (timed i p) i _ m) (λ j x. rw x w)
        (sent t s (timed i p) i coldstart_frame (ap (λ x. sends t s.clock x i s.calendar) f ∙ sends_some t s.clock coldstart_frame i s.calendar (omega arith)))
      where
        m : Placed (timed i p) i (head_in Coldstart (s.clock + coldstart_wait t i))
        m = placed p _ g

        w : Coldstarts (tab t) (view s) (view (timed i p)) i
        w = let q = there (timed i p) i _ m in let a = ap phase_number e in let d = ap (λ (x : Head). x.timeout) q in
            record { was_low = omega arith; was_high = omega arith; due = now; phase_is = ap (λ (x : Head). phase_number x.phase) q; timeout_is = omega (arith, coldstart_is t i) }

    -- the slot of an active head is a slot
    slot_high : (c : ℕ) → phase_of s i ≡ Active c → c ≤ t.n
    unfolding PhaseMeets
    slot_high c e = let m : PhaseMeets t s.clock i (timeout_of s i) (Active c) = subst (PhaseMeets t s.clock i (timeout_of s i)) e (G.phases i k) in m.1.high

    -- active: the new slot is its own, or not
    goes_round : (c : ℕ) → phase_of s i ≡ Active c → Move (tab t) (view s) (view (timed i (Active c)))
    unfolding timer_head timer_frame
    goes_round c e = elim (same_or_not (slot_after t c) i) [
      | inl y ↦ speaks i (alone u i h m) (λ j x. rw x w) (λ j x. rw x (slot ∙ y))
          (sent t s u i i_frame (ap (λ x. sends t s.clock x i s.calendar) (ap (λ b. cond b i_frame 0) (eq-eqb _ _ y)) ∙ sends_some t s.clock i_frame i s.calendar (omega arith)))
      | inr y ↦ turns i (alone u i h m) (λ j x. rw x w) (λ j x. rw x (λ z. y (sym slot ∙ z)))
          (same_calendar s u (ap (λ x. sends t s.clock x i s.calendar) (ap (λ b. cond b i_frame 0) (ne_eqb _ _ y)) ∙ sends_none t s.clock i s.calendar))
    ]
      where
        u : State
        u = timed i (Active c)

        h : Head
        h = head_in (Active (slot_after t c)) (s.clock + t.s)

        m : Placed u i h
        m = placed (Active c) h refl

        slot : slot_number (phase_of u i) ≡ slot_after t c
        slot = ap (λ (x : Head). slot_number x.phase) (there u i h m)

        w : Turns (tab t) (view s) (view u) i
        w = let q = there u i h m in record {
          was = ap phase_number e;
          due = now;
          phase_is = ap (λ (x : Head). phase_number x.phase) q;
          slot_is = slot ∙ next_is t c (slot_high c e) ∙ ap (λ p. next_slot (tab t) (slot_number p)) (sym e);
          timeout_is = ap (λ (x : Head). x.timeout) q;
        }

    timers : (p : Phase) → phase_of s i ≡ p → Move (tab t) (view s) (view (timed i p))
    unfolding timer_head timer_frame
    timers Init e = wakes e
    timers Listen e = starts Listen e (omega arith) (omega arith) refl refl
    timers Coldstart e = starts Coldstart e (omega arith) (omega arith) refl refl
    timers (Active c) e = goes_round c e

  -- ---- hearings

  -- the state after head i hears, by the phase of i
  abbrev heard : ℕ → Phase → State
  heard i p = record {
    clock = s.clock;
    n = s.n;
    calendar = left s.calendar i;
    heads = put s.heads i (hear_head t s.clock i s.calendar (head_of s.heads i) p);
  }

  module _ (i : ℕ) (k : IsHead t i) (waits : Hears s.calendar i) (now : s.calendar.delivery ≡ s.clock) where
    -- what every hearing does to the calendar
    hearing : (p : Phase) → W.Hears (view s) (view (heard i p)) i
    hearing p = record { waits = λ j x. rw x waits; now = now; leaves = leaves s (heard i p) i refl }

    -- and to the head places
    hearer : (p : Phase) (h : Head) → hear_head t s.clock i s.calendar (head_of s.heads i) p ≡ h → Placed (heard i p) i h
    hearer p h e = record { is = k; clock_is = refl; heads_is = ap (put s.heads i) e }

    -- init or active
    passes : (p : Phase) → (1 ≤ phase_number (phase_of s i) → phase_number (phase_of s i) ≡ 3) → hear_head t s.clock i s.calendar (head_of s.heads i) p ≡ head_of s.heads i → Move (tab t) (view s) (view (heard i p))
    passes p z g = let m = hearer p _ g in ignores i (alone (heard i p) i _ m) (hearing p) (λ j x. rw x record { was = z; still = still s (heard i p) i (there (heard i p) i _ m) })

    -- listen, coldstart frame
    restarts : (p : Phase) → phase_of s i ≡ p → phase_number p ≡ 1 → s.calendar.kind ≡ coldstart_frame
        → hear_head t s.clock i s.calendar (head_of s.heads i) p ≡ head_in Coldstart (s.clock + listener_wait t i) → Move (tab t) (view s) (view (heard i p))
    restarts p e z c g = follows i (alone (heard i p) i _ m) (hearing p) (λ j x. rw x w)
      where
        m : Placed (heard i p) i (head_in Coldstart (s.clock + listener_wait t i))
        m = hearer p _ g

        w : Follows (tab t) (view s) (view (heard i p)) i
        w = let q = there (heard i p) i _ m in let d = ap (λ (x : Head). x.timeout) q in
            record { was = ap phase_number e ∙ z; coldstart = c; phase_is = ap (λ (x : Head). phase_number x.phase) q; timeout_is = omega (arith, listener_is t i) }

    -- listen with an i-frame, or coldstart
    enters : (p : Phase) → phase_of s i ≡ p → 1 ≤ phase_number p → phase_number p ≤ 2 → (phase_number p ≡ 1 → s.calendar.kind ≡ coldstart_frame → ⊥)
        → hear_head t s.clock i s.calendar (head_of s.heads i) p ≡ joined t s.clock s.calendar → Move (tab t) (view s) (view (heard i p))
    enters p e low high told g = joins i (alone (heard i p) i _ m) (hearing p) (λ j x. rw x w)
      where
        m : Placed (heard i p) i (joined t s.clock s.calendar)
        m = hearer p _ g

        w : Joins (tab t) (view s) (view (heard i p)) i
        w = let q = there (heard i p) i _ m in let a = ap phase_number e in let d = ap (λ (x : Head). x.timeout) q in let f = F.short in record {
          was_low = omega arith;
          was_high = omega arith;
          was_told = λ x. told (omega arith);
          phase_is = ap (λ (x : Head). phase_number x.phase) q;
          slot_is = ap (λ (x : Head). slot_number x.phase) q;
          timeout_is = omega arith;
        }

    hearings : (p : Phase) → phase_of s i ≡ p → Move (tab t) (view s) (view (heard i p))
    unfolding hear_head
    hearings Init e = passes Init (λ x. let z = ap phase_number e in absurd (omega arith)) refl
    hearings Listen e = elim (same_or_not s.calendar.kind coldstart_frame) [
      | inl y ↦ restarts Listen e refl y (ap (λ b. cond b (head_in Coldstart (s.clock + listener_wait t i)) (joined t s.clock s.calendar)) (eq-eqb _ _ y))
      | inr y ↦ enters Listen e (omega arith) (omega arith) (λ x. y) (ap (λ b. cond b (head_in Coldstart (s.clock + listener_wait t i)) (joined t s.clock s.calendar)) (ne_eqb _ _ y))
    ]
    hearings Coldstart e = enters Coldstart e (omega arith) (omega arith) (λ x. absurd (omega arith)) refl
    hearings (Active c) e = passes (Active c) (λ x. ap phase_number e) refl

  -- ---- advance

  advances : due t s ≡ false → Move (tab t) (view s) (view (advance t s))
  unfolding advance
  advances e = W.advance record {
    idle = idle t s e;
    up = let l = clock_next t s F G in let n = eqb-false (next_instant t s) s.clock (sym (due_is_now t s F G) ∙ e) in omega arith;
    timers = λ j k. next_timeout t s j (head_in_lem k);
    frame = λ h w. next_delivery t s (hearer_waits s.calendar h w);
    rest = λ j. still s (advance t s) j refl;
    calendar = same_calendar s (advance t s) refl;
  }

  -- the link: a step that is enabled is a move
  pub link : (x : Step) → Enabled t s x → Move (tab t) (view s) (view (moved t s x))
  unfolding Enabled moved timer hear
  link Advance e = advances (elim (either_or_not (due t s)) [ inl d ↦ absurd (e.0 (due_is t s d)) | inr d ↦ d ])
  link (Timer i) e = timers i e.0 e.1 (phase_of s i) refl
  link (Hear i) e = hearings i (G.few i e.0) e.0 e.1 (phase_of s i) refl
