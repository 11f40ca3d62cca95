-- What the parts of a step do, head by head: head places, calendars, and the instants that the clock may come to.
-- The theorems about steps, here and in other crates, cite these laws.
use Rattle.std.proofs.Common.{◌≡◌, refl, sym, ap, subst, ◌∙◌, true, false, not, ◌&&◌, List, ◌⊎◌, inl, inr, ℕ, zero, suc, ◌+◌, ◌≤◌, arith, eqb, pow_pos, length, length-set, get_or-set_same, get_or-set_other, eqb-true, eq-eqb, ne_eqb}
use Rattle.std.proofs.Math.ListN.{get_or-map}
use borrow.Author.Tests.{eqb-false, not-true}
use Rattle.hearers.specs.Set.{has, without, everyone, all_but}
use Rattle.hearers.proofs.Laws.{has_head, has_above, has_some, without_same, without_other, without_le, everyone_in}
use Rattle.rules.specs.declared.Phase.TheVariants.{Init}
use Rattle.rules.specs.declared.Head.{Head}
use Rattle.rules.specs.declared.Calendar.{Calendar}
use Rattle.rules.specs.declared.State.{State}
use Rattle.rules.specs.declared.Table.{Table}
use Rattle.rules.specs.Each.{some}
use Rattle.rules.specs.Table.{wake_of}
use Rattle.rules.specs.Calendar.{coldstart_frame, i_frame, quiet, empty_calendar, settled, left, taken, send, delivery_due}
use Rattle.rules.specs.State.{no_head, head_in, head_of, put, timeout_of, fresh}
use Rattle.rules.specs.Step.{timer_due, due, least_timeout, next_instant, sends}
use Rattle.rules.specs.Conditions.{IsHead, TableMeets, Hears, FrameMeets, StateMeets, Due, a_timer, a_delivery, Instant, at_timeout, at_delivery, Least}
use Rattle.rules.proofs.Each.{same_or_not, less_or_not, and_true, both, either_or_not, not_both, or_false, some_at, some_is}
use Rattle.rules.proofs.Meaning.{quiet_is, quiet_not, is_quiet, not_quiet, hearer_waits, CalendarMeets}

-- ---- head places

-- the place that is put, and the others
pub put_same : (hs : List Head) (i : ℕ) (h : Head) → 1 ≤ i → i ≤ length hs → head_of (put hs i h) i ≡ h
unfolding head_of put
put_same hs zero h a b = absurd (omega arith)
put_same hs (suc k) h a b = get_or-set_same hs k h no_head (omega arith)

pub put_other : (hs : List Head) (i j : ℕ) (h : Head) → (j ≡ i → ⊥) → head_of (put hs i h) j ≡ head_of hs j
unfolding head_of put
put_other hs zero j h n = refl
put_other hs (suc i) zero h n = refl
put_other hs (suc i) (suc j) h n = get_or-set_other hs i j h no_head (λ e. n (ap suc e))

pub put_length : (hs : List Head) (i : ℕ) (h : Head) → length (put hs i h) ≡ length hs
unfolding put
put_length hs zero h = refl
put_length hs (suc k) h = length-set hs k h

-- every place of the fresh state is a head in init, with its wake for timeout
pub fresh_head : (t : Table) (i : ℕ) → head_of (fresh t).heads i ≡ head_in Init (wake_of t i)
unfolding fresh head_of wake_of
fresh_head t zero = refl
fresh_head t (suc k) = get_or-map (head_in Init) t.wakes k 0

-- ---- calendars

-- where somebody waits, there is a hearer
pub somebody_hears : (c : Calendar) → (c.hearers ≡ 0 → ⊥) → (i : ℕ) × Hears c i
somebody_hears c n = has_some c.hearers n

-- settling keeps the hearers; what is settled is a frame that waits, or empty
pub settled_hearers : (c : Calendar) → (settled c).hearers ≡ c.hearers
unfolding settled
settled_hearers c = elim (either_or_not (quiet c)) [ inl q ↦ rw q (sym (quiet_is c q)) | inr q ↦ rw q ]

pub settled_empty : (c : Calendar) → (settled c).hearers ≡ 0 → settled c ≡ empty_calendar
unfolding settled
settled_empty c e = rw (is_quiet c (sym (settled_hearers c) ∙ e))

pub settled_frame : (c : Calendar) → ((settled c).hearers ≡ 0 → ⊥) → settled c ≡ c
unfolding settled
settled_frame c n = rw (not_quiet c (λ e. n (settled_hearers c ∙ e)))

-- the frame of c, with h for its hearers
abbrev pub heard_by : Calendar → ℕ → Calendar
heard_by c h = record { hearers = h; kind = c.kind; origin = c.origin; sent = c.sent; delivery = c.delivery }

-- head i leaves: it hears no more, the others wait as before, and while somebody waits the frame stays
pub left_hearers : (c : Calendar) (i : ℕ) → (left c i).hearers ≡ without c.hearers i
unfolding left
left_hearers c i = settled_hearers (heard_by c (without c.hearers i))

pub left_same : (c : Calendar) (i : ℕ) → has (left c i).hearers i ≡ 0
left_same c i = ap (λ (x : ℕ). has x i) (left_hearers c i) ∙ without_same c.hearers i

pub left_other : (c : Calendar) (i j : ℕ) → (j ≡ i → ⊥) → has (left c i).hearers j ≡ has c.hearers j
left_other c i j n = ap (λ (x : ℕ). has x j) (left_hearers c i) ∙ without_other c.hearers i j n

pub left_empty : (c : Calendar) (i : ℕ) → (left c i).hearers ≡ 0 → left c i ≡ empty_calendar
unfolding left
left_empty c i e = settled_empty (heard_by c (without c.hearers i)) e

pub left_frame : (c : Calendar) (i : ℕ) → ((left c i).hearers ≡ 0 → ⊥) → left c i ≡ heard_by c (without c.hearers i)
unfolding left
left_frame c i n = settled_frame (heard_by c (without c.hearers i)) n

-- the frame that head i sends
abbrev pub sent_by : Table → ℕ → ℕ → ℕ → Calendar
sent_by t clock k i = record { hearers = all_but t.n i; kind = k; origin = i; sent = clock; delivery = clock + t.p }

-- a frame is taken: its sender does not hear it, all other heads do, and nobody else
pub taken_hearers : (t : Table) (clock k i : ℕ) → (taken t clock k i).hearers ≡ all_but t.n i
unfolding taken
taken_hearers t clock k i = settled_hearers (sent_by t clock k i)

pub taken_same : (t : Table) (clock k i : ℕ) → has (taken t clock k i).hearers i ≡ 0
unfolding all_but
taken_same t clock k i = ap (λ (x : ℕ). has x i) (taken_hearers t clock k i) ∙ without_same (everyone t.n) i

pub taken_other : (t : Table) (clock k i j : ℕ) → IsHead t j → (j ≡ i → ⊥) → has (taken t clock k i).hearers j ≡ 1
unfolding all_but
taken_other t clock k i j h n = ap (λ (x : ℕ). has x j) (taken_hearers t clock k i) ∙ without_other (everyone t.n) i j n ∙ everyone_in t.n j h.low h.high

-- who waits after head i is taken out has waited before
without_hears : (h i j : ℕ) → has (without h i) j ≡ 1 → has h j ≡ 1
without_hears h i j e = elim (same_or_not j i) [
  | inl x ↦ let z = without_same h i in let y = ap (λ (k : ℕ). has (without h i) k) x in absurd (omega arith)
  | inr x ↦ sym (without_other h i j x) ∙ e
]

-- who is among all heads but i is a head
all_but_few : (t : Table) (i j : ℕ) → has (all_but t.n i) j ≡ 1 → IsHead t j
unfolding all_but
all_but_few t i j e = let y = without_hears (everyone t.n) i j e in elim (less_or_not t.n j) [
  | inl l ↦ let z = has_above (everyone t.n) t.n j (let q = pow_pos t.n in omega arith) l in absurd (omega arith)
  | inr l ↦ record { low = has_head _ j e; high = l }
]

pub taken_few : (t : Table) (clock k i j : ℕ) → Hears (taken t clock k i) j → IsHead t j
taken_few t clock k i j e = all_but_few t i j (ap (λ (x : ℕ). has x j) (sym (taken_hearers t clock k i)) ∙ e)

pub taken_empty : (t : Table) (clock k i : ℕ) → (taken t clock k i).hearers ≡ 0 → taken t clock k i ≡ empty_calendar
unfolding taken
taken_empty t clock k i e = settled_empty (sent_by t clock k i) e

pub taken_frame : (t : Table) (clock k i : ℕ) → ((taken t clock k i).hearers ≡ 0 → ⊥) → taken t clock k i ≡ sent_by t clock k i
unfolding taken
taken_frame t clock k i n = settled_frame (sent_by t clock k i) n

-- "with N = 1 the calendar stays empty", and otherwise somebody waits
pub taken_lone : (t : Table) (clock k i : ℕ) → t.n ≡ 1 → IsHead t i → taken t clock k i ≡ empty_calendar
taken_lone t clock k i e h = elim (same_or_not (taken t clock k i).hearers 0) [
  | inl z ↦ taken_empty t clock k i z
  | inr z ↦ let r = somebody_hears (taken t clock k i) z in let q = taken_few t clock k i r.0 r.1 in let j : r.0 ≡ i = omega arith in
      absurd (let x = taken_same t clock k i in let y : has (taken t clock k i).hearers i ≡ 1 = rw j at r.1 in omega arith)
]

pub taken_waits : (t : Table) (clock k i : ℕ) → 2 ≤ t.n → (taken t clock k i).hearers ≡ 0 → ⊥
taken_waits t clock k i l z = elim (same_or_not i 1) [
  | inl e ↦ hearer_waits (taken t clock k i) 2 (taken_other t clock k i 2 record { low = omega arith; high = l } (omega arith)) z
  | inr n ↦ hearer_waits (taken t clock k i) 1 (taken_other t clock k i 1 record { low = omega arith; high = omega arith } (omega arith)) z
]

-- a send is taken where nobody waits, and otherwise only takes its sender out of the hearers
pub send_quiet : (t : Table) (clock k i : ℕ) (c : Calendar) → c.hearers ≡ 0 → send t clock k i c ≡ taken t clock k i
unfolding send
send_quiet t clock k i c e = rw (is_quiet c e)

pub send_waiting : (t : Table) (clock k i : ℕ) (c : Calendar) → (c.hearers ≡ 0 → ⊥) → send t clock k i c ≡ left c i
unfolding send
send_waiting t clock k i c n = rw (not_quiet c n)

-- its sender hears nothing after it
pub send_same : (t : Table) (clock k i : ℕ) (c : Calendar) → has (send t clock k i c).hearers i ≡ 0
send_same t clock k i c = elim (same_or_not c.hearers 0) [ inl e ↦ rw (send_quiet t clock k i c e) (taken_same t clock k i) | inr n ↦ rw (send_waiting t clock k i c n) (left_same c i) ]

-- a frame of kind 0 is none
pub sends_none : (t : Table) (clock i : ℕ) (c : Calendar) → sends t clock 0 i c ≡ c
unfolding sends
sends_none t clock i c = refl

pub sends_some : (t : Table) (clock k i : ℕ) (c : Calendar) → 1 ≤ k → sends t clock k i c ≡ send t clock k i c
unfolding sends
sends_some t clock k i c l = rw (ne_eqb k 0 (omega arith))

-- ---- calendars that meet the rules

-- the empty calendar does
pub empty_meets : (t : Table) (clock : ℕ) → CalendarMeets t clock empty_calendar
empty_meets t clock = record { empty = λ e. refl; few = λ i h. absurd (hearer_waits empty_calendar i h refl); frame = λ n. absurd (n refl) }

-- a settled calendar meets the rules where its hearers are heads and its frame, if it waits, is of the table's
settled_meets : (t : Table) (clock : ℕ) (c : Calendar) → ((i : ℕ) → Hears c i → IsHead t i) → ((c.hearers ≡ 0 → ⊥) → FrameMeets t clock c) → CalendarMeets t clock (settled c)
settled_meets t clock c few frame = elim (same_or_not c.hearers 0) [
  | inl e ↦ subst (CalendarMeets t clock) (sym (settled_empty c (settled_hearers c ∙ e))) (empty_meets t clock)
  | inr n ↦ subst (CalendarMeets t clock) (sym (settled_frame c (λ e. n (sym (settled_hearers c) ∙ e)))) record { empty = λ e. absurd (n e); few = few; frame = frame }
]

-- and so it does after a head leaves, after a frame is taken, and after a send
pub left_meets : (t : Table) (clock i : ℕ) (c : Calendar) → CalendarMeets t clock c → CalendarMeets t clock (left c i)
unfolding left
left_meets t clock i c m = settled_meets t clock (heard_by c (without c.hearers i)) (λ j e. m.few j (without_hears c.hearers i j e)) frame
  where
    frame : (without c.hearers i ≡ 0 → ⊥) → FrameMeets t clock (heard_by c (without c.hearers i))
    frame n = let f = m.frame (λ e. n (let l = without_le c.hearers i in omega arith)) in record {
      kind = f.kind;
      origin = f.origin;
      deaf = λ e. f.deaf (without_hears c.hearers i c.origin e);
      flight = f.flight;
      sent = f.sent;
      ahead = f.ahead;
    }

pub taken_meets : (t : Table) (clock k i : ℕ) → (k ≡ coldstart_frame) ⊎ (k ≡ i_frame) → IsHead t i → CalendarMeets t clock (taken t clock k i)
unfolding taken all_but
taken_meets t clock k i kind h = settled_meets t clock (sent_by t clock k i) (all_but_few t i) (λ n. record {
  kind = kind;
  origin = h;
  deaf = λ e. let z = without_same (everyone t.n) i in omega arith;
  flight = refl;
  sent = omega arith;
  ahead = omega arith;
})

pub send_meets : (t : Table) (clock k i : ℕ) (c : Calendar) → (k ≡ coldstart_frame) ⊎ (k ≡ i_frame) → IsHead t i → CalendarMeets t clock c → CalendarMeets t clock (send t clock k i c)
send_meets t clock k i c kind h m = elim (same_or_not c.hearers 0) [
  | inl e ↦ subst (CalendarMeets t clock) (sym (send_quiet t clock k i c e)) (taken_meets t clock k i kind h)
  | inr n ↦ subst (CalendarMeets t clock) (sym (send_waiting t clock k i c n)) (left_meets t clock i c m)
]

pub sends_meets : (t : Table) (clock k i : ℕ) (c : Calendar) → k ≤ i_frame → IsHead t i → CalendarMeets t clock c → CalendarMeets t clock (sends t clock k i c)
sends_meets t clock zero i c l h m = subst (CalendarMeets t clock) (sym (sends_none t clock i c)) m
sends_meets t clock (suc k) i c l h m = subst (CalendarMeets t clock) (sym (sends_some t clock (suc k) i c (omega arith))) (send_meets t clock (suc k) i c kind h m)
  where
    kind : (suc k ≡ coldstart_frame) ⊎ (suc k ≡ i_frame)
    kind = elim (same_or_not k 0) [ inl e ↦ inl (omega arith) | inr n ↦ inr (omega arith) ]

-- ---- the instants that the clock may come to

-- the least timeout is at most each timeout, and one of them
pub least_at : (s : State) (n i : ℕ) → 1 ≤ i → i ≤ n → least_timeout s n ≤ timeout_of s i
unfolding least_timeout
least_at s zero i a b = absurd (omega arith)
least_at s (suc n) i a b = elim (same_or_not i (suc n)) [ inl x ↦ rw x (omega arith) | inr x ↦ let q = least_at s n i a (omega arith) in omega arith ]

pub least_is : (s : State) (n : ℕ) → 1 ≤ n → (i : ℕ) × ((1 ≤ i) × (i ≤ n) × (timeout_of s i ≡ least_timeout s n))
unfolding least_timeout
least_is s zero l = absurd (omega arith)
least_is s (suc zero) l = (1, (omega arith, omega arith, omega arith))
least_is s (suc (suc n)) l = elim (less_or_not (timeout_of s (suc (suc n))) (least_timeout s (suc n))) [
  | inl h ↦ (suc (suc n), (omega arith, omega arith, omega arith))
  | inr h ↦ let r = least_is s (suc n) (omega arith) in (r.0, (r.1.0, omega (arith, r.1.1), omega (arith, r.1.2)))
]

-- the next instant is an instant, and no other is before it
pub next_timeout : (t : Table) (s : State) (i : ℕ) → IsHead t i → next_instant t s ≤ timeout_of s i
unfolding next_instant
next_timeout t s i h = let l = least_at s t.n i h.low h.high in elim (either_or_not (quiet s.calendar)) [ inl q ↦ rw q l | inr q ↦ rw q (omega arith) ]

pub next_delivery : (t : Table) (s : State) → (s.calendar.hearers ≡ 0 → ⊥) → next_instant t s ≤ s.calendar.delivery
unfolding next_instant
next_delivery t s n = rw (not_quiet s.calendar n) (omega arith)

pub next_instant_lem : (t : Table) (s : State) → 1 ≤ t.n → Instant t s (next_instant t s)
unfolding next_instant
next_instant_lem t s l = elim (same_or_not s.calendar.hearers 0) [
  | inl e ↦ rw (is_quiet s.calendar e) timeout
  | inr n ↦ rw (not_quiet s.calendar n) (elim (less_or_not s.calendar.delivery (least_timeout s t.n)) [
    | inl h ↦ let r = somebody_hears s.calendar n in at_delivery r.0 r.1 (omega arith)
    | inr h ↦ subst (Instant t s) (omega arith) timeout
  ])
]
  where
    timeout : Instant t s (least_timeout s t.n)
    timeout = let r = least_is s t.n l in at_timeout r.0 record { low = r.1.0; high = r.1.1 } r.1.2

pub next_first : (t : Table) (s : State) (d : ℕ) → Instant t s d → next_instant t s ≤ d
next_first t s d (at_timeout i h e) = let l = next_timeout t s i h in omega arith
next_first t s d (at_delivery i h e) = let l = next_delivery t s (hearer_waits s.calendar i h) in omega arith

pub next_least : (t : Table) (s : State) → 1 ≤ t.n → Least t s (next_instant t s)
next_least t s l = record { instant = next_instant_lem t s l; first = next_first t s }

-- "Due" is an instant that is now
pub due_now : (t : Table) (s : State) → Due t s → Instant t s s.clock
due_now t s (a_timer i h e) = at_timeout i h e
due_now t s (a_delivery i h e) = at_delivery i h e

pub now_due : (t : Table) (s : State) → Instant t s s.clock → Due t s
now_due t s (at_timeout i h e) = a_timer i h e
now_due t s (at_delivery i h e) = a_delivery i h e

-- the test of "due" says just that
pub due_is : (t : Table) (s : State) → due t s ≡ true → Due t s
unfolding due timer_due delivery_due
due_is t s e = elim (either_or_not (some t.n (timer_due s))) [
  | inl x ↦ let r = some_is t.n (timer_due s) x in a_timer r.0 record { low = r.1.0; high = r.1.1 } (eqb-true _ _ r.1.2)
  | inr x ↦ let r = and_true (not (quiet s.calendar)) (eqb s.calendar.delivery s.clock) (rw x at e) in
      let w = somebody_hears s.calendar (quiet_not s.calendar (not-true (quiet s.calendar) r.0)) in a_delivery w.0 w.1 (eqb-true _ _ r.1)
]

pub is_due : (t : Table) (s : State) → Due t s → due t s ≡ true
unfolding due timer_due delivery_due
is_due t s d = elim (either_or_not (due t s)) [ inl x ↦ x | inr x ↦ let r = or_false (some t.n (timer_due s)) _ x in absurd (undue d r.0 r.1) ]
  where
    undue : Due t s → some t.n (timer_due s) ≡ false → (not (quiet s.calendar) && eqb s.calendar.delivery s.clock) ≡ false → ⊥
    undue (a_timer i h e) x y = eqb-false _ _ (some_at t.n (timer_due s) x i h.low h.high) e
    undue (a_delivery i h e) x y = let q = not_quiet s.calendar (hearer_waits s.calendar i h) in not_both _ (both (ap not q) (eq-eqb _ _ e)) y

-- ---- in a state that meets the rules

-- no instant is before the clock
pub clock_instant : (t : Table) (s : State) → StateMeets t s → (d : ℕ) → Instant t s d → s.clock ≤ d
clock_instant t s m d (at_timeout i h e) = let l = m.ahead i h in omega arith
clock_instant t s m d (at_delivery i h e) = let l = (m.frame (hearer_waits s.calendar i h)).ahead in omega arith

-- so the next one is not: the clock never goes back
pub clock_next : (t : Table) (s : State) → TableMeets t → StateMeets t s → s.clock ≤ next_instant t s
clock_next t s f m = clock_instant t s m (next_instant t s) (next_instant_lem t s f.some_head)

-- something is due just where the next instant is now: one search of the heads tells both
pub due_is_now : (t : Table) (s : State) → TableMeets t → StateMeets t s → due t s ≡ eqb (next_instant t s) s.clock
due_is_now t s f m = elim (either_or_not (due t s)) [
  | inl x ↦ let l = next_first t s s.clock (due_now t s (due_is t s x)) in let u = clock_next t s f m in x ∙ sym (eq-eqb (next_instant t s) s.clock (omega arith))
  | inr x ↦ x ∙ sym (ne_eqb (next_instant t s) s.clock (λ e. not_both (due t s) (is_due t s (now_due t s (subst (Instant t s) e (next_instant_lem t s f.some_head)))) x))
]
