-- The tests of a table and of a state say just what the conditions say.
use Rattle.std.proofs.Common.{◌≡◌, refl, sym, ap, ◌∙◌, Bool, true, false, cond, not, inl, inr, List, ℕ, zero, suc, ◌+◌, ◌*◌, ◌^◌, ◌≤◌, ◌<◌, arith, eqb, leb, length, eqb-true, ltb-true, leb-true, eq-eqb, ne_eqb, lt-ltb, le-leb, lt_of_le_ones}
use Rattle.std.proofs.Math.ListN.{get_or-eq_default}
use borrow.Author.Tests.{eqb-false, lt-leb, not-true}
use Rattle.std.proofs.Math.Pow.{le_ones}
use Rattle.hearers.specs.Set.{has, everyone}
use Rattle.hearers.proofs.Laws.{has_head, has_above, none_above, has_none}
use Rattle.rules.specs.declared.Phase.{Phase}
use Rattle.rules.specs.declared.Phase.TheVariants.{Init, Listen, Coldstart, Active}
use Rattle.rules.specs.declared.Head.{Head}
use Rattle.rules.specs.declared.Calendar.{Calendar}
use Rattle.rules.specs.declared.State.{State}
use Rattle.rules.specs.declared.Table.{Table}
use Rattle.rules.specs.Limits.{max_heads, shortest_slot, longest_slot, latest_wake, ceiling}
use Rattle.rules.specs.Each.{between}
use Rattle.rules.specs.Table.{is_head, wake_of, numbers_fit, wake_fits, table_fits}
use Rattle.rules.specs.Calendar.{coldstart_frame, i_frame, quiet, hears, hear_due, empty_calendar, all_zero, frame_fits, calendar_fits}
use Rattle.rules.specs.State.{no_head, head_of, timeout_of, phase_number, phase_fits, head_fits, is_zero, place_fits, front_fits, state_fits}
use Rattle.rules.specs.Conditions.{IsHead, TableMeets, Hears, FrameMeets, PhaseMeets, StateMeets}
use Rattle.rules.proofs.Each.{same_or_not, less_or_not, and_true, both, between_is, is_between, every_at, every_of}

-- ---- a table

pub head_is : (t : Table) (i : ℕ) → is_head t i ≡ true → IsHead t i
unfolding is_head
head_is t i e = let r = between_is 1 t.n i e in record { low = r.0; high = r.1 }

pub is_head_lem : (t : Table) (i : ℕ) → IsHead t i → is_head t i ≡ true
unfolding is_head
is_head_lem t i h = is_between 1 t.n i h.low h.high

pub record NumbersMeet (n s p : ℕ) : Type 0 where
  pub some_head : 1 ≤ n
  pub heads : n ≤ max_heads
  pub slot_low : shortest_slot ≤ s
  pub slot_high : s ≤ longest_slot
  pub propagation : 1 ≤ p
  pub short : 2 * p < s

pub numbers_meet : (n s p : ℕ) → numbers_fit n s p ≡ true → NumbersMeet n s p
unfolding numbers_fit
numbers_meet n s p e =
    let a = and_true (between 1 max_heads n) _ e in
    let b = and_true (between shortest_slot longest_slot s) _ a.1 in
    let c = and_true (leb 1 p) _ b.1 in
    let h = between_is 1 max_heads n a.0 in
    let w = between_is shortest_slot longest_slot s b.0 in
    record { some_head = h.0; heads = h.1; slot_low = w.0; slot_high = w.1; propagation = leb-true 1 p c.0; short = ltb-true (2 * p) s c.1 }

pub meet_numbers : (n s p : ℕ) → NumbersMeet n s p → numbers_fit n s p ≡ true
unfolding numbers_fit
meet_numbers n s p m =
    both (is_between 1 max_heads n m.some_head m.heads)
    (both (is_between shortest_slot longest_slot s m.slot_low m.slot_high) (both (le-leb 1 p m.propagation) (lt-ltb (2 * p) s m.short)))

pub wake_used : (n i w : ℕ) → i ≤ n → wake_fits n i w ≡ between 1 latest_wake w
unfolding wake_fits
wake_used n i w h = rw (le-leb i n h)

pub wake_spare : (n i w : ℕ) → n < i → wake_fits n i w ≡ eqb w 0
unfolding wake_fits
wake_spare n i w h = rw (lt-leb i n h)

wake_beyond : (t : Table) (i : ℕ) → length t.wakes ≡ max_heads → max_heads < i → wake_of t i ≡ 0
unfolding wake_of
wake_beyond t zero l h = refl
wake_beyond t (suc k) l h = get_or-eq_default t.wakes 0 (omega arith)

pub table_meets : (t : Table) → table_fits t ≡ true → TableMeets t
unfolding table_fits
table_meets t e =
    let r = and_true (eqb (length t.wakes) max_heads) _ e in
    let q = and_true (numbers_fit t.n t.s t.p) _ r.1 in
    let m = numbers_meet t.n t.s t.p q.0 in
    let wake : (i : ℕ) → 1 ≤ i → i ≤ max_heads → wake_fits t.n i (wake_of t i) ≡ true = every_at max_heads (λ i. wake_fits t.n i (wake_of t i)) q.1 in
    let used : (i : ℕ) → IsHead t i → (1 ≤ wake_of t i) × (wake_of t i ≤ latest_wake) =
    λ i h. between_is 1 latest_wake (wake_of t i) (sym (wake_used t.n i (wake_of t i) h.high) ∙ wake i h.low (let l = h.high in omega arith)) in
    record {
      places = eqb-true (length t.wakes) max_heads r.0;
      some_head = m.some_head;
      heads = m.heads;
      slot_low = m.slot_low;
      slot_high = m.slot_high;
      propagation = m.propagation;
      short = m.short;
      wake_low = λ i h. (used i h).0;
      wake_high = λ i h. (used i h).1;
      spare = λ i h. elim (less_or_not max_heads i) [
        | inl x ↦ wake_beyond t i (eqb-true (length t.wakes) max_heads r.0) x
        | inr x ↦ eqb-true (wake_of t i) 0 (sym (wake_spare t.n i (wake_of t i) h) ∙ wake i (omega arith) x)
      ];
    }

meets_wake : (t : Table) → TableMeets t → (i : ℕ) → 1 ≤ i → wake_fits t.n i (wake_of t i) ≡ true
meets_wake t m i a = elim (less_or_not t.n i) [
  | inl h ↦ wake_spare t.n i (wake_of t i) h ∙ eq-eqb _ _ (m.spare i h)
  | inr h ↦ let k : IsHead t i = record { low = a; high = h } in wake_used t.n i (wake_of t i) h ∙ is_between 1 latest_wake (wake_of t i) (m.wake_low i k) (m.wake_high i k)
]

pub meets_table : (t : Table) → TableMeets t → table_fits t ≡ true
unfolding table_fits
meets_table t m =
    both (eq-eqb _ _ m.places)
    (both (meet_numbers t.n t.s t.p record { some_head = m.some_head; heads = m.heads; slot_low = m.slot_low; slot_high = m.slot_high; propagation = m.propagation; short = m.short })
    (every_of max_heads (λ i. wake_fits t.n i (wake_of t i)) (λ i a b. meets_wake t m i a)))

-- ---- a calendar

pub hears_is : (c : Calendar) (i : ℕ) → hears c i ≡ true → Hears c i
unfolding hears
hears_is c i e = eqb-true (has c.hearers i) 1 e

pub is_hears : (c : Calendar) (i : ℕ) → Hears c i → hears c i ≡ true
unfolding hears
is_hears c i e = eq-eqb _ _ e

pub hears_not : (c : Calendar) (i : ℕ) → hears c i ≡ false → Hears c i → ⊥
unfolding hears
hears_not c i e = eqb-false (has c.hearers i) 1 e

pub not_hears : (c : Calendar) (i : ℕ) → (Hears c i → ⊥) → hears c i ≡ false
unfolding hears
not_hears c i e = ne_eqb _ _ e

pub hear_due_is : (clock : ℕ) (c : Calendar) (i : ℕ) → hear_due clock c i ≡ true → Hears c i × (c.delivery ≡ clock)
unfolding hear_due
hear_due_is clock c i e = let r = and_true (hears c i) _ e in (hears_is c i r.0, eqb-true _ _ r.1)

pub is_hear_due : (clock : ℕ) (c : Calendar) (i : ℕ) → Hears c i → c.delivery ≡ clock → hear_due clock c i ≡ true
unfolding hear_due
is_hear_due clock c i h e = both (is_hears c i h) (eq-eqb _ _ e)

pub quiet_is : (c : Calendar) → quiet c ≡ true → c.hearers ≡ 0
unfolding quiet
quiet_is c e = eqb-true c.hearers 0 e

pub quiet_not : (c : Calendar) → quiet c ≡ false → c.hearers ≡ 0 → ⊥
unfolding quiet
quiet_not c e = eqb-false c.hearers 0 e

pub is_quiet : (c : Calendar) → c.hearers ≡ 0 → quiet c ≡ true
unfolding quiet
is_quiet c e = eq-eqb _ _ e

pub not_quiet : (c : Calendar) → (c.hearers ≡ 0 → ⊥) → quiet c ≡ false
unfolding quiet
not_quiet c e = ne_eqb _ _ e

-- what the calendar's test says: the fields are zero, or hold a frame of the table's
pub record CalendarMeets (t : Table) (clock : ℕ) (c : Calendar) : Type 0 where
  pub empty : c.hearers ≡ 0 → c ≡ empty_calendar
  pub few : (i : ℕ) → Hears c i → IsHead t i
  pub frame : (c.hearers ≡ 0 → ⊥) → FrameMeets t clock c

hears_few : (t : Table) (c : Calendar) → c.hearers < 2 ^ t.n → (i : ℕ) → Hears c i → IsHead t i
hears_few t c l i e = elim (less_or_not t.n i) [
  | inl h ↦ let z = has_above c.hearers t.n i l h in absurd (omega arith)
  | inr h ↦ record { low = has_head c.hearers i e; high = h }
]

pub record ZeroFields (c : Calendar) : Type 0 where
  pub kind : c.kind ≡ 0
  pub origin : c.origin ≡ 0
  pub sent : c.sent ≡ 0
  pub delivery : c.delivery ≡ 0

pub zero_fields : (c : Calendar) → all_zero c ≡ true → ZeroFields c
unfolding all_zero
zero_fields c e =
    let k = and_true (eqb c.kind 0) _ e in
    let o = and_true (eqb c.origin 0) _ k.1 in
    let s = and_true (eqb c.sent 0) (eqb c.delivery 0) o.1 in
    record { kind = eqb-true _ _ k.0; origin = eqb-true _ _ o.0; sent = eqb-true _ _ s.0; delivery = eqb-true _ _ s.1 }

zero_calendar : (c : Calendar) → c.hearers ≡ 0 → all_zero c ≡ true → c ≡ empty_calendar
zero_calendar c h e = let z = zero_fields c e in λ i. record { hearers = h i; kind = z.kind i; origin = z.origin i; sent = z.sent i; delivery = z.delivery i }

-- where there is a hearer, somebody waits
pub hearer_waits : (c : Calendar) (i : ℕ) → Hears c i → c.hearers ≡ 0 → ⊥
hearer_waits c i h e = let z = sym h ∙ ap (λ (x : ℕ). has x i) e ∙ has_none i in omega arith

-- the same rules of a frame as plain comparisons, as the code tests them
pub record FrameNumbers (t : Table) (clock : ℕ) (c : Calendar) : Type 0 where
  pub hearers : c.hearers ≤ everyone t.n
  pub kind_low : coldstart_frame ≤ c.kind
  pub kind_high : c.kind ≤ i_frame
  pub origin_low : 1 ≤ c.origin
  pub origin_high : c.origin ≤ t.n
  pub deaf : has c.hearers c.origin ≡ 1 → ⊥
  pub flight : c.delivery ≡ c.sent + t.p
  pub sent : c.sent ≤ clock
  pub ahead : clock ≤ c.delivery

pub frame_numbers : (t : Table) (clock : ℕ) (c : Calendar) → frame_fits t clock c ≡ true → FrameNumbers t clock c
unfolding frame_fits
frame_numbers t clock c e =
    let h = and_true (leb c.hearers (everyone t.n)) _ e in
    let k = and_true (between coldstart_frame i_frame c.kind) _ h.1 in
    let o = and_true (is_head t c.origin) _ k.1 in
    let d = and_true (not (hears c c.origin)) _ o.1 in
    let f = and_true (eqb c.delivery (c.sent + t.p)) _ d.1 in
    let s = and_true (leb c.sent clock) (leb clock c.delivery) f.1 in
    let kind = between_is coldstart_frame i_frame c.kind k.0 in
    let origin = head_is t c.origin o.0 in
    record {
      hearers = leb-true c.hearers (everyone t.n) h.0;
      kind_low = kind.0;
      kind_high = kind.1;
      origin_low = origin.low;
      origin_high = origin.high;
      deaf = hears_not c c.origin (not-true (hears c c.origin) d.0);
      flight = eqb-true c.delivery (c.sent + t.p) f.0;
      sent = leb-true c.sent clock s.0;
      ahead = leb-true clock c.delivery s.1;
    }

pub numbers_frame : (t : Table) (clock : ℕ) (c : Calendar) → FrameNumbers t clock c → frame_fits t clock c ≡ true
unfolding frame_fits
numbers_frame t clock c f =
    both (le-leb _ _ f.hearers)
    (both (is_between coldstart_frame i_frame c.kind f.kind_low f.kind_high)
    (both (is_head_lem t c.origin record { low = f.origin_low; high = f.origin_high })
    (both (ap not (not_hears c c.origin f.deaf))
    (both (eq-eqb _ _ f.flight) (both (le-leb _ _ f.sent) (le-leb _ _ f.ahead))))))

frame_meets : (t : Table) (clock : ℕ) (c : Calendar) → FrameNumbers t clock c → FrameMeets t clock c
frame_meets t clock c f = record {
  kind = elim (same_or_not c.kind coldstart_frame) [ inl e ↦ inl e | inr e ↦ inr (let l = f.kind_low in let h = f.kind_high in omega arith) ];
  origin = record { low = f.origin_low; high = f.origin_high };
  deaf = f.deaf;
  flight = f.flight;
  sent = f.sent;
  ahead = f.ahead;
}

meets_frame : (t : Table) (clock : ℕ) (c : Calendar) → ((i : ℕ) → Hears c i → IsHead t i) → FrameMeets t clock c → FrameNumbers t clock c
meets_frame t clock c g f = record {
  hearers = le_ones t.n (none_above t.n c.hearers (λ i h. (g i h).high));
  kind_low = elim f.kind [ inl e ↦ omega arith | inr e ↦ omega arith ];
  kind_high = elim f.kind [ inl e ↦ omega arith | inr e ↦ omega arith ];
  origin_low = f.origin.low;
  origin_high = f.origin.high;
  deaf = f.deaf;
  flight = f.flight;
  sent = f.sent;
  ahead = f.ahead;
}

pub calendar_meets : (t : Table) (clock : ℕ) (c : Calendar) → calendar_fits t clock c ≡ true → CalendarMeets t clock c
unfolding calendar_fits
calendar_meets t clock c e = go (quiet c) refl e
  where
    go : (b : Bool) → quiet c ≡ b → cond b (all_zero c) (frame_fits t clock c) ≡ true → CalendarMeets t clock c
    go true q f = record { empty = λ h. zero_calendar c h f; few = λ i h. absurd (hearer_waits c i h (quiet_is c q)); frame = λ n. absurd (n (quiet_is c q)) }
    go false q f =
        let r = frame_numbers t clock c f in
        record { empty = λ h. absurd (quiet_not c q h); few = hears_few t c (lt_of_le_ones t.n r.hearers); frame = λ n. frame_meets t clock c r }

pub meets_calendar : (t : Table) (clock : ℕ) (c : Calendar) → CalendarMeets t clock c → calendar_fits t clock c ≡ true
unfolding calendar_fits all_zero
meets_calendar t clock c m = go (quiet c) refl
  where
    go : (b : Bool) → quiet c ≡ b → cond b (all_zero c) (frame_fits t clock c) ≡ true
    go true q = ap all_zero (m.empty (quiet_is c q))
    go false q = numbers_frame t clock c (meets_frame t clock c m.few (m.frame (quiet_not c q)))

-- ---- a head

pub phase_meets : (t : Table) (clock i e : ℕ) (p : Phase) → phase_fits t clock i e p ≡ true → PhaseMeets t clock i e p
unfolding phase_fits PhaseMeets
phase_meets t clock i e Init q = eqb-true _ _ q
phase_meets t clock i e Listen q = leb-true _ _ q
phase_meets t clock i e Coldstart q = leb-true _ _ q
phase_meets t clock i e (Active k) q = let r = and_true (leb e (clock + t.s)) (is_head t k) q in (leb-true _ _ r.0, head_is t k r.1)

pub meets_phase : (t : Table) (clock i e : ℕ) (p : Phase) → PhaseMeets t clock i e p → phase_fits t clock i e p ≡ true
unfolding phase_fits PhaseMeets
meets_phase t clock i e Init q = eq-eqb _ _ q
meets_phase t clock i e Listen q = le-leb _ _ q
meets_phase t clock i e Coldstart q = le-leb _ _ q
meets_phase t clock i e (Active k) q = both (le-leb _ _ q.0) (is_head_lem t k q.1)

pub zero_head : (h : Head) → is_zero h ≡ true → h ≡ no_head
unfolding is_zero
zero_head h e =
    let r = and_true (eqb (phase_number h.phase) 0) (eqb h.timeout 0) e in
    λ i. record { phase = init h.phase (eqb-true _ _ r.0) i; timeout = eqb-true h.timeout 0 r.1 i }
  where
    init : (p : Phase) → phase_number p ≡ 0 → p ≡ Init
    init Init q = refl
    init Listen q = absurd (omega arith)
    init Coldstart q = absurd (omega arith)
    init (Active k) q = absurd (omega arith)

pub place_used : (t : Table) (clock i : ℕ) (h : Head) → i ≤ t.n → place_fits t clock i h ≡ head_fits t clock i h
unfolding place_fits
place_used t clock i h l = rw (le-leb i t.n l)

pub place_spare : (t : Table) (clock i : ℕ) (h : Head) → t.n < i → place_fits t clock i h ≡ is_zero h
unfolding place_fits
place_spare t clock i h l = rw (lt-leb i t.n l)

head_beyond : (hs : List Head) (i : ℕ) → length hs ≡ max_heads → max_heads < i → head_of hs i ≡ no_head
unfolding head_of
head_beyond hs zero l h = refl
head_beyond hs (suc k) l h = get_or-eq_default hs no_head (omega arith)

-- ---- a state

pub state_meets : (t : Table) (s : State) → t.n ≤ max_heads → state_fits t s ≡ true → StateMeets t s
unfolding state_fits front_fits head_fits
state_meets t s n e =
    let l = and_true (eqb (length s.heads) max_heads) _ e in
    let p : length s.heads ≡ max_heads = eqb-true _ _ l.0 in
    let a = and_true (front_fits t s) _ l.1 in
    let f = and_true (leb s.clock ceiling) _ a.0 in
    let g = and_true (eqb s.n t.n) _ f.1 in
    let c = calendar_meets t s.clock s.calendar g.1 in
    let place : (i : ℕ) → 1 ≤ i → i ≤ max_heads → place_fits t s.clock i (head_of s.heads i) ≡ true = every_at max_heads (λ i. place_fits t s.clock i (head_of s.heads i)) a.1 in
    let used : (i : ℕ) → IsHead t i → head_fits t s.clock i (head_of s.heads i) ≡ true =
    λ i h. sym (place_used t s.clock i (head_of s.heads i) h.high) ∙ place i h.low (let k = h.high in omega arith) in
    record {
      places = p;
      clock = leb-true _ _ f.0;
      count = eqb-true _ _ g.0;
      empty = c.empty;
      few = c.few;
      frame = c.frame;
      ahead = λ i h. leb-true s.clock (timeout_of s i) (and_true (leb s.clock (timeout_of s i)) _ (used i h)).0;
      phases = λ i h. phase_meets t s.clock i (timeout_of s i) _ (and_true (leb s.clock (timeout_of s i)) _ (used i h)).1;
      spare = λ i h. elim (less_or_not max_heads i) [
        | inl x ↦ head_beyond s.heads i p x
        | inr x ↦ zero_head (head_of s.heads i) (sym (place_spare t s.clock i (head_of s.heads i) h) ∙ place i (omega arith) x)
      ];
    }

meets_place : (t : Table) (s : State) → StateMeets t s → (i : ℕ) → 1 ≤ i → place_fits t s.clock i (head_of s.heads i) ≡ true
unfolding head_fits is_zero
meets_place t s m i a = elim (less_or_not t.n i) [
  | inl h ↦ place_spare t s.clock i (head_of s.heads i) h ∙ ap is_zero (m.spare i h)
  | inr h ↦ let k : IsHead t i = record { low = a; high = h } in place_used t s.clock i (head_of s.heads i) h ∙ both (le-leb _ _ (m.ahead i k)) (meets_phase t s.clock i (timeout_of s i) _ (m.phases i k))
]

pub meets_state : (t : Table) (s : State) → StateMeets t s → state_fits t s ≡ true
unfolding state_fits front_fits
meets_state t s m =
    both (eq-eqb _ _ m.places)
    (both (both (le-leb _ _ m.clock) (both (eq-eqb _ _ m.count) (meets_calendar t s.clock s.calendar record { empty = m.empty; few = m.few; frame = m.frame })))
    (every_of max_heads (λ i. place_fits t s.clock i (head_of s.heads i)) (λ i a b. meets_place t s m i a)))
