-- A state and its image, against a table: a fitting state's image reads as that state, and whatever bytes read as a state are that state's image.
use Rattle.std.proofs.Common.{◌≡◌, refl, sym, ap, ap₂, ◌∙◌, Bool, true, ◌&&◌, inl, inr, List, [], ◌∷◌, ℕ, zero, suc, ◌+◌, ◌*◌, ◌^◌, ◌≤◌, ◌<◌, arith, eqb, leb, length, take, drop, eqb-true, leb-true, pow_mono}
use Rattle.hearers.proofs.Laws.{none_above}
use Rattle.words.specs.declared.Refusal.TheVariants.{StateLength, StateMark, StateRule}
use Rattle.words.specs.Refusal.{unless}
use Rattle.words.proofs.Order.{unless_is, is_unless, row_is}
use Rattle.rules.specs.declared.Phase.{Phase}
use Rattle.rules.specs.declared.Phase.TheVariants.{Init, Listen, Coldstart, Active}
use Rattle.rules.specs.declared.Head.{Head}
use Rattle.rules.specs.declared.State.{State}
use Rattle.rules.specs.declared.Table.{Table}
use Rattle.rules.specs.Each.{every}
use Rattle.rules.specs.Limits.{max_heads, ceiling}
use Rattle.rules.specs.Table.{table_fits, table_refusal}
use Rattle.rules.specs.State.{phase_number, slot_number, head_in, no_head, head_of, state_fits, state_refusal, blank}
use Rattle.rules.specs.Conditions.{IsHead, TableMeets, PhaseMeets, StateMeets}
use Rattle.rules.proofs.Each.{same_or_not, and_true, every_at, every_of}
use Rattle.rules.proofs.Waits.{listen_le, coldstart_le}
use Rattle.rules.proofs.Meaning.{table_meets, state_meets}
use Rattle.rules.proofs.Checks.{accepted_table}
use Rattle.octets.specs.Bytes.{bytes_of, number_at, Bytes}
use Rattle.octets.specs.Fields.{Field, bits8, bits16, bits32, mark, in_bytes, joined, places, is_marked, count_in}
use Rattle.octets.proofs.Cases.{or_some}
use Rattle.octets.proofs.Back.{Fit, fields_at, number_in, widths, sum, fields_back, row_back, parts_back, joined_back, two_parts, places_used, places_are, mark_is, is_marked_lem, bytes_fields, bytes_joined, bytes_append}
use Rattle.state_images.specs.StateImage.{state_mark, state_front, head_length, state_length, calendar_fields, state_fields, head_fields, state_image, head_place, active_number, phase_from, phase_known, head_at, known_at, calendar_in, state_in, take_refusal, read_state_refusal, read_state}
use Rattle.state_images.proofs.Cases.{take_known, read_taken, head_long, state_long}

-- ---- a phase, its number and its slot

phase_back : (p : Phase) → phase_from (phase_number p) (slot_number p) ≡ p
unfolding phase_from
phase_back Init = refl
phase_back Listen = refl
phase_back Coldstart = refl
phase_back (Active k) = refl

phase_known_lem : (p : Phase) → phase_known (phase_number p) (slot_number p) ≡ true
unfolding phase_known
phase_known_lem Init = refl
phase_known_lem Listen = refl
phase_known_lem Coldstart = refl
phase_known_lem (Active k) = refl

known_phase : (a b : ℕ) → phase_known a b ≡ true → (phase_number (phase_from a b) ≡ a) × (slot_number (phase_from a b) ≡ b)
unfolding phase_from phase_known
known_phase zero b e = (refl, sym (eqb-true b 0 e))
known_phase (suc zero) b e = (refl, sym (eqb-true b 0 e))
known_phase (suc (suc zero)) b e = (refl, sym (eqb-true b 0 e))
known_phase (suc (suc (suc a))) b e = let h = leb-true (suc (suc (suc a))) active_number (and_true (leb (suc (suc (suc a))) active_number) _ e).0 in (omega arith, refl)

-- ---- every number of a fitting state fits its width

calendar_fit : (t : Table) (s : State) → TableMeets t → StateMeets t s → Fit (calendar_fields s.calendar)
calendar_fit t s m q = elim (same_or_not s.calendar.hearers 0) [
  | inl e ↦ rw (q.empty e) (omega arith, (omega arith, (omega arith, (omega arith, (omega arith, tt)))))
  | inr e ↦
      let f = q.frame e in
      let clock = q.clock in
      let heads = m.heads in
      let origin = f.origin.high in
      let short = m.short in
      let slot = m.slot_high in
      let flight = f.flight in
      let sent = f.sent in
      let few : s.calendar.hearers < 2 ^ t.n = none_above t.n s.calendar.hearers (λ i h. (q.few i h).high) in
      let all : 2 ^ t.n ≤ 2 ^ max_heads = pow_mono heads in
      let kind : s.calendar.kind ≤ 2 = elim f.kind [ inl k ↦ omega arith | inr k ↦ omega arith ] in
      (omega arith, (omega arith, (omega arith, (omega arith, (omega arith, tt)))))
]

state_fit : (t : Table) (s : State) → TableMeets t → StateMeets t s → Fit (state_fields s)
state_fit t s m q = let clock = q.clock in let count = q.count in let heads = m.heads in (omega arith, (omega arith, (omega arith, (omega arith, calendar_fit t s m q))))

head_fit : (t : Table) (clock i : ℕ) (h : Head) → TableMeets t → IsHead t i → clock ≤ ceiling → PhaseMeets t clock i h.timeout h.phase → Fit (head_fields h)
unfolding PhaseMeets
head_fit t clock i h m k c q = go h.phase q
  where
    go : (p : Phase) → PhaseMeets t clock i h.timeout p → Fit (head_fields (head_in p h.timeout))
    go Init e = let w = m.wake_high i k in (omega arith, (omega arith, (omega arith, tt)))
    go Listen e = let a = m.heads in let b = m.slot_high in let j = k.high in (omega arith, (omega arith, (omega (arith, listen_le t i (omega arith) (omega arith) (omega arith)), tt)))
    go Coldstart e = let a = m.heads in let b = m.slot_high in let j = k.high in (omega arith, (omega arith, (omega (arith, coldstart_le t i (omega arith) (omega arith) (omega arith)), tt)))
    go (Active x) e = let a = m.heads in let b = m.slot_high in let j = e.1.high in let d = e.0 in (omega arith, (omega arith, (omega arith, tt)))

-- ---- from the record to bytes and back

-- the fields of head k + 1
abbrev part_of : State → ℕ → List Field
part_of s i = head_fields (head_of s.heads i)

front_back : (t : Table) (s : State) → TableMeets t → StateMeets t s → fields_at (3 ∷ 2 ∷ 1 ∷ 4 ∷ 8 ∷ 1 ∷ 1 ∷ 4 ∷ 4 ∷ []) 0 (state_image s) ≡ state_fields s
unfolding state_image widths
front_back t s m q = fields_back (state_fields s) (state_fit t s m q) [] (joined s.n (λ i. in_bytes (part_of s i))) 0 refl

part_back : (t : Table) (s : State) → TableMeets t → StateMeets t s → (k : ℕ) → k < s.n → fields_at (1 ∷ 1 ∷ 4 ∷ []) (head_place (suc k)) (state_image s) ≡ part_of s (suc k)
unfolding state_image widths in_bytes bytes_of
part_back t s m q k h =
    let count = q.count in
    let i : IsHead t (suc k) = record { low = omega arith; high = omega arith } in
    parts_back (in_bytes (state_fields s)) head_length s.n k (part_of s) (λ j. head_long (head_of s.heads j)) h (head_fit t s.clock (suc k) (head_of s.heads (suc k)) m i q.clock (q.phases (suc k) i))

head_back : (t : Table) (s : State) → TableMeets t → StateMeets t s → (k : ℕ) → k < s.n → head_at (state_image s) (head_place (suc k)) ≡ head_of s.heads (suc k)
unfolding head_at fields_at
head_back t s m q k h =
    let l = state_image s in
    let e = part_back t s m q k h in
    let two : head_place (suc k) + 2 ≡ head_place (suc k) + 1 + 1 = omega arith in
    λ i. record {
      phase = (ap₂ phase_from (ap (number_in 0) e) (ap (number_in 1) e) ∙ phase_back (head_of s.heads (suc k)).phase) i;
      timeout = (ap (λ (j : ℕ). number_at l j 4) two ∙ ap (number_in 2) e) i;
    }

known_back : (t : Table) (s : State) → TableMeets t → StateMeets t s → (k : ℕ) → k < s.n → known_at (state_image s) (head_place (suc k)) ≡ true
unfolding known_at fields_at
known_back t s m q k h = let e = part_back t s m q k h in ap₂ phase_known (ap (number_in 0) e) (ap (number_in 1) e) ∙ phase_known_lem (head_of s.heads (suc k)).phase

state_back : (t : Table) (s : State) → TableMeets t → StateMeets t s → state_in t.n (state_image s) ≡ s
unfolding state_in fields_at head_of
state_back t s m q =
    let e = front_back t s m q in
    let count = q.count in
    let f : ℕ → Head = λ i. head_at (state_image s) (head_place i) in
    let heads : places no_head f t.n ≡ s.heads = places_are no_head f t.n s.heads q.places m.heads (λ k h. head_back t s m q k (omega arith)) (λ k h. q.spare (suc k) (omega arith)) in
    λ i. record {
      clock = ap (number_in 3) e i;
      n = sym count i;
      calendar = record { hearers = ap (number_in 4) e i; kind = ap (number_in 5) e i; origin = ap (number_in 6) e i; sent = ap (number_in 7) e i; delivery = ap (number_in 8) e i };
      heads = heads i;
    }

take_back : (t : Table) (s : State) → TableMeets t → StateMeets t s → take_refusal t.n (state_image s) ≡ 0
unfolding fields_at
take_back t s m q =
    let l = state_image s in
    let e = front_back t s m q in
    let count = q.count in
    sym (take_known t.n l (state_long s ∙ ap state_length count) (is_marked_lem state_mark l (ap (number_in 0) e) (ap (number_in 1) e)) (ap (number_in 2) e ∙ count)
    (every_of t.n (λ i. known_at l (head_place i)) (λ i a b. each i a b)))
  where
    each : (i : ℕ) → 1 ≤ i → i ≤ t.n → known_at (state_image s) (head_place i) ≡ true
    each zero a b = absurd (omega arith)
    each (suc k) a b = let count = q.count in known_back t s m q k (omega arith)

-- a fitting state's image is accepted, and read as that state
pub state_reads_back : (t : Table) (s : State) → table_fits t ≡ true → state_fits t s ≡ true → (read_state_refusal t (state_image s) ≡ 0) × (read_state t (state_image s) ≡ s)
unfolding state_refusal
state_reads_back t s fit fits =
    let m = table_meets t fit in
    let q = state_meets t s m.heads fits in
    let l = state_image s in
    let e = state_back t s m q in
    let z : read_state_refusal t l ≡ 0 = sym (read_taken t l fit (take_back t s m q)) ∙ ap (state_refusal t) e ∙ is_unless (state_fits t s) StateRule fits in
    (z, sym (or_some (read_state_refusal t l) (state_in t.n l) blank z) ∙ e)

-- the image is a list of bytes
pub state_bytes : (s : State) → Bytes (state_image s)
unfolding state_image
state_bytes s = bytes_append (in_bytes (state_fields s)) _ (bytes_fields (state_fields s)) (bytes_joined s.n (λ i. in_bytes (part_of s i)) (λ i. bytes_fields (part_of s i)))

-- ---- from bytes to the record and back

-- what reading tells where nothing is refused
record Read (t : Table) (l : List ℕ) : Type 0 where
  pub table : table_fits t ≡ true
  pub heads : t.n ≤ max_heads
  pub whole : length l ≡ state_length t.n
  pub marked : is_marked state_mark l ≡ true
  pub count : count_in l ≡ t.n
  pub known : (k : ℕ) → k < t.n → known_at l (head_place (suc k)) ≡ true
  pub fits : state_fits t (state_in t.n l) ≡ true

was_read : (t : Table) (l : List ℕ) → read_state_refusal t l ≡ 0 → Read t l
unfolding read_state_refusal take_refusal state_refusal
was_read t l z =
    let known : ℕ → Bool = λ i. known_at l (head_place i) in
    let r = row_is (table_refusal t) (take_refusal t.n l) (state_refusal t (state_in t.n l)) z in
    let q = row_is (unless (eqb (length l) (state_length t.n)) StateLength) (unless (is_marked state_mark l && eqb (count_in l) t.n) StateMark) (unless (every t.n known) StateRule) r.1 in
    let m = and_true (is_marked state_mark l) (eqb (count_in l) t.n) (unless_is _ StateMark q.1) in
    let fit = accepted_table t r.0 in
    record {
      table = fit;
      heads = (table_meets t fit).heads;
      whole = eqb-true _ _ (unless_is _ StateLength q.0);
      marked = m.0;
      count = eqb-true _ _ m.1;
      known = λ k h. every_at t.n known (unless_is _ StateRule q.2) (suc k) (omega arith) (omega arith);
      fits = unless_is _ StateRule r.2;
    }

front_again : (t : Table) (l : List ℕ) → Bytes l → Read t l → in_bytes (state_fields (state_in t.n l)) ≡ take state_front l
unfolding state_in fields_at sum
front_again t l bytes r =
    let m = mark_is state_mark l r.marked in
    let w = r.whole in
    (λ i. in_bytes (mark (sym m.0 i) ∷ bits16 (sym m.1 i) ∷ bits8 (sym r.count i) ∷ bits32 (number_at l 6 4) ∷ calendar_fields (calendar_in l)))
    ∙ row_back (3 ∷ 2 ∷ 1 ∷ 4 ∷ 8 ∷ 1 ∷ 1 ∷ 4 ∷ 4 ∷ []) l bytes 0 (omega arith)

part_again : (l : List ℕ) (k : ℕ) → known_at l k ≡ true → head_fields (head_at l k) ≡ fields_at (1 ∷ 1 ∷ 4 ∷ []) k l
unfolding head_at known_at fields_at
part_again l k e =
    let p = known_phase (number_at l k 1) (number_at l (k + 1) 1) e in
    let two : k + 2 ≡ k + 1 + 1 = omega arith in
    λ i. bits8 (p.0 i) ∷ bits8 (p.1 i) ∷ bits32 (ap (λ (j : ℕ). number_at l j 4) two i) ∷ []

head_again : (t : Table) (l : List ℕ) → Bytes l → Read t l → (k : ℕ) → k < t.n → in_bytes (part_of (state_in t.n l) (suc k)) ≡ take head_length (drop (state_front + head_length * k) l)
unfolding state_in head_of sum
head_again t l bytes r k h =
    let w = r.whole in
    ap (λ (x : Head). in_bytes (head_fields x)) (places_used no_head (λ i. head_at l (head_place i)) t.n k h r.heads)
    ∙ ap in_bytes (part_again l (head_place (suc k)) (r.known k h))
    ∙ row_back (1 ∷ 1 ∷ 4 ∷ []) l bytes (head_place (suc k)) (omega arith)

state_again : (t : Table) (l : List ℕ) → Bytes l → Read t l → state_image (state_in t.n l) ≡ l
unfolding state_image state_in
state_again t l bytes r =
    two_parts l (in_bytes (state_fields (state_in t.n l))) (joined t.n (λ i. in_bytes (part_of (state_in t.n l) i))) state_front head_length t.n r.whole (front_again t l bytes r)
    (joined_back l state_front head_length t.n (λ i. in_bytes (part_of (state_in t.n l) i)) (head_again t l bytes r))

-- whatever reads as a state fits the table, and is that state's image
pub read_state_fits : (t : Table) (l : List ℕ) → read_state_refusal t l ≡ 0 → state_fits t (read_state t l) ≡ true
read_state_fits t l z = ap (state_fits t) (sym (or_some (read_state_refusal t l) (state_in t.n l) blank z)) ∙ (was_read t l z).fits

pub read_state_image : (t : Table) (l : List ℕ) → Bytes l → read_state_refusal t l ≡ 0 → state_image (read_state t l) ≡ l
read_state_image t l bytes z = ap state_image (sym (or_some (read_state_refusal t l) (state_in t.n l) blank z)) ∙ state_again t l bytes (was_read t l z)

-- so two different byte strings never read as one state, not even against two tables
pub states_apart : (t u : Table) (l k : List ℕ) → Bytes l → Bytes k → read_state_refusal t l ≡ 0 → read_state_refusal u k ≡ 0 → read_state t l ≡ read_state u k → l ≡ k
states_apart t u l k b c z y e = sym (read_state_image t l b z) ∙ ap state_image e ∙ read_state_image u k c y

-- and damaged bytes never read as the state whose image they were
pub state_damaged : (t : Table) (s : State) (l : List ℕ) → Bytes l → (l ≡ state_image s → ⊥) → read_state_refusal t l ≡ 0 → read_state t l ≡ s → ⊥
state_damaged t s l b n z e = n (sym (read_state_image t l b z) ∙ ap state_image e)
