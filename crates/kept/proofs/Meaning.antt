-- The tests of a book, of a clock and of a head say just what the conditions say.
use Rattle.std.proofs.Common.{◌≡◌, sym, ap, ◌∙◌, Bool, true, false, not, ◌&&◌, inl, inr, ℕ, ◌-◌, ◌≤◌, ◌<◌, arith, eqb, length, eqb-true, leb-true, eq-eqb, ne_eqb, le-leb}
use Rattle.std.proofs.lemmas.Bool.{eqb-false, not-true}
use Rattle.words.specs.declared.Refusal.TheVariants.{HoldRange, BookRule, NotActive}
use Rattle.words.proofs.Order.{unless_is, is_unless}
use Rattle.rules.specs.declared.Phase.TheVariants.{Active}
use Rattle.rules.specs.declared.State.{State}
use Rattle.rules.specs.declared.Table.{Table}
use Rattle.rules.specs.Limits.{max_heads}
use Rattle.rules.specs.Table.{is_head}
use Rattle.rules.specs.State.{phase_of}
use Rattle.rules.specs.Conditions.{IsHead, TableMeets}
use Rattle.rules.specs.Each.{between}
use Rattle.rules.proofs.Each.{same_or_not, less_or_not, and_true, both, between_is, is_between, every_at, every_of, some_at, some_of}
use Rattle.rules.proofs.Meaning.{head_is, is_head_lem}
use Rattle.book.specs.declared.Entry.{Entry}
use Rattle.book.specs.declared.Book.{Book}
use Rattle.book.specs.Limits.{all_places, longest_hold}
use Rattle.book.specs.Book.{no_entry, entry_at, number_at, last_crossing, hold_refusal, known, is_zero, repeats, entry_fits, places_fit, crossing_fits}
use Rattle.book.specs.Book.{crossings_fit, book_fits, rules_refusal}
use Rattle.book.specs.Breaks.{head_refusal}
use Rattle.book.proofs.Admits.{active_is, is_active}
use Rattle.kept.specs.Conditions.{IsPlace, AnyHead, Held, BookMeets}
use Rattle.kept.specs.Claims.{MeetsExactly}
use Rattle.kept.proofs.Places.{a_held, a_free, place_or_not}

-- ---- one crossing: its number is one that was given, its tick not later than the last break

record Known (given latest number tick : ℕ) : Type 0 where
  low : 1 ≤ number
  high : number ≤ given
  past : tick ≤ latest

module _ (given latest number tick : ℕ) where
  known_is : known given latest number tick ≡ true → Known given latest number tick
  unfolding known
  known_is e =
      let r = and_true (between 1 given number) _ e in
      let w = between_is 1 given number r.0 in
      record { low = w.0; high = w.1; past = leb-true _ _ r.1 }

  is_known : Known given latest number tick → known given latest number tick ≡ true
  unfolding known
  is_known k = both (is_between 1 given number k.low k.high) (le-leb _ _ k.past)

-- a free place is zero
zero_entry : (e : Entry) → e.number ≡ 0 → is_zero e ≡ true → e ≡ no_entry
unfolding is_zero
zero_entry e z q =
    let t = and_true (eqb e.tick 0) _ q in
    let h = and_true (eqb e.head 0) _ t.1 in
    λ i. record { number = z i; tick = eqb-true e.tick 0 t.0 i; head = eqb-true e.head 0 h.0 i; tails = eqb-true e.tails 0 h.1 i }

-- ---- the test of a place, and of what a head remembers

abbrev place_test : Book → ℕ → Bool
place_test b p = entry_fits b.given b.latest (entry_at b.places p) (repeats b.places p)

abbrev last_test : Book → ℕ → Bool
last_test b i = crossing_fits b.given b.latest (last_crossing b i)

abbrev KnownAt : Book → ℕ → Type 0
KnownAt b p = Known b.given b.latest (number_at b.places p) (entry_at b.places p).tick

abbrev KnownLast : Book → ℕ → Type 0
KnownLast b i = Known b.given b.latest (last_crossing b i).number (last_crossing b i).tick

module _ (b : Book) where
  free_test : (p : ℕ) → number_at b.places p ≡ 0 → place_test b p ≡ is_zero (entry_at b.places p)
  unfolding entry_fits
  free_test p z = rw (eq-eqb (number_at b.places p) 0 z)

  held_test :
      (p : ℕ) → (number_at b.places p ≡ 0 → ⊥) →
      place_test b p ≡ known b.given b.latest (number_at b.places p) (entry_at b.places p).tick && not (repeats b.places p)
  unfolding entry_fits
  held_test p n = rw (ne_eqb (number_at b.places p) 0 n)

  none_test : (i : ℕ) → (last_crossing b i).number ≡ 0 → last_test b i ≡ true
  unfolding crossing_fits
  none_test i z = rw (eq-eqb (last_crossing b i).number 0 z)

  some_test :
      (i : ℕ) → ((last_crossing b i).number ≡ 0 → ⊥) → last_test b i ≡ known b.given b.latest (last_crossing b i).number (last_crossing b i).tick
  unfolding crossing_fits
  some_test i n = rw (ne_eqb (last_crossing b i).number 0 n)

  -- whether a number repeats, by its lower places
  repeats_not : (p q : ℕ) → repeats b.places p ≡ false → 1 ≤ q → q < p → number_at b.places q ≡ number_at b.places p → ⊥
  unfolding repeats
  repeats_not p q e l h = eqb-false _ _ (some_at (p - 1) (λ q. eqb (number_at b.places q) (number_at b.places p)) e q l (omega arith))

  not_repeats : (p : ℕ) → ((q : ℕ) → 1 ≤ q → q < p → number_at b.places q ≡ number_at b.places p → ⊥) → repeats b.places p ≡ false
  unfolding repeats
  not_repeats p g = some_of (p - 1) (λ q. eqb (number_at b.places q) (number_at b.places p)) (λ q l h. ne_eqb _ _ (g q l (omega arith)))

-- ---- the book, place by place

record Fits (b : Book) : Type 0 where
  places : length b.places ≡ all_places
  heads : length b.remembered ≡ max_heads
  place : (p : ℕ) → IsPlace p → place_test b p ≡ true
  last : (i : ℕ) → AnyHead i → last_test b i ≡ true

fits_is : (b : Book) → book_fits b ≡ true → Fits b
unfolding book_fits places_fit crossings_fit
fits_is b e =
    let r = and_true (eqb (length b.places) all_places && eqb (length b.remembered) max_heads) _ e in
    let l = and_true (eqb (length b.places) all_places) _ r.0 in
    let w = and_true (places_fit b.given b.latest b.places) _ r.1 in
    record {
      places = eqb-true _ _ l.0;
      heads = eqb-true _ _ l.1;
      place = λ p k. every_at all_places (place_test b) w.0 p k.low k.high;
      last = λ i k. every_at max_heads (last_test b) w.1 i k.low k.high;
    }

is_fits : (b : Book) → Fits b → book_fits b ≡ true
unfolding book_fits places_fit crossings_fit
is_fits b f =
    both (both (eq-eqb _ _ f.places) (eq-eqb _ _ f.heads))
    (both (every_of all_places (place_test b) (λ p l h. f.place p record { low = l; high = h }))
    (every_of max_heads (last_test b) (λ i l h. f.last i record { low = l; high = h })))

module _ (b : Book) (f : Fits b) where
  fits_held : (p : ℕ) → Held b p → KnownAt b p × (repeats b.places p ≡ false)
  fits_held p h =
      let r = and_true _ (not (repeats b.places p)) (sym (held_test b p h.number) ∙ f.place p h.place) in
      (known_is _ _ _ _ r.0, not-true _ r.1)

  fits_last : (i : ℕ) → AnyHead i → ((last_crossing b i).number ≡ 0 → ⊥) → KnownLast b i
  fits_last i k n = known_is _ _ _ _ (sym (some_test b i n) ∙ f.last i k)

  fits_meets : BookMeets b
  fits_meets = record {
    places = f.places;
    heads = f.heads;
    once = λ p q h k e. elim (less_or_not p q) [
      | inl l ↦ absurd (repeats_not b q p (fits_held q k).1 h.place.low l e)
      | inr m ↦ elim (less_or_not q p) [ inl l ↦ absurd (repeats_not b p q (fits_held p h).1 k.place.low l (sym e)) | inr l ↦ omega arith ]
    ];
    number_high = λ p h. (fits_held p h).0.high;
    tick = λ p h. (fits_held p h).0.past;
    free = λ p k z. zero_entry _ z (sym (free_test b p z) ∙ f.place p k);
    last_number = λ i k. elim (same_or_not (last_crossing b i).number 0) [ inl z ↦ omega arith | inr n ↦ (fits_last i k n).high ];
    last_tick = λ i k n. (fits_last i k n).past;
  }

module _ (b : Book) (m : BookMeets b) where
  -- a held number stands in no lower place
  alone : (p : ℕ) → Held b p → (q : ℕ) → 1 ≤ q → q < p → number_at b.places q ≡ number_at b.places p → ⊥
  alone p h q l s e =
      let g : Held b q = record { place = record { low = l; high = let a = h.place.high in omega arith }; number = λ z. h.number (sym e ∙ z) } in
      omega (arith, m.once q p g h e)

  meets_place : (p : ℕ) → IsPlace p → place_test b p ≡ true
  unfolding is_zero
  meets_place p k = elim (place_or_not b p k) [
    | a_free z ↦ free_test b p z ∙ ap is_zero (m.free p k z)
    | a_held h ↦ let n = h.number in
        let w : KnownAt b p = record { low = omega arith; high = m.number_high p h; past = m.tick p h } in
        held_test b p n ∙ both (is_known _ _ _ _ w) (ap not (not_repeats b p (alone p h)))
  ]

  meets_last : (i : ℕ) → AnyHead i → last_test b i ≡ true
  meets_last i k = elim (same_or_not (last_crossing b i).number 0) [
    | inl z ↦ none_test b i z
    | inr n ↦ let w : KnownLast b i = record { low = omega arith; high = m.last_number i k; past = m.last_tick i k n } in
        some_test b i n ∙ is_known _ _ _ _ w
  ]

pub meets_exactly : MeetsExactly
meets_exactly b = (
  λ e. fits_meets b (fits_is b e),
  λ m. is_fits b record { places = m.places; heads = m.heads; place = meets_place b m; last = meets_last b m },
)

-- ---- what the calls of every post ask of a book, a clock and a head

pub hold_is : (hold : ℕ) → hold_refusal hold ≡ 0 → (1 ≤ hold) × (hold ≤ longest_hold)
unfolding hold_refusal
hold_is hold e = between_is 1 longest_hold hold (unless_is _ HoldRange e)

pub is_hold : (hold : ℕ) → 1 ≤ hold → hold ≤ longest_hold → hold_refusal hold ≡ 0
unfolding hold_refusal
is_hold hold l h = is_unless _ HoldRange (is_between 1 longest_hold hold l h)

module _ (b : Book) where
  pub rules_are : rules_refusal b ≡ 0 → BookMeets b
  unfolding rules_refusal
  rules_are e = (meets_exactly b).0 (unless_is _ BookRule e)

  pub are_rules : BookMeets b → rules_refusal b ≡ 0
  unfolding rules_refusal
  are_rules m = is_unless _ BookRule ((meets_exactly b).1 m)

-- one of the table's heads, active in some slot
abbrev pub ActiveHead : Table → State → ℕ → Type 0
ActiveHead t s i = IsHead t i × ((k : ℕ) × (phase_of s i ≡ Active k))

pub any_head : {t : Table} {i : ℕ} → TableMeets t → IsHead t i → AnyHead i
any_head f h = record { low = h.low; high = let n = h.high in let m = f.heads in omega arith }

module _ (t : Table) (s : State) (i : ℕ) where
  pub active_head_is : head_refusal t s i ≡ 0 → ActiveHead t s i
  unfolding head_refusal
  active_head_is e = let r = and_true (is_head t i) _ (unless_is _ NotActive e) in (head_is t i r.0, active_is _ r.1)

  pub is_active_head : ActiveHead t s i → head_refusal t s i ≡ 0
  unfolding head_refusal
  is_active_head a = is_unless _ NotActive (both (is_head_lem t i a.0) (is_active _ a.1))
