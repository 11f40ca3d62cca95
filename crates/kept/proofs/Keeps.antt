-- A new book meets the rules, and every call keeps them.
use Rattle.std.proofs.Common.{◌≡◌, refl, sym, ap, ◌∙◌, inl, inr, List, ℕ, ◌≤◌, arith}
use Rattle.std.proofs.Math.ListN.{length-replicate}
use Rattle.rules.specs.Limits.{max_heads}
use Rattle.rules.proofs.Each.{same_or_not}
use Rattle.book.specs.declared.Book.{Book}
use Rattle.book.specs.Limits.{all_places}
use Rattle.book.specs.Book.{no_entry, no_crossing, entry_at, number_in, number_at, last_crossing, empty_book}
use Rattle.book.specs.Calls.{counted, tailed, entry_refusal, entered, held_refusal, released}
use Rattle.book.proofs.Rows.{length_put, at_replicate}
use Rattle.kept.specs.Conditions.{IsPlace, AnyHead, Held, BookMeets}
use Rattle.kept.specs.Change.{Effect, Change, refused, a_tail, an_entry, a_release, Row, no_more, first}
use Rattle.kept.specs.Claims.{EmptyMeets, KeepsRules, HoldStays, SameCrossing, EnteredAt, FreedAt}
use Rattle.kept.proofs.Places.{tick_in, last_number_in, last_tick_in, held_same, counted_same}
use Rattle.kept.proofs.Calls.{tail_other, takes_lowest, NewOrOld, new, old, new_or_old, frees_one, freed_other}

-- ---- a new book

empty_free : (p : ℕ) → entry_at (empty_book 0).places p ≡ no_entry
empty_free p = at_replicate all_places no_entry p

empty_last : (hold i : ℕ) → last_crossing (empty_book hold) i ≡ no_crossing
empty_last hold i = at_replicate max_heads no_crossing i

pub empty_held : (hold p : ℕ) → Held (empty_book hold) p → ⊥
empty_held hold p h = h.number (ap number_in (empty_free p))

pub empty_meets : EmptyMeets
empty_meets hold = record {
  places = length-replicate all_places no_entry;
  heads = length-replicate max_heads no_crossing;
  once = λ p q h. absurd (empty_held hold p h);
  number_high = λ p h. absurd (empty_held hold p h);
  tick = λ p h. absurd (empty_held hold p h);
  free = λ p k z. empty_free p;
  last_number = λ i k. omega (arith, ap last_number_in (empty_last hold i));
  last_tick = λ i k n. absurd (n (ap last_number_in (empty_last hold i)));
}

-- ---- a tail

keeps_tail : (b : Book) (i clock : ℕ) → BookMeets b → ((last_crossing b i).number ≡ 0 → ⊥) → b.latest ≤ clock → BookMeets (tailed b i clock)
unfolding tailed counted
keeps_tail b i clock m n l = record {
  places = length_put b.places _ _ ∙ m.places;
  heads = m.heads;
  once = λ p q h k e. m.once p q (was p h) (was q k) (sym (same p).number ∙ e ∙ (same q).number);
  number_high = λ p h. omega (arith, (same p).number, m.number_high p (was p h));
  tick = λ p h. omega (arith, (same p).tick, m.tick p (was p h));
  free = λ p k z. tail_other b i n clock p (λ q. q.0.number (sym (same p).number ∙ z)) ∙ m.free p k (sym (same p).number ∙ z);
  last_number = m.last_number;
  last_tick = λ j k s. omega (arith, m.last_tick j k s);
}
  where
    same : (p : ℕ) → SameCrossing (entry_at b.places p) (entry_at (tailed b i clock).places p)
    same = counted_same b.places (last_crossing b i).number

    was : (p : ℕ) → Held (tailed b i clock) p → Held b p
    was p h = held_same (same p).number h

-- ---- a release

module _ {b c : Book} {number p : ℕ} (f : FreedAt b c number p) where
  freed_was : (q : ℕ) → Held c q → Held b q
  freed_was q h = held_same (ap number_in (freed_other f q h)) h

  freed_free : BookMeets b → (q : ℕ) → IsPlace q → number_at c.places q ≡ 0 → entry_at c.places q ≡ no_entry
  freed_free m q k z = elim (same_or_not q p) [
    | inl e ↦ rw e f.free
    | inr n ↦ f.others q n ∙ m.free q k (sym (ap number_in (f.others q n)) ∙ z)
  ]

keeps_release : (b : Book) (number : ℕ) → BookMeets b → held_refusal b number ≡ 0 → BookMeets (released b number)
unfolding released
keeps_release b number m e = record {
  places = length_put b.places _ no_entry ∙ m.places;
  heads = m.heads;
  once = λ p q h k e. m.once p q (freed_was f p h) (freed_was f q k) (sym (ap number_in (same p h)) ∙ e ∙ ap number_in (same q k));
  number_high = λ p h. omega (arith, ap number_in (same p h), m.number_high p (freed_was f p h));
  tick = λ p h. omega (arith, ap tick_in (same p h), m.tick p (freed_was f p h));
  free = freed_free f m;
  last_number = m.last_number;
  last_tick = m.last_tick;
}
  where
    f : FreedAt b (released b number) number (frees_one b number e).0
    f = (frees_one b number e).1

    same : (p : ℕ) → Held (released b number) p → entry_at (released b number).places p ≡ entry_at b.places p
    same = freed_other f

-- ---- a new entry

module _ {b c : Book} {i tick clock p : ℕ} (m : BookMeets b) (f : EnteredAt b c i tick clock p) where
  -- its number is above all others
  entered_once : (q r : ℕ) → Held c q → Held c r → number_at c.places q ≡ number_at c.places r → q ≡ r
  entered_once q r h k e = go (new_or_old f q h) (new_or_old f r k)
    where
      go : NewOrOld b c i tick p q → NewOrOld b c i tick p r → q ≡ r
      go (new x u) (new y v) = x ∙ sym y
      go (new x u) (old g v) = absurd (omega (arith, ap number_in u, ap number_in v, m.number_high r g))
      go (old g u) (new y v) = absurd (omega (arith, ap number_in u, ap number_in v, m.number_high q g))
      go (old g u) (old h v) = m.once q r g h (sym (ap number_in u) ∙ e ∙ ap number_in v)

  entered_high : (q : ℕ) → Held c q → number_at c.places q ≤ c.given
  entered_high q h = elim (new_or_old f q h) [
    | new e x ↦ omega (arith, ap number_in x, f.given)
    | old g x ↦ omega (arith, ap number_in x, f.given, m.number_high q g)
  ]

  entered_tick : tick ≤ clock → b.latest ≤ clock → (q : ℕ) → Held c q → (entry_at c.places q).tick ≤ c.latest
  entered_tick a l q h = elim (new_or_old f q h) [
    | new e x ↦ omega (arith, ap tick_in x, f.latest)
    | old g x ↦ omega (arith, ap tick_in x, f.latest, m.tick q g)
  ]

  entered_free : (q : ℕ) → IsPlace q → number_at c.places q ≡ 0 → entry_at c.places q ≡ no_entry
  entered_free q k z = elim (same_or_not q p) [
    | inl e ↦ absurd (omega (arith, rw e at z, ap number_in f.entry))
    | inr n ↦ f.others q n ∙ m.free q k (sym (ap number_in (f.others q n)) ∙ z)
  ]

  entered_last : (j : ℕ) → AnyHead j → (last_crossing c j).number ≤ c.given
  entered_last j k = elim (same_or_not j i) [
    | inl e ↦ rw e (omega (arith, ap last_number_in f.last, f.given))
    | inr n ↦ omega (arith, ap last_number_in (f.other_heads j n), f.given, m.last_number j k)
  ]

  entered_last_tick : tick ≤ clock → b.latest ≤ clock → (j : ℕ) → AnyHead j → ((last_crossing c j).number ≡ 0 → ⊥) → (last_crossing c j).tick ≤ c.latest
  entered_last_tick a l j k s = elim (same_or_not j i) [
    | inl e ↦ rw e (omega (arith, ap last_tick_in f.last, f.latest))
    | inr n ↦ let x = f.other_heads j n in omega (arith, ap last_tick_in x, f.latest, m.last_tick j k (λ z. s (ap last_number_in x ∙ z)))
  ]

keeps_entry :
    (b : Book) (i tick clock : ℕ) → BookMeets b → AnyHead i → tick ≤ clock → b.latest ≤ clock → entry_refusal b ≡ 0 →
    BookMeets (entered b i tick clock)
unfolding entered
keeps_entry b i tick clock m k a l e = record {
  places = length_put b.places _ _ ∙ m.places;
  heads = length_put b.remembered i _ ∙ m.heads;
  once = entered_once m f;
  number_high = entered_high m f;
  tick = entered_tick m f a l;
  free = entered_free m f;
  last_number = entered_last m f;
  last_tick = entered_last_tick m f a l;
}
  where
    f : EnteredAt b (entered b i tick clock) i tick clock (takes_lowest b i tick clock m k e).0
    f = (takes_lowest b i tick clock m k e).1.1

-- ---- any call, and calls one after the other

pub keeps_change : {b c : Book} {x : Effect} → BookMeets b → Change b x c → BookMeets c
keeps_change m refused = m
keeps_change {b} m (a_tail i clock k n l) = keeps_tail b i clock m n (omega arith)
keeps_change {b} m (an_entry i tick clock k a l e) = keeps_entry b i tick clock m k (omega arith) (omega arith) e
keeps_change {b} m (a_release number e) = keeps_release b number m e

keeps_row : {b c : Book} {xs : List Effect} → BookMeets b → Row b xs c → BookMeets c
keeps_row m no_more = m
keeps_row m (first x r) = keeps_row (keeps_change m x) r

pub keeps_rules : KeepsRules
keeps_rules b c xs m r = keeps_row m r

-- ---- the hold

hold_change : {b c : Book} {x : Effect} → Change b x c → c.hold ≡ b.hold
unfolding tailed entered released
hold_change refused = refl
hold_change (a_tail i clock k n l) = refl
hold_change (an_entry i tick clock k a l e) = refl
hold_change (a_release number e) = refl

hold_row : {b c : Book} {xs : List Effect} → Row b xs c → c.hold ≡ b.hold
hold_row no_more = refl
hold_row (first x r) = hold_row r ∙ hold_change x

pub hold_stays : HoldStays
hold_stays b c xs r = hold_row r
