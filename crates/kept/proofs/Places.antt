-- Laws of places: the place of a number, where a held number stands, and what a tail leaves as it was.
use Rattle.std.proofs.Common.{◌≡◌, refl, sym, ◌∙◌, List, inl, inr, ℕ, ◌≤◌, ◌<◌, arith, eqb, length, eqb-true}
use Rattle.std.proofs.lemmas.Bool.{eqb-false}
use Rattle.rules.proofs.Each.{same_or_not, less_or_not}
use Rattle.book.specs.declared.Entry.{Entry}
use Rattle.book.specs.declared.Crossing.{Crossing}
use Rattle.book.specs.declared.Book.{Book}
use Rattle.book.specs.Limits.{all_places}
use Rattle.book.specs.Book.{no_entry, entry_at, number_in, number_at, place_of}
use Rattle.book.specs.Calls.{more_tails, counted}
use Rattle.book.proofs.Rows.{Lowest, lowest_is, at_beyond, put_keeps, put_nowhere, at_put_same, at_put_other}
use Rattle.kept.specs.Conditions.{IsPlace, Held}
use Rattle.kept.specs.Claims.{SameCrossing}

-- ---- fields, by name

abbrev pub tick_in : Entry → ℕ
tick_in e = e.tick

abbrev pub head_in : Entry → ℕ
head_in e = e.head

abbrev pub last_number_in : Crossing → ℕ
last_number_in c = c.number

abbrev pub last_tick_in : Crossing → ℕ
last_tick_in c = c.tick

-- ---- the place of a number

module _ (es : List Entry) (n : ℕ) where
  place_is : Lowest all_places (λ p. eqb (number_at es p) n) (place_of es n)
  unfolding place_of
  place_is = lowest_is all_places (λ p. eqb (number_at es p) n)

  pub place_number : (place_of es n ≡ 0 → ⊥) → number_at es (place_of es n) ≡ n
  place_number z = eqb-true _ _ (place_is.passes (omega arith))

  pub place_place : (place_of es n ≡ 0 → ⊥) → IsPlace (place_of es n)
  place_place z = record { low = omega arith; high = place_is.high }

  -- every lower place has another number, and every place where none has it
  pub place_below : (q : ℕ) → 1 ≤ q → q < place_of es n → number_at es q ≡ n → ⊥
  place_below q a l = eqb-false _ _ (place_is.below q a l)

  pub place_nowhere : place_of es n ≡ 0 → (q : ℕ) → IsPlace q → number_at es q ≡ n → ⊥
  place_nowhere z q k = eqb-false _ _ (place_is.nowhere z q k.low k.high)

  pub place_somewhere : (q : ℕ) → IsPlace q → number_at es q ≡ n → place_of es n ≡ 0 → ⊥
  place_somewhere q k e z = place_nowhere z q k e

-- a number other than 0 stands within the row
pub number_within : (es : List Entry) (p : ℕ) → (number_at es p ≡ 0 → ⊥) → p ≤ length es
number_within es p n = elim (less_or_not (length es) p) [ inl l ↦ absurd (n (rw (at_beyond no_entry es p l))) | inr l ↦ l ]

-- a place is held or free
pub data Place (b : Book) (p : ℕ) : Type 0 where
  a_held : Held b p → Place b p
  a_free : number_at b.places p ≡ 0 → Place b p

pub place_or_not : (b : Book) (p : ℕ) → IsPlace p → Place b p
place_or_not b p k = elim (same_or_not (number_at b.places p) 0) [ inl z ↦ a_free z | inr n ↦ a_held record { place = k; number = n } ]

-- and where its number is the same in another book, it is held there too
pub held_same : {b c : Book} {p : ℕ} → number_at c.places p ≡ number_at b.places p → Held c p → Held b p
held_same s h = record { place = h.place; number = λ z. h.number (s ∙ z) }

-- ---- a tail count moves nothing else

counted_keeps :
    {B : Type 0} (f : Entry → B) (es : List Entry) (n p : ℕ) → ((e : Entry) → f (more_tails e) ≡ f e) →
    f (entry_at (counted es n) p) ≡ f (entry_at es p)
unfolding counted
counted_keeps f es n p k = put_keeps f no_entry es (place_of es n) p _ (k _)

module _ (es : List Entry) (n : ℕ) where
  pub counted_same : (p : ℕ) → SameCrossing (entry_at es p) (entry_at (counted es n) p)
  counted_same p = record {
    number = counted_keeps number_in es n p (λ e. refl);
    head = counted_keeps head_in es n p (λ e. refl);
    tick = counted_keeps tick_in es n p (λ e. refl);
  }

  -- and nothing at all at a place of another number
  pub counted_other : (p : ℕ) → (place_of es n ≡ p → ⊥) → entry_at (counted es n) p ≡ entry_at es p
  unfolding counted
  counted_other p z = at_put_other no_entry es (place_of es n) p _ (λ e. z (sym e))

  pub counted_nowhere : place_of es n ≡ 0 → counted es n ≡ es
  unfolding counted
  counted_nowhere z = put_nowhere es (place_of es n) _ z

  -- where some place has the number, it counts one more
  pub counted_place : (n ≡ 0 → ⊥) → (place_of es n ≡ 0 → ⊥) → entry_at (counted es n) (place_of es n) ≡ more_tails (entry_at es (place_of es n))
  unfolding counted
  counted_place s z = at_put_same no_entry es (place_of es n) _ (omega arith) (number_within es _ (λ q. s (sym (place_number es n z) ∙ q)))
