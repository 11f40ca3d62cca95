-- The book's checks: the tests that the code makes of its rows are those of the rules; what a check that accepts has shown.
use Rattle.std.proofs.Common.{◌≡◌, refl, ◌∙◌, Bool, true, ◌&&◌, List, [], map, length, get_or, take, ℕ, zero, suc, ◌-◌, ◌≤◌, ◌<◌, eqb, arith}
use Rattle.std.specs.List.{list_all, list_any, enumerate_from}
use Rattle.std.proofs.Math.ListN.{get_or-map}
use Rattle.std.proofs.lemmas.List.{length-map}
use Rattle.std.proofs.lemmas.Bool.{leb-true, ne_eqb}
use Rattle.words.specs.declared.Refusal.TheVariants.{HoldRange, BookRule}
use Rattle.words.specs.Refusal.{unless}
use Rattle.words.proofs.Order.{unless_is, first_is}
use Rattle.rules.specs.Limits.{max_heads}
use Rattle.rules.specs.Each.{between, some}
use Rattle.rules.proofs.Each.{and_true, every_at, all_every}
use Rattle.book.specs.declared.Entry.{Entry}
use Rattle.book.specs.declared.Crossing.{Crossing}
use Rattle.book.specs.declared.Book.{Book}
use Rattle.book.specs.Limits.{all_places, longest_hold}
use Rattle.book.specs.Rows.{at}
use Rattle.book.specs.Book.{no_entry, no_crossing, entry_at, number_in, number_at, last_crossing, hold_refusal, known, repeats, entry_fits, places_fit, crossing_fits, crossings_fit, book_fits, rules_refusal, book_refusal}
use Rattle.book.proofs.Rows.{every_row, some_row}

-- ---- the places and the crossings, one by one

some_same : (n : ℕ) (f g : ℕ → Bool) → ((q : ℕ) → f q ≡ g q) → some n f ≡ some n g
unfolding some
some_same zero f g e = refl
some_same (suc n) f g e = rw (some_same n f g e, e (suc n))

at_map : (es : List Entry) (q : ℕ) → at 0 (map number_in es) q ≡ number_at es q
unfolding at
at_map es zero = refl
at_map es (suc k) = get_or-map number_in es k no_entry

module _ (given latest : ℕ) where
  pub places_row :
      (es : List Entry) (numbers : List ℕ) → numbers ≡ map number_in es → length es ≡ all_places →
      list_all (λ p. entry_fits given latest p.1 (list_any (λ a. eqb a p.1.number) (take p.0 numbers))) (enumerate_from 0 es) ≡ places_fit given latest es
  unfolding places_fit repeats at
  places_row es numbers copied l = all_every (λ k e. entry_fits given latest e (list_any (λ a. eqb a e.number) (take k numbers))) no_entry all_places es _ l here
    where
      again : (k : ℕ) (e : Entry) → k ≤ length es → list_any (λ a. eqb a e.number) (take k numbers) ≡ some k (λ q. eqb (number_at es q) e.number)
      again k e m =
          rw copied (some_row (λ a. eqb a e.number) 0 (map number_in es) k (omega (arith, length-map es number_in)) ∙ some_same k _ _ (λ q. rw (at_map es q)))

      here : (k : ℕ) → k < all_places → entry_fits given latest (get_or es k no_entry) (list_any (λ a. eqb a (get_or es k no_entry).number) (take k numbers)) ≡ entry_fits given latest (entry_at es (suc k)) (repeats es (suc k))
      here k m = let e : suc k - 1 ≡ k = omega arith in rw (e, again k (get_or es k no_entry) (omega arith))

  pub crossings_row : (cs : List Crossing) → length cs ≡ max_heads → list_all (crossing_fits given latest) cs ≡ crossings_fit given latest cs
  unfolding crossings_fit
  crossings_row cs l = every_row (crossing_fits given latest) no_crossing cs max_heads l

-- ---- the book

module _ (b : Book) where
  -- what a check that accepts has shown
  pub accepted_book : book_refusal b ≡ 0 → (between 1 longest_hold b.hold ≡ true) × (book_fits b ≡ true)
  unfolding book_refusal hold_refusal rules_refusal
  accepted_book e = let r = first_is (unless (between 1 longest_hold b.hold) HoldRange) _ e in (unless_is (between 1 longest_hold b.hold) HoldRange r.0, unless_is (book_fits b) BookRule (first_is (unless (book_fits b) BookRule) [] r.1).0)

-- ---- what a book that fits remembers is not later than its last break

pub remembered_past : (b : Book) → book_fits b ≡ true → (i : ℕ) → 1 ≤ i → i ≤ max_heads → ((last_crossing b i).number ≡ 0 → ⊥) → (last_crossing b i).tick ≤ b.latest
unfolding book_fits crossings_fit crossing_fits known
remembered_past b f i l m n =
    let cs = (and_true (places_fit b.given b.latest b.places) _ (and_true (eqb (length b.places) all_places && eqb (length b.remembered) max_heads) _ f).1).1 in
    let c = every_at max_heads (λ j. crossing_fits b.given b.latest (at no_crossing b.remembered j)) cs i l m in
    let k : known b.given b.latest (last_crossing b i).number (last_crossing b i).tick ≡ true = rw (ne_eqb (last_crossing b i).number 0 n) at c in
    leb-true _ _ (and_true (between 1 b.given (last_crossing b i).number) _ k).1
