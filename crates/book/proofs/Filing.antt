-- What a new entry and a release are refused for, by the place that the book has for them, and the book that a call answers.
use Rattle.std.proofs.Common.{◌≡◌, sym, ◌∙◌, [], ◌∷◌, ℕ, eqb, not, arith}
use Rattle.std.proofs.lemmas.Bool.{eq-eqb, ne_eqb}
use Rattle.words.specs.declared.Refusal.TheVariants.{NoFreePlace, NoSuchEntry}
use Rattle.words.specs.Refusal.{number_of}
use Rattle.words.proofs.Order.{unless_not, is_unless, first_some, first_none, first_last, row_first, row_past}
use Rattle.book.specs.declared.Book.{Book}
use Rattle.book.specs.Book.{place_of, hold_refusal, rules_refusal, book_refusal}
use Rattle.book.specs.Calls.{place_refusal, number_refusal, entry_refusal, book_after, held_refusal, release_refusal}

-- ---- new entries

module _ (b : Book) (p : ℕ) (e : p ≡ place_of b.places 0) where
  full : p ≡ 0 → place_refusal b ≡ number_of NoFreePlace
  unfolding place_refusal
  full z = unless_not (not (eqb (place_of b.places 0) 0)) NoFreePlace (rw (← e, eq-eqb p 0 z))

  pub no_place : p ≡ 0 → number_of NoFreePlace ≡ entry_refusal b
  unfolding entry_refusal
  no_place z = sym (rw (full z) (first_some (number_of NoFreePlace) _ (λ y. omega arith)))

  pub some_place : (p ≡ 0 → ⊥) → entry_refusal b ≡ number_refusal b
  unfolding entry_refusal place_refusal
  some_place n = first_none _ _ (is_unless _ NoFreePlace (rw (← e, ne_eqb p 0 n))) ∙ first_last (number_refusal b)

-- ---- releases

module _ (b : Book) (number : ℕ) where
  pub none_held : number ≡ 0 → number_of NoSuchEntry ≡ held_refusal b number
  unfolding held_refusal
  none_held z = sym (unless_not _ NoSuchEntry (rw (eq-eqb _ _ z)))

  module _ (p : ℕ) (e : p ≡ place_of b.places number) (n : number ≡ 0 → ⊥) where
    pub not_held : p ≡ 0 → number_of NoSuchEntry ≡ held_refusal b number
    unfolding held_refusal
    not_held z = sym (unless_not _ NoSuchEntry (rw (ne_eqb _ _ n, ← e, z)))

    pub is_held : (p ≡ 0 → ⊥) → 0 ≡ held_refusal b number
    unfolding held_refusal
    is_held m = sym (is_unless _ NoSuchEntry (rw (ne_eqb _ _ n, ← e, ne_eqb _ _ m)))

  -- the refusals of a book come before a release's own
  pub release_book : (book_refusal b ≡ 0 → ⊥) → book_refusal b ≡ release_refusal b number
  unfolding release_refusal book_refusal
  release_book n = row_first (hold_refusal b.hold) (rules_refusal b) (held_refusal b number ∷ []) n

  pub release_own : book_refusal b ≡ 0 → held_refusal b number ≡ release_refusal b number
  unfolding release_refusal book_refusal
  release_own z = sym (first_last (held_refusal b number)) ∙ row_past (hold_refusal b.hold) (rules_refusal b) _ z

-- ---- the book that a refused call answers, and an accepted one

pub after_refused : (b c : Book) (number : ℕ) → (number ≡ 0 → ⊥) → book_after b c number ≡ b
unfolding book_after
after_refused b c number n = rw (ne_eqb number 0 n)

pub after_accepted : (b c : Book) (number : ℕ) → number ≡ 0 → book_after b c number ≡ c
unfolding book_after
after_accepted b c number e = rw e
