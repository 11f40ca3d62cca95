-- Document 02, P4: what a call may do to a book, whatever kind of post makes it. A crate of a post proves that each of its calls is one of these.
use Rattle.std.specs.Prelude.{◌≡◌, List, [], ◌∷◌, ℕ, suc, ◌≤◌}
use Rattle.book.specs.declared.Book.{Book}
use Rattle.book.specs.Book.{last_crossing}
use Rattle.book.specs.Calls.{tailed, entry_refusal, entered, held_refusal, released}
use Rattle.kept.specs.Conditions.{AnyHead}

-- what a call does with numbers: nothing, or it gives one, or it frees the place of one
pub data Effect : Type 0 where
  none : Effect
  gives : ℕ → Effect
  frees : ℕ → Effect

pub data Change (b : Book) : Effect → Book → Type 0 where
  -- "A refused call returns the book as it was given."
  refused : Change b none b
  -- "the break is a tail": of the last crossing of head i, at a clock that is not below that of the last break. Whether a break is a tail is the
  -- post's matter: the single beam tests it against its head's last crossing, P9 against its post's.
  a_tail : (i clock : ℕ) → AnyHead i → ((last_crossing b i).number ≡ 0 → ⊥) → b.latest ≤ clock → Change b none (tailed b i clock)
  -- "it takes the lowest free place, with a number": a crossing of head i, at the clock or before it
  an_entry : (i tick clock : ℕ) → AnyHead i → tick ≤ clock → b.latest ≤ clock → entry_refusal b ≡ 0 →
      Change b (gives (suc b.given)) (entered b i tick clock)
  -- "Releasing an entry by number"
  a_release : (number : ℕ) → held_refusal b number ≡ 0 → Change b (frees number) (released b number)

-- changes one after the other
pub data Row : Book → List Effect → Book → Type 0 where
  no_more : {b : Book} → Row b [] b
  first : {b c d : Book} {x : Effect} {rest : List Effect} → Change b x c → Row c rest d → Row b (x ∷ rest) d

-- the numbers given along a row
unfoldable pub given_in : List Effect → List ℕ
given_in [] = []
given_in (none ∷ rest) = given_in rest
given_in (gives n ∷ rest) = n ∷ given_in rest
given_in (frees n ∷ rest) = given_in rest
