-- Document 02, P4 and P9: calls on a book, one after the other, whatever kind of post makes them, and what holds of them. "Places, numbers, release
-- and tail counts are those of P4, and what doesn't depend on the variant is proved once for both books." A crate of a post shows EachChanges of
-- its own calls and has CallsKeep.
use Rattle.std.specs.Prelude.{◌≡◌, cond, ℕ, ◌≤◌, ltb}
use mathlib.Core.List.{List, [], ◌∷◌, Memᴰ}
use Rattle.book.specs.declared.Book.{Book}
use Rattle.book.specs.Book.{entry_at, number_at, empty_book}
use Rattle.kept.specs.Conditions.{Held, BookMeets}
use Rattle.kept.specs.Change.{Effect, frees, Change, Row, given_in}
use Rattle.kept.specs.Claims.{SameCrossing, RisesFrom, EachOnce, Absent, Own}

-- ---- a kind of post

pub record Post : Type 1 where
  -- what it keeps: a book, and perhaps more beside it
  pub Kept : Type 0
  pub book_of : Kept → Book
  -- its calls, and what each answers
  pub Call : Type 0
  pub answer : Kept → Call → Kept
  -- this call is an accepted release of that number
  pub Frees : Kept → Call → ℕ → Type 0

-- what must be shown of a call: it changes the book as P4 says, and frees a number only where it is an accepted release of it, and there
pub record Changes (P : Post) (k : P.Kept) (x : P.Call) : Type 0 where
  pub effect : Effect
  pub change : Change (P.book_of k) effect (P.book_of (P.answer k x))
  pub only : (number : ℕ) → effect ≡ frees number → P.Frees k x number
  pub there : (number : ℕ) → P.Frees k x number → effect ≡ frees number

abbrev pub EachChanges : Post → Type 0
EachChanges P = (k : P.Kept) (x : P.Call) → Changes P k x

-- ---- calls one after the other

-- what is kept after them, each made on what the one before it answered; and the book in it
unfoldable pub after_calls : (P : Post) → P.Kept → List P.Call → P.Kept
after_calls P k [] = k
after_calls P k (x ∷ xs) = after_calls P (P.answer k x) xs

abbrev pub book_then : (P : Post) → P.Kept → List P.Call → Book
book_then P k xs = P.book_of (after_calls P k xs)

-- the numbers that they gave: the last given after each call that raised it
unfoldable pub with_raised : ℕ → ℕ → List ℕ → List ℕ
with_raised before after rest = cond (ltb before after) (after ∷ rest) rest

unfoldable pub numbers_given : (P : Post) → P.Kept → List P.Call → List ℕ
numbers_given P k [] = []
numbers_given P k (x ∷ xs) = with_raised (P.book_of k).given (P.book_of (P.answer k x)).given (numbers_given P (P.answer k x) xs)

-- along them a release of that number was accepted
pub data ReleasedIn (P : Post) : P.Kept → List P.Call → ℕ → Type 0 where
  now : {k : P.Kept} {x : P.Call} {rest : List P.Call} {number : ℕ} → P.Frees k x number → ReleasedIn P k (x ∷ rest) number
  later :
      {k : P.Kept} {x : P.Call} {rest : List P.Call} {number : ℕ} → ReleasedIn P (P.answer k x) rest number →
      ReleasedIn P k (x ∷ rest) number

-- ---- what holds of them

-- they are a row of changes, which gives the numbers that were given and frees only what was released
pub record Follows (P : Post) (k : P.Kept) (xs : List P.Call) (effects : List Effect) : Type 0 where
  pub row : Row (P.book_of k) effects (book_then P k xs)
  pub given : given_in effects ≡ numbers_given P k xs
  pub freed : (number : ℕ) → Memᴰ (frees number) effects → ReleasedIn P k xs number

abbrev pub CallsChange : Post → Type 0
CallsChange P = (k : P.Kept) (xs : List P.Call) → (effects : List Effect) × Follows P k xs effects

-- what holds of a book that calls made of "a new book" with this hold
pub record MadeBook (hold : ℕ) (b : Book) : Type 0 where
  -- never 25, and 15 only if the new book had it
  pub meets : BookMeets b
  pub hold_stays : b.hold ≡ hold
  -- a tail is filed in its own head's crossing
  pub own : Own b

abbrev pub MadeMeets : Post → Type 0
MadeMeets P = (k : P.Kept) (xs : List P.Call) (hold : ℕ) → P.book_of k ≡ empty_book hold → MadeBook hold (book_then P k xs)

-- "with a number that rises from 1 and is never given twice"
abbrev pub NumbersOnce : Post → Type 0
NumbersOnce P = (k : P.Kept) (xs : List P.Call) → RisesFrom (P.book_of k).given (numbers_given P k xs) × EachOnce (numbers_given P k xs)

-- a number that was given and that no place holds is never held again
abbrev pub NumbersGone : Post → Type 0
NumbersGone P = (k : P.Kept) (xs : List P.Call) (n : ℕ) → n ≤ (P.book_of k).given → Absent (P.book_of k) n → Absent (book_then P k xs) n

-- nor is one whose release was accepted
abbrev pub FreedGone : Post → Type 0
FreedGone P =
    (k : P.Kept) (x : P.Call) (xs : List P.Call) (number : ℕ) → BookMeets (P.book_of k) → P.Frees k x number →
    Absent (book_then P (P.answer k x) xs) number

-- "Until its release no call changes an entry's head or tick."
abbrev pub EntryKept : Post → Type 0
EntryKept P =
    (k : P.Kept) (xs : List P.Call) (p : ℕ) → Held (P.book_of k) p → (ReleasedIn P k xs (number_at (P.book_of k).places p) → ⊥) →
    SameCrossing (entry_at (P.book_of k).places p) (entry_at (book_then P k xs).places p)

pub record CallsKeep (P : Post) : Type 0 where
  pub change : CallsChange P
  pub made : MadeMeets P
  pub once : NumbersOnce P
  pub gone : NumbersGone P
  pub freed : FreedGone P
  pub entry : EntryKept P

-- all of it, of every kind of post whose calls are changes
abbrev pub EveryPost : Type 1
EveryPost = (P : Post) → EachChanges P → CallsKeep P
