-- Document 02, P4: a book's places and what it remembers, the new book, and the rules that a book meets (15, 25).
use Rattle.std.specs.Prelude.{Bool, cond, not, ◌&&◌, ◌||◌, List, [], ◌∷◌, ℕ, suc, ◌-◌, eqb, leb, length, replicate, Option, Some, None}
use Rattle.words.specs.declared.Refusal.TheVariants.{HoldRange, BookRule}
use Rattle.words.specs.Refusal.{unless, first_refusal}
use Rattle.rules.specs.Limits.{max_heads}
use Rattle.rules.specs.Each.{between, every, some}
use Rattle.book.specs.declared.Entry.{Entry}
use Rattle.book.specs.declared.Crossing.{Crossing}
use Rattle.book.specs.declared.Book.{Book}
use Rattle.book.specs.Limits.{all_places, longest_hold}
use Rattle.book.specs.Rows.{at, lowest}

-- ---- places, and crossings remembered

-- a free place is zero
abbrev pub no_entry : Entry
no_entry = record { number = 0; tick = 0; head = 0; tails = 0 }

-- "0 remembers none"
abbrev pub no_crossing : Crossing
no_crossing = record { number = 0; tick = 0 }

-- the entry at a place, 1 to 256
abbrev pub entry_at : List Entry → ℕ → Entry
entry_at es p = at no_entry es p

-- its number: 0 where the place is free
abbrev pub number_in : Entry → ℕ
number_in e = e.number

abbrev pub number_at : List Entry → ℕ → ℕ
number_at es p = number_in (entry_at es p)

-- "that head's last entered crossing"
abbrev pub last_crossing : Book → ℕ → Crossing
last_crossing b i = at no_crossing b.remembered i

-- the place that holds a number, 0 where none does. A free place has number 0, so the place of 0 is "the lowest free place".
unfoldable pub place_of : List Entry → ℕ → ℕ
place_of es number = lowest all_places (λ p. eqb (number_at es p) number)

-- a place that the code found, by its index in the row: 0 where it found none
abbrev pub place_number : Option ℕ → ℕ
place_number None = 0
place_number (Some k) = suc k

-- ---- "A new book is empty, with no number given, nothing remembered and last break 0."

abbrev pub empty_book : ℕ → Book
empty_book hold = record {
  hold = hold;
  given = 0;
  latest = 0;
  remembered = replicate max_heads no_crossing;
  places = replicate all_places no_entry;
}

-- ---- "15: H outside 1 to 1,000"

unfoldable pub hold_refusal : ℕ → ℕ
hold_refusal hold = unless (between 1 longest_hold hold) HoldRange

-- a refusal where no book was given answers a blank record: the empty book with a hold of 0
unfoldable pub new_or_blank : ℕ → Book
new_or_blank hold = cond (between 1 longest_hold hold) (empty_book hold) (empty_book 0)

-- ---- "25: a book whose held numbers repeat, whose held or remembered numbers aren't 1 to the last given (0 remembers none), whose held or
-- remembered crossings are later than its last break, or whose free places aren't zero"

-- a held or remembered crossing: its number is one that was given, and its tick is not later than the last break
unfoldable pub known : ℕ → ℕ → ℕ → ℕ → Bool
known given latest number tick = between 1 given number && leb tick latest

-- whether a free place is zero; its number is
unfoldable pub is_zero : Entry → Bool
is_zero e = eqb e.tick 0 && (eqb e.head 0 && eqb e.tails 0)

-- whether the number of place p stands in a lower place too
unfoldable pub repeats : List Entry → ℕ → Bool
repeats es p = some (p - 1) (λ q. eqb (number_at es q) (number_at es p))

-- an entry, and whether its number repeats
unfoldable pub entry_fits : ℕ → ℕ → Entry → Bool → Bool
entry_fits given latest e again = cond (eqb e.number 0) (is_zero e) (known given latest e.number e.tick && not again)

unfoldable pub places_fit : ℕ → ℕ → List Entry → Bool
places_fit given latest es = every all_places (λ p. entry_fits given latest (entry_at es p) (repeats es p))

-- "(0 remembers none)"
unfoldable pub crossing_fits : ℕ → ℕ → Crossing → Bool
crossing_fits given latest c = eqb c.number 0 || known given latest c.number c.tick

unfoldable pub crossings_fit : ℕ → ℕ → List Crossing → Bool
crossings_fit given latest cs = every max_heads (λ i. crossing_fits given latest (at no_crossing cs i))

-- the book rules; a book has 256 places and remembers a crossing for each of sixty-four heads
unfoldable pub book_fits : Book → Bool
book_fits b =
    (eqb (length b.places) all_places && eqb (length b.remembered) max_heads)
    && (places_fit b.given b.latest b.places && crossings_fit b.given b.latest b.remembered)

unfoldable pub rules_refusal : Book → ℕ
rules_refusal b = unless (book_fits b) BookRule

-- the refusals of a book: 15, then 25
unfoldable pub book_refusal : Book → ℕ
book_refusal b = first_refusal (hold_refusal b.hold ∷ rules_refusal b ∷ [])
