-- Document 02, P4: what a tail, a new entry and a release do to a book, whatever kind of post the crossing comes from. (P9's post files its
-- tails, takes its places and numbers and releases its entries by these.)
use Rattle.std.specs.Prelude.{Bool, cond, not, ◌&&◌, List, [], ◌∷◌, ℕ, suc, ◌+◌, ◌-◌, min, eqb, ltb}
use Rattle.words.specs.declared.Refusal.TheVariants.{NoFreePlace, NoSuchEntry, NoNumberLeft}
use Rattle.words.specs.Refusal.{unless, first_refusal}
use Rattle.book.specs.declared.Entry.{Entry}
use Rattle.book.specs.declared.Crossing.{Crossing}
use Rattle.book.specs.declared.Book.{Book}
use Rattle.book.specs.Limits.{most_tails, last_number}
use Rattle.book.specs.Rows.{put}
use Rattle.book.specs.Book.{no_entry, entry_at, last_crossing, place_of, hold_refusal, rules_refusal}

-- ---- the book that a call answers

-- "A refused call returns the book as it was given."
unfoldable pub book_after : Book → Book → ℕ → Book
book_after given next number = cond (eqb number 0) next given

-- ---- a tail

-- "If that head's last entered crossing is less than H ticks old, the break is a tail"
unfoldable pub is_tail : Book → ℕ → ℕ → Bool
is_tail b i clock = not (eqb (last_crossing b i).number 0) && ltb (clock - (last_crossing b i).tick) b.hold

-- "it adds one to that entry's tail count (which stays at 65,535)"
unfoldable pub one_more : ℕ → ℕ
one_more tails = min (tails + 1) most_tails

abbrev pub more_tails : Entry → Entry
more_tails e = record { number = e.number; tick = e.tick; head = e.head; tails = one_more e.tails }

-- "and if the entry was released it's counted nowhere": no place has its number then, and nothing is put at place 0
unfoldable pub counted : List Entry → ℕ → List Entry
counted es number = put es (place_of es number) (more_tails (entry_at es (place_of es number)))

-- the book after a tail of head i's last crossing, with the clock for its last break
unfoldable pub tailed : Book → ℕ → ℕ → Book
tailed b i clock = record {
  hold = b.hold;
  given = b.given;
  latest = clock;
  remembered = b.remembered;
  places = counted b.places (last_crossing b i).number;
}

-- ---- a new entry

-- "18: all places held. 20: number 4,294,967,295 already given, checked after 18"
unfoldable pub place_refusal : Book → ℕ
place_refusal b = unless (not (eqb (place_of b.places 0) 0)) NoFreePlace

unfoldable pub number_refusal : Book → ℕ
number_refusal b = unless (ltb b.given last_number) NoNumberLeft

unfoldable pub entry_refusal : Book → ℕ
entry_refusal b = first_refusal (place_refusal b ∷ number_refusal b ∷ [])

-- the crossing of head i at a tick under the next number, "a number that rises from 1": as its place holds it, and as the head remembers it
abbrev pub new_entry : Book → ℕ → ℕ → Entry
new_entry b i tick = record { number = suc b.given; tick = tick; head = i; tails = 0 }

abbrev pub new_crossing : Book → ℕ → Crossing
new_crossing b tick = record { number = suc b.given; tick = tick }

-- "it takes the lowest free place": the book with that crossing, and with the clock for its last break
unfoldable pub entered : Book → ℕ → ℕ → ℕ → Book
entered b i tick clock = record {
  hold = b.hold;
  given = suc b.given;
  latest = clock;
  remembered = put b.remembered i (new_crossing b tick);
  places = put b.places (place_of b.places 0) (new_entry b i tick);
}

-- ---- "Releasing an entry by number frees its place for use again; the head's last crossing is still remembered."

-- "19: no such entry or number 0"
unfoldable pub held_refusal : Book → ℕ → ℕ
held_refusal b number = unless (not (eqb number 0) && not (eqb (place_of b.places number) 0)) NoSuchEntry

-- "for a release 15, 25, then 19"
unfoldable pub release_refusal : Book → ℕ → ℕ
release_refusal b number = first_refusal (hold_refusal b.hold ∷ rules_refusal b ∷ held_refusal b number ∷ [])

unfoldable pub released : Book → ℕ → Book
released b number = record {
  hold = b.hold;
  given = b.given;
  latest = b.latest;
  remembered = b.remembered;
  places = put b.places (place_of b.places number) no_entry;
}

-- the book that a release answers
unfoldable pub release_answer : Book → ℕ → Book
release_answer b number = book_after b (released b number) (release_refusal b number)
