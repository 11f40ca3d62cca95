-- Document 02, P4: what every book keeps, as claims about the definitions of book. None asks that the book was made by calls; where a claim
-- needs the book rules (BookMeets), or that an entry is the head's that remembers it (Own), it says so.
use Rattle.std.specs.Prelude.{◌≡◌, true, ℕ, suc, ◌+◌, ◌≤◌, ◌<◌}
use mathlib.Core.List.{List, [], ◌∷◌, Memᴰ}
use Rattle.words.specs.declared.Refusal.TheVariants.{NoFreePlace, NoSuchEntry, NoNumberLeft}
use Rattle.words.specs.Refusal.{number_of}
use Rattle.book.specs.declared.Entry.{Entry}
use Rattle.book.specs.declared.Book.{Book}
use Rattle.book.specs.Limits.{most_tails, last_number}
use Rattle.book.specs.Book.{no_entry, entry_at, number_at, last_crossing, empty_book, book_fits}
use Rattle.book.specs.Calls.{is_tail, tailed, entry_refusal, new_entry, new_crossing, entered, held_refusal, released}
use Rattle.kept.specs.Conditions.{IsPlace, AnyHead, Held, BookMeets}
use Rattle.kept.specs.Change.{Effect, frees, Row, given_in}

-- ---- the book rules

-- "25: a book whose held numbers repeat, [..]": the test says just what the conditions say
abbrev pub MeetsExactly : Type 0
MeetsExactly = (b : Book) → (book_fits b ≡ true → BookMeets b) × (BookMeets b → book_fits b ≡ true)

-- "A new book is empty, with no number given, nothing remembered and last break 0": it meets the rules, whatever its hold
abbrev pub EmptyMeets : Type 0
EmptyMeets = (hold : ℕ) → BookMeets (empty_book hold)

-- and calls keep them: a book made by calls is never refused with 25
abbrev pub KeepsRules : Type 0
KeepsRules = (b c : Book) (xs : List Effect) → BookMeets b → Row b xs c → BookMeets c

-- "a hold of H ticks": no call changes it, so none is refused with 15 on a book that was made
abbrev pub HoldStays : Type 0
HoldStays = (b c : Book) (xs : List Effect) → Row b xs c → c.hold ≡ b.hold

-- ---- entries

-- an entry and what it has become: its tail count aside, the same
pub record SameCrossing (e f : Entry) : Type 0 where
  pub number : f.number ≡ e.number
  pub head : f.head ≡ e.head
  pub tick : f.tick ≡ e.tick

-- "Until its release no call changes an entry's head or tick."
abbrev pub EntriesStay : Type 0
EntriesStay =
    (b c : Book) (xs : List Effect) (p : ℕ) → Held b p → Row b xs c → (Memᴰ (frees (number_at b.places p)) xs → ⊥) →
    SameCrossing (entry_at b.places p) (entry_at c.places p)

-- "If that head's last entered crossing is less than H ticks old, the break is a tail": a head that has one, at a clock less than H after it
abbrev pub Young : Book → ℕ → ℕ → Type 0
Young b i clock = ((last_crossing b i).number ≡ 0 → ⊥) × (clock < (last_crossing b i).tick + b.hold)

abbrev pub TailExactly : Type 0
TailExactly =
    (b : Book) (i clock : ℕ) → BookMeets b → AnyHead i → b.latest ≤ clock →
    (is_tail b i clock ≡ true → Young b i clock) × (Young b i clock → is_tail b i clock ≡ true)

-- "it adds one to that entry's tail count (which stays at 65,535)"
pub record OneMore (e f : Entry) : Type 0 where
  pub same : SameCrossing e f
  pub adds : e.tails < most_tails → f.tails ≡ suc e.tails
  pub stays : e.tails ≡ most_tails → f.tails ≡ most_tails

-- p is the place of head i's last entered crossing, which no release has freed
abbrev pub LastPlace : Book → ℕ → ℕ → Type 0
LastPlace b i p = Held b p × (number_at b.places p ≡ (last_crossing b i).number)

-- what a tail of head i at a clock changes; "if the entry was released it's counted nowhere"
pub record Counted (b c : Book) (i clock : ℕ) : Type 0 where
  pub counts : (p : ℕ) → LastPlace b i p → OneMore (entry_at b.places p) (entry_at c.places p)
  pub others : (p : ℕ) → (LastPlace b i p → ⊥) → entry_at c.places p ≡ entry_at b.places p
  pub nowhere : ((p : ℕ) → LastPlace b i p → ⊥) → c.places ≡ b.places
  pub latest : c.latest ≡ clock
  pub hold : c.hold ≡ b.hold
  pub given : c.given ≡ b.given
  pub remembered : c.remembered ≡ b.remembered

abbrev pub TailCounted : Type 0
TailCounted = (b : Book) (i clock : ℕ) → BookMeets b → ((last_crossing b i).number ≡ 0 → ⊥) → Counted b (tailed b i clock) i clock

-- ---- "it takes the lowest free place"

pub record LowestFree (b : Book) (p : ℕ) : Type 0 where
  pub place : IsPlace p
  pub free : number_at b.places p ≡ 0
  pub below : (q : ℕ) → IsPlace q → q < p → Held b q

-- the book c with it entered in place p of b at a clock: nothing else moves
pub record EnteredAt (b c : Book) (i tick clock p : ℕ) : Type 0 where
  pub entry : entry_at c.places p ≡ new_entry b i tick
  pub others : (q : ℕ) → (q ≡ p → ⊥) → entry_at c.places q ≡ entry_at b.places q
  pub last : last_crossing c i ≡ new_crossing b tick
  pub other_heads : (j : ℕ) → (j ≡ i → ⊥) → last_crossing c j ≡ last_crossing b j
  pub given : c.given ≡ suc b.given
  pub latest : c.latest ≡ clock
  pub hold : c.hold ≡ b.hold

abbrev pub TakesLowest : Type 0
TakesLowest =
    (b : Book) (i tick clock : ℕ) → BookMeets b → AnyHead i → entry_refusal b ≡ 0 →
    (p : ℕ) × (LowestFree b p × EnteredAt b (entered b i tick clock) i tick clock p)

-- "18: all places held": given exactly there
abbrev pub AllHeld : Book → Type 0
AllHeld b = (p : ℕ) → IsPlace p → Held b p

abbrev pub FullExactly : Type 0
FullExactly = (b : Book) → (entry_refusal b ≡ number_of NoFreePlace → AllHeld b) × (AllHeld b → entry_refusal b ≡ number_of NoFreePlace)

-- "20: number 4,294,967,295 already given, checked after 18": given exactly where a place is free and no number is left
abbrev pub SpentExactly : Type 0
SpentExactly =
    (b : Book) →
    (entry_refusal b ≡ number_of NoNumberLeft → (AllHeld b → ⊥) × (last_number ≤ b.given)) ×
    ((AllHeld b → ⊥) → last_number ≤ b.given → entry_refusal b ≡ number_of NoNumberLeft)

-- so a new entry is refused with neither exactly where a place is free and a number is left
abbrev pub Room : Book → Type 0
Room b = (AllHeld b → ⊥) × (b.given < last_number)

abbrev pub RoomExactly : Type 0
RoomExactly = (b : Book) → (entry_refusal b ≡ 0 → Room b) × (Room b → entry_refusal b ≡ 0)

-- ---- "Releasing an entry by number frees its place for use again; the head's last crossing is still remembered."

pub record FreedAt (b c : Book) (number p : ℕ) : Type 0 where
  pub held : Held b p
  pub its_number : number_at b.places p ≡ number
  pub free : entry_at c.places p ≡ no_entry
  pub others : (q : ℕ) → (q ≡ p → ⊥) → entry_at c.places q ≡ entry_at b.places q
  pub hold : c.hold ≡ b.hold
  pub given : c.given ≡ b.given
  pub latest : c.latest ≡ b.latest
  pub remembered : c.remembered ≡ b.remembered

abbrev pub FreesOne : Type 0
FreesOne = (b : Book) (number : ℕ) → held_refusal b number ≡ 0 → (p : ℕ) × FreedAt b (released b number) number p

-- "19: no such entry or number 0": given exactly where no place holds an entry with that number
abbrev pub Absent : Book → ℕ → Type 0
Absent b number = (p : ℕ) → Held b p → number_at b.places p ≡ number → ⊥

abbrev pub AbsentExactly : Type 0
AbsentExactly =
    (b : Book) (number : ℕ) →
    (held_refusal b number ≡ number_of NoSuchEntry → Absent b number) × (Absent b number → held_refusal b number ≡ number_of NoSuchEntry)

-- so a release is not refused with it exactly where some place holds one
abbrev pub Present : Book → ℕ → Type 0
Present b number = (p : ℕ) × (Held b p × (number_at b.places p ≡ number))

abbrev pub PresentExactly : Type 0
PresentExactly = (b : Book) (number : ℕ) → (held_refusal b number ≡ 0 → Present b number) × (Present b number → held_refusal b number ≡ 0)

-- ---- "with a number that rises from 1 and is never given twice"

-- one after the other, from the one after `last`; those of a new book are 1, 2, 3 ..
pub data RisesFrom : ℕ → List ℕ → Type 0 where
  rises_none : {last : ℕ} → RisesFrom last []
  rises_next : {last : ℕ} {rest : List ℕ} → RisesFrom (suc last) rest → RisesFrom last (suc last ∷ rest)

abbrev pub NumbersRise : Type 0
NumbersRise = (b c : Book) (xs : List Effect) → Row b xs c → RisesFrom b.given (given_in xs)

pub data EachOnce : List ℕ → Type 0 where
  once_none : EachOnce []
  once_first : {n : ℕ} {rest : List ℕ} → (Memᴰ n rest → ⊥) → EachOnce rest → EachOnce (n ∷ rest)

-- none is given twice, and none that was given before
abbrev pub NeverTwice : Type 0
NeverTwice = (b c : Book) (xs : List Effect) → Row b xs c → EachOnce (given_in xs) × ((n : ℕ) → Memᴰ n (given_in xs) → b.given < n)

-- a number that was given and that no place holds is never held again
abbrev pub NeverAgain : Type 0
NeverAgain = (b c : Book) (xs : List Effect) (n : ℕ) → n ≤ b.given → Absent b n → Row b xs c → Absent c n

-- so the number of an entry that was released is never held again: "if the entry was released" its tails are "counted nowhere" from then on
abbrev pub ReleasedGone : Type 0
ReleasedGone =
    (b c : Book) (xs : List Effect) (number : ℕ) → BookMeets b → held_refusal b number ≡ 0 → Row (released b number) xs c → Absent c number

-- ---- whose tails an entry counts

-- an entry whose number head i remembers is head i's, at the tick that it remembers. No rule asks it of a book that is offered; calls keep it.
abbrev pub Own : Book → Type 0
Own b = (p i : ℕ) → AnyHead i → LastPlace b i p → ((entry_at b.places p).head ≡ i) × ((entry_at b.places p).tick ≡ (last_crossing b i).tick)

abbrev pub EmptyOwn : Type 0
EmptyOwn = (hold : ℕ) → Own (empty_book hold)

abbrev pub OwnEntries : Type 0
OwnEntries = (b c : Book) (xs : List Effect) → BookMeets b → Own b → Row b xs c → Own c

-- so a tail of head i changes no entry but one of head i's
abbrev pub OwnTails : Type 0
OwnTails =
    (b : Book) (i clock p : ℕ) → Own b → AnyHead i → ((last_crossing b i).number ≡ 0 → ⊥) →
    (entry_at (tailed b i clock).places p ≡ entry_at b.places p → ⊥) → (entry_at b.places p).head ≡ i
