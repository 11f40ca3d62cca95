-- Document 02, P4: the book rules once more, as conditions instead of tests. Nothing computes with these; that they say the same as the
-- tests is proved (proofs/Meaning.antt).
use Rattle.std.specs.Prelude.{◌≡◌, ℕ, ◌≤◌, length}
use Rattle.rules.specs.Limits.{max_heads}
use Rattle.book.specs.declared.Book.{Book}
use Rattle.book.specs.Limits.{all_places}
use Rattle.book.specs.Book.{no_entry, entry_at, number_at, last_crossing}

-- "A book has 256 places": p is one of them
pub record IsPlace (p : ℕ) : Type 0 where
  pub low : 1 ≤ p
  pub high : p ≤ all_places

-- a head, 1 to 64, whatever table it stands in: a book remembers a crossing for each
pub record AnyHead (i : ℕ) : Type 0 where
  pub low : 1 ≤ i
  pub high : i ≤ max_heads

-- place p holds an entry: its number is not 0
pub record Held (b : Book) (p : ℕ) : Type 0 where
  pub place : IsPlace p
  pub number : number_at b.places p ≡ 0 → ⊥

-- what a book must meet
pub record BookMeets (b : Book) : Type 0 where
  -- "A book has 256 places"
  pub places : length b.places ≡ all_places
  pub heads : length b.remembered ≡ max_heads
  -- not "a book whose held numbers repeat": two held places with one number are one place
  pub once : (p q : ℕ) → Held b p → Held b q → number_at b.places p ≡ number_at b.places q → p ≡ q
  -- not one "whose held [..] numbers aren't 1 to the last given"; a held number is not 0
  pub number_high : (p : ℕ) → Held b p → number_at b.places p ≤ b.given
  -- not one "whose held [..] crossings are later than its last break"
  pub tick : (p : ℕ) → Held b p → (entry_at b.places p).tick ≤ b.latest
  -- nor one "whose free places aren't zero"
  pub free : (p : ℕ) → IsPlace p → number_at b.places p ≡ 0 → entry_at b.places p ≡ no_entry
  -- the same of what is remembered: numbers at most the last given, "(0 remembers none)"
  pub last_number : (i : ℕ) → AnyHead i → (last_crossing b i).number ≤ b.given
  pub last_tick : (i : ℕ) → AnyHead i → ((last_crossing b i).number ≡ 0 → ⊥) → (last_crossing b i).tick ≤ b.latest
