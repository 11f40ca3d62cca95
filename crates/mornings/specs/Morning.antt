-- Document 02, P4: calls on a book, one after the other, and mornings of steps and calls.
use Rattle.std.specs.Prelude.{◌≡◌, List, [], ◌∷◌, ℕ}
use Rattle.words.specs.declared.Step.{Step}
use Rattle.rules.specs.declared.State.{State}
use Rattle.rules.specs.declared.Table.{Table}
use Rattle.rules.specs.Judge.{judged}
use Rattle.book.specs.declared.Book.{Book}
use Rattle.book.specs.Calls.{release_refusal, release_answer}
use Rattle.single_beam.specs.Break.{break_refusal, break_answer}
use Rattle.kept.specs.Post.{Post}

-- ---- calls on a book

-- "A break is a head and the clock of the state offered with it": offered with any table and any state. And a release, of any number.
pub data Call : Type 0 where
  break : Table → State → ℕ → Call
  release : ℕ → Call

-- the refusal of a call, 0 where it is accepted, and the book that it answers
unfoldable pub refusal_of : Book → Call → ℕ
refusal_of b (break t s i) = break_refusal t s b i
refusal_of b (release number) = release_refusal b number

unfoldable pub answer : Book → Call → Book
answer b (break t s i) = break_answer t s b i
answer b (release number) = release_answer b number

-- "Releasing an entry by number": the call is a release of that number, and it is accepted
pub data Releases (b : Book) : Call → ℕ → Type 0 where
  accepted : {number : ℕ} → release_refusal b number ≡ 0 → Releases b (release number) number

-- the single-beam post, as one of the kinds of post of kept: it keeps a book and nothing beside it
abbrev pub single_beam : Post
single_beam = record { Kept = Book; book_of = λ b. b; Call = Call; answer = answer; Frees = Releases }

-- ---- a morning: the heads step, beams break and crossings are released, in any order, with one table

pub data Act : Type 0 where
  steps : Step → Act
  breaks : ℕ → Act
  releases : ℕ → Act

-- the bench has a state and a book
pub record Bench : Type 0 where
  pub state : State
  pub book : Book

-- a step is judged on the state, a break is offered the state of that moment
unfoldable pub act : Table → Bench → Act → Bench
act t m (steps x) = record { state = judged t m.state x; book = m.book }
act t m (breaks i) = record { state = m.state; book = break_answer t m.state m.book i }
act t m (releases number) = record { state = m.state; book = release_answer m.book number }

unfoldable pub morning : Table → Bench → List Act → Bench
morning t m [] = m
morning t m (x ∷ xs) = morning t (act t m x) xs

-- its steps, and its calls
unfoldable pub steps_of : List Act → List Step
steps_of [] = []
steps_of (steps x ∷ rest) = x ∷ steps_of rest
steps_of (breaks i ∷ rest) = steps_of rest
steps_of (releases number ∷ rest) = steps_of rest

unfoldable pub calls_of : Table → State → List Act → List Call
calls_of t s [] = []
calls_of t s (steps x ∷ rest) = calls_of t (judged t s x) rest
calls_of t s (breaks i ∷ rest) = break t s i ∷ calls_of t s rest
calls_of t s (releases number ∷ rest) = release number ∷ calls_of t s rest
