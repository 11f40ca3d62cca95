-- Document 02, P4: what a book keeps under any calls of a single-beam post, and what a morning keeps.
use Rattle.std.specs.Prelude.{◌≡◌, true, List, ℕ, ◌≤◌}
use Rattle.words.specs.declared.Refusal.TheVariants.{HoldRange, BookRule}
use Rattle.words.specs.Refusal.{number_of}
use Rattle.rules.specs.declared.State.{State}
use Rattle.rules.specs.declared.Table.{Table}
use Rattle.rules.specs.Table.{table_fits}
use Rattle.rules.specs.State.{state_fits, fresh}
use Rattle.book.specs.declared.Book.{Book}
use Rattle.book.specs.Limits.{longest_hold}
use Rattle.book.specs.Book.{empty_book, book_fits}
use Rattle.book.specs.Calls.{tailed, entered, held_refusal, release_refusal, released, release_answer}
use Rattle.single_beam.specs.Break.{break_refusal, break_answer}
use Rattle.kept.specs.Claims.{Young, Absent, Own}
use Rattle.kept.specs.Post.{EachChanges, after_calls, CallsKeep}
use Rattle.startup.specs.Demand.{played_from, InStep}
use Rattle.mornings.specs.Morning.{Call, refusal_of, answer, single_beam, Act, Bench, morning, steps_of, calls_of}
use Rattle.mornings.specs.Conditions.{May}

-- ---- one call

-- accepted exactly where the conditions of P4 hold
abbrev pub AcceptedExactly : Type 0
AcceptedExactly = (b : Book) (x : Call) → (refusal_of b x ≡ 0 → May b x) × (May b x → refusal_of b x ≡ 0)

-- each call is one of the changes of kept, and frees a number exactly where it is an accepted release of it
abbrev pub CallChanges : Type 0
CallChanges = EachChanges single_beam

-- "A refused call returns the book as it was given."
abbrev pub RefusedKept : Type 0
RefusedKept = (b : Book) (x : Call) → (refusal_of b x ≡ 0 → ⊥) → answer b x ≡ b

-- "If that head's last entered crossing is less than H ticks old, the break is a tail [..] Otherwise it takes the lowest free place": what a tail
-- and an entry do is said in kept (TailCounted, TakesLowest)
abbrev pub BreakFiles : Type 0
BreakFiles =
    (t : Table) (s : State) (b : Book) (i : ℕ) → break_refusal t s b i ≡ 0 →
    (Young b i s.clock → break_answer t s b i ≡ tailed b i s.clock) ×
    ((Young b i s.clock → ⊥) → break_answer t s b i ≡ entered b i s.clock s.clock)

-- "Releasing an entry by number frees its place": what it frees is said in kept (FreesOne)
abbrev pub ReleaseFrees : Type 0
ReleaseFrees = (b : Book) (number : ℕ) → release_refusal b number ≡ 0 → (held_refusal b number ≡ 0) × (release_answer b number ≡ released b number)

-- an accepted call answers a book that meets the book rules, whatever book it was given
abbrev pub AcceptedFits : Type 0
AcceptedFits = (b : Book) (x : Call) → refusal_of b x ≡ 0 → book_fits (answer b x) ≡ true

-- ---- calls one after the other

-- so all that kept says of calls one after the other holds of these (CallsKeep in its specs/Post.antt): the numbers given rise from 1 and none is
-- given twice, a number that is gone is never held again, and "Until its release no call changes an entry's head or tick."
abbrev pub CallsKept : Type 0
CallsKept = CallsKeep single_beam

-- a number whose release was accepted is never held again, whatever calls follow
abbrev pub ReleasedGone : Type 0
ReleasedGone =
    (b : Book) (number : ℕ) (xs : List Call) → release_refusal b number ≡ 0 → Absent (after_calls single_beam (release_answer b number) xs) number

-- what holds of a book made by calls, whatever tables, states, heads and numbers they are made with, from "a new book" with a hold of 1 to 1,000
pub record Made (b : Book) : Type 0 where
  pub fits : book_fits b ≡ true
  -- so no further call is refused with 15 or 25
  pub hold : (x : Call) → refusal_of b x ≡ number_of HoldRange → ⊥
  pub rules : (x : Call) → refusal_of b x ≡ number_of BookRule → ⊥
  -- and a tail is filed in its own head's crossing
  pub own : Own b

abbrev pub MadeFits : Type 0
MadeFits = (hold : ℕ) (xs : List Call) → 1 ≤ hold → hold ≤ longest_hold → Made (after_calls single_beam (empty_book hold) xs)

-- ---- mornings

-- "The book reads states and never changes them": the state is the one that the steps alone lead to. It holds by what `act` is; its content is that
-- a break and a release answer a book and no state.
abbrev pub StateOnlyRead : Type 0
StateOnlyRead = (t : Table) (m : Bench) (xs : List Act) → (morning t m xs).state ≡ played_from t m.state (steps_of xs)

-- and the book is the one that the calls alone lead to, each with the state of its moment, so all of the above holds of it
abbrev pub BookByCalls : Type 0
BookByCalls = (t : Table) (m : Bench) (xs : List Act) → (morning t m xs).book ≡ after_calls single_beam m.book (calls_of t m.state xs)

-- "so demands 2 and 3 stand": the state meets the state rules after any morning, if it did before,
abbrev pub MorningFits : Type 0
MorningFits = (t : Table) (m : Bench) (xs : List Act) → state_fits t m.state ≡ true → state_fits t (morning t m xs).state ≡ true

-- and is in step after any morning from power-up, with any book
abbrev pub MorningInStep : Type 0
MorningInStep = (t : Table) (b : Book) (xs : List Act) → table_fits t ≡ true → InStep t (morning t record { state = fresh t; book = b } xs).state
