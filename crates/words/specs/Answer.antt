-- Documents 01 and 02: what a call answers that may be refused, by number. "A refused step returns the given state, as does a run refused by 3
-- or 6"; "a reader's refusal, and the fresh state asked of an unfit table (3), returns an all-zero record"; "a refused call returns the book as it
-- was given".
use Rattle.std.specs.Prelude.{◌≡◌, ℕ, Result, Ok, Err}
use Rattle.words.specs.declared.answers.Refused.{Refused}
use Rattle.words.specs.Refusal.{number_of}

-- the number of an answer: 0 where it is accepted
abbrev pub answer_number : {A : Type 0} → Result A (Refused A) → ℕ
answer_number (Ok a) = 0
answer_number (Err r) = number_of r.why

-- the record of an answer: what the call came to, or what comes back with the refusal
abbrev pub answer_record : {A : Type 0} → Result A (Refused A) → A
answer_record (Ok a) = a
answer_record (Err r) = r.back

-- an answer by its number and its record
abbrev pub Answers : {A : Type 0} → Result A (Refused A) → ℕ → A → Type 0
Answers r number came = (answer_number r ≡ number) × (answer_record r ≡ came)
