-- Document 02, P4: a break on a single-beam post. "A break is a head and the clock of the state offered with it."
use Rattle.std.specs.Prelude.{cond, [], ◌∷◌, ℕ}
use Rattle.words.specs.Refusal.{first_refusal}
use Rattle.rules.specs.declared.State.{State}
use Rattle.rules.specs.declared.Table.{Table}
use Rattle.rules.specs.Table.{table_refusal}
use Rattle.rules.specs.State.{state_refusal}
use Rattle.rules.specs.Judge.{record_refusal}
use Rattle.book.specs.declared.Book.{Book}
use Rattle.book.specs.Book.{hold_refusal, rules_refusal, book_refusal}
use Rattle.book.specs.Breaks.{clock_refusal, head_refusal, admit_refusal}
use Rattle.book.specs.Calls.{is_tail, tailed, entry_refusal, entered, book_after}

-- "18, 20: only where a new entry is needed"
unfoldable pub new_refusal : Book → ℕ → ℕ → ℕ
new_refusal b i clock = cond (is_tail b i clock) 0 (entry_refusal b)

-- the refusals of a break on a table, a state and a book that fit: 16, 17, then 18 and 20
unfoldable pub cross_refusal : Table → State → Book → ℕ → ℕ
cross_refusal t s b i = first_refusal (clock_refusal b s.clock ∷ head_refusal t s i ∷ new_refusal b i s.clock ∷ [])

-- those that a break has whether it is a tail or not, in their order: 3 and 6, 15 and 25, 16 and 17
unfoldable pub may_break_refusal : Table → State → Book → ℕ → ℕ
may_break_refusal t s b i = first_refusal (record_refusal t s ∷ book_refusal b ∷ admit_refusal t s b i ∷ [])

-- the refusals of a break, in their order: 3, 6, 15, 25, then those
unfoldable pub break_refusal : Table → State → Book → ℕ → ℕ
break_refusal t s b i = first_refusal (table_refusal t ∷ state_refusal t s ∷ hold_refusal b.hold ∷ rules_refusal b ∷ cross_refusal t s b i ∷ [])

-- "If that head's last entered crossing is less than H ticks old, the break is a tail [..] Otherwise it takes the lowest free place"
unfoldable pub crossed : Book → ℕ → ℕ → Book
crossed b i clock = cond (is_tail b i clock) (tailed b i clock) (entered b i clock clock)

-- the book that a break answers: "A refused call returns the book as it was given."
unfoldable pub break_answer : Table → State → Book → ℕ → Book
break_answer t s b i = book_after b (crossed b i s.clock) (break_refusal t s b i)
