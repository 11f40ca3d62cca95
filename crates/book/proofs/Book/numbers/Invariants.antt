use Rattle.book.specs.Limits.{all_places}
use Rattle.book.specs.Book.{no_entry, number_in}
use Rattle.rules.proofs.Filled.{Filled}
use Rattle.book.proofs.Book.numbers.Given as goal

abbrev pub invariant-loop-k : goal.invariant-loop-k
invariant-loop-k l = Filled number_in no_entry l.self.places all_places l.k l.numbers
