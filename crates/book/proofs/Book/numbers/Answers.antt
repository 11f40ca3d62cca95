use Rattle.std.proofs.Common.{refl, arith, rules}
use Rattle.book.specs.Book.{no_entry, number_in}
use Rattle.rules.proofs.Filled.{filled_more, filled_all}
use Rattle.book.proofs.Book.numbers.Goals as goal

pub loop-k-init : goal.loop-k-init
loop-k-init c = record { places = refl; so_far = λ j l. absurd (omega arith) }

pub loop-k-preserved : goal.loop-k-preserved
loop-k-preserved c = filled_more number_in no_entry _ _ _ _ (search rules) c.loop-k.invariant

pub returns : goal.returns
returns c = filled_all number_in no_entry _ _ _ _ (search rules) (search rules) c.loop-k.invariant
