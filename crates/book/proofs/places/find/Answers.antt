use Rattle.std.proofs.Common.{eqb, rules}
use Rattle.std.proofs.lemmas.Iterator.{YieldsList-from_slice}
use Rattle.std.proofs.lemmas.Iterator.Search.{position_from_yields_List}
use Rattle.book.specs.Book.{no_entry, place_of}
use Rattle.book.proofs.Rows.{lowest_row}
use Rattle.book.proofs.places.find.Goals as goal

pub returns-clause-place : goal.returns-clause-place
unfolding place_of
returns-clause-place c =
    let es = c.args.es.now in
    let seen = position_from_yields_List (λ e. eqb e.number c.args.number) _ _ _ c.position.ensures.ran (YieldsList-from_slice es (cc)) (λ x b q k. search rules) in
    rw seen (lowest_row (λ e. eqb e.number c.args.number) no_entry es _ (search rules))
