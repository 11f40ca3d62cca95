use Rattle.std.proofs.Common.{◌∙◌, rules}
use Rattle.std.proofs.lemmas.Iterator.{YieldsList-from_slice}
use Rattle.std.proofs.lemmas.Iterator.Search.{all_from_yields_List}
use Rattle.book.specs.Book.{crossing_fits}
use Rattle.book.proofs.Rules.{crossings_row}
use Rattle.book.proofs.Book.crossings_fit.Goals as goal

pub returns : goal.returns
returns c =
    let b = c.args.self.now in
    all_from_yields_List (λ x. crossing_fits b.given b.latest x) _ _ _ c.all.ensures.ran (YieldsList-from_slice b.remembered (cc)) (λ x r q k. search rules) ∙ crossings_row b.given b.latest b.remembered (search rules)
