use Rattle.std.proofs.Common.{◌∙◌, ◌||◌, eqb, false, rules}
use Rattle.std.proofs.lemmas.Iterator.{YieldsList-from_slice}
use Rattle.std.proofs.lemmas.Iterator.Consumers.{fold_from_yields_List}
use Rattle.book.proofs.Rows.{seen_any}
use Rattle.book.proofs.places.stands.Goals as goal

pub returns : goal.returns
returns c =
    let a = c.args in
    fold_from_yields_List _ (λ s x. s || eqb x a.number) _ _ c.fold.ensures.ran (YieldsList-from_slice a.numbers.now (cc)) (λ s x b q k. search rules) ∙ seen_any (λ x. eqb x a.number) false a.numbers.now
