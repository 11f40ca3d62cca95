use Rattle.std.proofs.Common.{rules, ◌∙◌, ◌+◌}
use Rattle.std.proofs.lemmas.Iterator.{YieldsList-from_slice}
use Rattle.std.proofs.lemmas.Iterator.Consumers.{YieldsList-from_enumerate}
use Rattle.std.proofs.lemmas.Iterator.Search.{all_from_yields_List}
use Rattle.rules.specs.Table.{wake_fits}
use Rattle.rules.proofs.Each.{all_every}
use Rattle.rules.proofs.Checks.{wake_place}
use Rattle.rules.proofs.tables.wakes_fit.Goals as goal

pub returns : goal.returns
returns c =
    let t = c.args.t in
    let seen = all_from_yields_List (λ p. wake_fits t.n (p.0 + 1) p.1) _ _ _ c.all.ensures.ran (YieldsList-from_enumerate (YieldsList-from_slice t.wakes (cc)) (cc)) (λ x b q k. search rules) in
    seen ∙ all_every (λ k w. wake_fits t.n (k + 1) w) 0 _ t.wakes _ (search rules) (λ k l. wake_place t k)
