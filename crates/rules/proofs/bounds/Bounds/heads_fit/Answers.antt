use Rattle.std.proofs.Common.{rules, ◌∙◌, ◌+◌}
use Rattle.std.proofs.lemmas.Iterator.{YieldsList-from_slice}
use Rattle.std.proofs.lemmas.Iterator.Consumers.{YieldsList-from_enumerate}
use Rattle.std.proofs.lemmas.Iterator.Search.{all_from_yields_List}
use Rattle.rules.specs.State.{no_head, place_fits}
use Rattle.rules.proofs.Each.{all_every}
use Rattle.rules.proofs.Checks.{head_place}
use Rattle.rules.proofs.bounds.Bounds.heads_fit.Goals as goal

pub returns : goal.returns
returns c =
    let t = c.args.self.now.table.now in
    let s = c.args.self.now.clock in
    let seen = all_from_yields_List (λ p. place_fits t s (p.0 + 1) p.1) _ _ _ c.all.ensures.ran (YieldsList-from_enumerate (YieldsList-from_slice c.args.heads.now (cc)) (cc)) (λ x b q k. search rules) in
    seen ∙ all_every (λ k h. place_fits t s (k + 1) h) no_head _ c.args.heads.now _ (search rules) (λ k l. head_place t s c.args.heads.now k)
