use Rattle.std.proofs.Common.{rules}
use Rattle.rules.specs.State.{blank}
use Rattle.octets.proofs.Cases.{answered}
use Rattle.state_images.proofs.read_fit.Goals as goal

pub returns : goal.returns
returns c = answered c.take_fit.result c.map_err.result _ _ blank c.take_fit.ensures c.map_err.ensures.cases (λ why e k. search rules)
