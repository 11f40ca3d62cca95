use Rattle.runs.proofs.Gathers.{adds_one}
use Rattle.runs.proofs.listing.Pairs.push.Goals as goal

pub returns : goal.returns
returns c = adds_one c.args.self.now c.args.x c.requires _ c.kind.ensures _ c.head.ensures
