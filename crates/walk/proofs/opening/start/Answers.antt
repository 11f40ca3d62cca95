use Rattle.std.proofs.Common.{refl}
use Rattle.walk.proofs.Opens.{starts}
use Rattle.walk.proofs.opening.start.Goals as goal

pub returns-clause-rest : goal.returns-clause-rest
returns-clause-rest c =
    let s = c.split_at.ensures in
    let r = c.read-verdict.ensures in
    starts c.args.input.now _ c.table_part.ensures.value _ s.front _ r.table r.verdict c.fresh_fit.ensures refl s.back
