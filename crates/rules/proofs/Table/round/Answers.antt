use Rattle.std.proofs.Common.{refl, arith}
use Rattle.rules.proofs.Waits.{slots_le}
use Rattle.rules.specs.Table.{round}
use Rattle.rules.proofs.Table.round.Goals as goal

pub overflow_mul-result : goal.overflow_mul-result
overflow_mul-result c = let t = c.args.self in omega (arith, slots_le {n = t.n} {s = t.s} (omega arith) (omega arith))

pub returns : goal.returns
unfolding round
returns c = refl
