use Rattle.std.proofs.Common.{refl, arith, ◌-◌}
use Rattle.rules.proofs.Waits.{slots_le}
use Rattle.rules.specs.Table.{offset}
use Rattle.rules.proofs.Table.offset.Goals as goal

pub overflow_mul-result : goal.overflow_mul-result
overflow_mul-result c = let a = c.args in omega (arith, slots_le {n = a.i - 1} {s = a.self.s} (omega arith) (omega arith))

pub returns : goal.returns
unfolding offset
returns c = refl
