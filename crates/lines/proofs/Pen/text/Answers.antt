use Rattle.std.proofs.Common.{arith}
use Rattle.lines.proofs.Over.{part_over}
use Rattle.lines.proofs.Pen.text.Goals as goal

pub returns-clause-room : goal.returns-clause-room
returns-clause-room c = rw c.copy_from_slice.ensures.after (part_over _ _ _ _ (omega arith))
