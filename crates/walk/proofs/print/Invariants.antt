use Rattle.std.proofs.Common.{◌≤◌, length, IfSome}
use Rattle.lines.specs.Line.{longest_line}
use Rattle.walk.specs.Pieces.{Stands}
use Rattle.walk.proofs.Lays.{left_pairs}
use Rattle.walk.proofs.print.Given as goal

abbrev pub invariant-loop-next : goal.invariant-loop-next
invariant-loop-next l = (longest_line ≤ length l.room) × IfSome l.next Stands

abbrev pub decreases-loop-next : goal.decreases-loop-next
decreases-loop-next l = left_pairs l.next
