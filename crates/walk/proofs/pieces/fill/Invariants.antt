use Rattle.std.proofs.Common.{length}
use Rattle.walk.proofs.Lays.{Going}
use Rattle.walk.proofs.pieces.fill.Given as goal

abbrev pub invariant-loop-here : goal.invariant-loop-here
invariant-loop-here l = Going l.initial.here l.here l.used l.room

abbrev pub decreases-loop-here : goal.decreases-loop-here
decreases-loop-here l = length l.here.pairs.now
