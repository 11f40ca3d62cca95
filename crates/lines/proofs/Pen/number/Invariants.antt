use Rattle.std.proofs.Common.{◌≡◌, ◌-◌, ◌≤◌, length}
use Rattle.lines.specs.Decimal.{decimal}
use Rattle.lines.specs.Room.{over}
use Rattle.lines.proofs.Numbers.{last_digits}
use Rattle.lines.proofs.Pen.number.Given as goal

abbrev pub invariant-loop-k : goal.invariant-loop-k
invariant-loop-k l =
    (l.k-start ≤ l.k)
    × (l.self.room.ghost_name ≡ l.initial.self.room.ghost_name)
    × (length l.self.room.now ≡ length l.initial.self.room.now)
    × (over l.self.room.now l.k-start (last_digits (l.k - l.k-start) l.rest) ≡ over l.initial.self.room.now l.k-start (decimal l.n))
