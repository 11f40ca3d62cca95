-- The listing of table E, by computation.
use Rattle.std.proofs.Common.{refl}
use Rattle.rules.specs.State.{head_of}
use Rattle.lines.specs.Decimal.{decimal_in, decimal}
use Rattle.lines.specs.Line.{line_of, row_line, step_line, end_line}
use Rattle.lines.specs.Worked.{bytes, Worked}

pub worked : Worked
unfolding head_of decimal_in decimal line_of row_line step_line end_line bytes
worked = refl
