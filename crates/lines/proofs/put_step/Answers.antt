use Rattle.std.proofs.Common.{refl, arith, rules}
use Rattle.lines.specs.Line.{letter_of}
use Rattle.lines.proofs.Written.{none_put, row_long, row_written, step_is}
use Rattle.lines.proofs.put_step.Goals as goal

pub returns-then-saturating_sub-need : goal.returns-then-saturating_sub-need
returns-then-saturating_sub-need c =
    let a = c.args in
    let e = step_is a.s a.x _ _ _ _ _ c.head-head.ensures c.head_at-h.ensures refl c.number-phase.ensures c.slot-slot.ensures in
    let k = row_long a.s.clock (letter_of a.x) c.head-head.result c.number-phase.result c.slot-slot.result c.head_at-h.result.timeout in
    rw (← e) (none_put a.room.now _ _ (omega (arith, k)) (omega (arith, k)))

pub returns : goal.returns
returns c =
    let a = c.args in
    let h = c.head_at-h.result in
    let e = step_is a.s a.x _ _ _ _ _ c.head-head.ensures c.head_at-h.ensures c.letter.ensures c.number-phase.ensures c.slot-slot.ensures in
    let k = row_long a.s.clock c.letter.result c.head-head.result c.number-phase.result c.slot-slot.result h.timeout in
    rw (← e) (row_written a.room.now a.at a.s.clock c.letter.result c.head-head.result c.number-phase.result c.slot-slot.result h.timeout
    (omega (arith, k)) (omega (arith, k)) _ (omega (arith, k))
    _ _ (c.number.ensures.at, c.number.ensures.room)
    _ _ (c.text.ensures.at, c.text.ensures.room)
    _ _ (c.number-2.ensures.at, c.number-2.ensures.room)
    _ _ (c.number-3.ensures.at, c.number-3.ensures.room)
    _ _ (c.number-4.ensures.at, c.number-4.ensures.room)
    _ _ (c.number-5.ensures.at, c.number-5.ensures.room)
    _ (search rules))
