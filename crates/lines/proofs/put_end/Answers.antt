use Rattle.std.proofs.Common.{arith, rules}
use Rattle.lines.proofs.Written.{none_put, end_long, end_written}
use Rattle.lines.proofs.put_end.Goals as goal

pub returns-then-saturating_sub-need : goal.returns-then-saturating_sub-need
returns-then-saturating_sub-need c = let a = c.args in let k = end_long a.accepted a.refusal in none_put a.room.now _ _ (omega (arith, k)) (omega (arith, k))

pub returns : goal.returns
returns c =
    let a = c.args in
    let k = end_long a.accepted a.refusal in
    end_written a.room.now a.at a.accepted a.refusal (omega (arith, k)) (omega (arith, k)) _ (omega (arith, k))
    _ _ (c.text.ensures.at, c.text.ensures.room)
    _ _ (c.number.ensures.at, c.number.ensures.room)
    _ _ (c.number-2.ensures.at, c.number-2.ensures.room)
    _ (search rules)
