use Rattle.std.proofs.Common.{refl, arith, rules}
use Rattle.std.proofs.lemmas.Slice.{between_to_end}
use Rattle.walk.proofs.Lays.{some_put, rest_refused, rest_none, rest_lone, rest_stops, goes_on, waits}
use Rattle.walk.proofs.pieces.fill.Goals as goal

pub last-requires-clause-last : goal.last-requires-clause-last
last-requires-clause-last c = rest_refused c.args.from (search rules)

pub last-requires-in-Err-clause-last : goal.last-requires-in-Err-clause-last
last-requires-in-Err-clause-last c = let w = c.loop-here in rest_stops w.here w.invariant.judged c.in-len2-up.len_at_least _ c.read-x.ensures _ c.step.ensures c.in-Err.refused c.in-Err.is

pub returns-in_default-put_step : goal.returns-in_default-put_step
returns-in_default-put_step c = let w = c.loop-here in waits _ _ _ _ w.invariant _ _ c.in_default-put_step.ensures

pub overflow_add-used : goal.overflow_add-used
overflow_add-used c = omega (arith, (some_put _ _ _ _ c.in-Some.ensures).0)

pub loop-here-preserved : goal.loop-here-preserved
loop-here-preserved c =
    let w = c.loop-here in
    goes_on _ _ _ _ w.invariant c.in-len2-up.len_at_least _ c.read-x.ensures _ c.step.ensures _ c.in-Ok.is _ _ c.in-Some.ensures (search rules) _ refl refl refl refl (between_to_end w.here.pairs.now 2 _ (omega arith))

pub last-requires-then-is_empty-clause-last : goal.last-requires-then-is_empty-clause-last
last-requires-then-is_empty-clause-last c = let w = c.loop-here in rest_none w.here w.invariant.judged (search rules)

pub last-requires-else-is_empty-clause-last : goal.last-requires-else-is_empty-clause-last
last-requires-else-is_empty-clause-last c = let w = c.loop-here in rest_lone w.here w.invariant.judged (search rules) c.in_default.len_below
