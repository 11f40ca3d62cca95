use Rattle.std.proofs.Common.{◌∙◌, rules, arith}
use Rattle.runs.proofs.Turns.{left_short, given_on, given_stops, given_lone, given_done}
use Rattle.runs.proofs.given.run_given_fit.Goals as goal

pub returns-in_default-verdict : goal.returns-in_default-verdict
returns-in_default-verdict c = let w = c.loop-left in c.stopped.ensures ∙ given_stops w.run c.step-verdict.new.self w.accepted _ w.invariant.2 c.in-len2-up.len_at_least _ c.read.ensures c.step-verdict.result c.step-verdict.ensures _ c.in_default-verdict.is

pub loop-left-preserved : goal.loop-left-preserved
loop-left-preserved c = let w = c.loop-left in (w.invariant.0, (let q = left_short w.left.now c.in-len2-up.len_at_least in omega arith), given_on w.run c.step-verdict.new.self w.accepted _ w.invariant.2 c.in-len2-up.len_at_least _ c.read.ensures c.step-verdict.result c.step-verdict.ensures _ c.in-Ok.is)

pub returns-then-is_empty : goal.returns-then-is_empty
returns-then-is_empty c = let w = c.loop-left in c.stopped-then-is_empty.ensures ∙ given_done w.run.table w.run.state w.accepted _ w.invariant.2 (search rules)

pub returns-else-is_empty : goal.returns-else-is_empty
returns-else-is_empty c = let w = c.loop-left in c.stopped-else-is_empty.ensures ∙ given_lone w.run.table w.run.state w.accepted _ w.invariant.2 (search rules) c.in_default.len_below
