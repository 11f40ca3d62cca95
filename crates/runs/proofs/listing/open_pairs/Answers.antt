use Rattle.std.proofs.Common.{rules, arith}
use Rattle.rules.proofs.Meaning.{table_meets}
use Rattle.runs.proofs.Lists.{pairs_due, pairs_none, pairs_advance}
use Rattle.runs.proofs.listing.open_pairs.Goals.{else-found-eq0-via-then-found-eq0+else-instant-le-CEILING, else-found-eq0-via-else-found-eq0}
use Rattle.runs.proofs.listing.open_pairs.Goals as goal

pub due_pairs-found-requires : goal.due_pairs-found-requires
due_pairs-found-requires c = let m = table_meets c.args.fit.table c.args.fit.table_fits in m.heads

pub instant-requires : goal.instant-requires
instant-requires c = let m = table_meets c.args.fit.table c.args.fit.table_fits in omega arith

pub returns-then-instant-le-CEILING : goal.returns-then-instant-le-CEILING
returns-then-instant-le-CEILING c = pairs_advance _ _ c.args.fit.table_fits c.args.fit.state_fits _ c.due_pairs-found.ensures _ c.timeouts.ensures _ c.instant.ensures (search rules) (search rules) _ c.push.ensures

pub returns-else-found-eq0 : goal.returns-else-found-eq0
returns-else-found-eq0 c = elim c.else-found-eq0.branch [
  | else-found-eq0-via-then-found-eq0+else-instant-le-CEILING w ↦ pairs_none _ _ c.args.fit.table_fits c.args.fit.state_fits _ c.due_pairs-found.ensures _ w.timeouts.ensures _ w.instant.ensures (search rules) (search rules)
  | else-found-eq0-via-else-found-eq0 w ↦ pairs_due _ _ c.args.fit.table_fits c.args.fit.state_fits _ c.due_pairs-found.ensures (search rules)
]
