use Rattle.std.proofs.Common.{rules}
use Rattle.octets.proofs.Rows.{joined_none, joined_more}
use Rattle.state_images.specs.StateImage.{state_front, head_length}
use Rattle.state_images.proofs.Cases.{part_long, part_next}
use Rattle.state_images.proofs.store_heads.Goals as goal

pub loop-k-init : goal.loop-k-init
loop-k-init c = joined_none _ state_front _

pub loop-k-preserved : goal.loop-k-preserved
loop-k-preserved c = let w = c.loop-k in joined_more _ _ _ state_front head_length w.k _ _ (part_long c.args.s) w.invariant (part_next c.args.s w.k (search rules)) c.store_head.ensures
