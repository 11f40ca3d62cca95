use Rattle.std.proofs.Common.{rules}
use Rattle.octets.proofs.Rows.{joined_none, joined_more}
use Rattle.table_images.specs.TableImage.{table_front, wake_length}
use Rattle.table_images.proofs.Cases.{wake_long, wake_next}
use Rattle.table_images.proofs.store_wakes.Goals as goal

pub loop-k-init : goal.loop-k-init
loop-k-init c = joined_none _ table_front _

pub loop-k-preserved : goal.loop-k-preserved
loop-k-preserved c = let w = c.loop-k in joined_more _ _ _ table_front wake_length w.k _ _ (wake_long c.args.t) w.invariant (wake_next c.args.t w.k (search rules)) c.store.ensures
