use Rattle.std.proofs.Common.{refl, arith, rules}
use Rattle.rules.specs.declared.Phase.TheVariants.{Init}
use Rattle.rules.specs.Limits.{max_heads}
use Rattle.rules.specs.State.{head_in}
use Rattle.rules.proofs.Filled.{filled_more, filled_all}
use Rattle.rules.proofs.Known.{table_places}
use Rattle.rules.proofs.Checks.{fresh_made}
use Rattle.rules.proofs.State.fresh_fit.Goals as goal

pub loop-k-init : goal.loop-k-init
loop-k-init c = record { places = refl; so_far = λ j l. absurd (omega arith) }

pub loop-k-preserved : goal.loop-k-preserved
loop-k-preserved c = let w = c.loop-k in filled_more (head_in Init) 0 _ _ _ _ (search rules) w.invariant

pub returns : goal.returns
returns c = rw c.blank.ensures (fresh_made c.args.t _ _ refl (filled_all (head_in Init) 0 c.args.t.wakes max_heads _ _ (table_places c.args.t _ c.well_formed.0) (search rules) c.loop-k.invariant))
