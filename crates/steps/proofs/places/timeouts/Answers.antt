use Rattle.std.proofs.Common.{refl, arith, rules}
use Rattle.rules.specs.State.{no_head}
use Rattle.rules.proofs.Filled.{filled_more}
use Rattle.rules.proofs.Known.{state_places}
use Rattle.steps.proofs.Parts.{timeout_in, timeouts_all}
use Rattle.steps.proofs.places.timeouts.Goals as goal

pub loop-k-init : goal.loop-k-init
loop-k-init c = record { places = refl; so_far = λ j l. absurd (omega arith) }

pub loop-k-preserved : goal.loop-k-preserved
loop-k-preserved c = let w = c.loop-k in filled_more timeout_in no_head _ _ _ _ (search rules) w.invariant

pub returns : goal.returns
returns c = timeouts_all _ _ _ (state_places c.args.s _ c.well_formed.0) (search rules) c.loop-k.invariant
