use Rattle.std.proofs.Common.{refl, sym, ◌∙◌}
use Rattle.words.specs.declared.Step.TheVariants.{Timer}
use Rattle.steps.specs.Parts.{sent}
use Rattle.steps.proofs.Parts.{timer_sender}
use Rattle.runs.proofs.Stepping.{goes_on, timer_goes, keeps_fit}
use Rattle.runs.proofs.run.Run.timer.Goals as goal

pub invariant_of-mover : goal.invariant_of-mover
invariant_of-mover c = let r = c.args.self.now in record { ready = timer_sender r.table r.state r.table_fits r.state_fits (Timer c.args.i) _ refl c.requires }

pub invariant_of-self : goal.invariant_of-self
unfolding sent
invariant_of-self c =
    let r = c.args.self.now in
    let y = timer_goes r _ _ c.place-at.ensures c.requires _ (sym c.in-Some.is ∙ c.timer_frame.ensures) _ c.send-self.ensures _ c.timer_head-moved.ensures in
    record { table_fits = r.table_fits; state_fits = keeps_fit r _ _ _ y; beside = y.beside }

pub returns-in-Some : goal.returns-in-Some
unfolding sent
returns-in-Some c =
    let r = c.args.self.now in
    let y = timer_goes r _ _ c.place-at.ensures c.requires _ (sym c.in-Some.is ∙ c.timer_frame.ensures) _ c.send-self.ensures _ c.timer_head-moved.ensures in
    goes_on r _ (Timer c.args.i) y.accepted refl y.moves

pub invariant_of-self-in_default : goal.invariant_of-self-in_default
unfolding sent
invariant_of-self-in_default c =
    let r = c.args.self.now in
    let y = timer_goes r _ _ c.place-at.ensures c.requires _ (sym c.in_default.is ∙ c.timer_frame.ensures) _ refl _ c.timer_head-moved.ensures in
    record { table_fits = r.table_fits; state_fits = keeps_fit r _ _ _ y; beside = y.beside }

pub returns-in_default : goal.returns-in_default
unfolding sent
returns-in_default c =
    let r = c.args.self.now in
    let y = timer_goes r _ _ c.place-at.ensures c.requires _ (sym c.in_default.is ∙ c.timer_frame.ensures) _ refl _ c.timer_head-moved.ensures in
    goes_on r _ (Timer c.args.i) y.accepted refl y.moves
