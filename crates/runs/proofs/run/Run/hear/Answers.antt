use Rattle.std.proofs.Common.{refl, sym, ◌∙◌, arith}
use Rattle.words.specs.declared.Step.TheVariants.{Hear}
use Rattle.steps.proofs.Parts.{hear_sender}
use Rattle.runs.proofs.Stepping.{goes_on, hear_goes, hear_passes, keeps_fit}
use Rattle.runs.proofs.run.Run.hear.Goals as goal

pub leave-requires : goal.leave-requires
leave-requires c =
    let r = c.args.self.now in
    let k = hear_sender r.table r.state r.table_fits r.state_fits (Hear c.args.i) _ refl c.requires in
    omega arith

pub invariant_of-mover : goal.invariant_of-mover
invariant_of-mover c = let r = c.args.self.now in record { ready = hear_sender r.table r.state r.table_fits r.state_fits (Hear c.args.i) _ refl c.requires }

pub invariant_of-self : goal.invariant_of-self
invariant_of-self c =
    let r = c.args.self.now in
    let y = hear_goes r _ _ c.place-at.ensures c.requires _ c.leave.ensures _ c.hear_head-moved.ensures in
    record { table_fits = r.table_fits; state_fits = keeps_fit r _ _ _ y; beside = y.beside }

pub returns-then-heeds : goal.returns-then-heeds
returns-then-heeds c =
    let r = c.args.self.now in
    let y = hear_goes r _ _ c.place-at.ensures c.requires _ c.leave.ensures _ c.hear_head-moved.ensures in
    goes_on r _ (Hear c.args.i) y.accepted refl y.moves

pub invariant_of-self-else-heeds : goal.invariant_of-self-else-heeds
invariant_of-self-else-heeds c =
    let r = c.args.self.now in
    let y = hear_passes r _ _ c.place-at.ensures c.requires _ c.leave.ensures (sym c.heeds.ensures ∙ c.if-heeds.false) in
    record { table_fits = r.table_fits; state_fits = keeps_fit r _ _ _ y; beside = y.beside }

pub returns-else-heeds : goal.returns-else-heeds
returns-else-heeds c =
    let r = c.args.self.now in
    let y = hear_passes r _ _ c.place-at.ensures c.requires _ c.leave.ensures (sym c.heeds.ensures ∙ c.if-heeds.false) in
    goes_on r _ (Hear c.args.i) y.accepted refl y.moves
