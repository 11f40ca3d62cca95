use Rattle.std.proofs.Common.{refl, ◌∙◌}
use Rattle.words.specs.declared.Step.TheVariants.{Timer, Hear}
use Rattle.rules.proofs.Meaning.{table_meets}
use Rattle.steps.proofs.Parts.{same_timer, same_hear}
use Rattle.runs.proofs.run.Run.moving_verdict.Goals as goal

pub verdict-requires-in-Hear : goal.verdict-requires-in-Hear
verdict-requires-in-Hear c = let m = table_meets _ c.args.self.now.table_fits in m.heads

pub returns-in-Timer : goal.returns-in-Timer
returns-in-Timer c = let r = c.args.self.now in rw c.in-Timer.is (c.verdict.ensures ∙ same_timer r.table r.state r.table_fits r.state_fits (Timer c.in-Timer.i) _ _ c.place.ensures refl)

pub returns-in-Hear : goal.returns-in-Hear
returns-in-Hear c = let r = c.args.self.now in rw c.in-Hear.is (c.verdict-in-Hear.ensures ∙ same_hear r.table r.state r.table_fits r.state_fits (Hear c.in-Hear.i) _ refl)
