use Rattle.door.specs.Answers.{policy_outcome}
use Rattle.door.proofs.Laws.{never_ran}
use Rattle.door.proofs.vt_policy.Goals as goal

pub returns-in-Err : goal.returns-in-Err
unfolding policy_outcome
returns-in-Err c = never_ran c.args.table.now c.args.state.now _ _ _ _ c.in-Err.ensures.number c.answer.ensures
