use Rattle.std.proofs.Common.{◌∙◌, arith, append-nil}
use Rattle.walk.proofs.Lays.{some_put, none_put}
use Rattle.walk.proofs.pieces.last.Goals as goal

pub overflow_add-result : goal.overflow_add-result
overflow_add-result c = omega (arith, (some_put _ _ _ _ c.in-Some.ensures).0)

pub returns-in-Some-clause-bytes : goal.returns-in-Some-clause-bytes
returns-in-Some-clause-bytes c = omega (arith, (some_put _ _ _ _ c.in-Some.ensures).0, c.put_end.auto.room)

pub returns-in-Some-clause-rest : goal.returns-in-Some-clause-rest
returns-in-Some-clause-rest c = append-nil _ ∙ (some_put _ _ _ _ c.in-Some.ensures).1 ∙ rw (c.verdict_number.ensures, c.requires.last)

pub returns-in-None-clause-rest : goal.returns-in-None-clause-rest
returns-in-None-clause-rest c = rw (none_put _ _ _ _ c.in-None.ensures).0

pub returns-in-None-clause-ends : goal.returns-in-None-clause-ends
returns-in-None-clause-ends c = λ h. absurd (omega (arith, h, (none_put _ _ _ _ c.in-None.ensures).1, c.put_end.ensures.2))
