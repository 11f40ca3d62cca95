use Rattle.std.proofs.Common.{sym, ◌∙◌, arith}
use Rattle.rules.proofs.Meaning.{head_is}
use Rattle.steps.proofs.hearing.verdict.Goals as goal

pub has-requires : goal.has-requires
has-requires c = let h = head_is c.args.t c.args.i (sym c.is_head.ensures ∙ c.if-not-is_head.false) in omega arith
