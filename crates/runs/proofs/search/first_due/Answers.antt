use Rattle.std.proofs.Common.{sym, ◌∙◌, rules}
use Rattle.runs.proofs.Laws.{found_none, found_timer, found_hear, found_later, quiet_at, quiet_first}
use Rattle.runs.proofs.search.first_due.Goals as goal

pub loop-i-init : goal.loop-i-init
loop-i-init c = (search rules, search rules, c.requires.2)

pub loop-i-preserved : goal.loop-i-preserved
loop-i-preserved c = (search rules, search rules, found_later _ _ _ _ c.loop-i.invariant.2 (search rules) (sym c.hear_due.ensures ∙ c.if-hear_due.false))

pub returns-then-i-n : goal.returns-then-i-n
returns-then-i-n c = record { first = found_none _ _ _ _ _ c.loop-i.invariant.2 (search rules); quiet = quiet_first _ _ _ }

pub returns-then-timeouts-i : goal.returns-then-timeouts-i
returns-then-timeouts-i c = record { first = found_timer _ _ _ _ _ c.loop-i.invariant.2 (search rules) (search rules); quiet = quiet_at _ _ _ _ (search rules) c.loop-i.invariant.2 }

pub returns-then-hear_due : goal.returns-then-hear_due
returns-then-hear_due c = record { first = found_hear _ _ _ _ _ c.loop-i.invariant.2 (search rules) (search rules) (sym c.hear_due.ensures ∙ c.if-hear_due.true); quiet = quiet_at _ _ _ _ (search rules) c.loop-i.invariant.2 }
