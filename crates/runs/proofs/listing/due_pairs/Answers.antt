use Rattle.std.proofs.Common.{◌++◌, ◌+◌, eqb, get_or, arith}
use Rattle.std.proofs.Common.{eq-eqb, ne_eqb}
use Rattle.words.specs.declared.Step.TheVariants.{Timer, Hear}
use Rattle.rules.specs.State.{no_head}
use Rattle.runs.specs.Open.{only_if, open_to}
use Rattle.runs.specs.Gathered.{Holds}
use Rattle.runs.proofs.Gathers.{holds_none, held_yes, held_no, held_to, held_more, held_next}
use Rattle.runs.proofs.listing.due_pairs.Goals.{then-s-k, else-s-k, then-hear_due, else-hear_due}
use Rattle.runs.proofs.listing.due_pairs.Goals as goal

pub loop-k-init : goal.loop-k-init
unfolding open_to
loop-k-init c = rw c.new-found.ensures holds_none

pub push-requires : goal.push-requires
push-requires c = let w = c.loop-k in let m = c.requires in let l = held_to w.found c.args.s w.k w.invariant in omega arith

pub push-requires-then-hear_due : goal.push-requires-then-hear_due
push-requires-then-hear_due c =
    let l = c.loop-k in
    let m = c.requires in
    let h : Holds c.if-s-k.found (open_to c.args.s l.k ++ only_if (eqb (get_or c.args.s.heads l.k no_head).timeout c.args.s.clock) (Timer (l.k + 1))) = elim c.if-s-k.branch [
      | then-s-k w ↦ rw w.found-is (held_yes _ _ _ _ _ l.invariant (eq-eqb _ _ w.if-s-k.true) w.push.ensures)
      | else-s-k w ↦ rw w.found-is (held_no _ _ _ _ l.invariant (ne_eqb _ _ w.if-s-k.false))
    ] in
    let u = held_more c.if-s-k.found c.args.s l.k _ _ h in
    omega arith

pub loop-k-preserved : goal.loop-k-preserved
loop-k-preserved c =
    let l = c.loop-k in
    let h : Holds c.if-s-k.found (open_to c.args.s l.k ++ only_if (eqb (get_or c.args.s.heads l.k no_head).timeout c.args.s.clock) (Timer (l.k + 1))) = elim c.if-s-k.branch [
      | then-s-k w ↦ rw w.found-is (held_yes _ _ _ _ _ l.invariant (eq-eqb _ _ w.if-s-k.true) w.push.ensures)
      | else-s-k w ↦ rw w.found-is (held_no _ _ _ _ l.invariant (ne_eqb _ _ w.if-s-k.false))
    ] in
    held_next _ _ l.k _ c.hear_due.ensures (elim c.if-hear_due.branch [
      | then-hear_due w ↦ rw w.found-is (held_yes _ _ _ _ (Hear (l.k + 1)) h w.if-hear_due.true w.push-then-hear_due.ensures)
      | else-hear_due w ↦ rw w.found-is (held_no _ _ _ (Hear (l.k + 1)) h w.if-hear_due.false)
    ])
