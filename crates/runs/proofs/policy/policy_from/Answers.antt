use Rattle.std.proofs.Common.{◌≡◌, refl, sym, ap, ◌∙◌, arith}
use Rattle.steps.specs.Parts.{place}
use Rattle.runs.specs.Open.{open_to}
use Rattle.runs.specs.Run.{stopped}
use Rattle.runs.specs.Chosen.{policy_from}
use Rattle.runs.proofs.Opens.{first_free}
use Rattle.runs.proofs.Laws.{policy_done}
use Rattle.runs.proofs.Turns.{policy_goes, policy_stops, found_within, quiet_below}
use Rattle.runs.proofs.policy.policy_from.Goals as goal

pub loop-taken-init : goal.loop-taken-init
unfolding open_to
loop-taken-init c = (omega arith, omega arith, refl, rw (c.on-run.ensures.table, c.on-run.ensures.state) (ap (policy_from c.args.fit.table c.args.fit.state 0) (omega arith)))

pub first_due-x-requires : goal.first_due-x-requires
first_due-x-requires c = (c.loop-taken.invariant.1, c.loop-taken.invariant.2)

pub take-requires : goal.take-requires
take-requires c = let r = c.loop-taken.run in first_free r.table r.state r.table_fits r.state_fits _ c.first_due-x.ensures.first

pub returns-in_default : goal.returns-in_default
returns-in_default c = let w = c.loop-taken in c.stopped.ensures ∙ policy_stops w.run c.take.new.self w.taken c.args.count w.invariant.3 c.loop-taken-test.true _ c.first_due-x.ensures.first c.take.result c.take.ensures _ c.in_default.is

pub loop-taken-preserved : goal.loop-taken-preserved
loop-taken-preserved c =
    let w = c.loop-taken in
    let m = c.loop-taken-test.true in
    let x = c.first_due-x.ensures in
    let p = c.from_after-from.ensures in
    let go = policy_goes w.run c.take.new.self w.taken c.args.count w.invariant.3 m _ x.first c.take.result c.take.ensures _ c.in-Ok.is in
    let within = found_within w.run c.take.new.self w.taken c.args.count w.invariant.3 m _ x.first c.take.result c.take.ensures _ c.in-Ok.is in
    let quiet = quiet_below w.run c.take.new.self w.taken c.args.count w.invariant.3 m _ x.first c.take.result c.take.ensures _ c.in-Ok.is x.quiet in
    (omega arith, rw p within, rw p quiet, go)

pub returns : goal.returns
returns c =
    let w = c.loop-taken in
    let e : w.taken ≡ c.args.count = omega arith in
    c.stopped-2.ensures ∙ ap (λ k. stopped w.run.state k 0) (sym e) ∙ policy_done w.run.table w.run.state w.run.table_fits w.run.state_fits w.taken c.args.count w.invariant.3 (omega arith)
