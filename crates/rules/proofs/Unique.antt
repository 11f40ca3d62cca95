-- Each contract leaves one answer: any two that it admits are equal. Stated of the contracts as the check reads them, not of a copy.
use Rattle.std.proofs.Common.{◌≡◌, sym, ap, ◌∙◌, ℕ, true, Result, Ok, Err, IfOk, arith}
use Rattle.std.proofs.Math.Bool.{Bool-set}
use mathlib.Core.HLevel.{is_prop→PathP}
use borrow.Fn.Kinds as K
use Rattle.words.specs.Refusal.{verdict_number}
use Rattle.words.specs.declared.Refusal.{Refusal}
use Rattle.words.proofs.Order.{number_one, number_some, verdict_one, answers_one}
use Rattle.rules.specs.declared.Table.{Table}
use Rattle.rules.specs.declared.State.{State}
use Rattle.rules.specs.declared.fit.Fit.{Fit}
use Rattle.rules.specs.Table.{table_fits}
use Rattle.rules.specs.State.{state_fits}
use Rattle.rules.specs.Room.{bytes_told}
use Rattle.rules.proofs.Table.check.Reads as table-check
use Rattle.rules.proofs.Table.check.Kinds as table-check-kinds
use Rattle.rules.proofs.Table.is_head.Reads as table-is_head
use Rattle.rules.proofs.Table.is_head.Kinds as table-is_head-kinds
use Rattle.rules.proofs.State.check.Reads as state-check
use Rattle.rules.proofs.State.check.Kinds as state-check-kinds
use Rattle.rules.proofs.State.fresh.Reads as state-fresh
use Rattle.rules.proofs.State.fresh.Kinds as state-fresh-kinds
use Rattle.rules.proofs.fit.Fit.of.Reads as fit-of
use Rattle.rules.proofs.fit.Fit.of.Kinds as fit-of-kinds
use Rattle.rules.proofs.State.blank.Reads as state-blank
use Rattle.rules.proofs.State.blank.Kinds as state-blank-kinds
use Rattle.rules.proofs.Calendar.empty.Reads as calendar-empty
use Rattle.rules.proofs.Calendar.empty.Kinds as calendar-empty-kinds
use Rattle.rules.proofs.Calendar.waiting.Reads as calendar-waiting
use Rattle.rules.proofs.Calendar.waiting.Kinds as calendar-waiting-kinds
use Rattle.rules.proofs.Phase.number.Reads as phase-number
use Rattle.rules.proofs.Phase.number.Kinds as phase-number-kinds
use Rattle.rules.proofs.Phase.slot.Reads as phase-slot
use Rattle.rules.proofs.Phase.slot.Kinds as phase-slot-kinds

-- a number and a count of bytes make one answer of a writer
pub written_one : (r q : Result ℕ Refusal) → verdict_number r ≡ verdict_number q → bytes_told r ≡ bytes_told q → r ≡ q
written_one (Ok a) (Ok b) e f = ap Ok f
written_one (Ok a) (Err y) e f = absurd (omega (arith, number_some y))
written_one (Err x) (Ok b) e f = absurd (omega (arith, number_some x))
written_one (Err x) (Err y) e f = ap Err (number_one x y e)

pub table_check_one : (a : K.Dens tt table-check-kinds.ps) (r q : _) (s u : _) → table-check.Post tt a r s → table-check.Post tt a q u → r ≡ q
table_check_one a r q s u p e = verdict_one r q (p ∙ sym e)

pub table_is_head_one : (a : K.Dens tt table-is_head-kinds.ps) (r q : _) (s u : _) → table-is_head.Post tt a r s → table-is_head.Post tt a q u → r ≡ q
table_is_head_one a r q s u p e = p ∙ sym e

pub state_check_one : (a : K.Dens tt state-check-kinds.ps) (r q : _) (s u : _) → state-check.Post tt a r s → state-check.Post tt a q u → r ≡ q
state_check_one a r q s u p e = verdict_one r q (p ∙ sym e)

pub state_fresh_one : (a : K.Dens tt state-fresh-kinds.ps) (r q : _) (s u : _) → state-fresh.Post tt a r s → state-fresh.Post tt a q u → r ≡ q
state_fresh_one a r q s u p e = answers_one r q _ _ p e

-- two pairs of one table and one state are one: that they fit is a fact, and adds nothing
fit_one : (r q : Fit) → r.table ≡ q.table → r.state ≡ q.state → r ≡ q
fit_one r q e f = λ i. record {
  table = e i;
  state = f i;
  table_fits = is_prop→PathP (λ j. table_fits (e j) ≡ true) (λ j. Bool-set (table_fits (e j)) true) r.table_fits q.table_fits i;
  state_fits = is_prop→PathP (λ j. state_fits (e j) (f j) ≡ true) (λ j. Bool-set (state_fits (e j) (f j)) true) r.state_fits q.state_fits i;
}

found_one : (t : Table) (s : State) (r q : Result Fit Refusal) → verdict_number r ≡ verdict_number q → IfOk r (λ f. f.table ≡ t) → IfOk r (λ f. f.state ≡ s) → IfOk q (λ f. f.table ≡ t) → IfOk q (λ f. f.state ≡ s) → r ≡ q
found_one t s (Ok a) (Ok b) n p d e f = ap Ok (fit_one a b (p ∙ sym e) (d ∙ sym f))
found_one t s (Ok a) (Err y) n p d e f = absurd (omega (arith, number_some y))
found_one t s (Err x) (Ok b) n p d e f = absurd (omega (arith, number_some x))
found_one t s (Err x) (Err y) n p d e f = ap Err (number_one x y n)

pub fit_of_one : (a : K.Dens tt fit-of-kinds.ps) (r q : _) (s u : _) → fit-of.Post tt a r s → fit-of.Post tt a q u → r ≡ q
fit_of_one a r q s u p e = found_one _ _ r q (p.0 ∙ sym e.0) p.1.0 p.1.1 e.1.0 e.1.1

pub state_blank_one : (a : K.Dens tt state-blank-kinds.ps) (r q : _) (s u : _) → state-blank.Post tt a r s → state-blank.Post tt a q u → r ≡ q
state_blank_one a r q s u p e = p ∙ sym e

pub calendar_empty_one : (a : K.Dens tt calendar-empty-kinds.ps) (r q : _) (s u : _) → calendar-empty.Post tt a r s → calendar-empty.Post tt a q u → r ≡ q
calendar_empty_one a r q s u p e = p ∙ sym e

pub calendar_waiting_one : (a : K.Dens tt calendar-waiting-kinds.ps) (r q : _) (s u : _) → calendar-waiting.Post tt a r s → calendar-waiting.Post tt a q u → r ≡ q
calendar_waiting_one a r q s u p e = p ∙ sym e

pub phase_number_one : (a : K.Dens tt phase-number-kinds.ps) (r q : _) (s u : _) → phase-number.Post tt a r s → phase-number.Post tt a q u → r ≡ q
phase_number_one a r q s u p e = p ∙ sym e

pub phase_slot_one : (a : K.Dens tt phase-slot-kinds.ps) (r q : _) (s u : _) → phase-slot.Post tt a r s → phase-slot.Post tt a q u → r ≡ q
phase_slot_one a r q s u p e = p ∙ sym e
