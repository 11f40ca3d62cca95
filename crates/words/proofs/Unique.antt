-- Each contract leaves one answer: any two that it admits are equal. Stated of the contracts as the check reads them, not of a copy.
use Rattle.std.proofs.Common.{◌≡◌, sym, ◌∙◌}
use borrow.Fn.Kinds as K
use Rattle.words.proofs.Order.{refused_one}
use Rattle.words.proofs.Refusal.number.Reads as refusal-number
use Rattle.words.proofs.Refusal.number.Kinds as refusal-number-kinds
use Rattle.words.proofs.Refusal.with.Reads as refusal-with
use Rattle.words.proofs.Refusal.with.Kinds as refusal-with-kinds
use Rattle.words.proofs.answers.RefusalFromRefused.from.Reads as refusal-from
use Rattle.words.proofs.answers.RefusalFromRefused.from.Kinds as refusal-from-kinds
use Rattle.words.proofs.answers.verdict_number.Reads as verdict-number
use Rattle.words.proofs.answers.verdict_number.Kinds as verdict-number-kinds
use Rattle.words.proofs.Step.read.Reads as step-read
use Rattle.words.proofs.Step.read.Kinds as step-read-kinds
use Rattle.words.proofs.Step.kind.Reads as step-kind
use Rattle.words.proofs.Step.kind.Kinds as step-kind-kinds
use Rattle.words.proofs.Step.head.Reads as step-head
use Rattle.words.proofs.Step.head.Kinds as step-head-kinds

pub refusal_number_one : (a : K.Dens tt refusal-number-kinds.ps) (r q : _) (s u : _) → refusal-number.Post tt a r s → refusal-number.Post tt a q u → r ≡ q
refusal_number_one a r q s u p e = p ∙ sym e

pub refusal_with_one : (T : _) (L : _) (κs : _) (a : K.Dens κs (refusal-with-kinds.ps T L)) (r q : _) (s u : _) → refusal-with.Post T L κs a r s → refusal-with.Post T L κs a q u → r ≡ q
refusal_with_one T L κs a r q s u p e = refused_one r q (p.0 ∙ sym e.0) (p.1 ∙ sym e.1)

pub refusal_from_one : (T : _) (L : _) (d : _) (κs : _) (a : K.Dens κs (refusal-from-kinds.ps T L)) (r q : _) (s u : _) → refusal-from.Post T L d κs a r s → refusal-from.Post T L d κs a q u → r ≡ q
refusal_from_one T L d κs a r q s u p e = p ∙ sym e

pub verdict_number_one : (T : _) (L : _) (d : _) (κs : _) (a : K.Dens κs (verdict-number-kinds.ps T L)) (r q : _) (s u : _) → verdict-number.Post T L d κs a r s → verdict-number.Post T L d κs a q u → r ≡ q
verdict_number_one T L d κs a r q s u p e = p ∙ sym e

pub step_read_one : (a : K.Dens tt step-read-kinds.ps) (r q : _) (s u : _) → step-read.Post tt a r s → step-read.Post tt a q u → r ≡ q
step_read_one a r q s u p e = p ∙ sym e

pub step_kind_one : (a : K.Dens tt step-kind-kinds.ps) (r q : _) (s u : _) → step-kind.Post tt a r s → step-kind.Post tt a q u → r ≡ q
step_kind_one a r q s u p e = p ∙ sym e

pub step_head_one : (a : K.Dens tt step-head-kinds.ps) (r q : _) (s u : _) → step-head.Post tt a r s → step-head.Post tt a q u → r ≡ q
step_head_one a r q s u p e = p ∙ sym e
