-- One answer: whatever two answers a public function's contract admits for the same arguments are equal, and so is the lent room.
use Rattle.std.proofs.Common.{◌≡◌, sym, ◌∙◌, Result, ℕ}
use borrow.Fn.Kinds as K
use contract.Lifetimes.{Lfts}
use Rattle.words.specs.declared.Refusal.{Refusal}
use Rattle.words.specs.declared.answers.Refused.{Refused}
use Rattle.words.proofs.Order.{answers_one}
use Rattle.rules.specs.declared.State.{State}
use Rattle.rules.proofs.Unique.{written_one}
use Rattle.state_images.proofs.read.Reads as state-read
use Rattle.state_images.proofs.read.Kinds as state-read-kinds
use Rattle.state_images.proofs.write.Reads as state-write
use Rattle.state_images.proofs.write.Kinds as state-write-kinds

pub state_read_one : (κs : Lfts 1) (a : K.Dens κs state-read-kinds.ps) (r q : Result State (Refused State)) (s u : _) → state-read.Post κs a r s → state-read.Post κs a q u → r ≡ q
state_read_one κs a r q s u p e = answers_one r q _ _ p e

pub state_write_one : (κs : Lfts 1) (a : K.Dens κs state-write-kinds.ps) (r q : Result ℕ Refusal) (s u : _) → state-write.Post κs a r s → state-write.Post κs a q u
    → (r ≡ q) × (s.1.1.0.now ≡ u.1.1.0.now)
state_write_one κs a r q s u p e = (written_one r q (p.0 ∙ sym e.0) (p.1 ∙ sym e.1), p.2 ∙ sym e.2)
