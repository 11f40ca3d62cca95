-- One answer: whatever two answers a public function's contract admits for the same arguments are equal, and so is the lent room.
use Rattle.std.proofs.Common.{◌≡◌, sym, ◌∙◌, Result, ℕ}
use borrow.Fn.Kinds as K
use contract.Lifetimes.{Lfts}
use Rattle.words.specs.declared.Refusal.{Refusal}
use Rattle.words.specs.declared.answers.Refused.{Refused}
use Rattle.words.proofs.Order.{answers_one}
use Rattle.rules.specs.declared.Table.{Table}
use Rattle.rules.proofs.Unique.{written_one}
use Rattle.table_images.proofs.read.Reads as table-read
use Rattle.table_images.proofs.read.Kinds as table-read-kinds
use Rattle.table_images.proofs.write.Reads as table-write
use Rattle.table_images.proofs.write.Kinds as table-write-kinds

pub table_read_one : (κs : Lfts 1) (a : K.Dens κs table-read-kinds.ps) (r q : Result Table (Refused Table)) (s u : _) → table-read.Post κs a r s → table-read.Post κs a q u → r ≡ q
table_read_one κs a r q s u p e = answers_one r q _ _ p e

pub table_write_one : (κs : Lfts 1) (a : K.Dens κs table-write-kinds.ps) (r q : Result ℕ Refusal) (s u : _) → table-write.Post κs a r s → table-write.Post κs a q u
    → (r ≡ q) × (s.1.0.now ≡ u.1.0.now)
table_write_one κs a r q s u p e = (written_one r q (p.0 ∙ sym e.0) (p.1 ∙ sym e.1), p.2 ∙ sym e.2)
