use Rattle.std.proofs.Common.{arith, rules, sym, ◌∙◌}
use Rattle.rules.proofs.Meaning.{table_meets, head_is}
use Rattle.rules.proofs.bounds.Bounds.frame_fits.Goals.{then-c-le-I_FRAME, else-c-le-I_FRAME}
use Rattle.rules.proofs.bounds.Bounds.frame_fits.Goals as goal

pub within-requires : goal.within-requires
within-requires c = let m = table_meets c.args.self.now.table.now c.args.self.now.table_fits in omega arith

pub has-requires : goal.has-requires
has-requires c = let m = table_meets c.args.self.now.table.now c.args.self.now.table_fits in elim c.if-c-le-I_FRAME.branch [
  | then-c-le-I_FRAME w ↦ let h = head_is c.args.self.now.table.now c.args.c.origin (sym w.is_head.ensures ∙ sym w.value-is ∙ c.if-is_head.true) in omega arith
  | else-c-le-I_FRAME w ↦ search rules
]
