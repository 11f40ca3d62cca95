use Rattle.std.proofs.Common.{arith, rules}
use Rattle.std.proofs.lemmas.Grind.{common_steps}
use Rattle.octets.proofs.Rows.{length_bytes}
use Rattle.octets.proofs.Digits.{store_none, store_more, store_all, store_back}
use Rattle.octets.proofs.store.Goals as goal

pub loop-byte-init : goal.loop-byte-init
loop-byte-init c = grind (arith, common_steps, store_none)

pub loop-byte-preserved : goal.loop-byte-preserved
loop-byte-preserved c = let w = c.loop-byte in record { long = search rules; rest = store_more _ _ w.byte-index c.args.width w.rest (omega arith) w.invariant.rest }

pub returns : goal.returns
returns c =
    let a = c.args in
    let w = c.loop-byte in
    store_back _ _ _ a.at _ (omega arith) (omega (arith, length_bytes a.width a.x)) (store_all _ _ w.byte-index a.width w.rest (omega arith) w.invariant.rest)
