use Rattle.std.proofs.Common.{◌≡◌, ◌+◌, ◌-◌, arith, rules}
use Rattle.octets.specs.Bytes.{number_at, Bytes}
use Rattle.octets.proofs.Digits.{number_small, number_folded}
use Rattle.octets.proofs.number.Goals as goal

pub returns : goal.returns
returns c =
    let a = c.args in
    let l = a.image.now in
    let bytes : Bytes l = λ i. (c.type_inv.image i).fits in
    let n : a.at + a.width - a.at ≡ a.width = omega arith in
    let e : c.fold.result ≡ number_at l a.at (a.at + a.width - a.at) = rw (← number_folded l bytes a.at (a.at + a.width - a.at) (omega arith) (omega arith)) (search rules) in
    let f = rw n at e in
    (f, rw f (number_small l bytes a.at a.width))
