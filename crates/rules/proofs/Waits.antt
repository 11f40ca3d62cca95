-- How large the waits of a table can be: they fit thirty-two bits whatever the table holds, and stay small where it fits.
use Rattle.std.proofs.Common.{ℕ, ◌*◌, ◌≤◌, mul-le-mul, arith}
use Rattle.rules.specs.declared.Table.{Table}
use Rattle.rules.specs.Table.{round, offset}
use Rattle.rules.specs.State.{listen_wait, coldstart_wait}

-- slots of any table: at most 255 of them, each below 2 ^ 16
pub slots_le : {n s : ℕ} → n ≤ 255 → s ≤ 65535 → n * s ≤ 16711425
slots_le a b = mul-le-mul a b

pub round_le : (t : Table) → t.n ≤ 255 → t.s ≤ 65535 → round t ≤ 16711425
unfolding round
round_le t a b = slots_le a b

pub offset_le : (t : Table) (i : ℕ) → i ≤ 255 → t.s ≤ 65535 → offset t i ≤ 16711425
unfolding offset
offset_le t i a b = slots_le (omega arith) b

-- the waits of a table that fits, against the clock's ceiling
pub listen_le : (t : Table) (i : ℕ) → t.n ≤ 255 → t.s ≤ 65535 → i ≤ 255 → listen_wait t i ≤ 50134275
unfolding listen_wait
listen_le t i a b c = let r = round_le t a b in let o = offset_le t i c b in omega arith

pub coldstart_le : (t : Table) (i : ℕ) → t.n ≤ 255 → t.s ≤ 65535 → i ≤ 255 → coldstart_wait t i ≤ 50134275
unfolding coldstart_wait
coldstart_le t i a b c = let r = round_le t a b in let o = offset_le t i c b in omega arith
