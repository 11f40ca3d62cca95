use Rattle.std.proofs.Common.{arith}
use Rattle.rules.proofs.Meaning.{table_meets}
use Rattle.rules.proofs.Waits.{listen_le, coldstart_le}
use Rattle.rules.proofs.bounds.Bounds.head_fits.Goals as goal

pub overflow_add-result : goal.overflow_add-result
overflow_add-result c =
    let a = c.args in
    let m = table_meets a.self.now.table.now a.self.now.table_fits in
    omega (arith, c.listen_wait.ensures, listen_le a.self.now.table.now a.i (omega arith) (omega arith) (omega arith))

pub overflow_add-result-in-Coldstart : goal.overflow_add-result-in-Coldstart
overflow_add-result-in-Coldstart c =
    let a = c.args in
    let m = table_meets a.self.now.table.now a.self.now.table_fits in
    omega (arith, c.coldstart_wait.ensures, coldstart_le a.self.now.table.now a.i (omega arith) (omega arith) (omega arith))
