use Rattle.std.proofs.Common.{◌≡◌}
use Rattle.octets.specs.Room.{stored}
use Rattle.octets.specs.Fields.{in_bytes, joined}
use Rattle.table_images.specs.TableImage.{table_front, wake_fields}
use Rattle.table_images.proofs.store_wakes.Given as goal

abbrev pub invariant-loop-k : goal.invariant-loop-k
invariant-loop-k l = l.room ≡ stored l.initial.room table_front (joined l.k (λ i. in_bytes (wake_fields l.fn.t i)))
