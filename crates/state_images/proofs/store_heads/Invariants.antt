use Rattle.std.proofs.Common.{◌≡◌}
use Rattle.rules.specs.State.{head_of}
use Rattle.octets.specs.Room.{stored}
use Rattle.octets.specs.Fields.{in_bytes, joined}
use Rattle.state_images.specs.StateImage.{state_front, head_fields}
use Rattle.state_images.proofs.store_heads.Given as goal

abbrev pub invariant-loop-k : goal.invariant-loop-k
invariant-loop-k l = l.room ≡ stored l.initial.room state_front (joined l.k (λ i. in_bytes (head_fields (head_of l.fn.s.heads i))))
