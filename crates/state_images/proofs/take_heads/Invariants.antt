use Rattle.std.proofs.Common.{◌≡◌, true}
use Rattle.rules.specs.Each.{every}
use Rattle.rules.specs.State.{no_head}
use Rattle.octets.proofs.Taken.{Taken}
use Rattle.state_images.specs.StateImage.{head_place, head_at, known_at}
use Rattle.state_images.proofs.take_heads.Given as goal

abbrev pub invariant-loop-k : goal.invariant-loop-k
invariant-loop-k l = (every l.k (λ i. known_at l.image (head_place i)) ≡ true) × Taken no_head (λ i. head_at l.image (head_place i)) l.n l.k l.head-items
