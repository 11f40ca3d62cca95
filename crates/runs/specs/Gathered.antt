-- What the code gathers before it writes: the bytes of the step list, so far.
use Rattle.std.specs.Prelude.{◌≡◌, List, [], ◌∷◌, ◌++◌, ℕ, length, take, replicate}
use Rattle.words.specs.declared.Step.{Step}
use Rattle.runs.specs.declared.listing.Pairs.{Pairs}
use Rattle.runs.specs.Open.{step_bytes}

-- two steps of two bytes for each of sixty-four heads
abbrev pub most_bytes : ℕ
most_bytes = 256

abbrev pub no_pairs : Pairs
no_pairs = record { bytes = replicate most_bytes 0; used = 0 }

-- the pairs hold these steps and nothing else
pub record Holds (p : Pairs) (l : List Step) : Type 0 where
  pub places : length p.bytes ≡ most_bytes
  pub long : p.used ≡ length (step_bytes l)
  pub same : take p.used p.bytes ≡ step_bytes l

-- r holds what p holds, and then a step
abbrev pub Adds : Pairs → Step → Pairs → Type 0
Adds p x r = (l : List Step) → Holds p l → Holds r (l ++ (x ∷ []))
