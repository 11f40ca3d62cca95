-- Lent room while a writer is at work.
use Rattle.std.specs.Prelude.{List, [], ◌∷◌, ℕ, suc, set}

-- room once the bytes v are written from place k on
unfoldable pub stored : List ℕ → ℕ → List ℕ → List ℕ
stored room k [] = room
stored room k (b ∷ v) = stored (set room k b) (suc k) v
