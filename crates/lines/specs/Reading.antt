-- What makes a text the right one: how a number is read back from it, and where its line ends. No contract cites this; that every text and line
-- of specs/Line.antt is so is proved (proofs/Reading.antt).
use Rattle.std.specs.Prelude.{◌≡◌, Bool, true, cond, ◌&&◌, List, [], ◌∷◌, ◌++◌, ℕ, ◌+◌, ◌-◌, ◌*◌, ◌<◌, eqb, length, get_or}
use Rattle.rules.specs.Each.{between}
use Rattle.lines.specs.Line.{space, lf}

-- the number that a row of digits says, read on from a number that the digits before it said
unfoldable pub read_on : ℕ → List ℕ → ℕ
read_on a [] = a
read_on a (d ∷ ds) = read_on (a * 10 + (d - 48)) ds

-- whether a text has digits only, `0` to `9`
unfoldable pub digits_only : List ℕ → Bool
digits_only [] = true
digits_only (d ∷ ds) = between 48 57 d && digits_only ds

-- how often the byte b stands in a text
unfoldable pub occurs : ℕ → List ℕ → ℕ
occurs b [] = 0
occurs b (d ∷ ds) = cond (eqb d b) 1 0 + occurs b ds

-- the text v says the number n in decimal: it is digits, one at least, that are read as n, and it starts with `0` only where it is `0` alone
pub record Says (v : List ℕ) (n : ℕ) : Type 0 where
  pub digits : digits_only v ≡ true
  pub some : 0 < length v
  pub value : read_on 0 v ≡ n
  pub lead : get_or v 0 0 ≡ 48 → v ≡ 48 ∷ []

-- the line v holds one LF, its last byte, and so many spaces
pub record Lined (v : List ℕ) (spaces : ℕ) : Type 0 where
  pub front : List ℕ
  pub ends : v ≡ front ++ (lf ∷ [])
  pub one : occurs lf front ≡ 0
  pub apart : occurs space v ≡ spaces
