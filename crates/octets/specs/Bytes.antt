-- Numbers in bytes: "integers least byte first". One definition serves every width, which is counted in bytes.
use Rattle.std.specs.Prelude.{List, [], ◌∷◌, ℕ, zero, suc, ◌+◌, ◌*◌, ◌/◌, ◌%◌, ◌<◌, get_or}

-- the number x in so many bytes
unfoldable pub bytes_of : ℕ → ℕ → List ℕ
bytes_of zero x = []
bytes_of (suc width) x = x % 256 ∷ bytes_of width (x / 256)

-- the number that so many bytes make, from place k of l on
unfoldable pub number_at : List ℕ → ℕ → ℕ → ℕ
number_at l k zero = 0
number_at l k (suc width) = get_or l k 0 + 256 * number_at l (suc k) width

-- what a list must be to be one of bytes
abbrev pub Bytes : List ℕ → Type 0
Bytes l = (i : ℕ) → get_or l i 0 < 256
