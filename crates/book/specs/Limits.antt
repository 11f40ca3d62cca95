-- The limits of document 02, P4, each number once.
use Rattle.std.specs.Prelude.{ℕ}

-- "A book has 256 places"
abbrev pub all_places : ℕ
all_places = 256

-- "H outside 1 to 1,000"
abbrev pub longest_hold : ℕ
longest_hold = 1_000

-- "tail count (which stays at 65,535)"
abbrev pub most_tails : ℕ
most_tails = 65_535

-- "number 4,294,967,295 already given"
abbrev pub last_number : ℕ
last_number = 4_294_967_295
