-- The limits of document 01, "The head table", each number once.
use Rattle.std.specs.Prelude.{ℕ}

-- N: 1 to 64
abbrev pub max_heads : ℕ
max_heads = 64

-- S: 3 to 10,000
abbrev pub shortest_slot : ℕ
shortest_slot = 3

abbrev pub longest_slot : ℕ
longest_slot = 10_000

-- wake: 1 to 1,000,000
abbrev pub latest_wake : ℕ
latest_wake = 1_000_000

-- clock: 0 to 1,000,000,000
abbrev pub ceiling : ℕ
ceiling = 1_000_000_000
