-- Document 01, "The `walk` listing": "Numbers are decimal".
use Rattle.std.specs.Prelude.{cond, List, [], ◌∷◌, ◌++◌, ℕ, zero, suc, ◌+◌, ◌/◌, ◌%◌, ltb}

-- the last digit of n, as a byte: 48 is `0`
abbrev pub digit : ℕ → ℕ
digit n = n % 10 + 48

-- the text of n, by at most so many turns: below ten it is one digit, otherwise the text of a tenth of n and then the last digit
unfoldable pub decimal_in : ℕ → ℕ → List ℕ
decimal_in zero n = []
decimal_in (suc turns) n = cond (ltb n 10) (digit n ∷ []) (decimal_in turns (n / 10) ++ (digit n ∷ []))

-- the decimal text of n, the most significant digit first, with no leading zero: the only text that says n (specs/Reading.antt); n + 1 turns are enough
unfoldable pub decimal : ℕ → List ℕ
decimal n = decimal_in (suc n) n
