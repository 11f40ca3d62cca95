-- Document 01, "The `walk` listing": "Table E: N 2, S 10, P 2, wakes 3 and 5. Its bytes [..], followed by the pairs of the seventeen steps named below in that order, print:".
use Rattle.std.specs.Prelude.{◌≡◌, List, [], ◌∷◌, ◌++◌, ℕ}
use Rattle.lines.specs.Worked.{printed}
use Rattle.walk.specs.Listing.{listing}

abbrev pub table_e : List ℕ
table_e = 72 ∷ 84 ∷ 66 ∷ 1 ∷ 0 ∷ 2 ∷ 10 ∷ 0 ∷ 2 ∷ 0 ∷ 3 ∷ 0 ∷ 0 ∷ 0 ∷ 5 ∷ 0 ∷ 0 ∷ 0 ∷ []

abbrev pub steps : List ℕ
steps =
    0 ∷ 0 ∷ 1 ∷ 1 ∷ 0 ∷ 0 ∷ 1 ∷ 2 ∷ 0 ∷ 0 ∷ 1 ∷ 1 ∷ 0 ∷ 0 ∷ 2 ∷ 2 ∷ 0 ∷ 0 ∷ 1 ∷ 1 ∷ 0 ∷ 0 ∷ 2 ∷ 2 ∷ 0 ∷ 0 ∷ 1 ∷ 2 ∷ 0 ∷ 0 ∷ 2 ∷ 1 ∷ 0 ∷ 0 ∷ []

abbrev pub Worked : Type 0
Worked = listing (table_e ++ steps) ≡ printed
