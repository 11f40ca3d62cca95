-- Document 01's own example: "Table E: N 2, S 10, P 2, wakes 3 and 5. Its bytes `48 54 42 01 00 02 0A 00 02 00 03 00 00 00 05 00 00 00`".
use Rattle.std.proofs.Common.{◌≡◌, refl, [], ◌∷◌, replicate}
use Rattle.rules.specs.declared.Table.{Table}
use Rattle.rules.specs.Table.{wake_of}
use Rattle.octets.specs.Bytes.{bytes_of}
use Rattle.octets.specs.Fields.{in_bytes, joined}
use Rattle.table_images.specs.TableImage.{table_image}

abbrev pub table_e : Table
table_e = record { n = 2; s = 10; p = 2; wakes = 3 ∷ 5 ∷ replicate 62 0 }

-- the same bytes, in decimal
pub table_e_lem : table_image table_e ≡ 72 ∷ 84 ∷ 66 ∷ 1 ∷ 0 ∷ 2 ∷ 10 ∷ 0 ∷ 2 ∷ 0 ∷ 3 ∷ 0 ∷ 0 ∷ 0 ∷ 5 ∷ 0 ∷ 0 ∷ 0 ∷ []
unfolding table_image joined in_bytes bytes_of wake_of
table_e_lem = refl
