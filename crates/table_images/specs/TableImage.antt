-- Document 01, "The head table": the table image, and what reads as one.
use Rattle.std.specs.Prelude.{List, [], ◌∷◌, ◌++◌, ℕ, ◌+◌, ◌*◌, eqb, leb, length, replicate}
use Rattle.words.specs.declared.Refusal.TheVariants.{TableLength, TableMark, TableRange}
use Rattle.words.specs.Refusal.{unless, first_refusal}
use Rattle.rules.specs.declared.Table.{Table}
use Rattle.rules.specs.Each.{between}
use Rattle.rules.specs.Limits.{max_heads}
use Rattle.rules.specs.Table.{wake_of, table_refusal}
use Rattle.octets.specs.Bytes.{number_at}
use Rattle.octets.specs.Fields.{Field, bits16, bits32, letters_of, opening_fields, in_bytes, joined, place_of, places, is_marked, count_in, or_blank}

-- "mark `HTB`"
abbrev pub table_mark : ℕ
table_mark = letters_of 72 84 66

-- "Length is exactly 10 + 4N."
abbrev pub table_front : ℕ
table_front = 10

abbrev pub wake_length : ℕ
wake_length = 4

abbrev pub table_length : ℕ → ℕ
table_length n = table_front + wake_length * n

-- "mark `HTB` (3 bytes), version 1 (16 bits), N (8), S (16), P (16)"
abbrev pub table_fields : Table → List Field
table_fields t = opening_fields table_mark t.n ++ (bits16 t.s ∷ bits16 t.p ∷ [])

-- "then N wakes (32 each)": that of head i
abbrev pub wake_fields : Table → ℕ → List Field
wake_fields t i = bits32 (wake_of t i) ∷ []

unfoldable pub table_image : Table → List ℕ
table_image t = in_bytes (table_fields t) ++ joined t.n (λ i. in_bytes (wake_fields t i))

-- ---- reading

-- where S, P and the wake of head i stand
abbrev pub slot_place : ℕ
slot_place = 6

abbrev pub propagation_place : ℕ
propagation_place = 8

abbrev pub wake_place : ℕ → ℕ
wake_place i = place_of table_front wake_length i

-- the table whose numbers stand in l; "in a table record the wake places above N are zero"
unfoldable pub table_in : List ℕ → Table
table_in l = record { n = count_in l; s = number_at l slot_place 2; p = number_at l propagation_place 2; wakes = places 0 (λ i. number_at l (wake_place i) 4) (count_in l) }

-- "Order for a table image: under 10 bytes 1; 2; N 3; length 1; the other numbers 3."
unfoldable pub read_table_refusal : List ℕ → ℕ
read_table_refusal l =
    first_refusal
    (unless (leb table_front (length l)) TableLength
    ∷ unless (is_marked table_mark l) TableMark
    ∷ unless (between 1 max_heads (count_in l)) TableRange
    ∷ unless (eqb (length l) (table_length (count_in l))) TableLength
    ∷ table_refusal (table_in l)
    ∷ [])

-- "an all-zero record"
abbrev pub blank_table : Table
blank_table = record { n = 0; s = 0; p = 0; wakes = replicate max_heads 0 }

abbrev pub read_table : List ℕ → Table
read_table l = or_blank (read_table_refusal l) (table_in l) blank_table
