-- Document 01, "The `walk` listing": the listing of an input.
use Rattle.std.specs.Prelude.{cond, List, [], ◌∷◌, ◌++◌, ℕ, suc, min, eqb, length, get_or, take, drop}
use Rattle.words.specs.declared.Refusal.TheVariants.{NoSuchStep}
use Rattle.words.specs.Refusal.{number_of}
use Rattle.words.specs.Pair.{step_of}
use Rattle.rules.specs.declared.State.{State}
use Rattle.rules.specs.declared.Table.{Table}
use Rattle.rules.specs.Each.{between}
use Rattle.rules.specs.Limits.{max_heads}
use Rattle.rules.specs.State.{fresh}
use Rattle.rules.specs.Judge.{refusal, judged}
use Rattle.octets.specs.Fields.{count_place}
use Rattle.table_images.specs.TableImage.{table_front, table_length, read_table_refusal, read_table}
use Rattle.lines.specs.Line.{step_line, end_line}

-- "at most 65,536 bytes are read"
abbrev pub input_most : ℕ
input_most = 65_536

-- "10 + 4N bytes by byte 5 (counted from 0), or 10 if that byte is outside 1 to 64": where there is no byte 5, all there is is less
unfoldable pub asked_length : List ℕ → ℕ
asked_length input = cond (between 1 max_heads (get_or input count_place 0)) (table_length (get_or input count_place 0)) table_front

-- "The table part is 10 + 4N bytes by byte 5 (counted from 0), or 10 if that byte is outside 1 to 64, or all there is if shorter."
unfoldable pub table_part : List ℕ → ℕ
table_part input = min (asked_length input) (length input)

-- "A run stops at the first step that is refused": the END line then; otherwise it goes on
unfoldable pub unless_refused : ℕ → ℕ → List ℕ → List ℕ
unless_refused accepted number more = cond (eqb number 0) more (end_line accepted number)

-- "One line per accepted step [..]. Last line: `END`, steps accepted, refusal number or 0." "A lone last byte counts as a refused step (7)."
unfoldable pub lines_from : Table → State → ℕ → List ℕ → List ℕ
lines_from t s accepted [] = end_line accepted 0
lines_from t s accepted (kind ∷ []) = end_line accepted (number_of NoSuchStep)
lines_from t s accepted (kind ∷ i ∷ pairs) =
    unless_refused accepted (refusal t s (step_of kind i))
    (step_line (judged t s (step_of kind i)) (step_of kind i) ++ lines_from t (judged t s (step_of kind i)) (suc accepted) pairs)

-- "a table image, then step pairs": "The run starts from the fresh state." "A refused table prints that line alone, with 0 steps."
unfoldable pub listing_of : List ℕ → List ℕ → List ℕ
listing_of image pairs = unless_refused 0 (read_table_refusal image) (lines_from (read_table image) (fresh (read_table image)) 0 pairs)

unfoldable pub listing : List ℕ → List ℕ
listing input = listing_of (take (table_part input) input) (drop (table_part input) input)
