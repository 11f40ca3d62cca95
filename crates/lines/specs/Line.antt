-- Document 01, "The `walk` listing": the bytes of its lines.
use Rattle.std.specs.Prelude.{List, [], ◌∷◌, ◌++◌, ℕ}
use Rattle.words.specs.declared.Step.{Step}
use Rattle.words.specs.declared.Step.TheVariants.{Advance, Timer, Hear}
use Rattle.words.specs.Pair.{head_number}
use Rattle.rules.specs.declared.State.{State}
use Rattle.rules.specs.State.{phase_number, slot_number, phase_of, timeout_of}
use Rattle.lines.specs.Decimal.{decimal}

abbrev pub space : ℕ
space = 32

abbrev pub lf : ℕ
lf = 10

-- "fields stand one space apart, and every line ends with one LF"
unfoldable pub line_of : List (List ℕ) → List ℕ
line_of [] = lf ∷ []
line_of (f ∷ []) = f ++ (lf ∷ [])
line_of (f ∷ g ∷ fs) = f ++ (space ∷ line_of (g ∷ fs))

-- "A, T or H"
abbrev pub letter_of : Step → ℕ
letter_of Advance = 65
letter_of (Timer i) = 84
letter_of (Hear i) = 72

-- a line of six fields: a number, a letter and four numbers
unfoldable pub row_line : ℕ → ℕ → ℕ → ℕ → ℕ → ℕ → List ℕ
row_line clock letter i phase slot timeout = line_of (decimal clock ∷ (letter ∷ []) ∷ decimal i ∷ decimal phase ∷ decimal slot ∷ decimal timeout ∷ [])

-- "One line per accepted step: clock after it, A, T or H, head (0 for A), then that head's phase, slot and timeout (three zeros for A)." The state s is the
-- one after the step. A head number without a place, 0 for A or one above 64, has the phase, slot and timeout of a place that is zero.
unfoldable pub step_line : State → Step → List ℕ
step_line s x =
    row_line s.clock (letter_of x) (head_number x)
    (phase_number (phase_of s (head_number x))) (slot_number (phase_of s (head_number x))) (timeout_of s (head_number x))

-- "Last line: `END`, steps accepted, refusal number or 0."
unfoldable pub end_line : ℕ → ℕ → List ℕ
end_line accepted refusal = line_of ((69 ∷ 78 ∷ 68 ∷ []) ∷ decimal accepted ∷ decimal refusal ∷ [])

-- room for any line: five numbers of ten digits at most, a letter, five spaces and LF
abbrev pub longest_line : ℕ
longest_line = 57
