-- Document 01, "The `walk` listing": the text that table E's seventeen steps print.
use Rattle.std.specs.Prelude.{◌≡◌, List, ◌++◌, [] as none, ◌∷◌ as ◌and◌, ℕ}
use Prim.Native.Char.{code}
use Prim.Native.String.{String, [], ◌∷◌}
use Rattle.words.specs.declared.Step.{Step}
use Rattle.words.specs.declared.Step.TheVariants.{Advance, Timer, Hear}
use Rattle.rules.specs.declared.Phase.{Phase}
use Rattle.rules.specs.declared.Phase.TheVariants.{Listen, Coldstart, Active}
use Rattle.rules.specs.Calendar.{empty_calendar}
use Rattle.rules.specs.State.{head_in}
use Rattle.lines.specs.Line.{step_line, end_line}

-- the bytes of a text
unfoldable pub bytes : String → List ℕ
bytes [] = none
bytes (c ∷ s) = code c and bytes s

-- what they print
abbrev pub printed : List ℕ
printed =
    bytes "3 A 0 0 0 0\n3 T 1 1 0 43\n5 A 0 0 0 0\n5 T 2 1 0 55\n43 A 0 0 0 0\n43 T 1 2 0 63\n45 A 0 0 0 0\n45 H 2 2 0 75\n63 A 0 0 0 0\n63 T 1 2 0 83\n65 A 0 0 0 0\n65 H 2 3 1 73\n73 A 0 0 0 0\n73 T 2 3 2 83\n75 A 0 0 0 0\n75 H 1 3 2 83\n83 A 0 0 0 0\nEND 17 0\n"

-- the line of a step that left its head in a phase, with a timeout
abbrev pub shown : ℕ → Step → Phase → ℕ → List ℕ
shown clock x p e = step_line (record { clock = clock; n = 2; calendar = empty_calendar; heads = head_in p e and (head_in p e and none) }) x

-- what an advance leaves does not show
abbrev pub advanced : ℕ → List ℕ
advanced clock = shown clock Advance (Active 2) 83

abbrev pub Worked : Type 0
Worked =
    advanced 3 ++ shown 3 (Timer 1) Listen 43
    ++ advanced 5 ++ shown 5 (Timer 2) Listen 55
    ++ advanced 43 ++ shown 43 (Timer 1) Coldstart 63
    ++ advanced 45 ++ shown 45 (Hear 2) Coldstart 75
    ++ advanced 63 ++ shown 63 (Timer 1) Coldstart 83
    ++ advanced 65 ++ shown 65 (Hear 2) (Active 1) 73
    ++ advanced 73 ++ shown 73 (Timer 2) (Active 2) 83
    ++ advanced 75 ++ shown 75 (Hear 1) (Active 2) 83
    ++ advanced 83 ++ end_line 17 0
    ≡ printed
