-- Tables E and F of document 01, the steps that its bench sheet takes on them, and what a run of steps shows.
use mathlib.Core.List.{List, [], ◌∷◌, map, foldl}
use Rattle.std.specs.Prelude.{ℕ, take, replicate}
use Rattle.words.specs.declared.Step.{Step}
use Rattle.words.specs.declared.Step.TheVariants.{Advance, Timer, Hear}
use Rattle.words.specs.Pair.{head_number}
use Rattle.rules.specs.declared.State.{State}
use Rattle.rules.specs.declared.Table.{Table}
use Rattle.rules.specs.State.{phase_number, slot_number, phase_of, timeout_of, fresh}
use Rattle.rules.specs.Judge.{refusal, judged}

-- "Table E: N 2, S 10, P 2, wakes 3 and 5."
abbrev pub table_e : Table
table_e = record { n = 2; s = 10; p = 2; wakes = 3 ∷ 5 ∷ replicate 62 0 }

-- "Table F (N 3, S 10, P 2, wakes 21, 12, 30)"
abbrev pub table_f : Table
table_f = record { n = 3; s = 10; p = 2; wakes = 21 ∷ 12 ∷ 30 ∷ replicate 61 0 }

-- ---- runs of steps

-- the state after steps taken from the fresh state
abbrev pub after : Table → List Step → State
after t xs = foldl (judged t) (fresh t) xs

-- the refusal of each step of a run, 0 where it is accepted
unfoldable pub refusals : Table → State → List Step → List ℕ
refusals t s [] = []
refusals t s (x ∷ xs) = refusal t s x ∷ refusals t (judged t s x) xs

-- "One line per accepted step: clock after it, A, T or H, head (0 for A), then that head's phase, slot and timeout (three zeros for A)."
pub record Line : Type 0 where
  pub clock : ℕ
  pub step : Step
  pub phase : ℕ
  pub slot : ℕ
  pub timeout : ℕ

abbrev pub line : ℕ → Step → ℕ → ℕ → ℕ → Line
line c x p k e = record { clock = c; step = x; phase = p; slot = k; timeout = e }

-- the line of a step that led to the state s; head 0, for an advance, is a place of zeros
abbrev pub line_of : State → Step → Line
line_of s x = line s.clock x (phase_number (phase_of s (head_number x))) (slot_number (phase_of s (head_number x))) (timeout_of s (head_number x))

-- the lines of a run
unfoldable pub lines : Table → State → List Step → List Line
lines t s [] = []
lines t s (x ∷ xs) = line_of (judged t s x) x ∷ lines t (judged t s x) xs

-- ---- the steps of the sheet

-- the listing of table E
abbrev pub listing : List Line
listing =
    line 3 Advance 0 0 0
    ∷ line 3 (Timer 1) 1 0 43
    ∷ line 5 Advance 0 0 0
    ∷ line 5 (Timer 2) 1 0 55
    ∷ line 43 Advance 0 0 0
    ∷ line 43 (Timer 1) 2 0 63
    ∷ line 45 Advance 0 0 0
    ∷ line 45 (Hear 2) 2 0 75
    ∷ line 63 Advance 0 0 0
    ∷ line 63 (Timer 1) 2 0 83
    ∷ line 65 Advance 0 0 0
    ∷ line 65 (Hear 2) 3 1 73
    ∷ line 73 Advance 0 0 0
    ∷ line 73 (Timer 2) 3 2 83
    ∷ line 75 Advance 0 0 0
    ∷ line 75 (Hear 1) 3 2 83
    ∷ line 83 Advance 0 0 0
    ∷ []

-- "the seventeen steps", those of the listing
abbrev pub steps_e : List Step
steps_e = map (λ (l : Line). l.step) listing

-- the heads of table F wake at 12, 21 and 30, head 1 sends at 81, head 2 at 82, and head 3 hears at 83
abbrev pub steps_f : List Step
steps_f = Advance ∷ Timer 2 ∷ Advance ∷ Timer 1 ∷ Advance ∷ Timer 3 ∷ Advance ∷ Timer 1 ∷ Advance ∷ Timer 2 ∷ Advance ∷ Hear 3 ∷ []

-- the state after the first k of those steps
abbrev pub at_e : ℕ → State
at_e k = after table_e (take k steps_e)

abbrev pub at_f : ℕ → State
at_f k = after table_f (take k steps_f)
