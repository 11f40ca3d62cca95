-- Document 01, "Steps": a step as its two bytes.
use Rattle.std.specs.Prelude.{ℕ, zero, suc}
use Rattle.words.specs.declared.Step.{Step}
use Rattle.words.specs.declared.Step.TheVariants.{Advance, Timer, Hear}

-- ---- "In bytes it is a pair: 0,0 advance; 1,i timer; 2,i hear."

abbrev pub kind_of : Step → ℕ
kind_of Advance = 0
kind_of (Timer i) = 1
kind_of (Hear i) = 2

abbrev pub head_number : Step → ℕ
head_number Advance = 0
head_number (Timer i) = i
head_number (Hear i) = i

-- the step that a pair names; any other pair is read as the timer of head 0, which no table has
unfoldable pub step_of : ℕ → ℕ → Step
step_of zero zero = Advance
step_of zero (suc i) = Timer 0
step_of (suc zero) i = Timer i
step_of (suc (suc zero)) i = Hear i
step_of (suc (suc (suc kind))) i = Timer 0
