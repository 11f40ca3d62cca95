-- What the inner steps ask of their callers.
use Rattle.std.specs.Prelude.{ℕ, ◌≤◌}
use Rattle.words.specs.declared.Step.{Step}
use Rattle.words.specs.declared.Step.TheVariants.{Advance, Timer, Hear}
use Rattle.rules.specs.declared.Table.{Table}
use Rattle.rules.specs.Limits.{max_heads, longest_slot, ceiling}

-- a head of a table within its limits, at a clock within its own: sums of ticks fit thirty-two bits
pub record Sender (t : Table) (clock i : ℕ) : Type 0 where
  pub first : 1 ≤ i
  pub last : i ≤ t.n
  pub heads : t.n ≤ max_heads
  pub slot : t.s ≤ longest_slot
  pub flight : t.p ≤ t.s
  pub now : clock ≤ ceiling

-- the head that a step names may send, if it names one
unfoldable pub Ready : Table → ℕ → Step → Type 0
Ready t clock Advance = Unit
Ready t clock (Timer i) = Sender t clock i
Ready t clock (Hear i) = Sender t clock i
