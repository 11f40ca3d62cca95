-- Demand 2, as claims about the definitions of rules.
use Rattle.std.specs.Prelude.{◌≡◌, true}
use Rattle.words.specs.declared.Step.{Step}
use Rattle.words.specs.declared.Step.TheVariants.{Advance}
use Rattle.words.specs.declared.Refusal.TheVariants.{OwnFrame}
use Rattle.words.specs.Refusal.{number_of}
use Rattle.rules.specs.declared.State.{State}
use Rattle.rules.specs.declared.Table.{Table}
use Rattle.rules.specs.State.{state_fits, fresh}
use Rattle.rules.specs.Step.{moved}
use Rattle.rules.specs.Judge.{step_refusal, refusal, judged}
use Rattle.rules.specs.Conditions.{TableMeets, StateMeets, Least, Enabled}

-- a step is accepted only on a table and a state that meet the rules and only where it is enabled; and there it is accepted
abbrev pub AcceptedExactly : Type 0
AcceptedExactly =
    (t : Table) (s : State) (x : Step) →
    (refusal t s x ≡ 0 → TableMeets t × StateMeets t s × Enabled t s x) × (TableMeets t → StateMeets t s → Enabled t s x → refusal t s x ≡ 0)

-- an origin is no hearer in a state that fits, so "13: the hearing head is the frame's origin" is never the number given
abbrev pub NeverOwnFrame : Type 0
NeverOwnFrame = (t : Table) (s : State) (x : Step) → refusal t s x ≡ number_of OwnFrame → ⊥

-- "The clock becomes the least of the timeouts of heads 1 to N and, if hearers wait, the delivery tick."
abbrev pub AdvanceLeast : Type 0
AdvanceLeast = (t : Table) (s : State) → TableMeets t → Least t s (moved t s Advance).clock

-- a step that no number refuses leads from a state that meets the rules to one that meets them
abbrev pub Keeps : Type 0
Keeps = (t : Table) (s : State) (x : Step) → TableMeets t → StateMeets t s → step_refusal t s x ≡ 0 → StateMeets t (moved t s x)

-- an accepted step answers the state it leads to, and that state fits
abbrev pub AcceptedMoves : Type 0
AcceptedMoves = (t : Table) (s : State) (x : Step) → refusal t s x ≡ 0 → judged t s x ≡ moved t s x

abbrev pub KeepsJudged : Type 0
KeepsJudged = (t : Table) (s : State) (x : Step) → refusal t s x ≡ 0 → state_fits t (judged t s x) ≡ true

-- "A refused step returns the given state."
abbrev pub RefusedStays : Type 0
RefusedStays = (t : Table) (s : State) (x : Step) → (refusal t s x ≡ 0 → ⊥) → judged t s x ≡ s

-- the fresh state of a table that fits meets the rules
abbrev pub FreshMeets : Type 0
FreshMeets = (t : Table) → TableMeets t → StateMeets t (fresh t)
