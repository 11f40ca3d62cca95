-- Document 02, P4: which breaks a book admits, whatever kind of post they come from. "A break is a head and the clock of the state offered with it."
use Rattle.std.specs.Prelude.{Bool, true, false, ◌&&◌, [], ◌∷◌, ℕ, leb}
use Rattle.words.specs.declared.Refusal.TheVariants.{BeforeLastBreak, NotActive}
use Rattle.words.specs.Refusal.{unless, first_refusal}
use Rattle.rules.specs.declared.Phase.{Phase}
use Rattle.rules.specs.declared.Phase.TheVariants.{Init, Listen, Coldstart, Active}
use Rattle.rules.specs.declared.State.{State}
use Rattle.rules.specs.declared.Table.{Table}
use Rattle.rules.specs.Table.{is_head}
use Rattle.rules.specs.State.{phase_of}
use Rattle.book.specs.declared.Book.{Book}

-- whether a head in this phase is active
unfoldable pub active : Phase → Bool
active Init = false
active Listen = false
active Coldstart = false
active (Active k) = true

-- "16: clock below that of the last break accepted"
unfoldable pub clock_refusal : Book → ℕ → ℕ
clock_refusal b clock = unless (leb b.latest clock) BeforeLastBreak

-- "17: head not 1 to N or not active"
unfoldable pub head_refusal : Table → State → ℕ → ℕ
head_refusal t s i = unless (is_head t i && active (phase_of s i)) NotActive

-- the refusals of a break before its post is asked: 16, then 17
unfoldable pub admit_refusal : Table → State → Book → ℕ → ℕ
admit_refusal t s b i = first_refusal (clock_refusal b s.clock ∷ head_refusal t s i ∷ [])
