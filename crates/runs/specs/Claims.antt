-- What a class may rely on, as claims about the definitions.
use Rattle.std.specs.Prelude.{◌≡◌, true, cond, ◌⊎◌, ℕ, suc, ◌+◌, ◌*◌, ◌≤◌, ◌<◌, min, eqb, length}
use mathlib.Core.List.{List, [], ◌∷◌, ◌++◌, Memᴰ}
use Rattle.words.specs.declared.Step.{Step}
use Rattle.words.specs.declared.Refusal.TheVariants.{NoSuchStep}
use Rattle.words.specs.Refusal.{number_of}
use Rattle.words.specs.Pair.{kind_of, head_number, step_of}
use Rattle.rules.specs.declared.State.{State}
use Rattle.rules.specs.declared.Table.{Table}
use Rattle.rules.specs.Table.{table_fits}
use Rattle.rules.specs.State.{state_fits}
use Rattle.rules.specs.Judge.{record_refusal, refusal, judged}
use Rattle.runs.specs.Open.{open_steps, step_bytes, first_due}
use Rattle.runs.specs.Run.{Outcome, stopped, run}
use Rattle.runs.specs.Chosen.{longest_run, policy, chosen}

-- ---- the step list

-- "The step list holds all accepted steps": a step is in it if and only if the judged step accepts it
abbrev pub ListedExactly : Type 0
ListedExactly =
    (t : Table) (s : State) (x : Step) → table_fits t ≡ true → state_fits t s ≡ true →
    (Memᴰ x (open_steps t s) → refusal t s x ≡ 0) × (refusal t s x ≡ 0 → Memᴰ x (open_steps t s))

-- "heads rising, timer before hear for one head": x stands before y
abbrev pub Before : Step → Step → Type 0
Before x y = (head_number x < head_number y) ⊎ ((head_number x ≡ head_number y) × (kind_of x < kind_of y))

pub data InOrder : List Step → Type 0 where
  order_none : InOrder []
  order_first : {x : Step} {rest : List Step} → ((y : Step) → Memᴰ y rest → Before x y) → InOrder rest → InOrder (x ∷ rest)

abbrev pub ListedInOrder : Type 0
ListedInOrder = (t : Table) (s : State) → InOrder (open_steps t s)

-- "each once"
pub data EachOnce : List Step → Type 0 where
  once_none : EachOnce []
  once_first : {x : Step} {rest : List Step} → (Memᴰ x rest → ⊥) → EachOnce rest → EachOnce (x ∷ rest)

abbrev pub ListedOnce : Type 0
ListedOnce = (t : Table) (s : State) → EachOnce (open_steps t s)

-- "The search ends at the first due step it meets and yields that step": where a step is open, the search finds the first of the list
abbrev pub SearchFirst : Type 0
SearchFirst = (t : Table) (s : State) (x : Step) (rest : List Step) → table_fits t ≡ true → state_fits t s ≡ true → open_steps t s ≡ x ∷ rest → first_due s t.n ≡ x

-- ---- runs

-- "3 or 6 with 0 steps", and the given state
abbrev pub UnfitRefused : Type 0
UnfitRefused =
    (t : Table) (s : State) (pairs : List ℕ) (count : ℕ) → (record_refusal t s ≡ 0 → ⊥) →
    (run t s pairs ≡ stopped s 0 (record_refusal t s)) × (policy t s count ≡ stopped s 0 (record_refusal t s))

-- a run of pairs from s: how many steps the judged step accepted along it, the state they lead to, and the number that stopped it
pub data Plays (t : Table) : State → List ℕ → ℕ → State → ℕ → Type 0 where
  plays_none : {s : State} → Plays t s [] 0 s 0
  plays_lone : {s : State} {kind : ℕ} → Plays t s (kind ∷ []) 0 s (number_of NoSuchStep)
  plays_refused : {s : State} {kind i number : ℕ} {rest : List ℕ} → refusal t s (step_of kind i) ≡ number → (number ≡ 0 → ⊥) → Plays t s (kind ∷ i ∷ rest) 0 s number
  plays_accepted : {s u : State} {kind i k number : ℕ} {rest : List ℕ} → refusal t s (step_of kind i) ≡ 0 → Plays t (judged t s (step_of kind i)) rest k u number → Plays t s (kind ∷ i ∷ rest) (suc k) u number

-- "A run stops at the first step that is refused": the answer's count is the number of accepted steps along it, its state the one they lead to
abbrev pub RunPlays : Type 0
RunPlays = (t : Table) (s : State) (pairs : List ℕ) → table_fits t ≡ true → state_fits t s ≡ true → Plays t s pairs (run t s pairs).accepted (run t s pairs).state (run t s pairs).refusal

-- what it comes to fits again
abbrev pub RunKeeps : Type 0
RunKeeps = (t : Table) (s : State) (pairs : List ℕ) → table_fits t ≡ true → state_fits t s ≡ true → state_fits t (run t s pairs).state ≡ true

-- a run that is played after k accepted steps
unfoldable pub later : ℕ → Outcome → Outcome
later k o = stopped o.state (k + o.accepted) o.refusal

-- one run and then another, which is played only where the first was not stopped
unfoldable pub followed : Outcome → Outcome → Outcome
followed x y = cond (eqb x.refusal 0) (later x.accepted y) x

-- a run of a list is a run of its first part, a number of whole pairs, and then of the rest
abbrev pub RunInParts : Type 0
RunInParts = (t : Table) (s : State) (first rest : List ℕ) (m : ℕ) → length first ≡ 2 * m → run t s (first ++ rest) ≡ followed (run t s first) (run t (run t s first).state rest)

-- ---- runs by the policy

-- a policy run is the run of the steps it chose
abbrev pub PolicyRuns : Type 0
PolicyRuns = (t : Table) (s : State) (count : ℕ) → policy t s count ≡ run t s (step_bytes (chosen t s (min count longest_run)))

-- "a refusal number: 3 or 6 with 0 steps, otherwise 0": no step on the way gives one
abbrev pub PolicyRefused : Type 0
PolicyRefused = (t : Table) (s : State) (count : ℕ) → (policy t s count).refusal ≡ record_refusal t s

-- "up to a given count"; "It stops early when the list is empty", and only then
abbrev pub PolicyStops : Type 0
PolicyStops =
    (t : Table) (s : State) (count : ℕ) → table_fits t ≡ true → state_fits t s ≡ true →
    ((policy t s count).accepted ≤ min count longest_run) × ((policy t s count).accepted < min count longest_run → open_steps t (policy t s count).state ≡ [])
