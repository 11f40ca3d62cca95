-- What the door answers, by what document 01 says of images, steps and runs.
use Rattle.std.specs.Prelude.{◌≡◌, List, [], ◌∷◌, ℕ, ◌+◌, ◌*◌, ◌%◌}
use Rattle.words.specs.Refusal.{first_refusal}
use Rattle.words.specs.Pair.{step_of}
use Rattle.rules.specs.declared.State.{State}
use Rattle.rules.specs.Judge.{refusal, judged}
use Rattle.rules.specs.Room.{write_refusal, bytes_written, room_after}
use Rattle.table_images.specs.TableImage.{read_table_refusal, read_table}
use Rattle.state_images.specs.StateImage.{read_state_refusal, read_state, state_image}
use Rattle.runs.specs.Run.{Outcome, onward, run}
use Rattle.runs.specs.Chosen.{policy}

-- two results in one number: the refusal number in the lowest byte, the count above it, as far as it has place in sixty-four bits: 2^56 (no memory holds so many steps)
abbrev pub count_places : ℕ
count_places = 72_057_594_037_927_936

unfoldable pub answer : ℕ → ℕ → ℕ
answer number count = number + 256 * (count % count_places)

-- the table and the state that the images hold, and the readers' numbers: the table's, then the state's
abbrev pub state_of : List ℕ → List ℕ → State
state_of table state = read_state (read_table table) state

unfoldable pub open_refusal : List ℕ → List ℕ → ℕ
open_refusal table state = first_refusal (read_table_refusal table ∷ read_state_refusal (read_table table) state ∷ [])

-- "the readers' numbers, then the operation's": of a judged step
unfoldable pub judge_refusal : List ℕ → List ℕ → ℕ → ℕ → ℕ
judge_refusal table state kind i = first_refusal (open_refusal table state ∷ refusal (read_table table) (state_of table state) (step_of kind i) ∷ [])

abbrev pub judged_state : List ℕ → List ℕ → ℕ → ℕ → State
judged_state table state kind i = judged (read_table table) (state_of table state) (step_of kind i)

-- and of runs
unfoldable pub given_outcome : List ℕ → List ℕ → List ℕ → Outcome
given_outcome table state pairs = onward (state_of table state) 0 (open_refusal table state) (run (read_table table) (state_of table state) pairs)

unfoldable pub policy_outcome : List ℕ → List ℕ → ℕ → Outcome
policy_outcome table state count = onward (state_of table state) 0 (open_refusal table state) (policy (read_table table) (state_of table state) count)

-- the answer and the room after, by the number that comes before the room is looked at, the image and the room before: "then 12; a refusal changes no byte of room"
abbrev pub Counted : ℕ → ℕ → List ℕ → ℕ → List ℕ → List ℕ → Type 0
Counted r unfit image count before after = (r ≡ answer (write_refusal unfit image before) count) × (after ≡ room_after (write_refusal unfit image before) image before)

-- counting the bytes written
abbrev pub Handed : ℕ → ℕ → List ℕ → List ℕ → List ℕ → Type 0
Handed r unfit image before after = Counted r unfit image (bytes_written (write_refusal unfit image before) image) before after

-- a run's answer counts the steps accepted
abbrev pub Played : ℕ → Outcome → List ℕ → List ℕ → Type 0
Played r o before after = Counted r o.refusal (state_image o.state) o.accepted before after
