-- Document 01, "The state": the state image, and what reads as one against a table.
use Rattle.std.specs.Prelude.{◌≡◌, Bool, true, false, Option, MatchOption, ◌&&◌, ◌||◌, List, [], ◌∷◌, ◌++◌, ℕ, zero, suc, ◌+◌, ◌*◌, eqb, leb, length}
use Rattle.words.specs.declared.Refusal.TheVariants.{StateLength, StateMark, StateRule}
use Rattle.words.specs.Refusal.{unless, first_refusal}
use Rattle.rules.specs.declared.Table.{Table}
use Rattle.rules.specs.declared.Phase.{Phase}
use Rattle.rules.specs.declared.Phase.TheVariants.{Init, Listen, Coldstart, Active}
use Rattle.rules.specs.declared.Head.{Head}
use Rattle.rules.specs.declared.Calendar.{Calendar}
use Rattle.rules.specs.declared.State.{State}
use Rattle.rules.specs.Each.{every}
use Rattle.rules.specs.Table.{table_refusal}
use Rattle.rules.specs.State.{phase_number, slot_number, head_in, no_head, head_of, state_refusal, blank}
use Rattle.octets.specs.Bytes.{number_at}
use Rattle.octets.specs.Fields.{Field, bits8, bits32, bits64, letters_of, opening_fields, in_bytes, joined, place_of, places, is_marked, count_in, or_blank}

-- "mark `HST`"
abbrev pub state_mark : ℕ
state_mark = letters_of 72 83 84

-- "Length is exactly 28 + 6N."
abbrev pub state_front : ℕ
state_front = 28

abbrev pub head_length : ℕ
head_length = 6

abbrev pub state_length : ℕ → ℕ
state_length n = state_front + head_length * n

-- "hearers (64, head 1 in the lowest bit), kind (8), origin (8), sent (32), delivery (32)"
abbrev pub calendar_fields : Calendar → List Field
calendar_fields c = bits64 c.hearers ∷ bits8 c.kind ∷ bits8 c.origin ∷ bits32 c.sent ∷ bits32 c.delivery ∷ []

-- "mark `HST`, version 1 (16), N (8), clock (32)", and the calendar
abbrev pub state_fields : State → List Field
state_fields s = opening_fields state_mark s.n ++ (bits32 s.clock ∷ calendar_fields s.calendar)

-- "then for each used head phase (8), slot (8), timeout (32)"
abbrev pub head_fields : Head → List Field
head_fields h = bits8 (phase_number h.phase) ∷ bits8 (slot_number h.phase) ∷ bits32 h.timeout ∷ []

unfoldable pub state_image : State → List ℕ
state_image s = in_bytes (state_fields s) ++ joined s.n (λ i. in_bytes (head_fields (head_of s.heads i)))

-- ---- reading: first the fields are taken, then the state rules are tested

-- where the clock, the calendar's fields and head i stand
abbrev pub clock_place : ℕ
clock_place = 6

abbrev pub hearers_place : ℕ
hearers_place = 10

abbrev pub kind_place : ℕ
kind_place = 18

abbrev pub origin_place : ℕ
origin_place = 19

abbrev pub sent_place : ℕ
sent_place = 20

abbrev pub delivery_place : ℕ
delivery_place = 24

abbrev pub head_place : ℕ → ℕ
head_place i = place_of state_front head_length i

-- "active 3"
abbrev pub active_number : ℕ
active_number = 3

-- the phase of a number and a slot; a number above 3 names none, and is refused before
unfoldable pub phase_from : ℕ → ℕ → Phase
phase_from zero slot = Init
phase_from (suc zero) slot = Listen
phase_from (suc (suc zero)) slot = Coldstart
phase_from (suc (suc (suc k))) slot = Active slot

-- "A phase number above 3, or a slot that isn't 0 on a head that isn't active, breaks a state rule (6)."
unfoldable pub phase_known : ℕ → ℕ → Bool
phase_known number slot = leb number active_number && (eqb number active_number || eqb slot 0)

-- what is read where a test holds of it, and nothing where it fails
abbrev pub Known : {A : Type 0} → Option A → Bool → A → Type 0
Known r test x = MatchOption r (test ≡ false) (λ y. (test ≡ true) × (y ≡ x))

-- the head whose fields stand from place k on, and whether its phase and slot are known
unfoldable pub head_at : List ℕ → ℕ → Head
head_at l k = head_in (phase_from (number_at l k 1) (number_at l (k + 1) 1)) (number_at l (k + 2) 4)

unfoldable pub known_at : List ℕ → ℕ → Bool
known_at l k = phase_known (number_at l k 1) (number_at l (k + 1) 1)

abbrev pub calendar_in : List ℕ → Calendar
calendar_in l = record { hearers = number_at l hearers_place 8; kind = number_at l kind_place 1; origin = number_at l origin_place 1; sent = number_at l sent_place 4; delivery = number_at l delivery_place 4 }

-- the state of n heads whose fields stand in l; "of which the first N are used; the others are zero"
unfoldable pub state_in : ℕ → List ℕ → State
state_in n l = record { clock = number_at l clock_place 4; n = n; calendar = calendar_in l; heads = places no_head (λ i. head_at l (head_place i)) n }

-- "length 4; 5; 6": "5: state mark, version or N wrong"; here 6 is given for a phase number or a slot
unfoldable pub take_refusal : ℕ → List ℕ → ℕ
take_refusal n l =
    first_refusal
    (unless (eqb (length l) (state_length n)) StateLength
    ∷ unless (is_marked state_mark l && eqb (count_in l) n) StateMark
    ∷ unless (every n (λ i. known_at l (head_place i))) StateRule
    ∷ [])

-- "For a state image, whose table record is checked first (3): length 4; 5; 6."
unfoldable pub read_state_refusal : Table → List ℕ → ℕ
read_state_refusal t l = first_refusal (table_refusal t ∷ take_refusal t.n l ∷ state_refusal t (state_in t.n l) ∷ [])

abbrev pub read_state : Table → List ℕ → State
read_state t l = or_blank (read_state_refusal t l) (state_in t.n l) blank
