-- Document 01, "Refusal numbers", and document 02, P4: the number of each refusal, and which of several is given.
use Rattle.std.specs.Prelude.{Bool, cond, List, [], ◌∷◌, ℕ, zero, suc, Result, Ok, Err}
use Rattle.words.specs.declared.Refusal.{Refusal}
use Rattle.words.specs.declared.Refusal.TheVariants.{TableLength, TableMark, TableRange, StateLength, StateMark, StateRule, NoSuchStep, SomethingDue, TimerNotDue, NotHearing, PastCeiling, ShortRoom, OwnFrame, HoldRange, BeforeLastBreak, NotActive, NoFreePlace, NoSuchEntry, NoNumberLeft, BookRule}

abbrev pub number_of : Refusal → ℕ
number_of TableLength = 1
number_of TableMark = 2
number_of TableRange = 3
number_of StateLength = 4
number_of StateMark = 5
number_of StateRule = 6
number_of NoSuchStep = 7
number_of SomethingDue = 8
number_of TimerNotDue = 9
number_of NotHearing = 10
number_of PastCeiling = 11
number_of ShortRoom = 12
number_of OwnFrame = 13
number_of HoldRange = 15
number_of BeforeLastBreak = 16
number_of NotActive = 17
number_of NoFreePlace = 18
number_of NoSuchEntry = 19
number_of NoNumberLeft = 20
number_of BookRule = 25

-- the number of what a call answers, whatever it answers where it accepts: 0 where nothing is refused
abbrev pub verdict_number : {A : Type 0} → Result A Refusal → ℕ
verdict_number (Ok a) = 0
verdict_number (Err x) = number_of x

-- the number of a refusal that is given unless a test holds, otherwise 0
unfoldable pub unless : Bool → Refusal → ℕ
unless ok x = cond ok 0 (number_of x)

-- the first refusal of a row, in the order of precedence; 0 where none is given
unfoldable pub first_refusal : List ℕ → ℕ
first_refusal [] = 0
first_refusal (zero ∷ rest) = first_refusal rest
first_refusal (suc x ∷ rest) = suc x
