-- Document 02, P4: when a call on a single-beam book is accepted, as conditions instead of tests. Nothing computes with these; that they say the
-- same as the refusals is claimed in specs/Claims.antt (AcceptedExactly).
use Rattle.std.specs.Prelude.{◌⊎◌, ℕ, ◌≤◌}
use Rattle.rules.specs.declared.State.{State}
use Rattle.rules.specs.declared.Table.{Table}
use Rattle.rules.specs.Conditions.{IsHead, TableMeets, StateMeets}
use Rattle.book.specs.declared.Book.{Book}
use Rattle.book.specs.Limits.{longest_hold}
use Rattle.kept.specs.Conditions.{BookMeets}
use Rattle.kept.specs.Claims.{Young, Room, Present}
use Rattle.startup.specs.Demand.{IsActive}
use Rattle.mornings.specs.Morning.{Call, break, release}

pub record MayBreak (t : Table) (s : State) (b : Book) (i : ℕ) : Type 0 where
  -- "Refusals, in this order after 3 and 6": the table and the state meet their rules
  pub table : TableMeets t
  pub state : StateMeets t s
  -- not "15 H outside 1 to 1,000"
  pub hold_low : 1 ≤ b.hold
  pub hold_high : b.hold ≤ longest_hold
  -- not "25 a book whose held numbers repeat, [..]"
  pub rules : BookMeets b
  -- not "16 clock below that of the last break accepted"
  pub clock : b.latest ≤ s.clock
  -- not "17 head not 1 to N or not active"
  pub head : IsHead t i
  pub active : IsActive s i
  -- not "18 all places held, only where a new entry is needed", nor "20 number 4,294,967,295 already given, [..] like it, only where a new entry is
  -- needed": the break is a tail, or a place is free and a number is left
  pub room : Young b i s.clock ⊎ Room b

pub record MayRelease (b : Book) (number : ℕ) : Type 0 where
  -- "for a release 15, 25,": neither
  pub hold_low : 1 ≤ b.hold
  pub hold_high : b.hold ≤ longest_hold
  pub rules : BookMeets b
  -- "then 19, no such entry or number 0": not that. A held place has a number other than 0.
  pub entry : Present b number

unfoldable pub May : Book → Call → Type 0
May b (break t s i) = MayBreak t s b i
May b (release number) = MayRelease b number
