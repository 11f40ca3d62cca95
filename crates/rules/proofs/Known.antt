-- What passing a record by value tells: a table has its sixty-four wake places and a state its sixty-four head places.
use Rattle.std.proofs.Common.{◌≡◌, List, length}
use mir.Val.{Val}
use denote.Laws.{Is}
use denote.Struct.Declared.{row}
use Rattle.rules.specs.declared.State.{State}
use Rattle.rules.specs.declared.Table.{Table}
use Rattle.rules.specs.Limits.{max_heads}
use Rattle.rules.specs.contracts.State as state
use Rattle.rules.specs.contracts.Table as table

pub state_places : (s : State) (vs : List Val) → Is (row state.the_type) s vs → length s.heads ≡ max_heads
state_places s vs p = p.1.1.1.1.1.0.1.0.1

pub table_places : (t : Table) (vs : List Val) → Is (row table.the_type) t vs → length t.wakes ≡ max_heads
table_places t vs p = p.1.1.1.1.1.0.1.0.1
