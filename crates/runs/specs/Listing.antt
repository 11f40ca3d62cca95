-- Document 01: the step list in bytes.
use Rattle.std.specs.Prelude.{List, ℕ}
use Rattle.rules.specs.declared.State.{State}
use Rattle.rules.specs.declared.Table.{Table}
use Rattle.runs.specs.Open.{open_steps, step_bytes}

-- the step list in bytes
unfoldable pub list_image : Table → State → List ℕ
list_image t s = step_bytes (open_steps t s)
