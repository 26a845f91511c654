-- In an accepted table no two tasks share an id, because the ids rise.
use Prim.Native.Nat.{ℕ}
use mathlib.Core.List.{List}
use mathlib.Core.Bool.{true}
use mathlib.Core.Path.{◌≡◌}
use native.Mathlib.Omega.{arith}
use Rattle.rules.specs.declared.Form.TheVariants.{Table}
use Rattle.rules.specs.Blocks.{records}
use Rattle.rules.specs.Records.{number_of, tasks}
use Rattle.rules.specs.Refusals.{accepted, records_verdict, table_verdict}
use Rattle.rules.proofs.Refusals.{accepted_parts}
use Rattle.rules.proofs.Table.Order.{rises_apart, numbers_rise}
use Rattle.rules.proofs.Table.Shape.{faultless_of, faultless_rises}
use Rattle.rules.proofs.Enumerate.{IdsApart}

-- records without a fault in form and order: no two tasks share an id
pub records_apart : (rs : List (List ℕ)) → accepted (records_verdict Table rs) ≡ true → IdsApart rs
records_apart rs h = rises_apart number_of (tasks rs) (numbers_rise 2 rs (omega arith) (faultless_rises rs (faultless_of Table rs h)))

-- in an accepted table no two tasks share an id
pub accepted_apart : (image : List ℕ) → accepted (table_verdict image) ≡ true → IdsApart (records image)
accepted_apart image h = records_apart (records image) (accepted_parts image h).0
