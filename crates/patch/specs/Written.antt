-- The image of an outcome at the start of a room, before it is known to be a table.
use Rattle.std.specs.Prelude.{ℕ, ◌≤◌, List, Option, MatchOption, false, ◌≡◌, length, take}
use Rattle.rules.specs.declared.Form.TheVariants.{Table}
use Rattle.rules.specs.Blocks.{image_of}
use Rattle.rules.specs.Refusals.{accepted, table_verdict}

-- the image of the records, as many bytes as are written; or it is no table, where nothing is written
abbrev pub ImageWritten : List (List ℕ) → Option ℕ → List ℕ → Type 0
ImageWritten rs written later =
    MatchOption written (accepted (table_verdict (image_of Table rs)) ≡ false) (λ n. (n ≤ length later) × (take n later ≡ image_of Table rs))
