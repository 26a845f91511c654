-- Images whose blocks have the room for as many records as they count.
use Rattle.std.specs.Prelude.{ℕ, ◌*◌, ◌≤◌, List}
use Rattle.rules.specs.Blocks.{block_count, record_count}

-- each record that the image counts lies whole in it
abbrev pub HoldsRecords : List ℕ → Type 0
HoldsRecords image = record_count image ≤ 15 * block_count image
