-- Writing a block: its records lie one after another in a list of bytes, 32 bytes each.
use Rattle.std.specs.Prelude.{ℕ, ◌-◌, ◌/◌, List, [], ◌∷◌, ◌++◌, length, replicate}
use Rattle.rules.specs.declared.Form.{Form}
use Rattle.rules.specs.Blocks.{mark}

-- the eight bytes in front of the records: mark, block number, number of blocks, count of records, three zeros
abbrev pub header_of : Form → ℕ → ℕ → ℕ → List ℕ
header_of form total b count = mark form ++ (b ∷ total ∷ count ∷ 0 ∷ 0 ∷ 0 ∷ [])

-- the first 510 bytes of a block that has this header and holds the records of these bytes
abbrev pub body_behind : List ℕ → List ℕ → List ℕ
body_behind header flat = header ++ (flat ++ replicate (502 - length flat) 0)

-- the same, by the header's parts
abbrev pub body_bytes : Form → ℕ → ℕ → List ℕ → List ℕ
body_bytes form total b flat = body_behind (header_of form total b (length flat / 32)) flat
