-- Records of one list met in turn among those of another.
use Rattle.std.specs.Prelude.{ℕ, zero, suc, ◌+◌, List, [], cond, ◌&&◌, length, get_or, drop, ltb}
use Rattle.rules.specs.Numbers.{up_to}
use Rattle.rules.specs.Blocks.{record_at}
use Rattle.rules.specs.Patches.{same}

-- the records of an image from one number up to another
abbrev pub records_left : List ℕ → ℕ → ℕ → List (List ℕ)
records_left image next count = drop next (up_to (record_at image) count)

-- the number after k where the list has a record k and it is this one, and else k
unfoldable pub past : List (List ℕ) → List ℕ → ℕ → ℕ
past rs r k = cond (ltb k (length rs) && same (get_or rs k []) r) (k + 1) k

-- how many records of the second list, from its first on, are met in turn among the first n of the first list
unfoldable pub met_among : List (List ℕ) → List (List ℕ) → ℕ → ℕ
met_among rs ps zero = 0
met_among rs ps (suc n) = past ps (get_or rs n []) (met_among rs ps n)
