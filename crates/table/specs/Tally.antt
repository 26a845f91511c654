-- How the records of an image are counted in one pass.
use Rattle.std.specs.Prelude.{ℕ, ◌+◌, ◌*◌, ◌≤◌, ◌<◌, List, [], cond, ◌≡◌, length, get_or, leb, eqb}
use Rattle.rules.specs.Numbers.{count_to}
use Rattle.rules.specs.Records.{kind_of, way_of}

-- a record of kind k and way w is counted at k + 4 * w, and one of no right form at 0
abbrev pub slot_of : List ℕ → ℕ
slot_of r = cond (leb (kind_of r) 3) (cond (leb (way_of r) 1) (kind_of r + 4 * way_of r) 0) 0

-- of the first n records those counted at i
abbrev pub slotted : List (List ℕ) → ℕ → ℕ → ℕ
slotted rs i n = count_to (λ k. eqb (slot_of (get_or rs k [])) i) n

-- each of the eight counts is the number of records counted there
pub record Tallied (rs : List (List ℕ)) (counts : List ℕ) : Type 0 where
  pub size : length counts ≡ 8
  pub right : (i : ℕ) → i < 8 → get_or counts i 0 ≡ slotted rs i (length rs)

-- all records before this number are of a lower kind, and the one there, where there is one, is not
pub record KindStart (rs : List (List ℕ)) (kind start : ℕ) : Type 0 where
  pub inside : start ≤ length rs
  pub before : (k : ℕ) → k < start → kind_of (get_or rs k []) < kind
  pub there : start < length rs → kind ≤ kind_of (get_or rs start [])
