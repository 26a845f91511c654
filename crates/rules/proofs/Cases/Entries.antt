-- What an entry of the table of cases says, by the definitions.
use Prim.Native.Nat.{ℕ}
use mathlib.Core.List.{List, [], ◌∷◌}
use mathlib.Core.Bool.{Bool, true}
use mathlib.Core.Path.{◌≡◌}
use Rattle.rules.specs.declared.Form.TheVariants.{Table, Patch}
use Rattle.rules.specs.Preempt.{decided, map_of}
use Rattle.rules.specs.Chains.{Figures, FiguresOf, chain_bound, chain_ids}
use Rattle.rules.specs.Patches.{outcome, touched_count, patched_map}
use Rattle.rules.specs.Refusals.{accepted, or_else, records_verdict, link_refusal, absent_refusal}

-- what is shown of a table and a map
pub record Shown : Type 0 where
  pub weight : ℕ
  pub ids : List ℕ
  pub path : ℕ
  pub transactions : ℕ
  pub levels : ℕ

-- the chain's weight and ids, then the three other bounds
abbrev pub shown_as : ℕ → List ℕ → ℕ → ℕ → ℕ → Shown
shown_as weight ids path transactions levels =
    record { weight = weight; ids = ids; path = path; transactions = transactions; levels = levels }

-- the figures of the table and the map are shown so
pub record Shows (rs : List (List ℕ)) (rows : List ℕ) (s : Shown) : Type 0 where
  pub found : Figures
  pub right : FiguresOf rs rows found
  pub weight : chain_bound rs found ≡ s.weight
  pub ids : chain_ids rs found ≡ s.ids
  pub path : found.path ≡ s.path
  pub transactions : found.transactions ≡ s.transactions
  pub levels : found.levels ≡ s.levels

-- an entry of the table of cases
pub data Case : Type 0 where
  -- in this table the task at the first place may be preempted by the one at the second, or may not
  preempted : List (List ℕ) → ℕ → ℕ → Bool → Case
  -- this table with its map is shown so
  shown : List (List ℕ) → Shown → Case
  -- this table with this patch, and its map with this patch, are shown so; and so many tasks are touched
  patched : List (List ℕ) → List (List ℕ) → Shown → ℕ → Case

-- the records are those of a table: none of the refusals 4 to 8 and 14 is given
abbrev pub valid : List (List ℕ) → Bool
valid rs = accepted (or_else (records_verdict Table rs) (link_refusal rs))

-- the records are those of a patch of the table: none of the refusals 24 to 27 and 9 is given
abbrev pub applies : List (List ℕ) → List (List ℕ) → Bool
applies base patch = accepted (or_else (records_verdict Patch patch) (absent_refusal base patch))

-- what a case says, by the definitions
abbrev pub Holds : Case → Type 0
Holds (preempted rs i j answer) = (valid rs ≡ true) × (decided rs i j ≡ answer)
Holds (shown rs s) = (valid rs ≡ true) × Shows rs (map_of rs) s
Holds (patched base patch s count) =
    (valid base ≡ true)
    × (applies base patch ≡ true)
    × (valid (outcome base patch) ≡ true)
    × Shows (outcome base patch) (patched_map base patch (map_of base)) s
    × (touched_count base patch ≡ count)

-- every entry of the table holds
abbrev pub AllHold : List Case → Type 0
AllHold [] = Unit {0}
AllHold (c ∷ cs) = Holds c × AllHold cs
