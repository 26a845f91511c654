-- Patches: the outcome of a patch, its reverse, touched tasks and the carried map, on records.
use Rattle.std.specs.Prelude.{ℕ, Bool, true, false, cond, ◌&&◌, ◌||◌, length, get_or, set, leb, eqb}
use mathlib.Core.List.{List, [], ◌∷◌, ◌++◌, foldr}
use Rattle.rules.specs.Numbers.{count_to, some}
use Rattle.rules.specs.Records.{kind_of, number_of, second_of, sort_of, way_of, key, tasks, task_count, task_at, place_of}
use Rattle.rules.specs.Preempt.{cell, beside, decided, map_from}

-- the same bytes
unfoldable pub same : List ℕ → List ℕ → Bool
same [] [] = true
same [] (b ∷ t) = false
same (a ∷ s) [] = false
same (a ∷ s) (b ∷ t) = eqb a b && same s t

-- the record stands in the list byte for byte
unfoldable pub has : List (List ℕ) → List ℕ → Bool
has [] r = false
has (s ∷ rs) r = same s r || has rs r

-- the records that a patch takes out
unfoldable pub taken_out : List (List ℕ) → List (List ℕ)
taken_out [] = []
taken_out (r ∷ rs) = cond (eqb (way_of r) 0) (r ∷ taken_out rs) (taken_out rs)

-- the records that a patch puts in; put into a table, byte 31 becomes 0
unfoldable pub put_in : List (List ℕ) → List (List ℕ)
put_in [] = []
put_in (r ∷ rs) = cond (eqb (way_of r) 1) (set r 31 0 ∷ put_in rs) (put_in rs)

-- the list without the records of the other
unfoldable pub without : List (List ℕ) → List (List ℕ) → List (List ℕ)
without out [] = []
without out (r ∷ rs) = cond (has out r) (without out rs) (r ∷ without out rs)

-- a record put into a list in table order
unfoldable pub put : List ℕ → List (List ℕ) → List (List ℕ)
put r [] = r ∷ []
put r (s ∷ rs) = cond (leb (key r) (key s)) (r ∷ s ∷ rs) (s ∷ put r rs)

-- the base's records without those taken out and with those put in, in table order
abbrev pub outcome : List (List ℕ) → List (List ℕ) → List (List ℕ)
outcome base patch = foldr put (without (taken_out patch) base) (put_in patch)

-- these records, each with this byte 31
unfoldable pub with_way : ℕ → List (List ℕ) → List (List ℕ)
with_way way [] = []
with_way way (r ∷ rs) = set r 31 way ∷ with_way way rs

-- the reverse of a patch: first what the patch puts in, which is taken out, so byte 31 is 0; then what it takes out, which
-- is put in, so byte 31 becomes 1
abbrev pub reversed : List (List ℕ) → List (List ℕ)
reversed patch = put_in patch ++ with_way 1 (taken_out patch)

-- the patch record is the record of the task with this id, names it in a pair, or is the record of its transaction
abbrev pub concerns : List ℕ → ℕ → ℕ → Bool
concerns p id transaction =
    (eqb (kind_of p) 2 && eqb (number_of p) id)
    || ((eqb (kind_of p) 3 && (eqb (number_of p) id || eqb (second_of p) id))
    || (eqb (kind_of p) 1 && eqb (number_of p) transaction))

-- the patch record is a precedence pair, and in a table the task with this id comes before or after one of its two
abbrev pub alongside : List (List ℕ) → List ℕ → ℕ → Bool
alongside rs p id = (eqb (kind_of p) 3 && eqb (sort_of p) 1) && (beside rs id (number_of p) || beside rs id (second_of p))

-- the task at place i of the outcome is touched: a record of the patch concerns it, or is a precedence pair, and the task comes
-- before or after one of its two in the base or in the outcome
unfoldable pub touched : List (List ℕ) → List (List ℕ) → ℕ → Bool
touched base patch i =
    let task = task_at (outcome base patch) i in
    some
    (λ k.
    let p = get_or patch k [] in
    concerns p task.id task.transaction || (alongside base p task.id || alongside (outcome base patch) p task.id))
    (length patch)

abbrev pub touched_count : List (List ℕ) → List (List ℕ) → ℕ
touched_count base patch = count_to (touched base patch) (task_count (outcome base patch))

-- where the task at place i of the outcome stood in the base
abbrev pub old_place : List (List ℕ) → List (List ℕ) → ℕ → ℕ
old_place base patch i = place_of (tasks base) (task_at (outcome base patch) i).id

-- a cell with neither task touched is the base map's cell at the two ids' old places; any other is decided from the outcome
unfoldable pub carried : List (List ℕ) → List (List ℕ) → List ℕ → ℕ → ℕ → Bool
carried base patch rows i j =
    cond (touched base patch i || touched base patch j)
    (decided (outcome base patch) i j)
    (cell rows (old_place base patch i) (old_place base patch j))

-- the map after a patch
abbrev pub patched_map : List (List ℕ) → List (List ℕ) → List ℕ → List ℕ
patched_map base patch rows = map_from (task_count (outcome base patch)) (carried base patch rows)
