-- Sets of tasks by their places, as the bits of a number.
use Rattle.std.specs.Prelude.{ℕ, ◌<◌, List, [], Bool, ◌&&◌, ◌||◌, ◌≡◌, ltb, eqb, length, get_or}
use Rattle.rules.specs.Numbers.{some}
use Rattle.rules.specs.Records.{kind_of, number_of, second_of, sort_of}
use Rattle.rules.specs.Patches.{concerns}
use Rattle.rules.specs.Preempt.{bit_at, cell}
use Rattle.table.specs.Numbers.{place_among}
use Rattle.preempt.specs.declared.tasks.Tasks.{Tasks}
use Rattle.patch.specs.declared.related.Related.{Related}

-- of a table's tasks, the places of those that pass the test are in the set
abbrev pub Marks : Tasks → (ℕ → Bool) → ℕ → Type 0
Marks t test set = (i : ℕ) → i < t.table.tasks → bit_at set i ≡ test i

-- the task at place i has this id
abbrev pub has_id : Tasks → ℕ → ℕ → Bool
has_id t id i = eqb id (get_or t.columns.ids i 0)

-- the patch record concerns the task at place i
abbrev pub concerns_at : Tasks → List ℕ → ℕ → Bool
concerns_at t p i = concerns p (get_or t.columns.ids i 0) (get_or t.columns.transactions i 0)

-- the place of the task with this id, or the number of tasks
abbrev pub place_with : Tasks → ℕ → ℕ
place_with t id = place_among t.columns.ids t.table.tasks id

-- the task at place i comes before or after the one with this id, which is one of the tasks
abbrev pub beside_in : Related → ℕ → ℕ → Bool
beside_in r id i = ltb (place_with r.tasks id) r.tasks.table.tasks && cell r.beside (place_with r.tasks id) i

-- the patch record is a precedence pair, and the task at place i comes before or after one of its two
abbrev pub along_in : Related → List ℕ → ℕ → Bool
along_in r p i = (eqb (kind_of p) 3 && eqb (sort_of p) 1) && (beside_in r (number_of p) i || beside_in r (second_of p) i)

-- the patch record touches the task at place i
abbrev pub touched_in : Related → List ℕ → ℕ → Bool
touched_in r p i = concerns_at r.tasks p i || along_in r p i

-- some patch record does
abbrev pub touched_at : List (List ℕ) → Related → ℕ → Bool
touched_at ps r i = some (λ k. touched_in r (get_or ps k []) i) (length ps)
