-- Pairs, and which tasks come before which, as rows of cells by the places of the tasks.
use Rattle.std.specs.Prelude.{ℕ, List, Bool, true, ◌||◌, ◌≡◌}
use Rattle.rules.specs.declared.Form.TheVariants.{Table}
use Rattle.rules.specs.Blocks.{records}
use Rattle.rules.specs.Records.{task_count, task_at}
use Rattle.rules.specs.Preempt.{paired, comes_before, beside, cell, map_from}
use Rattle.rules.specs.Refusals.{accepted, records_verdict, reference_refusal}
use Rattle.image.specs.Held.{HoldsRecords}

-- the records of the image lie whole in it, and refusals 4 to 8 find no fault in them
pub record SoundRecords (image : List ℕ) : Type 0 where
  pub held : HoldsRecords image
  pub sound : accepted (records_verdict Table (records image)) ≡ true
  pub referring : accepted (reference_refusal (records image)) ≡ true

-- a pair of this sort names the task at place i first, and the one at place j second
abbrev pub paired_at : ℕ → List (List ℕ) → ℕ → ℕ → Bool
paired_at sort rs i j = paired sort rs (task_at rs i).id (task_at rs j).id

-- rows with the cells of the pairs of this sort besides
abbrev pub with_pairs : ℕ → List (List ℕ) → List ℕ → List ℕ
with_pairs sort rs rows = map_from (task_count rs) (λ i j. cell rows i j || paired_at sort rs i j)

-- the task at place i comes before the one at place j
abbrev pub before_at : List (List ℕ) → ℕ → ℕ → Bool
before_at rs i j = comes_before rs (task_at rs i).id (task_at rs j).id

-- cell j of row i is set where it does
unfoldable pub before_map : List (List ℕ) → List ℕ
before_map rs = map_from (task_count rs) (before_at rs)

-- cell j of row i is set where one of the tasks at places i and j comes before the other
unfoldable pub beside_map : List (List ℕ) → List ℕ
beside_map rs = map_from (task_count rs) (λ i j. beside rs (task_at rs i).id (task_at rs j).id)
