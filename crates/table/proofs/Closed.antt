-- Rows of the precedence pairs, closed, are those of what comes before what: a path over places is a path over the ids there.
use Prim.Native.Nat.{ℕ, ◌≤◌, ◌<◌}
use mathlib.Core.List.{List}
use mathlib.Core.Bool.{Bool, true, false, ◌||◌}
use mathlib.Core.Path.{◌≡◌, ap, ◌∙◌}
use native.Mathlib.Omega.{arith}
use borrow.Author.Tests.{lt-ltb, le-ltb}
use lib.ListN.{replicate}
use Rattle.rules.specs.Numbers.{Bytes, lowest}
use Rattle.rules.specs.Blocks.{records}
use Rattle.rules.specs.Records.{task_count, task_at}
use Rattle.rules.specs.Reach.{reaches}
use Rattle.rules.specs.Preempt.{paired, comes_before, beside, cell, map_from}
use Rattle.rules.specs.Refusals.{accepted, fine, refusal, circles, circle_refusal, table_verdict}
use Rattle.rules.proofs.Numbers.{lowest_ext}
use Rattle.rules.proofs.Refusals.{accepted_parts, linked_references}
use Rattle.rules.proofs.Reach.{reach_renamed}
use Rattle.rules.proofs.Maps.{map_ext, cell_of_map}
use Rattle.sets.specs.Closing.{IsMap}
use Rattle.sets.proofs.Maps.{map-none, blank-cell}
use Rattle.sets.proofs.Paths.{is_map}
use Rattle.table.specs.Precedence.{SoundRecords, paired_at, with_pairs, before_at, before_map, beside_map}
use Rattle.table.proofs.Counts.{table_held}
use Rattle.table.proofs.Places.{shape}

-- rows that are all 0 are a map of any count
pub blank-map : (n : ℕ) (rows : List ℕ) → rows ≡ replicate 64 0 → IsMap n rows
blank-map n rows blank = rw blank (map-none n (cell (replicate 64 0)) blank-cell)

pub before_closed : (rs : List (List ℕ)) (rows : List ℕ) → rows ≡ replicate 64 0 → task_count rs ≤ 64
    → map_from (task_count rs) (reaches (cell (with_pairs 1 rs rows)) (λ k. k) (task_count rs)) ≡ before_map rs
unfolding before_map comes_before
before_closed rs rows blank most =
    let n = task_count rs in
    let steps = cell (with_pairs 1 rs rows) in
    let none : (i j : ℕ) → cell rows i j ≡ false = λ i j. rw blank (blank-cell i j) in
    let step : (i j : ℕ) → i < n → j < n → steps i j ≡ paired_at 1 rs i j = λ i j h l. cell_of_map n (λ i j. cell rows i j || paired_at 1 rs i j) i j most h l ∙ ap (λ (x : Bool). x || paired_at 1 rs i j) (none i j) in
    map_ext n (reaches steps (λ k. k) n) (before_at rs) (reach_renamed (paired 1 rs) (λ k. (task_at rs k).id) steps n step n (omega arith))

-- their cells
pub before_cell : (rs : List (List ℕ)) (rows : List ℕ) → task_count rs ≤ 64 → rows ≡ before_map rs
    → (i j : ℕ) → i < task_count rs → j < task_count rs → cell rows i j ≡ before_at rs i j
unfolding before_map
before_cell rs rows most same i j h l =
    ap (λ (m : List ℕ). cell m i j) same ∙ cell_of_map (task_count rs) (before_at rs) i j most h l

-- set both ways, they are the rows of what is before or after what
pub beside_turned : (rs : List (List ℕ)) (rows : List ℕ) (count : ℕ) → task_count rs ≤ 64 → count ≡ task_count rs → rows ≡ before_map rs
    → map_from count (λ i j. cell rows i j || cell rows j i) ≡ beside_map rs
unfolding beside_map
beside_turned rs rows count most counted same =
    let here = before_cell rs rows most same in
    ap (λ (n : ℕ). map_from n (λ i j. cell rows i j || cell rows j i)) counted
    ∙ map_ext (task_count rs) (λ i j. cell rows i j || cell rows j i) (λ i j. beside rs (task_at rs i).id (task_at rs j).id) (λ i j h l. rw (here i j h l, here j i l h))

-- the cells of those
pub beside-cell : (rs : List (List ℕ)) (rows : List ℕ) → task_count rs ≤ 64 → rows ≡ beside_map rs
    → (i j : ℕ) → i < task_count rs → j < task_count rs → cell rows i j ≡ beside rs (task_at rs i).id (task_at rs j).id
unfolding beside_map
beside-cell rs rows most same i j h l =
    ap (λ (m : List ℕ). cell m i j) same ∙ cell_of_map (task_count rs) (λ i j. beside rs (task_at rs i).id (task_at rs j).id) i j most h l

-- and both are maps
pub before_is_map : (rs : List (List ℕ)) (rows : List ℕ) → task_count rs ≤ 64 → rows ≡ before_map rs → IsMap (task_count rs) rows
unfolding before_map
before_is_map rs rows = is_map (task_count rs) (before_at rs) rows

pub beside_is_map : (rs : List (List ℕ)) (rows : List ℕ) → task_count rs ≤ 64 → rows ≡ beside_map rs → IsMap (task_count rs) rows
unfolding beside_map
beside_is_map rs rows = is_map (task_count rs) (λ i j. beside rs (task_at rs i).id (task_at rs j).id) rows

-- sound records have at most 64 tasks, and those of an accepted table are sound
module _ (image : List ℕ) where
  pub few_tasks : Bytes image → SoundRecords image → task_count (records image) ≤ 64
  few_tasks bytes sound = (shape image bytes sound.sound).few_tasks

  pub sound_records : accepted (table_verdict image) ≡ true → SoundRecords image
  sound_records h =
      let (sound, linked) = accepted_parts image h in
      record { held = table_held image h; sound = sound; referring = linked_references (records image) linked }

-- the first row with its own place is that of the lowest task that comes before itself
pub circle_place : (rs : List (List ℕ)) (rows : List ℕ) → task_count rs ≤ 64 → rows ≡ before_map rs
    → lowest (λ i. cell rows i i) (task_count rs) ≡ lowest (circles rs) (task_count rs)
circle_place rs rows most same =
    lowest_ext (λ i. cell rows i i) (circles rs) (task_count rs) (λ i h. before_cell rs rows most same i i h h)

-- which is refused at its id, and where there is none nothing is
pub circle_found : (rs : List (List ℕ)) (place : ℕ) → lowest (circles rs) (task_count rs) ≡ place → place < task_count rs
    → circle_refusal rs ≡ refusal 14 (task_at rs place).id
circle_found rs place e h = rw (e, lt-ltb place (task_count rs) h)

pub circle_none : (rs : List (List ℕ)) → lowest (circles rs) (task_count rs) ≡ task_count rs → circle_refusal rs ≡ fine
circle_none rs e = rw (e, le-ltb (task_count rs) (task_count rs) (omega arith))
