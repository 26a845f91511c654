-- The tasks along the paths of a patch record: an id that is found leads to the row of its task, and one that no task has is on no
-- path.
use Prim.Native.Nat.{ℕ, ◌<◌}
use mathlib.Core.List.{List}
use mathlib.Core.Bool.{false, or_comm}
use mathlib.Core.Path.{◌≡◌, ap, sym, ◌∙◌}
use native.Mathlib.Omega.{arith}
use Rattle.rules.specs.Records.{tasks, task_count, task_at, place_of, listed}
use Rattle.rules.specs.Preempt.{comes_before, beside}
use Rattle.rules.proofs.Numbers.{either, never}
use Rattle.rules.proofs.Before.{before_path, first_listed_of, last_listed_of}
use Rattle.rules.proofs.Table.Listed.{Listed, place_below, number_at_place}
use Rattle.rules.specs.Blocks.{records}
use Rattle.table.proofs.Tables.{shape, names_listed}
use Rattle.patch.specs.declared.related.Related.{Related}
use Rattle.table.proofs.Closed.{beside-cell}
use Rattle.table.proofs.Places.{place_in}
use Rattle.patch.specs.Touched.{place_with, beside_in}
use Rattle.patch.proofs.Touching.{ids_listed}

-- what is not listed is on no path
unlisted_apart : (rs : List (List ℕ)) → Listed rs → (a b : ℕ) → listed (tasks rs) b ≡ false → beside rs a b ≡ false
unlisted_apart rs named a b absent =
    let after : comes_before rs a b ≡ false = either (comes_before rs a b) (λ t. never (listed (tasks rs) b) (last_listed_of rs named (before_path rs a b t)) absent) (λ t. t) in
    let before : comes_before rs b a ≡ false = either (comes_before rs b a) (λ t. never (listed (tasks rs) b) (first_listed_of rs named (before_path rs b a t)) absent) (λ t. t) in
    rw (after, before)

-- of an outcome's tasks
module _ (r : Related) where
  abbrev rs : List (List ℕ)
  rs = records r.tasks.table.image.now

  pub beside_found : (x i : ℕ) → i < r.tasks.table.tasks → beside_in r x i ≡ beside rs (task_at rs i).id x
  beside_found x i h =
      let named = names_listed r.tasks.table in
      let place = place_of (tasks rs) x in
      let found : place_with r.tasks x ≡ place = place_in (tasks rs) r.tasks.columns.ids r.tasks.table.tasks (ids_listed r.tasks) x in
      let counted : r.tasks.table.tasks ≡ task_count rs = r.tasks.table.tasks_counted in
      either (listed (tasks rs) x)
      (λ t.
      let below = place_below (tasks rs) x t in
      rw (found, counted, t)
      (beside-cell rs r.beside (shape r.tasks.table).few_tasks r.paths place i below (omega arith)
      ∙ ap (λ (id : ℕ). beside rs id (task_at rs i).id) (number_at_place (tasks rs) x t)
      ∙ or_comm (comes_before rs x (task_at rs i).id) (comes_before rs (task_at rs i).id x)))
      (λ t. rw (found, counted, t) (sym (unlisted_apart rs named (task_at rs i).id x t)))
