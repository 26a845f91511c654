-- The figures of a table and a map, worked out by functions that compute.
use Prim.Native.Nat.{ℕ, ◌+◌, ◌<◌}
use mathlib.Core.List.{List}
use mathlib.Core.Bool.{Bool}
use mathlib.Core.Path.{◌≡◌, refl}
use lib.ListN.{length}
use Rattle.rules.specs.Numbers.{sum_to, largest_to}
use Rattle.rules.specs.Records.{task_count, transactions}
use Rattle.rules.specs.Chains.{weight, Path, All, Largest, Figures, FiguresOf, related, size_at, id_at, priority_at, in_transaction, level_bound}
use Rattle.rules.proofs.Related.{Climbing, related_rises}
use Rattle.rules.proofs.FourBounds.Order.{size_in_level}
use Rattle.rules.proofs.Enumerate.Paths.{every, path_sum, path_sum_largest, largest_path}
use Rattle.rules.proofs.Enumerate.Chains.{heaviest, heaviest_heaviest}
pub mod Paths
pub mod Winner
pub mod Chains
pub mod Apart
pub mod Answered

-- one more than the largest priority in use: priorities rise along chains and paths, so none is longer
abbrev pub top_of : List (List ℕ) → ℕ
top_of rs = largest_to (priority_at rs) (task_count rs) + 1

-- the largest sum over the paths of the tasks that pass a test
abbrev pub path_over : List (List ℕ) → List ℕ → (ℕ → Bool) → ℕ
path_over rs rows test = path_sum (task_count rs) (related rs rows) (size_at rs) test (top_of rs)

-- the figures of a table and a map
unfoldable pub figures : List (List ℕ) → List ℕ → Figures
figures rs rows =
    record {
      chain = heaviest (task_count rs) (related rs rows) (size_at rs) (id_at rs) (top_of rs) every;
      path = path_over rs rows every;
      transactions = sum_to (λ t. path_over rs rows (in_transaction rs t)) (length (transactions rs));
      levels = level_bound rs;
    }

-- no two tasks share an id
abbrev pub IdsApart : List (List ℕ) → Type 0
IdsApart rs = (i j : ℕ) → i < task_count rs → j < task_count rs → id_at rs i ≡ id_at rs j → i ≡ j

-- they are those that the definitions ask for, with any map, where tasks yield only to higher priorities
pub figures_right : (rs : List (List ℕ)) (rows : List ℕ) → Climbing rs → IdsApart rs → FiguresOf rs rows (figures rs rows)
unfolding figures
figures_right rs rows climbing apart =
    record {
      chain =
          heaviest_heaviest (task_count rs) (related rs rows) (size_at rs) (id_at rs) (priority_at rs) (top_of rs)
          (related_rises rs climbing rows) (λ i l. (size_in_level (size_at rs) (priority_at rs) (task_count rs) i l).1) apart;
      path = largest_path (task_count rs) (related rs rows) (size_at rs) (path_over rs rows every) (largest every);
      transactions =
          record { each = λ t. path_over rs rows (in_transaction rs t); bound = λ t l. largest (in_transaction rs t); total = refl };
      levels = refl;
    }
  where
    largest : (test : ℕ → Bool) → Largest (λ c. Path (task_count rs) (related rs rows) c × All test c) (weight (size_at rs)) (path_over rs rows test)
    largest test =
        path_sum_largest (task_count rs) (related rs rows) (size_at rs) test (priority_at rs) (top_of rs)
        (related_rises rs climbing rows) (λ i l. (size_in_level (size_at rs) (priority_at rs) (task_count rs) i l).1)
