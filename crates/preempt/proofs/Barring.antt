-- Rows in which tasks of which one comes before the other are set, with the one-way pairs besides, are those of what is barred.
use Prim.Native.Nat.{ℕ, ◌≤◌}
use mathlib.Core.List.{List}
use mathlib.Core.Bool.{Bool, ◌||◌, or_comm}
use mathlib.Core.Path.{◌≡◌, ap, ◌∙◌}
use Rattle.rules.specs.Records.{task_count, task_at}
use Rattle.rules.specs.Preempt.{beside, barred, cell}
use Rattle.rules.proofs.Maps.{map_ext}
use Rattle.table.specs.Precedence.{paired_at, with_pairs, beside_map}
use Rattle.table.proofs.Closed.{beside-cell}
use Rattle.preempt.specs.Tasks.{barred_map}

pub barred_marked : (rs : List (List ℕ)) (rows : List ℕ) → task_count rs ≤ 64 → rows ≡ beside_map rs → with_pairs 0 rs rows ≡ barred_map rs
unfolding barred_map barred
barred_marked rs rows most same =
    map_ext (task_count rs) (λ i j. cell rows i j || paired_at 0 rs i j) (λ i j. barred rs (task_at rs i).id (task_at rs j).id)
    (λ i j h l.
    ap (λ (x : Bool). x || paired_at 0 rs i j) (beside-cell rs rows most same i j h l)
    ∙ or_comm (beside rs (task_at rs i).id (task_at rs j).id) (paired_at 0 rs i j))
