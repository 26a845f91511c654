-- Equations (7) and (8) as the paper states them, for the tasks at places i and j of a table.
use Rattle.std.specs.Prelude.{ℕ, ◌-◌, ◌≤◌, ◌<◌, List, [], ◌⊎◌, ◌≡◌, length, get_or}
use Rattle.rules.specs.Records.{number_of, second_of, sort_of, pairs, task_at, period_in}
use Rattle.rules.specs.Preempt.{ComesBefore}

-- the two tasks are of one transaction
abbrev pub Together : List (List ℕ) → ℕ → ℕ → Type 0
Together rs i j = (task_at rs i).transaction ≡ (task_at rs j).transaction

-- the period T of the first task's transaction
abbrev pub period : List (List ℕ) → ℕ → ℕ
period rs i = period_in rs (task_at rs i).transaction

-- (7): psi is O_i - O_j, and where that is below 0, T more
abbrev pub Psi : List (List ℕ) → ℕ → ℕ → ℕ → Type 0
Psi rs i j psi =
    ((task_at rs j).offset ≤ (task_at rs i).offset → psi ≡ (task_at rs i).offset - (task_at rs j).offset)
    × ((task_at rs i).offset < (task_at rs j).offset → psi ≡ period rs i - ((task_at rs j).offset - (task_at rs i).offset))

-- a one-way pair (a, b) forbids that task a is preempted by task b
abbrev pub Forbids : List ℕ → ℕ → ℕ → Type 0
Forbids r a b = (sort_of r ≡ 0) × (number_of r ≡ a) × (second_of r ≡ b)

-- within one transaction: J_j > psi, or R_i - O_i > T - psi
abbrev pub Overlaps : List (List ℕ) → ℕ → ℕ → ℕ → Type 0
Overlaps rs i j psi =
    (psi < (task_at rs j).jitter) ⊎ (period rs i - psi < (task_at rs i).response - (task_at rs i).offset)

-- (8), where the threshold of i stands for P_i: it is below P_j, no one-way pair forbids it, no path of precedence pairs leads from
-- one of the two to the other, and they are in different transactions or overlap
pub record Preempted (rs : List (List ℕ)) (i j psi : ℕ) : Type 0 where
  pub urgent : (task_at rs i).threshold < (task_at rs j).priority
  pub allowed :
      (k : ℕ) → k < length (pairs rs) → Forbids (get_or (pairs rs) k []) (task_at rs i).id (task_at rs j).id → ⊥
  pub not_before : ComesBefore rs (task_at rs i).id (task_at rs j).id → ⊥
  pub not_after : ComesBefore rs (task_at rs j).id (task_at rs i).id → ⊥
  pub timely : (Together rs i j → ⊥) ⊎ Overlaps rs i j psi
