-- From what is found over rows, sizes and places to the figures of the table and its map.
use Prim.Native.Nat.{ℕ, ◌+◌, ◌<◌}
use mathlib.Core.List.{List, [], ◌∷◌, map}
use mathlib.Core.Bool.{Bool, true, cond, ◌&&◌}
use mathlib.Core.Path.{◌≡◌, refl, sym, ap, subst, fun_ext, ◌∙◌}
use borrow.Author.Tests.{lt-ltb}
use lib.ListN.{length, get_or}
use lib.Dec.{ltb, eqb}
use Rattle.rules.proofs.Tests.{T_true, true_T}
use Rattle.rules.specs.Records.{number_of, transactions, task_count}
use Rattle.rules.specs.Numbers.{sum_to, largest_to}
use Rattle.rules.specs.Preempt.{cell, bit_at}
use Rattle.rules.proofs.Table.Shape.{Shape}
use Rattle.sets.specs.Places.{Below}
use Rattle.preempt.specs.declared.columns.Columns.{Columns}
use Rattle.preempt.specs.Tasks.{TasksRead}
use Rattle.preempt.proofs.Reading.{id_is, transaction_is, priority_is, size_is, threshold_is}
use Rattle.ceiling.specs.Near.{size_of}
use Rattle.stack.specs.Levels.{levels_of}
use Rattle.stack.specs.Figures.{own_task, OwnPaths}
use Rattle.rules.specs.Chains.{weight, Chain, Path, All, Before, Largest, Heaviest, related, size_at, id_at, priority_at, in_transaction, TransactionBound, level_bound}
use Rattle.rules.specs.Chains.Before.{less, later, shorter}

-- every place of the list is below n
abbrev pub Within : ℕ → List ℕ → Type 0
Within n [] = Unit {0}
Within n (i ∷ c) = (i < n) × Within n c

pub chain_within : (n : ℕ) (R : ℕ → ℕ → Bool) (c : List ℕ) → Chain n R c → Within n c
chain_within n R [] h = tt
chain_within n R (i ∷ c) h = (h.0, chain_within n R c h.2)

pub path_within : (n : ℕ) (R : ℕ → ℕ → Bool) (c : List ℕ) → Path n R c → Within n c
path_within n R [] h = tt
path_within n R (i ∷ []) h = (h, tt)
path_within n R (i ∷ (j ∷ c)) h = (h.0, path_within n R (j ∷ c) h.2)

map_same : (c : List ℕ) → map (λ (i : ℕ). i) c ≡ c
map_same [] = refl
map_same (i ∷ c) = ap (λ (d : List ℕ). i ∷ d) (map_same c)

-- where ids rise with places, what comes before by places comes before by ids
before_ids : (n : ℕ) (id : ℕ → ℕ) → ((i j : ℕ) → i < j → j < n → id i < id j) → {c d : List ℕ} → Within n d → Before c d → Before (map id c) (map id d)
before_ids n id rise w (less {a = a} {b = b} h) = less (rise a b h w.0)
before_ids n id rise w (later b) = later (before_ids n id rise w.1 b)
before_ids n id rise w shorter = shorter

-- so the heaviest list by places is the heaviest by ids
heaviest_ids : (P : List ℕ → Type 0) (n : ℕ) (S id : ℕ → ℕ) (c : List ℕ) → ((d : List ℕ) → P d → Within n d) → ((i j : ℕ) → i < j → j < n → id i < id j)
    → Heaviest P S (λ i. i) c → Heaviest P S id c
heaviest_ids P n S id c within rise h =
    record {
      among = h.among;
      most = h.most;
      first = λ d chain same other.
          before_ids n id rise (within d chain)
          (subst (λ (l : List ℕ). Before l d) (map_same c) (subst (λ (l : List ℕ). Before (map (λ (i : ℕ). i) c) l) (map_same d) (h.first d chain same other)));
    }

-- lists that pass one test wherever they pass another
pub all_as : (n : ℕ) (test other : ℕ → Bool) → ((i : ℕ) → i < n → test i ≡ true → other i ≡ true) → (c : List ℕ) → Within n c → All test c → All other c
all_as n test other same [] w h = tt
all_as n test other same (i ∷ c) w h =
    (true_T (other i) (same i w.0 (T_true (test i) h.0)), all_as n test other same c w.1 h.1)

-- a path bound over one test is that over another that agrees with it at the places
pub largest_as : (n : ℕ) (R : ℕ → ℕ → Bool) (test other : ℕ → Bool) (S : ℕ → ℕ) (r : ℕ) → ((i : ℕ) → i < n → test i ≡ other i)
    → Largest (λ c. Path n R c × All test c) (weight S) r → Largest (λ c. Path n R c × All other c) (weight S) r
largest_as n R test other S r same h =
    record {
      reached = (h.reached.0, (h.reached.1.0, all_as n test other (λ i k t. sym (same i k) ∙ t) h.reached.0 (path_within n R h.reached.0 h.reached.1.0) h.reached.1.1), h.reached.2);
      most = λ c p. h.most c (p.0, all_as n other test (λ i k t. same i k ∙ t) c (path_within n R c p.0) p.1);
    }

-- a path bound over a set that holds every place is the path bound
pub largest_all : (n : ℕ) (R : ℕ → ℕ → Bool) (cover : ℕ) (S : ℕ → ℕ) (r : ℕ) → Below n cover
    → Largest (λ c. Path n R c × All (bit_at cover) c) (weight S) r → Largest (Path n R) (weight S) r
largest_all n R cover S r below h =
    record {
      reached = (h.reached.0, h.reached.1.0, h.reached.2);
      most = λ c p. h.most c (p, everywhere c (path_within n R c p));
    }
  where
    everywhere : (c : List ℕ) → Within n c → All (bit_at cover) c
    everywhere [] w = tt
    everywhere (i ∷ c) w = (true_T (bit_at cover i) (below i ∙ lt-ltb i n w.0), everywhere c w.1)

module _ (rs : List (List ℕ)) (lent : List ℕ) (count : ℕ) (columns : Columns) (shape : Shape rs) (read : TasksRead rs count columns) where
  pub sizes_same : size_of columns.sizes ≡ size_at rs
  sizes_same = fun_ext (size_is rs count columns shape read)

  priorities_same : (λ (i : ℕ). get_or columns.priorities i 0) ≡ priority_at rs
  priorities_same = fun_ext (priority_is rs count columns shape read)

  pub ids_same : (λ (i : ℕ). get_or columns.ids i 0) ≡ id_at rs
  ids_same = fun_ext (id_is rs count columns shape read)

  -- rows in which a cell counts as it does for the bounds are the relation
  pub rows_same : (rows : List ℕ)
      → ((i j : ℕ) → cell rows i j ≡ ((ltb i count && ltb j count) && (ltb (get_or columns.thresholds i 0) (get_or columns.priorities j 0) && cell lent i j)))
      → cell rows ≡ related rs lent
  unfolding related
  rows_same rows cells =
      fun_ext
      (λ i.
      fun_ext
      (λ j.
      cells i j ∙ rw (read.count, threshold_is rs count columns shape read i, priority_is rs count columns shape read j)))

  module _ (rows : List ℕ) (same : cell rows ≡ related rs lent) where
    -- what is said of the number of tasks that were read, the rows and the sizes holds of the table, the map and its sizes
    pub over_table : (Said : ℕ → (ℕ → ℕ → Bool) → (ℕ → ℕ) → Type 0) → Said count (cell rows) (size_of columns.sizes)
        → Said (task_count rs) (related rs lent) (size_at rs)
    over_table Said h =
        subst (λ (n : ℕ). Said n (related rs lent) (size_at rs)) read.count
        (subst (λ (R : ℕ → ℕ → Bool). Said count R (size_at rs)) same
        (subst (λ (S : ℕ → ℕ). Said count (cell rows) S) sizes_same h))

    -- the heaviest list over the rows, by places, is the heaviest over the relation, by ids
    pub heaviest_found : (Lists : ℕ → (ℕ → ℕ → Bool) → List ℕ → Type 0) → ((n : ℕ) (R : ℕ → ℕ → Bool) (d : List ℕ) → Lists n R d → Within n d)
        → (c : List ℕ) → Heaviest (Lists count (cell rows)) (size_of columns.sizes) (λ i. i) c
        → Heaviest (Lists (task_count rs) (related rs lent)) (size_at rs) (id_at rs) c
    heaviest_found Lists within c h =
        heaviest_ids (Lists (task_count rs) (related rs lent)) (task_count rs) (size_at rs) (id_at rs) c (within (task_count rs) (related rs lent)) shape.tasks_rise
        (over_table (λ n R S. Heaviest (Lists n R) S (λ i. i) c) h)

    -- a bound over lists of the rows is one over lists of the relation
    pub over_relation : (Lists : ℕ → (ℕ → ℕ → Bool) → List ℕ → Type 0) (r : ℕ) → Largest (Lists count (cell rows)) (weight (size_of columns.sizes)) r
        → Largest (Lists (task_count rs) (related rs lent)) (weight (size_at rs)) r
    over_relation Lists r h = over_table (λ n R S. Largest (Lists n R) (weight S) r) h

    -- a bound by transactions over the rows is one over the relation
    pub own_found : (r : ℕ) → OwnPaths count rows columns.sizes columns.transactions (transactions rs) (length (transactions rs)) r → TransactionBound rs lent r
    own_found r own =
        record {
          each = own.each;
          bound = λ k l.
              largest_as (task_count rs) (related rs lent) (own_task columns.transactions (transactions rs) k) (in_transaction rs k) (size_at rs) (own.each k)
              (λ i h. ap (λ (n : ℕ). eqb n (number_of (get_or (transactions rs) k []))) (transaction_is rs count columns shape read i))
              (over_relation (λ n R c. Path n R c × All (own_task columns.transactions (transactions rs) k) c) (own.each k) (own.bound k l));
          total = own.total;
        }

  -- the largest sizes by priority, added up, over any priorities and sizes
  abbrev level_sum : (ℕ → ℕ) → (ℕ → ℕ) → ℕ → ℕ
  level_sum P S n = sum_to (λ p. largest_to (λ i. cond (eqb (P i) p) (S i) 0) n) (largest_to P n + 1)

  pub levels_found : levels_of columns.priorities columns.sizes count ≡ level_bound rs
  levels_found =
      ap (λ (P : ℕ → ℕ). level_sum P (size_of columns.sizes) count) priorities_same
      ∙ ap (λ (S : ℕ → ℕ). level_sum (priority_at rs) S count) sizes_same
      ∙ ap (level_sum (priority_at rs) (size_at rs)) read.count
