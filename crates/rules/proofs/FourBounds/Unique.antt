-- Each figure, and each answer of a bound call with the ids afterwards, is determined by the table and the map.
use Prim.Native.Nat.{ℕ, ◌<◌}
use mathlib.Core.List.{List, List-discrete}
use mathlib.Core.Path.{◌≡◌, refl, ap, sym, ◌∙◌}
use native.Mathlib.Decide.{ℕ_discrete}
use native.Mathlib.Omega.{arith}
use lib.ListN.{length}
use Rattle.rules.specs.declared.Bounds.{Bounds}
use Rattle.rules.specs.Blocks.{records}
use Rattle.rules.specs.Records.{task_count, transactions}
use Rattle.rules.specs.Chains.{weight, Chain, Path, All, Before, Largest, Heaviest, related, size_at, id_at, in_transaction, TransactionBound, Figures, FiguresOf, chain_ids}
use Rattle.rules.specs.Chains.Before.{less, later, shorter}
use Rattle.rules.specs.Refusals.{accepted}
use Rattle.rules.specs.Calls.{over, bound_verdict, bounds_found, BoundCall, BoundsWorkedOut}
use Rattle.rules.proofs.Numbers.{either, sum_to_ext}

-- there is one largest value
pub largest_unique : (P : List ℕ → Type 0) (f : List ℕ → ℕ) (r s : ℕ) → Largest P f r → Largest P f s → r ≡ s
largest_unique P f r s a b =
    let (c, pc, ec) = a.reached in
    let (d, pd, ed) = b.reached in
    omega (arith, a.most d pd, b.most c pc, ec, ed)

-- of two lists only one comes before the other
once_apart : {s t u v : List ℕ} → Before s t → Before u v → s ≡ v → t ≡ u → ⊥
once_apart (less {a = a} {b = b} l) (less {a = c} {b = d} m) p q =
    let first : a ≡ d = cc in
    let second : b ≡ c = cc in
    omega arith
once_apart (less {a = a} {b = b} l) (later {a = c} m) p q =
    let first : a ≡ c = cc in
    let second : b ≡ c = cc in
    omega arith
once_apart (less l) shorter p q = cc
once_apart (later {a = a} l) (less {a = c} {b = d} m) p q =
    let first : a ≡ d = cc in
    let second : a ≡ c = cc in
    omega arith
once_apart (later {s = s} {t = t} l) (later {s = u} {t = v} m) p q =
    let rest : s ≡ v = cc in
    let others : t ≡ u = cc in
    once_apart l m rest others
once_apart (later l) shorter p q = cc
once_apart shorter (less m) p q = cc
once_apart shorter (later m) p q = cc
once_apart shorter shorter p q = cc

pub before_once : {s t : List ℕ} → Before s t → Before t s → ⊥
before_once l m = once_apart l m refl refl

-- there is one heaviest list that is first among equals
pub heaviest_unique : (P : List ℕ → Type 0) (S id : ℕ → ℕ) (c d : List ℕ) → Heaviest P S id c → Heaviest P S id d → c ≡ d
heaviest_unique P S id c d a b =
    elim (List-discrete ℕ_discrete c d) [
      | yes e ↦ e
      | no differ ↦
          absurd (before_once (a.first d b.among (sym same) (λ e. differ (sym e))) (b.first c a.among same differ))
    ]
  where
    same : weight S c ≡ weight S d
    same = omega (arith, a.most d b.among, b.most c a.among)

-- there is one bound by transactions
pub transactions_unique : (rs : List (List ℕ)) (rows : List ℕ) (r s : ℕ) → TransactionBound rs rows r → TransactionBound rs rows s → r ≡ s
transactions_unique rs rows r s a b =
    a.total ∙ sum_to_ext a.each b.each (length (transactions rs)) each_same ∙ sym b.total
  where
    each_same : (t : ℕ) → t < length (transactions rs) → a.each t ≡ b.each t
    each_same t l =
        largest_unique (λ c. Path (task_count rs) (related rs rows) c × All (in_transaction rs t) c) (weight (size_at rs))
        (a.each t) (b.each t) (a.bound t l) (b.bound t l)

-- a table and a map have one list of figures
pub figures_unique : (rs : List (List ℕ)) (rows : List ℕ) (f g : Figures) → FiguresOf rs rows f → FiguresOf rs rows g → f ≡ g
figures_unique rs rows f g a b =
    λ i. record { chain = chain i; path = path i; transactions = transactions' i; levels = levels i }
  where
    chain : f.chain ≡ g.chain
    chain = heaviest_unique (Chain (task_count rs) (related rs rows)) (size_at rs) (id_at rs) f.chain g.chain a.chain b.chain

    path : f.path ≡ g.path
    path = largest_unique (Path (task_count rs) (related rs rows)) (weight (size_at rs)) f.path g.path a.path b.path

    transactions' : f.transactions ≡ g.transactions
    transactions' = transactions_unique rs rows f.transactions g.transactions a.transactions b.transactions

    levels : f.levels ≡ g.levels
    levels = a.levels ∙ sym b.levels

-- the answer and the later ids of figures that are worked out are determined
worked_determined : (rs : List (List ℕ)) (rows ids : List ℕ) (a b : Bounds) (l m : List ℕ)
    → BoundsWorkedOut rs rows ids a l → BoundsWorkedOut rs rows ids b m → (a ≡ b) × (l ≡ m)
worked_determined rs rows ids a b l m x y = (
  x.found.0 ∙ ap (bounds_found rs) same ∙ sym y.found.0,
  x.found.1 ∙ ap (λ f. over (chain_ids rs f) ids) same ∙ sym y.found.1,
)
  where
    same : x.figures ≡ y.figures
    same = figures_unique rs rows x.figures y.figures x.right y.right

-- the answer of a bound call and the ids afterwards are determined, for every image, map and room
pub bound_call_determined : (image rows ids : List ℕ) (a b : Bounds) (l m : List ℕ)
    → BoundCall image rows ids a l → BoundCall image rows ids b m → (a ≡ b) × (l ≡ m)
bound_call_determined image rows ids a b l m x y =
    either (accepted (bound_verdict image rows ids))
    (λ t. worked_determined (records image) rows ids a b l m (x.worked t) (y.worked t))
    (λ t. ((x.refused t).0 ∙ sym (y.refused t).0, (x.refused t).1 ∙ sym (y.refused t).1))
