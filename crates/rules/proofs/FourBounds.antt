-- The four bounds: how the answer of a bound call is ordered, for every image and every map, and what none of them passes.
use Prim.Native.Nat.{ℕ, ◌≤◌, ◌<◌}
use mathlib.Core.List.{List, []}
use mathlib.Core.Bool.{true, ◌||◌}
use mathlib.Core.Path.{◌≡◌}
use native.Mathlib.Omega.{arith}
use lib.ListN.{length, get_or}
use lib.Dec.{ltb}
use Rattle.rules.specs.declared.Verdict.{Verdict}
use Rattle.rules.specs.declared.Bounds.{Bounds}
use Rattle.rules.specs.Numbers.{Bytes, sum_to}
use Rattle.rules.specs.Blocks.{records}
use Rattle.rules.specs.Records.{task_count, task_at, tasks, transactions, listed}
use Rattle.rules.specs.Chains.{related, size_at, priority_at, Figures, FiguresOf}
use Rattle.rules.specs.Refusals.{accepted, table_verdict, short_refusal}
use Rattle.rules.specs.Calls.{bound_verdict, bound_refusal, bounds_found, BoundCall, BoundsWorkedOut}
use Rattle.rules.proofs.Refusals.{accepted_both}
use Rattle.rules.proofs.Numbers.{either}
use Rattle.rules.proofs.Table.Ranges.{le2_small}
use Rattle.rules.proofs.Table.Shape.{Shape, of_kind_bytes}
use Rattle.rules.proofs.Table.Listed.{table_of}
use Rattle.rules.proofs.Related.{Climbing}
use Rattle.rules.proofs.FourBounds.Order.{chain≤path, path≤levels, chain≤transactions}
use Rattle.rules.proofs.FourBounds.Total.{total_within, transactions≤total, levels≤total}
use Rattle.rules.proofs.FourBounds.Accepted.{accepted-listed, accepted_climbing}
pub mod Order
pub mod Accepted
pub mod Total
pub mod Unique
pub mod Shown

-- chain <= path <= levels, and chain <= transactions
abbrev pub Ordered : Bounds → Type 0
Ordered answer =
    (answer.chain ≤ answer.path) × (answer.path ≤ answer.levels) × (answer.chain ≤ answer.transactions)

-- a refused call answers 0 everywhere
refused_ordered : (v : Verdict) → Ordered (bound_refusal v)
refused_ordered v = (omega arith, omega arith, omega arith)

-- the figures of a table are ordered, where tasks yield only to higher priorities and every task's transaction is listed
pub figures_ordered : (rs : List (List ℕ)) (rows : List ℕ) (f : Figures) → Climbing rs
    → ((i : ℕ) → i < task_count rs → listed (transactions rs) (task_at rs i).transaction ≡ true)
    → FiguresOf rs rows f → Ordered (bounds_found rs f)
figures_ordered rs rows f climbing known right =
    let (c, path, heavy) = right.path.reached in (
      chain≤path (task_count rs) (related rs rows) (size_at rs) f.path f.chain right.path right.chain.among,
      omega (arith, path≤levels rs climbing rows c path, heavy, right.levels),
      chain≤transactions rs rows f.transactions f.chain known right.transactions right.chain.among,
    )

-- always: chain <= path <= levels, and chain <= transactions
pub bounds_ordered : (image rows ids : List ℕ) (answer : Bounds) (later : List ℕ) → BoundCall image rows ids answer later → Ordered answer
unfolding bound_verdict
bounds_ordered image rows ids answer later call =
    either (accepted v)
    (λ t. worked (accepted_both (table_verdict image) (short_refusal (ltb (length rows) 64 || ltb (length ids) 64)) t).0 (call.worked t))
    (λ t. rw (call.refused t).0 (refused_ordered v))
  where
    v : Verdict
    v = bound_verdict image rows ids

    worked : accepted (table_verdict image) ≡ true → BoundsWorkedOut (records image) rows ids answer later → Ordered answer
    worked table out =
        rw out.found.0 (figures_ordered (records image) rows out.figures (accepted_climbing image table) (accepted-listed image table) out.right)

-- 64 tasks of at most 65,535 bytes weigh at most 4,194,240
abbrev pub WithinLimits : Bounds → Type 0
WithinLimits answer =
    (answer.chain ≤ 4194240) × (answer.path ≤ 4194240) × (answer.transactions ≤ 4194240) × (answer.levels ≤ 4194240)

-- of every accepted table and every lent map, no bound is above that
pub bounds_within : (image rows : List ℕ) (f : Figures) → Bytes image → accepted (table_verdict image) ≡ true
    → FiguresOf (records image) rows f → WithinLimits (bounds_found (records image) f)
bounds_within image rows f bytes table right =
    let ordered = figures_ordered rs rows f climbing (accepted-listed image table) right in
    let most : f.levels ≤ 4194240 = omega (arith, total, right.levels, levels≤total (size_at rs) (priority_at rs) (task_count rs)) in (
      omega (arith, most, ordered),
      omega (arith, most, ordered),
      omega (arith, total, transactions≤total rs climbing rows f.transactions shape.transactions_rise right.transactions),
      most,
    )
  where
    rs : List (List ℕ)
    rs = records image

    climbing : Climbing rs
    climbing = accepted_climbing image table

    shape : Shape rs
    shape = (table_of image bytes table).0

    total : sum_to (size_at rs) (task_count rs) ≤ 4194240
    total =
        total_within (size_at rs) (task_count rs) shape.few_tasks
        (λ i h. omega (arith, le2_small (get_or (tasks rs) i []) (of_kind_bytes image bytes 2 i) 20))
