-- The reserve is enough, the paper's Theorem 1: the instances on the stack at a moment are a chain of the table's map, and
-- no chain weighs more than the chain bound.
use Prim.Native.Nat.{ℕ, ◌≤◌}
use mathlib.Core.List.{List}
use mathlib.Core.Bool.{true}
use mathlib.Core.Path.{◌≡◌, sym, subst, ◌∙◌}
use native.Mathlib.Omega.{arith}
use Rattle.rules.specs.declared.Form.TheVariants.{Table}
use Rattle.rules.specs.declared.Bounds.{Bounds}
use Rattle.rules.specs.Numbers.{Bytes}
use Rattle.rules.specs.Blocks.{records, image_of}
use Rattle.rules.specs.Records.{task_count}
use Rattle.rules.specs.Preempt.{decided, map_of}
use Rattle.rules.specs.Chains.{Figures, FiguresOf, chain_bound}
use Rattle.rules.specs.Execution.{Instance, KeepsTo, on_stack, Enough}
use Rattle.rules.specs.Refusals.{accepted, table_verdict}
use Rattle.rules.specs.Calls.{over, map_verdict, map_after, bounds_found, BoundCall}
use Rattle.rules.specs.Runs.{Step, left_after}
use Rattle.rules.proofs.Maps.{cell_of_map}
use Rattle.rules.proofs.Refusals.{accepted_parts, linked_references}
use Rattle.rules.proofs.Table.Listed.{listed_of}
use Rattle.rules.proofs.Patch.Valid.{valid_of, valid_few_tasks}
use Rattle.rules.proofs.Patch.TrueMap.{true_cell}
use Rattle.rules.proofs.Patch.Run.{over_again, run_left, afresh_true}
use Rattle.rules.proofs.FourBounds.{Ordered, figures_ordered}
use Rattle.rules.proofs.FourBounds.Accepted.{accepted-listed, accepted_climbing}
use Rattle.rules.proofs.FourBounds.Shown.{shown_accepted, worked}
use Rattle.rules.proofs.Enough.Stacked.{stacked, places, stacked_one, stacked_weight, stacked_nested}
use Rattle.rules.proofs.Enough.Nesting.{HasDecided, lemma_3}
use Rattle.rules.proofs.Cases.{figure2}
use Rattle.rules.proofs.Enough.Figure2.{figure2_run, figure2_accepted, figure2_records, figure2_keeps}
pub mod Instances
pub mod Pairwise
pub mod Stacked
pub mod Nesting
pub mod Figure2

-- of an accepted table and any map that has those cells, the bounds are enough for any run that keeps to the table
pub enough_over : (image rows : List ℕ) (f : Figures) → accepted (table_verdict image) ≡ true → HasDecided (records image) rows
    → FiguresOf (records image) rows f → (q : ℕ) (run : List Instance) → KeepsTo q (records image) run
    → Enough (records image) run (bounds_found (records image) f)
enough_over image rows f table covers right q run keeps =
    record {
      chain = λ m. omega (arith, most m);
      path = λ m. omega (arith, most m, ordered);
      transactions = λ m. omega (arith, most m, ordered);
      levels = λ m. omega (arith, most m, ordered);
    }
  where
    rs : List (List ℕ)
    rs = records image

    ordered : Ordered (bounds_found rs f)
    ordered = figures_ordered rs rows f (accepted_climbing image table) (accepted-listed image table) right

    most : (m : ℕ) → on_stack rs m run ≤ chain_bound rs f
    most m =
        let named = listed_of rs (linked_references rs (accepted_parts image table).1) in
        let chain = lemma_3 q rs named run keeps rows covers (stacked m run) (stacked_one m run) (stacked_nested m run keeps.one_by_one) in
        omega (arith, stacked_weight rs m run, right.chain.most (places (stacked m run)) chain)

-- Theorem 1: of an accepted table and its own map the four bounds are enough for every run that keeps to the table
pub reserve_enough : (image : List ℕ) (f : Figures) → accepted (table_verdict image) ≡ true
    → FiguresOf (records image) (map_of (records image)) f → (q : ℕ) (run : List Instance) → KeepsTo q (records image) run
    → Enough (records image) run (bounds_found (records image) f)
reserve_enough image f table =
    enough_over image (map_of rs) f table
    (λ i j h l may. cell_of_map (task_count rs) (decided rs) i j (valid_few_tasks rs (valid_of image table)) h l ∙ may)
  where
    rs : List (List ℕ)
    rs = records image

-- its premises hold together: the image of figure 2 is accepted, and a run keeps to it
pub figure2_enough : (f : Figures) → FiguresOf figure2 (map_of figure2) f → Enough figure2 figure2_run (bounds_found figure2 f)
figure2_enough f right =
    let e = figure2_records in
    let right' = subst (λ (rs : List (List ℕ)). FiguresOf rs (map_of rs) f) (sym e) right in
    let keeps = subst (λ (rs : List (List ℕ)). KeepsTo 1 rs figure2_run) (sym e) figure2_keeps in
    subst (λ (rs : List (List ℕ)). Enough rs figure2_run (bounds_found rs f)) e
    (reserve_enough (image_of Table figure2) f figure2_accepted right' 1 figure2_run keeps)

-- the bounds that a bound call answers over a true map are enough
pub enough_answered : (image rows ids : List ℕ) (answer : Bounds) (later : List ℕ) → BoundCall image rows ids answer later
    → answer.number ≡ 0 → rows ≡ over (map_of (records image)) rows
    → (q : ℕ) (run : List Instance) → KeepsTo q (records image) run → Enough (records image) run answer
enough_answered image rows ids answer later call fine right q run keeps =
    let table = shown_accepted image rows ids answer later call fine in
    let out = worked image rows ids answer later call fine in
    rw out.found.0
    (enough_over image rows out.figures table (λ i j h l may. true_cell (records image) rows (valid_of image table) right i j h l ∙ may) out.right q run keeps)

-- so are those that it answers over what a map call wrote
pub reserve_enough_called : (image rows ids : List ℕ) (answer : Bounds) (later : List ℕ) → accepted (map_verdict image rows) ≡ true
    → BoundCall image (map_after image rows) ids answer later → answer.number ≡ 0
    → (q : ℕ) (run : List Instance) → KeepsTo q (records image) run → Enough (records image) run answer
unfolding map_after
reserve_enough_called image rows ids answer later wrote call fine =
    enough_answered image (map_after image rows) ids answer later call fine (rw wrote (over_again (records image) rows))

-- and, by demand 3, those that it answers over what any run of patches left of a valid table and its true map
pub reserve_enough_patched : (image rows : List ℕ) (ps : List Step) → Bytes image → accepted (table_verdict image) ≡ true
    → rows ≡ over (map_of (records image)) rows → (ids : List ℕ) (answer : Bounds) (later : List ℕ)
    → BoundCall (left_after image rows ps).image (left_after image rows ps).rows ids answer later → answer.number ≡ 0
    → (q : ℕ) (run : List Instance) → KeepsTo q (records (left_after image rows ps).image) run
    → Enough (records (left_after image rows ps).image) run answer
reserve_enough_patched image rows ps bytes table right ids answer later call fine =
    let s = left_after image rows ps in
    enough_answered s.image s.rows ids answer later call fine (afresh_true s (run_left image rows ps bytes table right))
