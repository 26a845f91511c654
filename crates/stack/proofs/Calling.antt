-- The answers of a bound call: refused by the table, by a short map or room, or found.
use Prim.Native.Nat.{ℕ, ◌≤◌, ◌<◌}
use mathlib.Core.List.{List, map}
use mathlib.Core.Bool.{Bool, true, false, ◌||◌}
use mathlib.Core.Path.{◌≡◌, refl, sym, ap, ◌∙◌}
use native.Mathlib.Omega.{arith}
use borrow.Author.Tests.{le-ltb}
use lib.ListN.{length, get_or, take}
use lib.Seq.{get_or-take, length-take-le}
use lib.Dec.{ltb}
use Rattle.std.proofs.Common.{Ok}
use Rattle.rules.specs.declared.Verdict.{Verdict}
use Rattle.rules.specs.Blocks.{records}
use Rattle.rules.specs.Records.{transactions}
use Rattle.rules.specs.Preempt.{cell}
use Rattle.rules.specs.declared.BoundsFound.{BoundsFound}
use Rattle.rules.specs.declared.Refusal.{Refusal}
use Rattle.rules.specs.Told.{bounds_told, verdict_of}
use Rattle.rules.proofs.Judged.{is_refused}
use Rattle.std.specs.Prelude.{Result, IsErrAnd}
use Rattle.std.proofs.lemmas.Result.{err_from_is_err_and}
use Rattle.rules.proofs.Table.Shape.{Shape}
use Rattle.rules.specs.declared.Bounds.{Bounds}
use Rattle.rules.specs.Chains.{weight, Chain, Path, Largest, related}
use Rattle.rules.specs.Refusals.{accepted, refusal, table_verdict}
use Rattle.rules.specs.Calls.{over, BoundCall, BoundsWorkedOut, bound_verdict, bound_refusal}
use Rattle.rules.proofs.Numbers.{never}
use Rattle.rules.proofs.FourBounds.Shown.{chain_below}
use Rattle.table.proofs.Tables.{shape}
use Rattle.preempt.specs.declared.tasks.Tasks.{Tasks}
use Rattle.ceiling.specs.Near.{size_of}
use Rattle.stack.specs.declared.chain.ChainPlaces.{ChainPlaces}
use Rattle.stack.specs.declared.search.Best.{Best}
use Rattle.stack.specs.Listed.{listed}
use Rattle.stack.specs.Levels.{levels_of}
use Rattle.stack.specs.Search.{HeaviestFound}
use Rattle.stack.specs.Figures.{OwnPaths}
use Rattle.stack.proofs.Figures.{sizes_same, ids_same, heaviest_found, over_relation, own_found, levels_found, chain_within}

-- the first so many places of an array are tasks', where they are a chain
pub first_below : (n : ℕ) (R : ℕ → ℕ → Bool) (count : ℕ) (places : List ℕ) → count ≤ length places → Chain n R (take count places) → (k : ℕ) → k < count
    → get_or places k 0 < n
first_below n R count places long chain k h =
    omega (
      arith,
      chain_below n R (take count places) chain k (omega (arith, length-take-le count places long)),
      get_or-take count places k 0 h,
    )

module _ (image lent ids : List ℕ) where
  -- what a bound call's verdict comes to: the table's refusal, a short map or room, or nothing
  pub table_refuses : accepted (table_verdict image) ≡ false → bound_verdict image lent ids ≡ table_verdict image
  unfolding bound_verdict
  table_refuses no' = rw no'

  pub short_refuses : accepted (table_verdict image) ≡ true → (ltb (length lent) 64 || ltb (length ids) 64) ≡ true → bound_verdict image lent ids ≡ refusal 11 0
  unfolding bound_verdict
  short_refuses yes' short = rw (yes', short)

  pub none_refuses : accepted (table_verdict image) ≡ true → 64 ≤ length lent → 64 ≤ length ids → accepted (bound_verdict image lent ids) ≡ true
  unfolding bound_verdict
  none_refuses yes' map_long room_long = rw (yes', le-ltb (length lent) 64 map_long, le-ltb (length ids) 64 room_long)

  -- a verdict that refuses before the bounds are asked is the answer
  pub refused_by : (v : Verdict) → bound_verdict image lent ids ≡ v → accepted v ≡ false → BoundCall image lent ids (bound_refusal v) ids
  refused_by v e no' =
      record {
        refused = λ h. (ap bound_refusal (sym e), refl);
        worked = λ h. never (accepted v) (ap accepted (sym e) ∙ h) no';
      }

  -- and what was worked out is
  pub worked_by : accepted (bound_verdict image lent ids) ≡ true → (answer : Bounds) (later : List ℕ)
      → BoundsWorkedOut (records image) lent ids answer later → BoundCall image lent ids answer later
  worked_by right answer later worked =
      record { refused = λ h. never (accepted (bound_verdict image lent ids)) right h; worked = λ h. worked }

  -- which it is where the table is accepted and map and room are long enough
  pub answered : accepted (table_verdict image) ≡ true → 64 ≤ length lent → 64 ≤ length ids → (answer : Bounds) (later : List ℕ)
      → BoundsWorkedOut (records image) lent ids answer later → BoundCall image lent ids answer later
  answered yes' map_long room_long = worked_by (none_refuses yes' map_long room_long)

-- a chain has as many places as it is long, and those are few
pub listed_long : (chain : ChainPlaces) → length chain.places ≡ 64 → length (listed chain) ≡ chain.length
listed_long chain long = length-take-le chain.length chain.places (omega (arith, chain.room))

pub listed_few : (chain : ChainPlaces) → length chain.places ≡ 64 → length (listed chain) ≤ 64
listed_few chain long = omega (arith, listed_long chain long, chain.room)

-- what was found over rows that are the relation of the table and a lent map is right for them
module _ (t : Tasks) (lent rows : List ℕ) (same : cell rows ≡ related (records t.table.image.now) lent) where
  abbrev rs : List (List ℕ)
  rs = records t.table.image.now

  abbrev count : ℕ
  count = t.table.tasks

  pub worked_out : (best : Best) (path own levels : ℕ) (ids later : List ℕ) → length best.chain.places ≡ 64
      → HeaviestFound (Chain count (cell rows)) t.columns.sizes best → Largest (Path count (cell rows)) (weight (size_of t.columns.sizes)) path
      → OwnPaths count rows t.columns.sizes t.columns.transactions (transactions rs) (length (transactions rs)) own
      → levels ≡ levels_of t.columns.priorities t.columns.sizes count
      → later ≡ over (map (λ i. get_or t.columns.ids i 0) (listed best.chain)) ids
      → BoundsWorkedOut rs lent ids
      (bounds_told (Ok (record { tasks = count; chain = best.weight; path = path; transactions = own; levels = levels; length = best.chain.length })))
      later
  worked_out best path own levels ids later long found largest owned levelled written =
      record {
        figures = record { chain = listed best.chain; path = path; transactions = own; levels = levels };
        right =
            record {
              chain = heaviest_found rs lent count t.columns whole t.read rows same Chain chain_within (listed best.chain) found.heaviest;
              path = over_relation rs lent count t.columns whole t.read rows same Path path largest;
              transactions = own_found rs lent count t.columns whole t.read rows same own owned;
              levels = levelled ∙ levels_found rs lent count t.columns whole t.read;
            };
        found = (
          rw (t.read.count, found.weighs ∙ ap (λ (S : ℕ → ℕ). weight S (listed best.chain)) (sizes_same rs lent count t.columns whole t.read), listed_long best.chain long) refl,
          written ∙ ap (λ (f : ℕ → ℕ). over (map f (listed best.chain)) ids) (ids_same rs lent count t.columns whole t.read),
        );
      }
    where
      whole : Shape rs
      whole = shape t.table

module _ (image lent ids : List ℕ) where
  -- a refusal of the table is the answer, and so is a short map or room
  pub by_table : (call : Result BoundsFound Refusal) (e : Refusal) → IsErrAnd call (λ y. y ≡ e) → verdict_of e ≡ table_verdict image
      → BoundCall image lent ids (bounds_told call) ids
  by_table call e is told =
      let no' : accepted (table_verdict image) ≡ false = rw (← told) (is_refused e) in
      let p = err_from_is_err_and call is in
      rw (p.1, p.2, told) (refused_by image lent ids (table_verdict image) (table_refuses image lent ids no') no')

  pub by_short : accepted (table_verdict image) ≡ true → (ltb (length lent) 64 || ltb (length ids) 64) ≡ true
      → BoundCall image lent ids (bound_refusal (refusal 11 0)) ids
  by_short yes' short = refused_by image lent ids (refusal 11 0) (short_refuses image lent ids yes' short) refl
