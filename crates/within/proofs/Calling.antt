-- The answers of a bound call with a limit: refused as a bound call is, given up, or found.
use Prim.Native.Nat.{ℕ, ◌+◌, ◌-◌, ◌≤◌, ◌<◌}
use mathlib.Core.List.{List, []}
use mathlib.Core.Bool.{true, false, ◌||◌, or-true}
use mathlib.Core.Logic.{◌⊎◌, ⊎_elim}
use mathlib.Core.Path.{◌≡◌, refl, sym, ap, ◌∙◌}
use native.Mathlib.Omega.{arith}
use borrow.Author.Tests.{lt-ltb}
use lib.Dec.{ltb}
use lib.ListN.{length}
use Rattle.std.specs.Prelude.{Result, Ok, IsErrAnd}
use Rattle.std.proofs.lemmas.Result.{err_from_is_err_and}
use Rattle.rules.specs.declared.Refusal.{Refusal}
use Rattle.rules.specs.declared.Verdict.{Verdict}
use Rattle.rules.specs.declared.BoundsFound.{BoundsFound}
use Rattle.rules.specs.declared.BoundsWithin.{BoundsWithin}
use Rattle.rules.specs.declared.WithinFound.{WithinFound}
use Rattle.rules.specs.declared.WithinFound.TheVariants.{Opened, GaveUp}
use Rattle.rules.specs.Blocks.{records}
use Rattle.rules.specs.Records.{transactions}
use Rattle.rules.specs.Preempt.{cell}
use Rattle.rules.specs.Chains.{weight, Path, Largest, related}
use Rattle.rules.specs.Opening.{Opens, OpensInAll}
use Rattle.rules.specs.Refusals.{accepted, refusal, table_verdict}
use Rattle.rules.specs.Calls.{bound_verdict, bound_refusal, bounds_found, BoundsWorkedOut, with_opened, WithinWorkedOut, WithinCall}
use Rattle.rules.specs.Told.{verdict_of, bounds_told, within_told}
use Rattle.rules.proofs.Judged.{is_refused}
use Rattle.rules.proofs.Numbers.{never}
use Rattle.rules.proofs.Table.Shape.{Shape}
use Rattle.rules.proofs.Enumerate.{figures, figures_right}
use Rattle.rules.proofs.Enumerate.Apart.{accepted_apart}
use Rattle.rules.proofs.FourBounds.Accepted.{accepted_climbing}
use Rattle.table.specs.declared.accepted.Table.{Table}
use Rattle.table.proofs.Tables.{shape}
use Rattle.preempt.specs.declared.tasks.Tasks.{Tasks}
use Rattle.ceiling.specs.Near.{size_of}
use Rattle.stack.specs.Figures.{OwnPaths}
use Rattle.stack.proofs.Calling.{table_refuses, short_refuses, none_refuses}
use Rattle.stack.proofs.Figures.{over_table, over_relation, own_found}
use Rattle.within.specs.declared.opening.Tally.{Tally}
use Rattle.within.specs.Counting.{Tallied, untallied}

module _ (image lent ids : List ℕ) (limit : ℕ) where
  -- a verdict that refuses before the bounds are asked is the answer
  pub refused_within : (v : Verdict) → bound_verdict image lent ids ≡ v → accepted v ≡ false → WithinCall image lent ids limit (with_opened (bound_refusal v) 0) ids
  refused_within v e no' =
      record {
        refused = λ h. (ap (λ w. with_opened (bound_refusal w) 0) (sym e), refl);
        worked = λ h. never (accepted v) (ap accepted (sym e) ∙ h) no';
      }

  -- and what was worked out is
  pub worked_within : accepted (bound_verdict image lent ids) ≡ true → (answer : BoundsWithin) (later : List ℕ)
      → WithinWorkedOut (records image) lent ids limit answer later → WithinCall image lent ids limit answer later
  worked_within right answer later worked =
      record { refused = λ h. never (accepted (bound_verdict image lent ids)) right h; worked = λ h. worked }

  pub within_by_table : (r : Result WithinFound Refusal) (e : Refusal) → IsErrAnd r (λ y. y ≡ e) → verdict_of e ≡ table_verdict image → WithinCall image lent ids limit (within_told r) ids
  within_by_table r e is told =
      let no' : accepted (table_verdict image) ≡ false = rw (← told) (is_refused e) in
      let (handed, refused, same) = err_from_is_err_and r is in
      rw (refused, same, told) (refused_within (table_verdict image) (table_refuses image lent ids no') no')

-- of an accepted table
module _ (t : Table) (lent ids : List ℕ) (limit : ℕ) where
  pub within_by_short : (length lent < 64) ⊎ ((64 ≤ length lent) × (length ids < 64)) → WithinCall t.image.now lent ids limit (with_opened (bound_refusal (refusal 11 0)) 0) ids
  within_by_short which =
      let short : (ltb (length lent) 64 || ltb (length ids) 64) ≡ true =
      ⊎_elim (λ l. rw (lt-ltb (length lent) 64 l)) (λ l. rw (lt-ltb (length ids) 64 l.1) (or-true (ltb (length lent) 64))) which
      in
      refused_within t.image.now lent ids limit (refusal 11 0) (short_refuses t.image.now lent ids t.accepted short) refl

  -- what was worked out is the answer
  pub within_answered : 64 ≤ length lent → 64 ≤ length ids → (answer : BoundsWithin) (later : List ℕ)
      → WithinWorkedOut (records t.image.now) lent ids limit answer later → WithinCall t.image.now lent ids limit answer later
  within_answered map_long ids_long =
      worked_within t.image.now lent ids limit (none_refuses t.image.now lent ids t.accepted map_long ids_long)

-- what was counted and found over rows that are the relation of a table and a lent map
module _ (t : Tasks) (rows lent : List ℕ) (same : cell rows ≡ related (records t.table.image.now) lent) (ids : List ℕ) (limit : ℕ) (tally : Tally)
    (counted : Tallied t.table.tasks rows t.columns.sizes [] (untallied limit) tally) where
  abbrev image : List ℕ
  image = t.table.image.now

  abbrev rs : List (List ℕ)
  rs = records image

  abbrev count : ℕ
  count = t.table.tasks

  whole : Shape rs
  whole = shape t.table

  -- the rule opens so many chains of the table over the map
  opens_table : OpensInAll rs lent counted.count
  opens_table =
      record {
        later = counted.later;
        opens = over_table rs lent count t.columns whole t.read rows same (λ n R S. Opens n R S [] 0 counted.count counted.later) counted.opens;
      }

  -- the limit is passed: path and transactions bounds are the table's
  pub given_up : (path own : ℕ) → Largest (Path count (cell rows)) (weight (size_of t.columns.sizes)) path
      → OwnPaths count rows t.columns.sizes t.columns.transactions (transactions rs) (length (transactions rs)) own
      → tally.left ≡ 0 → WithinWorkedOut rs lent ids limit (within_told (Ok (GaveUp path own))) ids
  given_up path own longest each past =
      let others = figures_right rs lent (accepted_climbing image t.table.accepted) (accepted_apart image t.table.accepted) in
      record {
        figures = record { chain = (figures rs lent).chain; path = path; transactions = own; levels = (figures rs lent).levels };
        right =
            record {
              chain = others.chain;
              path = over_relation rs lent count t.columns whole t.read rows same Path path longest;
              transactions = own_found rs lent count t.columns whole t.read rows same own each;
              levels = others.levels;
            };
        count = counted.count;
        counted = opens_table;
        passed = λ h. (refl, refl);
        found = λ h. absurd (omega (arith, counted.left));
      }

  -- it is not: the answer is that of the bound call, with the count
  pub found_within : (bounds : BoundsFound) (opened : ℕ) (later : List ℕ) → BoundsWorkedOut rs lent ids (bounds_told (Ok bounds)) later → 0 < tally.left
      → opened ≡ limit + 1 - tally.left → WithinWorkedOut rs lent ids limit (within_told (Ok (Opened bounds opened))) later
  found_within bounds opened later worked some told =
      let all : opened ≡ counted.count = omega (arith, counted.left) in
      record {
        figures = worked.figures;
        right = worked.right;
        count = counted.count;
        counted = opens_table;
        passed = λ h. absurd (omega (arith, counted.left));
        found = λ h. (
          ap (λ b. with_opened b opened) worked.found.0 ∙ ap (with_opened (bounds_found rs worked.figures)) all,
          worked.found.1,
        );
      }
