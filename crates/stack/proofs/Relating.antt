-- Laws of the relation's rows, made one row at a time: what is known up to a number is known up to the next one.
use Prim.Native.Nat.{ℕ, ◌+◌, ◌≤◌, ◌<◌}
use mathlib.Core.List.{List}
use mathlib.Core.Bool.{◌&&◌, and_assoc}
use mathlib.Core.Path.{◌≡◌, sym, ◌∙◌}
use native.Mathlib.Omega.{arith}
use borrow.Author.Tests.{ltb-true, ltb-false, lt-ltb, le-ltb, eqb-true, eqb-false}
use lib.Dec.{eqb, ltb}
use lib.ListN.{length, get_or, set as set_at, length-set}
use lib.Seq.{get_or-set_same, get_or-set_other}
use Rattle.rules.specs.Preempt.{cell, row_from}
use Rattle.rules.proofs.Numbers.{either}
use Rattle.sets.specs.Places.{Shared}
use Rattle.stack.specs.Related.{is_higher, related_in, RelatedRows}
use Rattle.rules.proofs.Bits.{bit_none}
use Rattle.rules.proofs.Maps.{row_at}

-- of the numbers below the next one all but the last are below this one
below_next : (n j : ℕ) → (j ≡ n → ⊥) → ltb j (n + 1) ≡ ltb j n
below_next n j other =
    either (ltb j n)
    (λ t. lt-ltb j (n + 1) (omega (arith, ltb-true j n t)) ∙ sym t)
    (λ t. le-ltb j (n + 1) (omega (arith, ltb-false j n t)) ∙ sym t)

-- the rows below place are made, and those from it on are 0
pub record RowsBelow (count : ℕ) (thresholds priorities map rows : List ℕ) (place : ℕ) : Type 0 where
  pub row_count : length rows ≡ 64
  pub cells : (i j : ℕ) → cell rows i j ≡ (ltb i place && related_in count thresholds priorities map i j)

pub rows_none : {count : ℕ} {thresholds priorities map rows : List ℕ} → length rows ≡ 64 → ((i : ℕ) → get_or rows i 0 ≡ 0)
    → RowsBelow count thresholds priorities map rows 0
rows_none room zeros =
    record {
      row_count = room;
      cells = λ i j. rw (zeros i, le-ltb i 0 (omega arith)) (bit_none j);
    }

pub rows_more : {count : ℕ} {thresholds priorities map rows : List ℕ} {place : ℕ} (above row : ℕ)
    → RowsBelow count thresholds priorities map rows place → count ≤ 64 → place < count
    → above ≡ row_from count (is_higher priorities (get_or thresholds place 0)) → Shared above (get_or map place 0) row
    → RowsBelow count thresholds priorities map (set_at rows place row) (place + 1)
rows_more {count} {thresholds} {priorities} {map} {rows} {place} above row so_far most below higher meet =
    record {
      row_count = length-set rows place row ∙ so_far.row_count;
      cells = λ i j.
          either (eqb i place)
          (λ t.
          let made = get_or-set_same rows place row 0 (omega (arith, so_far.row_count)) in
          rw (eqb-true i place t, made, meet j, higher, row_at count (is_higher priorities (get_or thresholds place 0)) j most, lt-ltb place (place + 1) (omega arith), lt-ltb place count below)
          (and_assoc (ltb j count) (ltb (get_or thresholds place 0) (get_or priorities j 0)) (cell map place j)))
          (λ t.
          rw (get_or-set_other rows place i row 0 (eqb-false i place t), below_next place i (eqb-false i place t)) (so_far.cells i j));
    }

pub rows_all : {count : ℕ} {thresholds priorities map rows : List ℕ} {place : ℕ} → RowsBelow count thresholds priorities map rows place → place ≡ count
    → RelatedRows count thresholds priorities map rows
rows_all {count} {thresholds} {priorities} {map} {rows} {place} so_far done =
    record {
      row_count = so_far.row_count;
      cells = λ i j.
          so_far.cells i j
          ∙ rw done (either (ltb i count) (λ t. rw t) (λ t. rw t));
    }
