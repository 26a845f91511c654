-- A record with another byte 31 differs from the patch's in that byte alone, which no field, no range and no zero fill reads.
use Prim.Native.Nat.{ℕ, ◌+◌, ◌≤◌, ◌<◌}
use mathlib.Core.List.{List}
use mathlib.Core.Bool.{false, ◌||◌, not}
use mathlib.Core.Path.{◌≡◌, ap}
use native.Mathlib.Omega.{arith}
use borrow.Author.Tests.{ltb-true, ltb-false, le-ltb}
use lib.ListN.{length, get_or, set, get_or-eq_default, length-set}
use lib.Seq.{get_or-set_same, get_or-set_other}
use lib.Dec.{eqb, ltb}
use Rattle.rules.specs.declared.Form.{Form}
use Rattle.rules.specs.declared.Form.TheVariants.{Patch}
use Rattle.rules.specs.Numbers.{le2, le4, between, blank}
use Rattle.rules.specs.Records.{kind_of, number_of, second_of, way_of, most_way, key, zero_bytes, form_wrong, range_wrong}
use Rattle.rules.proofs.Numbers.{either, some_ext}
use Rattle.rules.proofs.Tests.{neither, neither_first, neither_second}

-- the record p with this byte 31
module _ (p : List ℕ) (way : ℕ) where
  -- its bytes below 31 are those of p
  pub turned_byte : (k : ℕ) → k < 31 → get_or (set p 31 way) k 0 ≡ get_or p k 0
  turned_byte k h = get_or-set_other p 31 k way 0 (λ e. omega arith)

  -- and so are its numbers of two and of four bytes
  turned_two : (k : ℕ) → k < 30 → le2 (set p 31 way) k ≡ le2 p k
  turned_two k h = rw (turned_byte k (omega arith), turned_byte (k + 1) (omega arith))

  turned_four : (k : ℕ) → k < 28 → le4 (set p 31 way) k ≡ le4 p k
  turned_four k h = rw (turned_two k (omega arith), turned_two (k + 2) (omega arith))

  -- kind, number, second number, and with them its key
  pub turned_kind : kind_of (set p 31 way) ≡ kind_of p
  turned_kind = turned_byte 0 (omega arith)

  pub turned_number : number_of (set p 31 way) ≡ number_of p
  turned_number = turned_two 2 (omega arith)

  pub turned_second : second_of (set p 31 way) ≡ second_of p
  turned_second = turned_two 4 (omega arith)

  pub turned_key : key (set p 31 way) ≡ key p
  turned_key = rw (turned_kind, turned_number, turned_second)

  -- it is in range where p is
  pub turned_range : range_wrong (set p 31 way) ≡ range_wrong p
  unfolding range_wrong
  turned_range =
      rw (
        turned_kind,
        turned_number,
        turned_second,
        turned_byte 1 (omega arith),
        turned_two 6 (omega arith),
        turned_four 8 (omega arith),
        turned_four 12 (omega arith),
        turned_four 16 (omega arith),
        turned_two 20 (omega arith),
        turned_byte 22 (omega arith),
      )

  -- the bytes below 31 that are said to be 0 are 0 where those of p are
  turned_blank : (start count : ℕ) → start + count ≤ 31 → blank (set p 31 way) start count ≡ blank p start count
  unfolding blank
  turned_blank start count h =
      ap not
      (some_ext (λ k. not (eqb (get_or (set p 31 way) (start + k) 0) 0)) (λ k. not (eqb (get_or p (start + k) 0) 0)) count
      (λ k l. rw (turned_byte (start + k) (omega arith))))

  turned_zeros : zero_bytes (set p 31 way) ≡ zero_bytes p
  turned_zeros =
      rw (
        turned_kind,
        turned_blank 1 1 (omega arith),
        turned_blank 4 4 (omega arith),
        turned_blank 12 19 (omega arith),
        turned_blank 23 8 (omega arith),
        turned_blank 6 25 (omega arith),
      )

  -- its byte 31 is this one, where p has one
  pub turned_way : 31 < length p → way_of (set p 31 way) ≡ way
  turned_way long = get_or-set_same p 31 way 0 long

  -- and is never above it
  pub way_within : way_of (set p 31 way) ≤ way
  way_within =
      either (ltb 31 (length p))
      (λ t. omega (arith, turned_way (ltb-true 31 (length p) t)))
      (λ t.
      let none : way_of (set p 31 way) ≡ 0 = get_or-eq_default (set p 31 way) 0 (omega (arith, length-set p 31 way, ltb-false 31 (length p) t)) in
      omega arith)

  -- so its form is right where p's is, and such a byte may stand there
  pub turned_form : (form : Form) → way ≤ most_way form → form_wrong Patch p ≡ false → form_wrong form (set p 31 way) ≡ false
  unfolding form_wrong
  turned_form form most right =
      let rest = neither_second (not (between 1 (kind_of p) 3)) _ right in
      rw (turned_zeros, turned_kind)
      (neither (not (between 1 (kind_of p) 3)) (not (zero_bytes p) || ltb (most_way form) (way_of (set p 31 way)))
      (neither_first (not (between 1 (kind_of p) 3)) _ right)
      (neither (not (zero_bytes p)) (ltb (most_way form) (way_of (set p 31 way))) (neither_first (not (zero_bytes p)) _ rest)
      (le-ltb (most_way form) (way_of (set p 31 way)) (omega (arith, way_within)))))
