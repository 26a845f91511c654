-- Sets made one place at a time: a loop passes the places below count, and puts those that a test chooses into the set.
use Prim.Native.Nat.{ℕ, ◌+◌, ◌*◌, ◌^◌, ◌≤◌, ◌<◌}
use mathlib.Core.Bool.{Bool, cond}
use mathlib.Core.Path.{◌≡◌, ap, sym, ◌∙◌}
use native.Mathlib.Nat.{add_comm, one-mul}
use native.Mathlib.Omega.{arith}
use borrow.Author.Tests.{lt-ltb, le-ltb}
use lib.Bits.{bit_or, or_shifted_r}
use Rattle.rules.specs.Preempt.{row_from}
use Rattle.rules.proofs.Numbers.{either, sum_to_ext, sum_to_zero}
use Rattle.rules.proofs.Bits.{bits_to, bits_end, bits_more, bits_same, bits_small}
use Rattle.rules.proofs.Maps.{row_test}

-- the places below this one are passed, and the set holds those of them that the test chooses
pub record Chosen (test : ℕ → Bool) (count place set : ℕ) : Type 0 where
  pub passed : place ≤ count
  pub row : set ≡ row_from place test

module _ (test : ℕ → Bool) where
  -- the row of n places is the sum of their powers, which leaves the next power free
  row_sum : (n : ℕ) → n ≤ 64 → row_from n test ≡ bits_to test n
  row_sum n most =
      bits_end (row_test n test) n 64 most (λ j h. rw (le-ltb j n h))
      ∙ sum_to_ext (λ j. cond (row_test n test j) (2 ^ j) 0) (λ j. cond (test j) (2 ^ j) 0) n (λ j h. rw (lt-ltb j n h))

  -- the row of one place more
  row_next : (n : ℕ) → n < 64 → cond (test n) (bit_or (row_from n test) (2 ^ n)) (row_from n test) ≡ row_from (n + 1) test
  row_next n room =
      rw (row_sum n (omega arith), row_sum (n + 1) (omega arith))
      (either (test n)
      (λ t.
      let joined : bit_or (bits_to test n) (1 * 2 ^ n) ≡ 1 * 2 ^ n + bits_to test n = or_shifted_r 1 n (bits_to test n) (bits_small test n) in
      rw t (rw (one-mul (2 ^ n)) at joined ∙ add_comm (2 ^ n) (bits_to test n) ∙ sym (bits_more test n t)))
      (λ t. rw t (sym (bits_same test n t))))

-- before the first place the set is empty
pub chosen_none : {test : ℕ → Bool} {count : ℕ} → Chosen test count 0 0
chosen_none {test} =
    record {
      passed = omega arith;
      row = sym (row_sum test 0 (omega arith) ∙ sum_to_zero (λ j. cond (test j) (2 ^ j) 0));
    }

-- the next place is put in where the test chooses it
pub chosen_more : {test : ℕ → Bool} {count place set larger : ℕ} → Chosen test count place set → count ≤ 64 → place < count
    → larger ≡ cond (test place) (bit_or set (2 ^ place)) set → Chosen test count (place + 1) larger
chosen_more {test} {count} {place} so_far most below next =
    record {
      passed = omega arith;
      row = next ∙ rw so_far.row (row_next test place (omega arith));
    }

-- when all are passed, the set is the row of the test
pub chosen_all : {test : ℕ → Bool} {count place set : ℕ} → Chosen test count place set → count ≤ place → set ≡ row_from count test
chosen_all {test} {count} {place} so_far done =
    let end : place ≡ count = omega (arith, so_far.passed) in
    so_far.row ∙ ap (λ (n : ℕ). row_from n test) end
