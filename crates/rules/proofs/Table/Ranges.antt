-- What the range tests say of a record's fields, in plain numbers.
use Prim.Native.Nat.{ℕ, ◌+◌, ◌≤◌, ◌<◌}
use mathlib.Core.List.{List}
use mathlib.Core.Bool.{true, false, ◌&&◌}
use mathlib.Core.Path.{◌≡◌}
use native.Mathlib.Omega.{arith}
use borrow.Author.Tests.{leb-true, eq-eqb, ne_eqb, not-false}
use lib.ListN.{get_or}
use lib.Dec.{leb, eqb}
use Rattle.rules.specs.Numbers.{Bytes, le2, le4, between}
use Rattle.rules.specs.Records.{kind_of, number_of, second_of, threshold_of, name_right, jitter_right, time_right, threshold_right, task_right, range_wrong}
use Rattle.rules.proofs.Numbers.{either}
use Rattle.rules.proofs.Tests.{both_first, both_second}

-- a number of two bytes is below 65,536
pub le2_small : (s : List ℕ) → Bytes s → (k : ℕ) → le2 s k < 65536
le2_small s bytes k = omega (arith, bytes k, bytes (k + 1))

-- a number between two others is at least the one and at most the other
pub between_least : (low x high : ℕ) → between low x high ≡ true → low ≤ x
between_least low x high h = leb-true low x (both_first (leb low x) (leb x high) h)

pub between_most : (low x high : ℕ) → between low x high ≡ true → x ≤ high
between_most low x high h = leb-true x high (both_second (leb low x) (leb x high) h)

-- a task that is not found out of range passes its test
pub task_right_lem : (r : List ℕ) → range_wrong r ≡ false → kind_of r ≡ 2 → task_right r ≡ true
unfolding range_wrong
task_right_lem r right e =
    not-false (task_right r) (rw (ne_eqb (kind_of r) 1 (λ o. omega arith), eq-eqb (kind_of r) 2 e) at right)

-- the ranges of a task's fields
pub record TaskRanges (r : List ℕ) : Type 0 where
  pub some_priority : 1 ≤ le2 r 6
  pub most_priority : le2 r 6 ≤ 255
  pub response_from_offset : le4 r 8 ≤ le4 r 16
  pub threshold_from_priority : le2 r 6 ≤ threshold_of (le2 r 6) (get_or r 22 0)
  pub some_size : 1 ≤ le2 r 20

-- a threshold that is in range is never read as one below the priority
threshold_from : (p b : ℕ) → threshold_right p b ≡ true → p ≤ threshold_of p b
threshold_from p b h = either (eqb b 0) (λ t. rw t (omega arith)) (λ t. rw t (leb-true p b (rw t at h)))

-- a task that passes its test has them
pub task_ranges : (r : List ℕ) → task_right r ≡ true → TaskRanges r
task_ranges r h =
    let name = both_first (name_right r) (time_right r && leb 1 (le2 r 20)) h in
    let rest = both_second (name_right r) (time_right r && leb 1 (le2 r 20)) h in
    let time = both_first (time_right r) (leb 1 (le2 r 20)) rest in
    let name' = both_second (leb 1 (number_of r)) _ name in
    let name'' = both_second (leb 1 (second_of r)) _ name' in
    let priority = both_first (between 1 (le2 r 6) 255) _ name'' in
    let time' = both_second (leb (le4 r 8) 999999999) _ time in
    let response = both_second (jitter_right (le4 r 12)) (between (le4 r 8) (le4 r 16) 2000000000) time' in
    record {
      some_priority = between_least 1 (le2 r 6) 255 priority;
      most_priority = between_most 1 (le2 r 6) 255 priority;
      response_from_offset = between_least (le4 r 8) (le4 r 16) 2000000000 response;
      threshold_from_priority = threshold_from (le2 r 6) (get_or r 22 0) (both_second (between 1 (le2 r 6) 255) _ name'');
      some_size = leb-true 1 (le2 r 20) (both_second (time_right r) (leb 1 (le2 r 20)) rest);
    }
