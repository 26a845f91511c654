-- Laws of maps: their cells are the test that they are made from, because each row is made of its bits.
use Prim.Native.Nat.{ℕ, ◌^◌, ◌≤◌, ◌<◌}
use mathlib.Core.Bool.{Bool, cond, ◌&&◌}
use mathlib.Core.Path.{◌≡◌, ap, ◌∙◌}
use native.Mathlib.Omega.{arith}
use borrow.Author.Tests.{lt-ltb, le-ltb, ltb-true, ltb-false}
use lib.Dec.{ltb}
use lib.ListN.{length, get_or}
use lib.Pow.{pow_mono}
use Rattle.rules.specs.Preempt.{cell, row_from, map_from, bit_at}
use Rattle.rules.proofs.Numbers.{either, length-up_to, get_or-up_to, up_to_ext, sum_to_ext}
use Rattle.rules.proofs.Bits.{bit_lacks, bits_at, bits_small}

-- the bits of a row
abbrev pub row_test : ℕ → (ℕ → Bool) → ℕ → Bool
row_test n test j = ltb j n && test j

-- every bit of a row is fixed, those beyond its 64 too
pub row_at : (n : ℕ) (test : ℕ → Bool) (j : ℕ) → n ≤ 64 → bit_at (row_from n test) j ≡ row_test n test j
row_at n test j most =
    either (ltb j 64)
    (λ t. bits_at (row_test n test) 64 j (ltb-true j 64 t))
    (λ t.
    let past = ltb-false j 64 t in
    let small : row_from n test < 2 ^ j = omega (arith, bits_small (row_test n test) 64, pow_mono past) in
    bit_lacks (row_from n test) j small ∙ rw (le-ltb j n (omega arith)))

-- a map has 64 rows
pub map-length : (n : ℕ) (test : ℕ → ℕ → Bool) → length (map_from n test) ≡ 64
unfolding map_from
map-length n test = length-up_to (λ i. cond (ltb i n) (row_from n (test i)) 0) 64

-- the row at a place that holds a task
pub map_row : (n : ℕ) (test : ℕ → ℕ → Bool) (i : ℕ) → n ≤ 64 → i < n → get_or (map_from n test) i 0 ≡ row_from n (test i)
unfolding map_from
map_row n test i most h =
    get_or-up_to (λ i. cond (ltb i n) (row_from n (test i)) 0) 64 i 0 (omega arith) ∙ rw (lt-ltb i n h)

-- the cells of a map are the test that it is made from
pub cell_of_map : (n : ℕ) (test : ℕ → ℕ → Bool) (i j : ℕ) → n ≤ 64 → i < n → j < n → cell (map_from n test) i j ≡ test i j
cell_of_map n test i j most h l =
    ap (λ (row : ℕ). bit_at row j) (map_row n test i most h)
    ∙ row_at n (test i) j most
    ∙ rw (lt-ltb j n l)

-- rows from tests that agree below n are equal, and so are maps
pub row_ext : (n : ℕ) (test other : ℕ → Bool) → ((j : ℕ) → j < n → test j ≡ other j) → row_from n test ≡ row_from n other
row_ext n test other same =
    sum_to_ext (λ j. cond (row_test n test j) (2 ^ j) 0) (λ j. cond (row_test n other j) (2 ^ j) 0) 64
    (λ j h. either (ltb j n) (λ t. rw (t, same j (ltb-true j n t))) (λ t. rw t))

pub map_ext : (n : ℕ) (test other : ℕ → ℕ → Bool) → ((i j : ℕ) → i < n → j < n → test i j ≡ other i j) → map_from n test ≡ map_from n other
unfolding map_from
map_ext n test other same =
    up_to_ext (λ i. cond (ltb i n) (row_from n (test i)) 0) (λ i. cond (ltb i n) (row_from n (other i)) 0) 64
    (λ i h. either (ltb i n) (λ t. rw (t, row_ext n (test i) (other i) (λ j l. same i j (ltb-true i n t) l))) (λ t. rw t))
