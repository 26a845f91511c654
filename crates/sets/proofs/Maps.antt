-- A map is a column of rows, so it is filled as one, and one more cell changes one row.
use Prim.Native.Nat.{ℕ, zero, suc, ◌+◌, ◌^◌, ◌≤◌, ◌<◌}
use mathlib.Core.List.{List}
use mathlib.Core.Bool.{Bool, false, cond, ◌&&◌, ◌||◌}
use mathlib.Core.Path.{◌≡◌, refl, ap, sym, ◌∙◌}
use native.Mathlib.Nat.{pow-suc}
use native.Mathlib.Omega.{arith}
use borrow.Author.Tests.{le-ltb, ltb-true, ltb-false, eq-eqb, ne_eqb}
use lib.Bits.{bit_or, or_lt}
use lib.Dec.{ltb, eqb}
use lib.ListN.{length, get_or, set, replicate, length-replicate, get_or-replicate, get_or-eq_default}
use lib.Pow.{pow-lt}
use lib.Seq.{ext_get_or}
use Rattle.rules.specs.Preempt.{row_from, map_from, bit_at, cell}
use Rattle.rules.proofs.Numbers.{either, get_or-up_to, sum_to_ext}
use Rattle.rules.proofs.Bits.{bit_none, bit_of_power, bit-or, bits_at, bits_small, bits_none, bits_made}
use Rattle.rules.proofs.Maps.{row_test, row_at, map-length, map_row, row_ext}
use Rattle.sets.specs.Bits.{filled, column, with_cell}
use Rattle.sets.proofs.Sets.{bits_determined}
use Rattle.sets.proofs.Columns.{column_zero, column-none, column_filled, column-set}

-- a map is a column of rows
pub map-column : (n : ℕ) (test : ℕ → ℕ → Bool) → map_from n test ≡ column n (λ i. row_from n (test i))
unfolding map_from filled
map-column n test = refl

-- a loop fills a map row by row: the rows below place i are those of the tests, and the others are 0
pub record Filled (n : ℕ) (test : ℕ → ℕ → Bool) (i : ℕ) (map : List ℕ) : Type 0 where
  pub passed : i ≤ n
  pub rows : map ≡ column i (λ k. row_from n (test k))

pub filled_none : {n : ℕ} {test : ℕ → ℕ → Bool} → Filled n test 0 (replicate 64 0)
filled_none {n} {test} = record { passed = omega arith; rows = column-none (λ k. row_from n (test k)) }

pub filled_more : {n i row : ℕ} {test : ℕ → ℕ → Bool} {map : List ℕ} → Filled n test i map → n ≤ 64 → i < n → row ≡ row_from n (test i)
    → Filled n test (i + 1) (set map i row)
filled_more {n} {i} {row} {test} {map} so_far most below here =
    record { passed = omega arith; rows = column_filled i (λ k. row_from n (test k)) map row (omega arith) so_far.rows here }

pub filled_all : {n i : ℕ} {test : ℕ → ℕ → Bool} {map : List ℕ} → Filled n test i map → n ≤ i → map ≡ map_from n test
filled_all {n} {i} {test} so_far done =
    let end : i ≡ n = omega (arith, so_far.passed) in
    so_far.rows ∙ ap (λ (k : ℕ). column k (λ k. row_from n (test k))) end ∙ sym (map-column n test)

-- where no test passes, each row is 0
pub map-none : (n : ℕ) (test : ℕ → ℕ → Bool) → ((i j : ℕ) → test i j ≡ false) → replicate 64 0 ≡ map_from n test
map-none n test none =
    column_zero n (λ i. row_from n (test i))
    (λ i h. bits_none (row_test n (test i)) 64 (λ j. either (ltb j n) (λ t. rw (t, none i j)) (λ t. rw t)))
    ∙ sym (map-column n test)

-- rows that are all 0 have no cell
blank_row : (i : ℕ) → get_or {A = ℕ} (replicate 64 0) i 0 ≡ 0
blank_row i =
    either (ltb i 64)
    (λ t. get_or-replicate {A = ℕ} 64 i 0 0 (ltb-true i 64 t))
    (λ t.
    let past : length {A = ℕ} (replicate 64 0) ≤ i = omega (arith, ltb-false i 64 t, length-replicate {A = ℕ} 64 0) in
    get_or-eq_default (replicate 64 0) 0 past)

pub blank-cell : (i j : ℕ) → cell (replicate 64 0) i j ≡ false
blank-cell i j = rw (blank_row i) (bit_none j)

-- one more bit of a row
row_marked : (n : ℕ) (test : ℕ → Bool) (b : ℕ) → n ≤ 64 → b < n → bit_or (row_from n test) (2 ^ b) ≡ row_from n (λ j. test j || eqb j b)
row_marked n test b most h =
    let row = row_from n test in
    let more : ℕ → Bool = λ j. test j || eqb j b in
    let bit : (j : ℕ) → j < 64 → bit_at (bit_or row (2 ^ b)) j ≡ row_test n more j = λ j l. bit-or row (2 ^ b) j ∙ rw (bits_at (row_test n test) 64 j l, bit_of_power b j) (either (ltb j n) (λ t. rw t) (λ t. rw (t, ne_eqb j b (λ e. omega (arith, ltb-false j n t))))) in
    bits_made (bit_or row (2 ^ b)) 64 (or_lt 64 row (2 ^ b) (bits_small (row_test n test) 64) (pow-lt {j = 64} (omega arith)))
    ∙ sum_to_ext (λ j. cond (bit_at (bit_or row (2 ^ b)) j) (2 ^ j) 0) (λ j. cond (row_test n more j) (2 ^ j) 0) 64
    (λ j l. ap (λ (t : Bool). cond t (2 ^ j) 0) (bit j l))

-- two rows together
pub row_union : (n : ℕ) (test other : ℕ → Bool) → n ≤ 64 → bit_or (row_from n test) (row_from n other) ≡ row_from n (λ j. test j || other j)
row_union n test other most =
    let row = row_from n test in
    let added = row_from n other in
    let more : ℕ → Bool = λ j. test j || other j in
    let bit : (j : ℕ) → j < 64 → bit_at (bit_or row added) j ≡ row_test n more j = λ j l. bit-or row added j ∙ rw (bits_at (row_test n test) 64 j l, bits_at (row_test n other) 64 j l) (either (ltb j n) (λ t. rw t) (λ t. rw t)) in
    bits_made (bit_or row added) 64 (or_lt 64 row added (bits_small (row_test n test) 64) (bits_small (row_test n other) 64))
    ∙ sum_to_ext (λ j. cond (bit_at (bit_or row added) j) (2 ^ j) 0) (λ j. cond (row_test n more j) (2 ^ j) 0) 64
    (λ j l. ap (λ (t : Bool). cond t (2 ^ j) 0) (bit j l))

-- another row at one of its places
pub map-set : (n : ℕ) (test other : ℕ → ℕ → Bool) (a row : ℕ) → n ≤ 64 → a < n → ((i : ℕ) → i < n → (i ≡ a → ⊥) → (j : ℕ) → j < n → test i j ≡ other i j)
    → row ≡ row_from n (other a) → set (map_from n test) a row ≡ map_from n other
map-set n test other a row most h same here =
    ap (λ (rows : List ℕ). set rows a row) (map-column n test)
    ∙ column-set n (λ i. row_from n (test i)) (λ i. row_from n (other i)) a row most h
    (λ i k apart. row_ext n (test i) (other i) (same i k apart))
    here
    ∙ sym (map-column n other)

-- one more cell of a map
pub map_marked : (n : ℕ) (test : ℕ → ℕ → Bool) (a b : ℕ) → n ≤ 64 → a < n → b < n
    → with_cell (map_from n test) a b ≡ map_from n (λ i j. test i j || (eqb i a && eqb j b))
map_marked n test a b most h l =
    let more : ℕ → ℕ → Bool = λ i j. test i j || (eqb i a && eqb j b) in
    map-set n test more a (bit_or (get_or (map_from n test) a 0) (2 ^ b)) most h
    (λ i k other j m. rw (ne_eqb i a other) (either (test i j) (λ t. rw t) (λ t. rw t)))
    (ap (λ (r : ℕ). bit_or r (2 ^ b)) (map_row n test a most h)
    ∙ row_marked n (test a) b most l
    ∙ row_ext n (λ j. test a j || eqb j b) (more a) (λ j m. rw (eq-eqb a a refl)))

-- a row beyond the places of a map is 0
map_beyond : (n : ℕ) (test : ℕ → ℕ → Bool) (i : ℕ) → n ≤ i → get_or (map_from n test) i 0 ≡ 0
unfolding map_from
map_beyond n test i past =
    either (ltb i 64)
    (λ t. get_or-up_to (λ i. cond (ltb i n) (row_from n (test i)) 0) 64 i 0 (ltb-true i 64 t) ∙ rw (le-ltb i n past))
    (λ t.
    let out : length (map_from n test) ≤ i = omega (arith, map-length n test, ltb-false i 64 t) in
    get_or-eq_default (map_from n test) 0 out)

-- every cell of a map is fixed, those beyond its places too
pub map-cell : (n : ℕ) (test : ℕ → ℕ → Bool) (i j : ℕ) → n ≤ 64 → cell (map_from n test) i j ≡ (ltb i n && row_test n (test i) j)
map-cell n test i j most =
    either (ltb i n)
    (λ t. ap (λ (row : ℕ). bit_at row j) (map_row n test i most (ltb-true i n t)) ∙ row_at n (test i) j most ∙ rw t)
    (λ t. ap (λ (row : ℕ). bit_at row j) (map_beyond n test i (ltb-false i n t)) ∙ bit_none j ∙ rw t)

-- a number is below the power of 2 that it is the exponent of
below_power : (k : ℕ) → k < 2 ^ k
below_power zero = omega arith
below_power (suc k) = omega (arith, below_power k, pow-suc 2 k)

-- so 64 rows with the cells of a map are the map
pub map_of_cells : (n : ℕ) (test : ℕ → ℕ → Bool) (rows : List ℕ) → n ≤ 64 → length rows ≡ 64
    → ((i j : ℕ) → cell rows i j ≡ (ltb i n && row_test n (test i) j)) → rows ≡ map_from n test
map_of_cells n test rows most long cells =
    ext_get_or 0 rows (map_from n test) (long ∙ sym (map-length n test))
    (λ i h.
    let row = get_or rows i 0 in
    let made = get_or (map_from n test) i 0 in
    bits_determined (row + made) row made (omega (arith, below_power (row + made))) (omega (arith, below_power (row + made)))
    (λ j. cells i j ∙ sym (map-cell n test i j most)))
