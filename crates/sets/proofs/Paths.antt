-- Rows closed over paths: one place more at a time.
use Prim.Native.Nat.{ℕ, suc, ◌+◌, ◌≤◌, ◌<◌}
use mathlib.Core.List.{List}
use mathlib.Core.Bool.{Bool, false, cond, ◌||◌, or-false, and-false}
use mathlib.Core.Path.{◌≡◌, refl, ap, sym, ◌∙◌}
use native.Mathlib.Numerals.{add-one}
use native.Mathlib.Omega.{arith}
use borrow.Author.Tests.{lt-ltb, le-ltb, ltb-true, ltb-false}
use lib.Bits.{bit_or}
use lib.Dec.{ltb}
use lib.ListN.{get_or, set}
use Rattle.rules.specs.Preempt.{bit_at, cell, row_from, map_from}
use Rattle.rules.specs.Reach.{reaches}
use Rattle.rules.proofs.Numbers.{either}
use Rattle.rules.proofs.Bits.{bit_none}
use Rattle.rules.proofs.Maps.{map_row, cell_of_map, row_ext, map_ext}
use Rattle.sets.specs.Closing.{IsMap, through_one}
use Rattle.sets.proofs.Maps.{row_union, map-set}

-- a row of rows that have no cells but those of n places
row_of : (n : ℕ) (rows : List ℕ) → n ≤ 64 → IsMap n rows → (i : ℕ) → i < n → get_or rows i 0 ≡ row_from n (cell rows i)
row_of n rows most map i h = ap (λ (l : List ℕ). get_or l i 0) map ∙ map_row n (cell rows) i most h

-- the row of a place with the paths over place k
pub row_through : (n : ℕ) (rows : List ℕ) → n ≤ 64 → IsMap n rows → (i k : ℕ) → i < n → k < n
    → cond (bit_at (get_or rows i 0) k) (bit_or (get_or rows i 0) (get_or rows k 0)) (get_or rows i 0) ≡ row_from n (through_one (cell rows) k i)
row_through n rows most map i k h l =
    either (cell rows i k)
    (λ t.
    rw t
    (ap (λ (r : ℕ). bit_or r (get_or rows k 0)) (row_of n rows most map i h)
    ∙ ap (bit_or (row_from n (cell rows i))) (row_of n rows most map k l)
    ∙ row_union n (cell rows i) (cell rows k) most))
    (λ t.
    rw t
    (row_of n rows most map i h
    ∙ row_ext n (cell rows i) (λ j. cell rows i j || false) (λ j m. sym (or-false (cell rows i j)))))

-- over a place from which no step leads there is no path more
pub through_none : (n : ℕ) (test : ℕ → ℕ → Bool) (k : ℕ) → ((j : ℕ) → j < n → test k j ≡ false) → map_from n (through_one test k) ≡ map_from n test
through_none n test k none =
    map_ext n (through_one test k) test
    (λ i j h l. rw (none j l) (ap (λ (x : Bool). test i j || x) (and-false (test i k)) ∙ or-false (test i j)))

-- the rows below place i lead over place k too, and the others do not yet
abbrev over_to : (ℕ → ℕ → Bool) → ℕ → ℕ → ℕ → ℕ → Bool
over_to test k i a b = cond (ltb a i) (through_one test k a b) (test a b)

-- a loop adds the paths over place k row by row
pub record Leading (n k : ℕ) (rows : List ℕ) (i : ℕ) (later : List ℕ) : Type 0 where
  pub passed : i ≤ n
  pub led : later ≡ map_from n (over_to (cell rows) k i)

pub leading_none : {n k : ℕ} {rows : List ℕ} → IsMap n rows → Leading n k rows 0 rows
leading_none {n} {k} {rows} map =
    record { passed = omega arith; led = map ∙ map_ext n (cell rows) (over_to (cell rows) k 0) (λ i j h l. rw (le-ltb i 0 (omega arith))) }

-- a row that is not passed is as it was
row_waits : {n k i : ℕ} {rows later : List ℕ} → Leading n k rows i later → n ≤ 64 → IsMap n rows → i < n → get_or later i 0 ≡ get_or rows i 0
row_waits {n} {k} {i} {rows} {later} so_far most map h =
    ap (λ (l : List ℕ). get_or l i 0) so_far.led
    ∙ map_row n (over_to (cell rows) k i) i most h
    ∙ row_ext n (over_to (cell rows) k i i) (cell rows i) (λ j l. rw (le-ltb i i (omega arith)))
    ∙ sym (row_of n rows most map i h)

pub leading_more : {n k i row : ℕ} {rows later : List ℕ} → Leading n k rows i later → n ≤ 64 → IsMap n rows → i < n → k < n
    → row ≡ cond (bit_at (get_or later i 0) k) (bit_or (get_or later i 0) (get_or rows k 0)) (get_or later i 0) → Leading n k rows (i + 1) (set later i row)
leading_more {n} {k} {i} {row} {rows} {later} so_far most map h l here =
    let test = over_to (cell rows) k i in
    let next = over_to (cell rows) k (i + 1) in
    let waits = row_waits so_far most map h in
    let made : row ≡ row_from n (through_one (cell rows) k i) = here ∙ ap (λ (r : ℕ). cond (bit_at r k) (bit_or r (get_or rows k 0)) r) waits ∙ row_through n rows most map i k h l in
    record {
      passed = omega arith;
      led =
          ap (λ (m : List ℕ). set m i row) so_far.led
          ∙ map-set n test next i row most h
          (λ a m other j o.
          either (ltb a i)
          (λ t. rw (t, lt-ltb a (i + 1) (omega (arith, ltb-true a i t))))
          (λ t. rw (t, le-ltb a (i + 1) (omega (arith, ltb-false a i t)))))
          (made ∙ row_ext n (through_one (cell rows) k i) (next i) (λ j o. rw (lt-ltb i (i + 1) (omega arith))));
    }

pub leading_all : {n k i : ℕ} {rows later : List ℕ} → Leading n k rows i later → n ≤ i → later ≡ map_from n (through_one (cell rows) k)
leading_all {n} {k} {i} {rows} so_far done =
    so_far.led ∙ map_ext n (over_to (cell rows) k i) (through_one (cell rows) k) (λ a b h l. rw (lt-ltb a i (omega arith)))

-- the paths over one place more
pub closed_more : (n : ℕ) (step : ℕ → ℕ → Bool) (closed : List ℕ) (k : ℕ) → n ≤ 64 → k < n → closed ≡ map_from n (reaches step (λ m. m) k)
    → map_from n (through_one (cell closed) k) ≡ map_from n (reaches step (λ m. m) (k + 1))
unfolding reaches
closed_more n step closed k most h so_far =
    let here : (i j : ℕ) → i < n → j < n → cell closed i j ≡ reaches step (λ m. m) k i j = λ i j l m. ap (λ (rows : List ℕ). cell rows i j) so_far ∙ cell_of_map n (reaches step (λ m. m) k) i j most l m in
    rw add-one
    (map_ext n (through_one (cell closed) k) (reaches step (λ m. m) (suc k)) (λ i j l m. rw (here i j l m, here i k l h, here k j h m)))

-- rows that are a map have no other cells
pub is_map : (n : ℕ) (test : ℕ → ℕ → Bool) (rows : List ℕ) → n ≤ 64 → rows ≡ map_from n test → IsMap n rows
is_map n test rows most e =
    e ∙ map_ext n test (cell rows) (λ i j h l. sym (ap (λ (r : List ℕ). cell r i j) e ∙ cell_of_map n test i j most h l))

-- through no place a path is a step
pub closed_none : (n : ℕ) (rows : List ℕ) → IsMap n rows → rows ≡ map_from n (reaches (cell rows) (λ m. m) 0)
unfolding reaches
closed_none n rows map = map ∙ map_ext n (cell rows) (reaches (cell rows) (λ m. m) 0) (λ i j h l. refl)

-- a row that is 0 has no cell
pub empty_row : (rows : List ℕ) (k : ℕ) → get_or rows k 0 ≡ 0 → (j : ℕ) → cell rows k j ≡ false
empty_row rows k none j = rw none (bit_none j)
