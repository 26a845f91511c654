-- Cells set the other way round: a column is set place by place, and column i is the row of place i.
use Prim.Native.Nat.{ℕ, ◌+◌, ◌≤◌, ◌<◌, ◌^◌}
use mathlib.Core.List.{List}
use mathlib.Core.Bool.{Bool, true, false, ◌&&◌, ◌||◌, not, or-false, and-false, and-true}
use mathlib.Core.Path.{◌≡◌, refl, ap, sym, ◌∙◌}
use native.Mathlib.Omega.{arith}
use borrow.Author.Tests.{lt-ltb, le-ltb, ltb-true, ltb-false, eqb-true, eqb-false, eq-eqb}
use lib.Bits.{bit_or}
use lib.Dec.{eqb, ltb}
use lib.ListN.{length, get_or, length-set}
use lib.Seq.{get_or-set_same, get_or-set_other}
use Rattle.rules.specs.Preempt.{bit_at, cell, map_from}
use Rattle.rules.proofs.Numbers.{either}
use Rattle.rules.proofs.Bits.{bit_none}
use Rattle.rules.proofs.Maps.{map-length}
use Rattle.sets.specs.Bits.{with_cell}
use Rattle.sets.specs.Places.{Without}
use Rattle.sets.specs.Closing.{IsMap, ColumnAdded}
use Rattle.sets.proofs.Sets.{with_bit_has, without_inside}
use Rattle.sets.proofs.Maps.{map-cell, map_of_cells}

-- a loop puts a place into the rows of a set's places: it is in those of the places that are not in the rest
pub record Adding (set place : ℕ) (rows later : List ℕ) (rest : ℕ) : Type 0 where
  pub room : length later ≡ 64
  pub inside : (j : ℕ) → bit_at rest j ≡ true → bit_at set j ≡ true
  pub cells : (i j : ℕ) → cell later i j ≡ (cell rows i j || ((bit_at set i && not (bit_at rest i)) && eqb j place))

pub adding_none : {set place : ℕ} {rows : List ℕ} → length rows ≡ 64 → Adding set place rows rows set
adding_none {set} {place} {rows} room =
    record {
      room = room;
      inside = λ j h. h;
      cells = λ i j. either (bit_at set i) (λ t. rw t (sym (or-false (cell rows i j)))) (λ t. rw t (sym (or-false (cell rows i j))));
    }

pub adding_more : {set place : ℕ} {rows later : List ℕ} {rest other smaller : ℕ} → Adding set place rows later rest
    → other < 64 → bit_at rest other ≡ true → Without rest other smaller → Adding set place rows (with_cell later other place) smaller
adding_more {set} {place} {rows} {later} {rest} {other} {smaller} so_far below there taken =
    record {
      room = length-set later other _ ∙ so_far.room;
      inside = λ j h. so_far.inside j (without_inside rest other smaller taken j h).0;
      cells = λ i j.
          either (eqb i other)
          (λ t.
          let e = eqb-true i other t in
          let same = get_or-set_same later other (bit_or (get_or later other 0) (2 ^ place)) 0 (omega (arith, so_far.room)) in
          let out : bit_at smaller other ≡ false = taken.rest other ∙ rw (there, eq-eqb other other refl) in
          rw (e, same, with_bit_has (get_or later other 0) place j, so_far.cells other j, out, so_far.inside other there, there, or-false (cell rows other j)))
          (λ t.
          let left : bit_at smaller i ≡ bit_at rest i = taken.rest i ∙ rw t (and-true (bit_at rest i)) in
          rw (get_or-set_other later other i (bit_or (get_or later other 0) (2 ^ place)) 0 (eqb-false i other t), left) (so_far.cells i j));
    }

pub adding_all : {set place : ℕ} {rows later : List ℕ} {rest : ℕ} → Adding set place rows later rest → rest ≡ 0 → ColumnAdded set place rows later
adding_all {set} {place} {rows} {later} {rest} so_far done i j =
    so_far.cells i j ∙ rw (done, bit_none i) (either (bit_at set i) (λ t. rw t) (λ t. rw t))

-- a loop turns the cells of the rows, row by row: those of the places below i are set the other way round besides
pub record Turning (n : ℕ) (rows : List ℕ) (i : ℕ) (both : List ℕ) : Type 0 where
  pub passed : i ≤ n
  pub room : length both ≡ 64
  pub cells : (a b : ℕ) → cell both a b ≡ (cell rows a b || (cell rows b a && ltb b i))

pub turning_none : {n : ℕ} {rows : List ℕ} → IsMap n rows → Turning n rows 0 rows
turning_none {n} {rows} is =
    record {
      passed = omega arith;
      room = ap length is ∙ map-length n (cell rows);
      cells = λ a b. rw (le-ltb b 0 (omega arith)) (sym (ap (λ (x : Bool). cell rows a b || x) (and-false (cell rows b a)) ∙ or-false (cell rows a b)));
    }

turned_here : (x y l : Bool) → ((x || (y && false)) || ((y || (x && l)) && true)) ≡ (x || (y && true))
turned_here true y l = refl
turned_here false true l = refl
turned_here false false l = refl

turned_other : (x y z : Bool) → ((x || y) || (z && false)) ≡ (x || y)
turned_other true y z = refl
turned_other false true z = refl
turned_other false false true = refl
turned_other false false false = refl

-- what is set the other way round already is set once more
pub turning_more : {n i : ℕ} {rows both later : List ℕ} → Turning n rows i both → i < n → length later ≡ 64 → ColumnAdded (get_or both i 0) i both later
    → Turning n rows (i + 1) later
turning_more {n} {i} {rows} {both} {later} so_far h room column =
    record { passed = omega arith; room = room; cells = λ a b. column a b ∙ next a b }
  where
    next : (a b : ℕ) → (cell both a b || (cell both i a && eqb b i)) ≡ (cell rows a b || (cell rows b a && ltb b (i + 1)))
    next a b =
        either (eqb b i)
        (λ t.
        let same = eqb-true b i t in
        rw (so_far.cells a b, so_far.cells i a, t, lt-ltb b (i + 1) (omega arith), le-ltb b i (omega arith), ← same) (turned_here (cell rows a b) (cell rows b a) (ltb a b)))
        (λ t.
        let other = eqb-false b i t in
        let step : ltb b i ≡ ltb b (i + 1) = either (ltb b i) (λ u. u ∙ sym (lt-ltb b (i + 1) (omega (arith, ltb-true b i u)))) (λ u. u ∙ sym (le-ltb b (i + 1) (omega (arith, ltb-false b i u, other)))) in
        rw (so_far.cells a b, t, step) (turned_other (cell rows a b) (cell rows b a && ltb b (i + 1)) (cell both i a)))

-- of rows that have no cells but those of the first n places, both p and q pass where one of the cells is set
within_both : (x y p q : Bool) → x ≡ (p && (q && x)) → y ≡ (q && (p && y)) → (x || (y && q)) ≡ (p && (q && (x || y)))
within_both true y true true first second = refl
within_both false true true true first second = refl
within_both false false true true first second = refl
within_both x y true false first second = rw (first, second)
within_both x y false true first second = rw (first, second)
within_both x y false false first second = rw (first, second)

pub turning_all : {n i : ℕ} {rows both : List ℕ} → Turning n rows i both → n ≤ 64 → IsMap n rows → n ≤ i
    → both ≡ map_from n (λ a b. cell rows a b || cell rows b a)
turning_all {n} {i} {rows} {both} so_far most is done =
    let end : i ≡ n = omega (arith, so_far.passed) in
    let known : (a b : ℕ) → cell rows a b ≡ (ltb a n && (ltb b n && cell rows a b)) = λ a b. ap (λ (l : List ℕ). cell l a b) is ∙ map-cell n (cell rows) a b most in
    map_of_cells n (λ a b. cell rows a b || cell rows b a) both most so_far.room
    (λ a b.
    so_far.cells a b
    ∙ ap (λ (m : ℕ). cell rows a b || (cell rows b a && ltb b m)) end
    ∙ within_both (cell rows a b) (cell rows b a) (ltb a n) (ltb b n) (known a b) (known b a))
