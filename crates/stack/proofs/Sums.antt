-- The best sums over paths, place by place: each is the largest of those that may follow, and the place's own size.
use Prim.Native.Nat.{ℕ, zero, suc, ◌+◌, ◌*◌, ◌^◌, ◌≤◌, ◌<◌}
use lib.Count.{count_trailing_zeros}
use mathlib.Core.List.{List, [], ◌∷◌}
use mathlib.Core.Bool.{true, false}
use mathlib.Core.Path.{◌≡◌, refl, sym, subst, ◌∙◌}
use mathlib.Core.Logic.{◌⊎◌, inl, ⊎_elim}
use native.Mathlib.Omega.{arith}
use borrow.Author.Tests.{eqb-true}
use lib.ListN.{length, get_or, replicate, set as set_at, length-set}
use lib.Seq.{get_or-set_same, get_or-set_other}
use lib.Dec.{T, eqb}
use Rattle.rules.specs.Preempt.{cell, bit_at}
use Rattle.rules.specs.Chains.{weight, Path, All}
use Rattle.rules.proofs.Numbers.{either, never, some_place}
use Rattle.rules.proofs.Tests.{both_first, both_second, T_true, true_T}
use Rattle.sets.specs.Places.{Without, Shared, Inside}
use Rattle.ceiling.specs.Near.{size_of}
use Rattle.stack.specs.Setting.{Ready}
use Rattle.stack.specs.Paths.{LargestAt, PathFrom, PathSums, PathBound}
use Rattle.rules.proofs.Bits.{bit_none}
use Rattle.sets.proofs.Sets.{without_inside, without_outside, lowest-has}

-- sums that are all 0
pub zeros : (k j : ℕ) → ◌≡◌ {A = ℕ} (get_or (replicate k 0) j 0) 0
zeros zero j = refl
zeros (suc k) zero = refl
zeros (suc k) (suc j) = zeros k j

-- the largest sum at the places of a set that are not in the rest
pub record Sought (sums : List ℕ) (set largest rest : ℕ) : Type 0 where
  pub within : rest ≤ set
  pub inside : (j : ℕ) → bit_at rest j ≡ true → bit_at set j ≡ true
  pub most : (j : ℕ) → bit_at set j ≡ true → bit_at rest j ≡ false → get_or sums j 0 ≤ largest
  pub reached : (largest ≡ 0) ⊎ ((j : ℕ) × (bit_at set j ≡ true) × (get_or sums j 0 ≡ largest))

pub sought_none : {sums : List ℕ} {set : ℕ} → Sought sums set 0 set
sought_none {sums} {set} =
    record {
      within = omega arith;
      inside = λ j h. h;
      most = λ j h g. never (bit_at set j) h g;
      reached = inl refl;
    }

pub sought_more : {sums : List ℕ} {set largest rest i smaller larger : ℕ} → Sought sums set largest rest → Without rest i smaller
    → largest ≤ larger → get_or sums i 0 ≤ larger → (larger ≡ 0) ⊎ ((j : ℕ) × (bit_at set j ≡ true) × (get_or sums j 0 ≡ larger))
    → Sought sums set larger smaller
sought_more {sums} {set} {largest} {rest} {i} {smaller} {larger} found taken more here reached =
    record {
      within = omega (arith, taken.less, found.within);
      inside = λ j h. found.inside j (without_inside rest i smaller taken j h).0;
      most = λ j h g.
          without_outside rest i smaller taken j g
          (λ o. omega (arith, found.most j h o))
          (λ e. rw e here);
      reached = reached;
    }

pub sought_all : {sums : List ℕ} {set largest rest : ℕ} → Sought sums set largest rest → rest ≡ 0 → LargestAt sums set largest
sought_all found e =
    record {
      most = λ j h. found.most j h (rw e (bit_none j));
      reached = found.reached;
    }

-- the largest is at most what each of the sums is at most
largest_light : {sums : List ℕ} {set r : ℕ} (most : ℕ) → LargestAt sums set r → ((j : ℕ) → bit_at set j ≡ true → get_or sums j 0 ≤ most) → r ≤ most
largest_light most largest light =
    ⊎_elim (λ e. omega arith) (λ (j, there, e). omega (arith, light j there)) largest.reached

module _ (n : ℕ) (rows sizes : List ℕ) (cover : ℕ) where
  -- a place's own sum, where those of all that may preempt it are settled
  settle : {higher i r : ℕ} {sums : List ℕ} → i < n → bit_at cover i ≡ true → Shared (get_or rows i 0) cover higher → LargestAt sums higher r
      → ((j : ℕ) → bit_at cover j ≡ true → T (cell rows i j) → PathFrom n rows sizes cover j (get_or sums j 0)) → PathFrom n rows sizes cover i (size_of sizes i + r)
  settle {higher} {i} {r} {sums} below there meet largest settled =
      record {
        reached =
            ⊎_elim
            (λ e. ([], (below, (true_T (bit_at cover i) there, tt)), omega arith))
            (λ (j, h, e).
            let h' = sym (meet j) ∙ h in
            let may = true_T (cell rows i j) (both_first (cell rows i j) (bit_at cover j) h') in
            let (c, (path, all), same) = (settled j (both_second (cell rows i j) (bit_at cover j) h') may).reached in
            (j ∷ c, ((below, may, path), (true_T (bit_at cover i) there, all)), omega arith))
            largest.reached;
        most = most';
      }
    where
      most' : (c : List ℕ) → Path n (cell rows) (i ∷ c) × All (bit_at cover) (i ∷ c) → weight (size_of sizes) (i ∷ c) ≤ size_of sizes i + r
      most' [] h = omega arith
      most' (j ∷ c) (path, all) =
          let inside = T_true (bit_at cover j) all.1.0 in
          let may = path.1 in
          let here : bit_at higher j ≡ true = meet j ∙ rw (T_true (cell rows i j) may, inside) in
          omega (arith, (settled j inside may).most c (path.2, all.1), largest.most j here)

  -- the largest of the best sums at the cover's places is the path bound inside the cover
  pub sums_bound : {r : ℕ} {sums filled : List ℕ} → PathSums n rows sizes cover sums filled → LargestAt filled cover r
      → PathBound n rows sizes cover r
  sums_bound {r} summed largest =
      record {
        reached =
            ⊎_elim
            (λ e. ([], (tt, tt), sym e))
            (λ (j, h, e).
            let (c, inside, same) = (summed.best j h).reached in
            (j ∷ c, inside, same ∙ e))
            largest.reached;
        most = most';
      }
    where
      most' : (c : List ℕ) → Path n (cell rows) c × All (bit_at cover) c → weight (size_of sizes) c ≤ r
      most' [] h = omega arith
      most' (j ∷ c) h =
          let inside = T_true (bit_at cover j) h.1.0 in
          omega (arith, (summed.best j inside).most c h, largest.most j inside)

-- where the first k places of the order are done: the sums of those in the cover are settled, the rest stand later, and
-- outside the cover the sums are as they were
pub record Underway (n : ℕ) (rows sizes order : List ℕ) (cover : ℕ) (before sums : List ℕ) (rest k : ℕ) : Type 0 where
  pub count : k ≤ n
  pub room : length sums ≡ 64
  pub within : rest ≤ cover
  pub inside : (j : ℕ) → bit_at rest j ≡ true → bit_at cover j ≡ true
  pub later : (j : ℕ) → bit_at rest j ≡ true → (m : ℕ) × (k ≤ m) × (m < n) × (get_or order m 0 ≡ j)
  pub settled : (j : ℕ) → bit_at cover j ≡ true → bit_at rest j ≡ false → PathFrom n rows sizes cover j (get_or sums j 0)
  pub light : (j : ℕ) → bit_at cover j ≡ true → bit_at rest j ≡ false → get_or sums j 0 ≤ 65535 * k
  pub kept : (j : ℕ) → bit_at cover j ≡ false → get_or sums j 0 ≡ get_or before j 0

module _ {n : ℕ} {rows sizes order : List ℕ} {cover : ℕ} (ready : Ready n rows sizes order) where
  pub underway_none : {sums : List ℕ} → length sums ≡ 64 → Inside n cover → Underway n rows sizes order cover sums sums cover 0
  underway_none room inside =
      record {
        count = omega arith;
        room = room;
        within = omega arith;
        inside = λ j h. h;
        later = λ j h.
            let (m, below, same) = some_place (λ k. eqb (get_or order k 0) j) n (ready.occurs j (inside j h)) in
            (m, omega arith, below, eqb-true (get_or order m 0) j same);
        settled = λ j h g. never (bit_at cover j) h g;
        light = λ j h g. never (bit_at cover j) h g;
        kept = λ j h. refl;
      }

  -- while some place is left, the order is not at its end
  pub underway_left : {before sums : List ℕ} {rest k : ℕ} → Underway n rows sizes order cover before sums rest k → 0 < rest → rest < 2 ^ 64 → k < n
  underway_left {rest = rest} {k = k} so_far some fits =
      let lowest = lowest-has rest some fits in
      let (m, above, below, same) = so_far.later (count_trailing_zeros 64 rest) lowest.there in
      omega arith

  -- and the next place of the order is a task's
  pub next_place : {before sums : List ℕ} {rest k place : ℕ} → Underway n rows sizes order cover before sums rest k → 0 < rest → cover < 2 ^ 64
      → place ≡ get_or order k 0 → (k < n) × (place < n) × (n ≤ 64)
  next_place {k = k} so_far some fits here =
      let left = underway_left so_far some (omega (arith, so_far.within, fits)) in
      (left, omega (arith, here, ready.places k left), ready.arrays.few)

  -- the next place of the order is not in the rest
  pub underway_skip : {before sums : List ℕ} {rest k : ℕ} → Underway n rows sizes order cover before sums rest k → k < n → bit_at rest (get_or order k 0) ≡ false → Underway n rows sizes order cover before sums rest (k + 1)
  underway_skip {rest = rest} {k = k} so_far below outside =
      record {
        count = omega arith;
        room = so_far.room;
        within = so_far.within;
        inside = so_far.inside;
        later = λ j h.
            let (m, above, last, same) = so_far.later j h in
            let other : m ≡ k → ⊥ = λ e. never (bit_at rest j) h (rw (sym same, e) outside) in
            (m, omega arith, last, same);
        settled = so_far.settled;
        light = λ j h g. omega (arith, so_far.light j h g);
        kept = so_far.kept;
      }

  -- what may preempt the next place of the order is done
  underway_done : {before sums : List ℕ} {rest k : ℕ} → Underway n rows sizes order cover before sums rest k → k < n
      → (j : ℕ) → T (cell rows (get_or order k 0) j) → bit_at rest j ≡ false
  underway_done {rest = rest} {k = k} so_far below j may =
      either (bit_at rest j)
      (λ t.
      let (m, above, last, e) = so_far.later j t in
      absurd (omega (arith, ready.earlier k m below last (rw e may))))
      (λ t. t)

  -- so that the largest sum there is no more than k places weigh
  pub underway_light : {before sums : List ℕ} {rest k higher r : ℕ} → Underway n rows sizes order cover before sums rest k → k < n
      → Shared (get_or rows (get_or order k 0) 0) cover higher → LargestAt sums higher r → r ≤ 65535 * k
  underway_light {k = k} so_far below meet largest =
      largest_light (65535 * k) largest
      (λ j h.
      let i : ℕ = get_or order k 0 in
      let h' = sym (meet j) ∙ h in
      let may = true_T (cell rows i j) (both_first (cell rows i j) (bit_at cover j) h') in
      so_far.light j (both_second (cell rows i j) (bit_at cover j) h') (underway_done so_far below j may))

  -- the next place of the order is in the rest: its sum is settled now
  pub underway_take : {before sums : List ℕ} {rest k higher r smaller : ℕ} → Underway n rows sizes order cover before sums rest k → k < n → bit_at rest (get_or order k 0) ≡ true
      → Shared (get_or rows (get_or order k 0) 0) cover higher → LargestAt sums higher r → Without rest (get_or order k 0) smaller
      → Underway n rows sizes order cover before (set_at sums (get_or order k 0) (size_of sizes (get_or order k 0) + r)) smaller (k + 1)
  underway_take {before} {sums} {rest} {k} {higher} {r} {smaller} so_far below there meet largest taken =
      let i : ℕ = get_or order k 0 in
      let place : i < n = ready.places k below in
      let sum : ℕ = size_of sizes i + r in
      let same = get_or-set_same sums i sum 0 (omega (arith, so_far.room, ready.arrays.few)) in
      record {
        count = omega arith;
        room = length-set sums i sum ∙ so_far.room;
        within = omega (arith, taken.less, so_far.within);
        inside = λ j h. so_far.inside j (without_inside rest i smaller taken j h).0;
        later = λ j h.
            let (was, differ) = without_inside rest i smaller taken j h in
            let (m, above, last, e) = so_far.later j was in
            let other : m ≡ k → ⊥ = λ f. differ (rw (sym e, f)) in
            (m, omega arith, last, e);
        settled = λ j h g.
            without_outside rest i smaller taken j g
            (λ o. rw (get_or-set_other sums i j sum 0 (λ e. never (bit_at rest i) there (rw (sym e) o))) (so_far.settled j h o))
            (λ e. subst (λ (p : ℕ). PathFrom n rows sizes cover p (get_or (set_at sums i sum) p 0)) (sym e) (rw same (settle n rows sizes cover place (so_far.inside i there) meet largest (λ m l may. so_far.settled m l (underway_done so_far below m may)))));
        light = λ j h g.
            without_outside rest i smaller taken j g
            (λ o. rw (get_or-set_other sums i j sum 0 (λ e. never (bit_at rest i) there (rw (sym e) o))) (omega (arith, so_far.light j h o)))
            (λ e. rw (e, same) (omega (arith, ready.arrays.light i place, underway_light so_far below meet largest)));
        kept = λ j h. get_or-set_other sums i j sum 0 (λ e. never (bit_at cover i) (so_far.inside i there) (rw (sym e) h)) ∙ so_far.kept j h;
      }
