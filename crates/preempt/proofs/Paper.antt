-- The map of a table is equations (7) and (8).
use Prim.Native.Nat.{ℕ, ◌+◌, ◌-◌, ◌≤◌, ◌<◌}
use mathlib.Core.List.{List, []}
use mathlib.Core.Bool.{Bool, true, false, ◌&&◌, ◌||◌, not}
use mathlib.Core.Logic.{◌↔◌, ◌⊎◌, inl, inr, ⊎_elim}
use mathlib.Core.Path.{◌≡◌, refl, ap, sym, ◌∙◌}
use native.Mathlib.Nat.{mod-lt}
use native.Mathlib.Omega.{arith}
use borrow.Author.Tests.{lt-ltb, ltb-true, ltb-false, eqb-true, eqb-false, not-true}
use lib.Dec.{ltb, eqb}
use lib.ListN.{length, get_or}
use Rattle.rules.specs.Numbers.{Bytes}
use Rattle.rules.specs.Blocks.{records}
use Rattle.rules.specs.Records.{tasks, pairs, task_count, task_at, period_in}
use Rattle.rules.specs.Preempt.{distance, paired, ComesBefore, comes_before, beside, barred, yields, decided, cell, map_of}
use Rattle.rules.specs.Refusals.{accepted, table_verdict}
use Rattle.rules.proofs.Numbers.{either, never}
use Rattle.rules.proofs.Tests.{both_first, both_second, neither_first, neither_second}
use Rattle.rules.proofs.Before.{paired_by, paired_of, before_path, path_before}
use Rattle.rules.proofs.Patch.Members.{has_kind_at}
use Rattle.rules.proofs.Table.Kinds.{kind_of_kind}
use Rattle.rules.proofs.Table.Ranges.{task_ranges}
use Rattle.rules.proofs.Table.Shape.{Shape}
use Rattle.rules.proofs.Table.Listed.{Listed, table_of}
use Rattle.rules.proofs.Maps.{cell_of_map}
use Rattle.rules.proofs.Distance.{distance_above, distance_below}
use Rattle.rules.proofs.Reasons.{timely, may_preempt_was}
use Rattle.preempt.specs.Paper.{Together, period, Psi, Forbids, Overlaps, Preempted}

-- one of two tests holds
either_holds : (a b : Bool) → (a || b) ≡ true → (a ≡ true) ⊎ (b ≡ true)
either_holds true b h = inl refl
either_holds false b h = inr h

second_holds : (a b : Bool) → b ≡ true → (a || b) ≡ true
second_holds true b h = refl
second_holds false b h = h

-- a task may not be preempted by another exactly where a one-way pair forbids it or a path leads from one to the other
module _ (rs : List (List ℕ)) (named : Listed rs) (a b : ℕ) where
  barred-none : ((k : ℕ) → k < length (pairs rs) → Forbids (get_or (pairs rs) k []) a b → ⊥) → (ComesBefore rs a b → ⊥) → (ComesBefore rs b a → ⊥)
      → barred rs a b ≡ false
  unfolding barred
  barred-none allowed not_before not_after =
      let free : paired 0 rs a b ≡ false =
      either (paired 0 rs a b)
      (λ t.
      let (k, below, sort, first, second) = paired_by 0 rs a b t in
      absurd (allowed k below (sort, first, second)))
      (λ t. t) in
      rw (free, no_path a b not_before, no_path b a not_after)
    where
      no_path : (x y : ℕ) → (ComesBefore rs x y → ⊥) → comes_before rs x y ≡ false
      no_path x y none = either (comes_before rs x y) (λ t. absurd (none (before_path rs x y t))) (λ t. t)

  unforbidden : barred rs a b ≡ false → (k : ℕ) → k < length (pairs rs) → Forbids (get_or (pairs rs) k []) a b → ⊥
  unfolding barred
  unforbidden free k h (sort, first, second) =
      let r = get_or (pairs rs) k [] in
      never (paired 0 rs a b) (rw (first, second) at (paired_of 0 rs r (kind_of_kind 3 rs k h) (has_kind_at 3 rs k h) sort))
      (neither_first (paired 0 rs a b) (beside rs a b) free)

  unordered : barred rs a b ≡ false → (ComesBefore rs a b → ⊥) × (ComesBefore rs b a → ⊥)
  unfolding barred
  unordered free =
      let apart = neither_second (paired 0 rs a b) (beside rs a b) free in (
        λ path. never (comes_before rs a b) (path_before rs named a b path) (neither_first (comes_before rs a b) (comes_before rs b a) apart),
        λ path. never (comes_before rs b a) (path_before rs named b a path) (neither_second (comes_before rs a b) (comes_before rs b a) apart),
      )

-- the tasks at two places of a table
module _ (rs : List (List ℕ)) (shape : Shape rs) (named : Listed rs) (i j : ℕ) (h : i < task_count rs) (l : j < task_count rs) where
  -- within one transaction both offsets are below its period
  second_offset : Together rs i j → (task_at rs j).offset < period rs i
  second_offset same = omega (arith, named.offset_below j l, ap (period_in rs) same)

  -- so the distance is a psi
  pub distance_is_psi : Together rs i j → Psi rs i j (distance (period rs i) (task_at rs i).offset (task_at rs j).offset)
  distance_is_psi same = (
    distance_above (period rs i) (task_at rs i).offset (task_at rs j).offset (named.offset_below i h) (second_offset same),
    distance_below (period rs i) (task_at rs i).offset (task_at rs j).offset (named.offset_below i h) (second_offset same),
  )

  -- and no other number is
  psi_distance : (psi : ℕ) → Together rs i j → Psi rs i j psi → psi ≡ distance (period rs i) (task_at rs i).offset (task_at rs j).offset
  psi_distance psi same is =
      either (ltb (task_at rs i).offset (task_at rs j).offset)
      (λ t.
      let below = ltb-true (task_at rs i).offset (task_at rs j).offset t in
      is.1 below ∙ sym ((distance_is_psi same).1 below))
      (λ t.
      let above = ltb-false (task_at rs i).offset (task_at rs j).offset t in
      is.0 above ∙ sym ((distance_is_psi same).0 above))

  -- the differences of (8) are differences of numbers, and never cut off at 0
  pub differences : (psi : ℕ) → Together rs i j → Psi rs i j psi → (psi < period rs i) × ((task_at rs i).offset ≤ (task_at rs i).response)
  differences psi same is =
      let below = named.offset_below i h in
      let some : 0 < period rs i = omega arith in (
        rw (psi_distance psi same is) (mod-lt ((task_at rs i).offset + (period rs i - (task_at rs j).offset)) some),
        (task_ranges (get_or (tasks rs) i []) (shape.tasks_right i h)).response_from_offset,
      )

  -- psi, where it matters
  module _ (psi : ℕ) (is : Together rs i j → Psi rs i j psi) where
    -- the test of timing is the last line of (8)
    timing_says : timely (period rs i) (task_at rs i) (task_at rs j) ≡ true → (Together rs i j → ⊥) ⊎ Overlaps rs i j psi
    timing_says set =
        either (eqb (task_at rs i).transaction (task_at rs j).transaction)
        (λ t.
        let same = eqb-true (task_at rs i).transaction (task_at rs j).transaction t in
        let e = psi_distance psi same (is same) in
        ⊎_elim
        (λ w. inr (inl (rw e (ltb-true _ (task_at rs j).jitter w))))
        (λ w. inr (inr (rw e (ltb-true _ ((task_at rs i).response - (task_at rs i).offset) w))))
        (either_holds _ _ (rw t at set)))
        (λ t. inl (eqb-false (task_at rs i).transaction (task_at rs j).transaction t))

    -- the other way round, within one transaction
    overlaps : Together rs i j → Overlaps rs i j psi
        → (ltb (distance (period rs i) (task_at rs i).offset (task_at rs j).offset) (task_at rs j).jitter
        || ltb (period rs i - distance (period rs i) (task_at rs i).offset (task_at rs j).offset) ((task_at rs i).response - (task_at rs i).offset))
        ≡ true
    overlaps same (inl v) = rw (lt-ltb _ (task_at rs j).jitter (rw (psi_distance psi same (is same)) at v))
    overlaps same (inr v) = second_holds (ltb (distance (period rs i) (task_at rs i).offset (task_at rs j).offset) (task_at rs j).jitter) _ (lt-ltb _ ((task_at rs i).response - (task_at rs i).offset) (rw (psi_distance psi same (is same)) at v))

    -- and in either case
    timing_holds : (Together rs i j → ⊥) ⊎ Overlaps rs i j psi → timely (period rs i) (task_at rs i) (task_at rs j) ≡ true
    timing_holds rule =
        either (eqb (task_at rs i).transaction (task_at rs j).transaction)
        (λ t.
        let same = eqb-true (task_at rs i).transaction (task_at rs j).transaction t in
        ⊎_elim (λ w. absurd (w same)) (λ w. rw t (overlaps same w)) rule)
        (λ t. rw t)

    -- the cell is set exactly where (8) says so
    pub map_is_equation_8 : (cell (map_of rs) i j ≡ true) ↔ Preempted rs i j psi
    unfolding decided
    map_is_equation_8 =
        let bar = barred rs (task_at rs i).id (task_at rs j).id in
        let here = cell_of_map (task_count rs) (decided rs) i j shape.few_tasks h l ∙ may_preempt_was (period rs i) bar (task_at rs i) (task_at rs j) in (
          λ set.
              let decision : (yields (task_at rs i) (task_at rs j) && (not bar && timely (period rs i) (task_at rs i) (task_at rs j))) ≡ true = sym here ∙ set in
              let rest = both_second (yields (task_at rs i) (task_at rs j)) _ decision in
              let free = not-true bar (both_first (not bar) _ rest) in
              record {
                urgent = ltb-true (task_at rs i).threshold (task_at rs j).priority (both_first _ _ decision);
                allowed = unforbidden rs named (task_at rs i).id (task_at rs j).id free;
                not_before = (unordered rs named (task_at rs i).id (task_at rs j).id free).0;
                not_after = (unordered rs named (task_at rs i).id (task_at rs j).id free).1;
                timely = timing_says (both_second (not bar) _ rest);
              },
          λ p.
              here
              ∙ rw (lt-ltb (task_at rs i).threshold (task_at rs j).priority p.urgent, barred-none rs named (task_at rs i).id (task_at rs j).id p.allowed p.not_before p.not_after)
              (timing_holds p.timely),
        )

-- and so the map of an accepted image
pub accepted-map : (image : List ℕ) → Bytes image → accepted (table_verdict image) ≡ true → (i j psi : ℕ)
    → i < task_count (records image) → j < task_count (records image) → (Together (records image) i j → Psi (records image) i j psi)
    → (cell (map_of (records image)) i j ≡ true) ↔ Preempted (records image) i j psi
accepted-map image bytes right i j psi h l is =
    map_is_equation_8 (records image) (table_of image bytes right).0 (table_of image bytes right).1 i j h l psi is
