use Prim.Native.Nat.{ℕ, ◌+◌, ◌<◌}
use mathlib.Core.Bool.{cond}
use mathlib.Core.Path.{◌≡◌, ap, ◌∙◌}
use mathlib.Core.List.{List, []}
use native.Mathlib.Omega.{arith}
use lib.Dec.{eqb}
use lib.ListN.{length, get_or}
use Rattle.rules.specs.Numbers.{Bytes}
use Rattle.rules.specs.Records.{number_of, second_of, sort_of, place_of, transactions, pairs, tasks, task_count}
use Rattle.rules.specs.Blocks.{record_at, records, record_count}
use Rattle.rules.specs.Preempt.{map_from}
use Rattle.rules.proofs.Numbers.{length-up_to}
use Rattle.rules.proofs.Maps.{map-length}
use Rattle.rules.proofs.Table.Kinds.{length_split}
use Rattle.rules.proofs.Table.Shape.{Shape}
use Rattle.rules.proofs.Table.Listed.{Listed, listed_of}
use Rattle.rules.proofs.Table.Standing.{pair_record}
use Rattle.sets.specs.Bits.{with_cell}
use Rattle.table.specs.Numbers.{Directory, place_among}
use Rattle.table.specs.Precedence.{SoundRecords}
use Rattle.table.proofs.Places.{place_in, shape}
use Rattle.table.proofs.Pairing.{listed_below, marked_to, none_marked, all_marked, pair_marked}
use Rattle.table.proofs.pairs.mark_pairs.Goals as goal

-- what is read of pair k, whose tasks are listed
module _ (image ids : List ℕ) (known first k : ℕ) (bytes : Bytes image) (sound : SoundRecords image) (listed : Directory (tasks (records image)) ids known) where
  shaped : Shape (records image)
  shaped = shape image bytes sound.sound

  named : Listed (records image)
  named = listed_of (records image) sound.referring

  pair : List ℕ
  pair = get_or (pairs (records image)) k []

  module _ (start : first ≡ length (transactions (records image)) + known) (inside : k < length (pairs (records image))) (fields : List ℕ) (read : fields ≡ record_at image (first + k)) where
    pair_read : fields ≡ pair
    unfolding pair
    pair_read =
        let at : first + k ≡ length (transactions (records image)) + task_count (records image) + k = omega (arith, listed.counted) in
        read ∙ ap (record_at image) at ∙ pair_record image shaped.split k inside

    place : (name : List ℕ → ℕ) → place_among ids known (name fields) ≡ place_of (tasks (records image)) (name pair)
    place name = ap (λ (r : List ℕ). place_among ids known (name r)) pair_read ∙ place_in (tasks (records image)) ids known listed (name pair)

    first_place : place_among ids known (number_of fields) < known
    unfolding pair
    first_place = omega (arith, listed_below (records image) (number_of pair) _ (named.first_listed k inside) (place number_of), listed.counted)

    second_place : place_among ids known (second_of fields) < known
    unfolding pair
    second_place = omega (arith, listed_below (records image) (second_of pair) _ (named.second_listed k inside) (place second_of), listed.counted)

    marked : (sort : ℕ) (rows now later : List ℕ) → now ≡ map_from (task_count (records image)) (marked_to sort (records image) rows k)
        → later ≡ cond (eqb (sort_of fields) sort) (with_cell now (place_among ids known (number_of fields)) (place_among ids known (second_of fields))) now
        → later ≡ map_from (task_count (records image)) (marked_to sort (records image) rows (k + 1))
    unfolding pair
    marked sort rows now later so_far stored =
        let first = place_among ids known (number_of fields) in
        let second = place_among ids known (second_of fields) in
        stored
        ∙ ap (λ (r : List ℕ). cond (eqb (sort_of r) sort) (with_cell now first second) now) pair_read
        ∙ ap (λ (m : List ℕ). cond (eqb (sort_of pair) sort) (with_cell m first second) m) so_far
        ∙ pair_marked (records image) shaped named k inside first second (place number_of) (place second_of) sort rows

pub overflow_add-first : goal.overflow_add-first
overflow_add-first c =
    let s = shape c.args.image.now (λ k. (c.type_inv.image k).fits) c.requires.sound_records.sound in
    omega (arith, c.count_of.ensures.counted, s.few_transactions, c.requires.tasks_listed.counted, s.few_tasks)

pub loop-k-init : goal.loop-k-init
loop-k-init c =
    let image = c.args.image.now in
    let s = shape image (λ k. (c.type_inv.image k).fits) c.requires.sound_records.sound in (
      omega (arith, c.count_of.ensures.counted, c.count_of-count.ensures.counted, c.requires.tasks_listed.counted, length_split (records image) s.split, length-up_to (record_at image) (record_count image)),
      none_marked c.args.sort (records image) c.args.rows.now (rw c.requires.tasks_listed.counted at c.requires.map),
    )

pub overflow_add-first-in-loop-k : goal.overflow_add-first-in-loop-k
overflow_add-first-in-loop-k c =
    let s = shape c.args.image.now (λ k. (c.type_inv.image k).fits) c.requires.sound_records.sound in
    omega (arith, c.count_of.ensures.counted, c.count_of-count.ensures.counted, s.few_transactions, s.few_tasks, s.few_pairs, c.requires.tasks_listed.counted)

pub record_at-requires : goal.record_at-requires
record_at-requires c = omega (arith, c.requires.sound_records.held)

pub mark_pair-requires : goal.mark_pair-requires
mark_pair-requires c =
    let a = c.args in
    let bytes = λ (k : ℕ). (c.type_inv.image k).fits in
    let listed = c.requires.tasks_listed in
    let sound = c.requires.sound_records in
    let start : c.count_of.result + a.known ≡ length (transactions (records a.image.now)) + a.known = omega (arith, c.count_of.ensures.counted) in
    let inside : c.loop-k.k < length (pairs (records a.image.now)) = omega (arith, c.count_of-count.ensures.counted) in
    let long = ap length c.loop-k.invariant.1 ∙ map-length (task_count (records a.image.now)) (marked_to a.sort (records a.image.now) a.rows.now c.loop-k.k) in
    record {
      in_bounds = (omega (arith, long), listed.room, omega (arith, listed.counted, (shape a.image.now bytes sound.sound).few_tasks));
      rising = listed.rising;
      first_listed = first_place a.image.now a.ids.now a.known (c.count_of.result + a.known) c.loop-k.k bytes sound listed start inside c.record_at.result.now c.record_at.ensures;
      second_listed = second_place a.image.now a.ids.now a.known (c.count_of.result + a.known) c.loop-k.k bytes sound listed start inside c.record_at.result.now c.record_at.ensures;
    }

pub loop-k-preserved : goal.loop-k-preserved
loop-k-preserved c =
    let a = c.args in
    let start : c.count_of.result + a.known ≡ length (transactions (records a.image.now)) + a.known = omega (arith, c.count_of.ensures.counted) in
    let inside : c.loop-k.k < length (pairs (records a.image.now)) = omega (arith, c.count_of-count.ensures.counted) in (
      c.loop-k.invariant.0,
      marked a.image.now a.ids.now a.known (c.count_of.result + a.known) c.loop-k.k (λ k. (c.type_inv.image k).fits) c.requires.sound_records c.requires.tasks_listed start inside c.record_at.result.now c.record_at.ensures
          a.sort a.rows.now c.loop-k.rows c.mark_pair.new.rows c.loop-k.invariant.1 c.mark_pair.ensures,
    )

pub returns : goal.returns
returns c =
    let a = c.args in
    let rs = records a.image.now in
    let end : c.loop-k.k ≡ length (pairs rs) = omega (arith, c.count_of-count.ensures.counted) in
    c.loop-k.invariant.1 ∙ ap (λ (k : ℕ). map_from (task_count rs) (marked_to a.sort rs a.rows.now k)) end ∙ all_marked a.sort rs a.rows.now
