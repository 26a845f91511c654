-- The numbers and the ids are read from the records of the two kinds in turn, of which there are few.
use Prim.Native.Nat.{ℕ}
use native.Mathlib.Omega.{arith}
use Rattle.rules.specs.Blocks.{records, record_at, record_count}
use Rattle.rules.proofs.Numbers.{length-up_to}
use Rattle.rules.proofs.Table.Kinds.{length_split}
use Rattle.table.proofs.Places.{transactions_directory, tasks_directory, shape}
use Rattle.table.proofs.listing.list_records.Goals as goal

pub numbers_from-requires-clause-few : goal.numbers_from-requires-clause-few
numbers_from-requires-clause-few c =
    omega (arith, c.count_of-transactions.ensures.counted, (shape c.args.image.now (λ k. (c.type_inv.image k).fits) c.requires.sound).few_transactions)

pub numbers_from-requires-2-clause-few : goal.numbers_from-requires-2-clause-few
numbers_from-requires-2-clause-few c =
    omega (arith, c.count_of-tasks.ensures.counted, (shape c.args.image.now (λ k. (c.type_inv.image k).fits) c.requires.sound).few_tasks)

pub numbers_from-requires-2-clause-in_bounds : goal.numbers_from-requires-2-clause-in_bounds
numbers_from-requires-2-clause-in_bounds c =
    let image = c.args.image.now in
    let s = shape image (λ k. (c.type_inv.image k).fits) c.requires.sound in
    omega (arith, c.count_of-transactions.ensures.counted, c.count_of-tasks.ensures.counted, length_split (records image) s.split, length-up_to (record_at image) (record_count image))

pub invariant_of-result : goal.invariant_of-result
invariant_of-result c =
    let image = c.args.image.now in
    let bytes = λ (k : ℕ). (c.type_inv.image k).fits in
    let transactions = c.count_of-transactions in
    let tasks = c.count_of-tasks in
    record {
      bytes = bytes;
      held = c.requires.held;
      sound = c.requires.sound;
      transactions_listed = transactions_directory image bytes c.requires.sound c.numbers_from.result transactions.result c.numbers_from.ensures transactions.ensures.counted;
      tasks_listed = tasks_directory image bytes c.requires.sound c.numbers_from-2.result transactions.result tasks.result c.numbers_from-2.ensures transactions.ensures.counted tasks.ensures.counted;
      pairs_counted = c.count_of.ensures.counted;
    }
