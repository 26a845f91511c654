-- An accepted table has its transactions, tasks and pairs behind one another, each whole in its image, and each in its list.
use Prim.Native.Nat.{ℕ, ◌+◌, ◌≤◌, ◌<◌}
use mathlib.Core.List.{[]}
use mathlib.Core.Path.{◌≡◌}
use native.Mathlib.Omega.{arith}
use lib.ListN.{length, get_or}
use Rattle.rules.specs.Blocks.{records, record_at, record_count, record_start}
use Rattle.rules.specs.Records.{transactions, tasks, pairs, place_of}
use Rattle.rules.proofs.Numbers.{length-up_to}
use Rattle.rules.proofs.Table.Kinds.{length_split}
use Rattle.rules.proofs.Table.Standing as Standing
use Rattle.rules.proofs.Table.Shape.{Shape}
use Rattle.rules.proofs.Table.Listed.{Listed, table_of}
use Rattle.table.specs.declared.accepted.Table.{Table}
use Rattle.table.specs.Numbers.{place_from}
use Rattle.table.proofs.Counts.{table_held}
use Rattle.table.proofs.Places.{place_read}

module _ (t : Table) where
  -- its shape, and what it names
  pub shape : Shape (records t.image.now)
  shape = (table_of t.image.now t.bytes t.accepted).0

  pub names_listed : Listed (records t.image.now)
  names_listed = (table_of t.image.now t.bytes t.accepted).1

  -- its records are those of the three kinds
  pub kinds_counted : t.transactions + t.tasks + t.pairs ≡ record_count t.image.now
  kinds_counted =
      omega (arith, t.transactions_counted, t.tasks_counted, t.pairs_counted, length_split (records t.image.now) shape.split, length-up_to (record_at t.image.now) (record_count t.image.now))

  -- of which there are few
  pub few_records : (t.transactions ≤ 16) × (t.tasks ≤ 64) × (t.pairs ≤ 256)
  few_records =
      (omega (arith, t.transactions_counted, shape.few_transactions), omega (arith, t.tasks_counted, shape.few_tasks), omega (arith, t.pairs_counted, shape.few_pairs))

  -- each record lies whole in the image
  pub record_whole : (k : ℕ) → k < t.transactions + t.tasks + t.pairs → record_start k + 32 ≤ length t.image.now
  record_whole k h = omega (arith, table_held t.image.now t.accepted, kinds_counted)

  -- the transactions stand first, then the tasks, then the pairs
  pub transaction_record : (i : ℕ) → i < t.transactions → record_at t.image.now i ≡ get_or (transactions (records t.image.now)) i []
  transaction_record i h = Standing.transaction_record t.image.now shape.split i (omega (arith, t.transactions_counted))

  pub task_record : (i : ℕ) → i < t.tasks → record_at t.image.now (t.transactions + i) ≡ get_or (tasks (records t.image.now)) i []
  task_record i h =
      rw t.transactions_counted (Standing.task_record_lem t.image.now shape.split i (omega (arith, t.tasks_counted)))

  pub pair_record : (i : ℕ) → i < t.pairs → record_at t.image.now (t.transactions + t.tasks + i) ≡ get_or (pairs (records t.image.now)) i []
  pair_record i h =
      rw (t.transactions_counted, t.tasks_counted) (Standing.pair_record t.image.now shape.split i (omega (arith, t.pairs_counted)))

  -- where a number stands among the transactions, and an id among the tasks
  pub transaction_placed : (x : ℕ) → place_from t.image.now 0 t.transactions x ≡ place_of (transactions (records t.image.now)) x
  transaction_placed =
      place_read (transactions (records t.image.now)) t.image.now 0 t.transactions t.transactions_counted
      (λ k h.
      let same : 0 + k ≡ k = omega arith in
      rw same (transaction_record k h))

  pub task_placed : (x : ℕ) → place_from t.image.now t.transactions t.tasks x ≡ place_of (tasks (records t.image.now)) x
  task_placed = place_read (tasks (records t.image.now)) t.image.now t.transactions t.tasks t.tasks_counted task_record
