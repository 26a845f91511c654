-- Where the transactions, tasks and pairs of a table stand among the records of its image.
use Prim.Native.Nat.{ℕ, ◌+◌, ◌<◌}
use mathlib.Core.List.{List, []}
use mathlib.Core.Path.{◌≡◌, sym, ◌∙◌}
use native.Mathlib.Omega.{arith}
use lib.ListN.{length, get_or}
use Rattle.rules.specs.Blocks.{records, record_at, record_count}
use Rattle.rules.specs.Records.{transactions, tasks, pairs, task_count}
use Rattle.rules.proofs.Numbers.{length-up_to, get_or-up_to}
use Rattle.rules.proofs.Table.Kinds.{Split, length_split, transaction_at, task_at_lem, pair_at}

-- record k of an image is record k of the list of its records
pub record_in_list : (image : List ℕ) (k : ℕ) → k < length (records image) → record_at image k ≡ get_or (records image) k []
record_in_list image k h =
    sym (get_or-up_to (record_at image) (record_count image) k [] (omega (arith, length-up_to (record_at image) (record_count image))))

-- the transactions stand first, then the tasks, then the pairs
module _ (image : List ℕ) (split : Split (records image)) where
  pub transaction_record : (i : ℕ) → i < length (transactions (records image)) → record_at image i ≡ get_or (transactions (records image)) i []
  transaction_record i h =
      record_in_list image i (omega (arith, length_split (records image) split)) ∙ transaction_at (records image) split i h

  pub task_record_lem : (i : ℕ) → i < task_count (records image)
      → record_at image (length (transactions (records image)) + i) ≡ get_or (tasks (records image)) i []
  task_record_lem i h =
      record_in_list image (length (transactions (records image)) + i) (omega (arith, length_split (records image) split))
      ∙ task_at_lem (records image) split i h

  pub pair_record : (i : ℕ) → i < length (pairs (records image))
      → record_at image (length (transactions (records image)) + task_count (records image) + i) ≡ get_or (pairs (records image)) i []
  pair_record i h =
      record_in_list image (length (transactions (records image)) + task_count (records image) + i) (omega (arith, length_split (records image) split))
      ∙ pair_at (records image) split i h
