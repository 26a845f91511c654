-- What makes a list of records a table: each has 32 bytes, and refusals 4 to 8 and 14 find no fault; then its image is accepted.
use Prim.Native.Nat.{ℕ, ◌≤◌}
use mathlib.Core.List.{List, []}
use mathlib.Core.Bool.{true, false, not}
use mathlib.Core.Path.{◌≡◌, ap}
use native.Mathlib.Omega.{arith}
use lib.ListN.{length, get_or}
use Rattle.rules.specs.declared.Form.TheVariants.{Table}
use Rattle.rules.specs.declared.Verdict.{Verdict}
use Rattle.rules.specs.Numbers.{some}
use Rattle.rules.specs.Blocks.{records, image_of}
use Rattle.rules.specs.Records.{number_of, key, reference_wrong, transactions, tasks, task_count}
use Rattle.rules.specs.Refusals.{accepted, fine, or_else, order_wrong, order_refusal, count_refusal, reference_refusal, circles, first_circle, circle_refusal, link_refusal, frame_verdict, records_verdict, table_verdict, broken}
use Rattle.rules.proofs.Refusals.{accepted_parts, linked_references, linked_circles, fine_both, fine_at, accepted_if, accepted_at}
use Rattle.rules.proofs.Table.Listed.{Listed, listed_of}
use Rattle.rules.proofs.Image.Parts.{Records}
use Rattle.rules.proofs.Image.Frame.{frame_accepted, frame_of, records_sized}
use Rattle.rules.proofs.Image.Written.{frame_image_of, records-image_of}
use Rattle.rules.proofs.Table.Kinds.{length_kinds}
use Rattle.rules.proofs.Table.Order.{Rises, numbers_rise}
use Rattle.rules.proofs.Table.Shape.{Faultless, faultless_of, faultless_fine, counts_fine, faultless_known, faultless_rises, few_transactions, few_tasks, few_pairs}

-- a list of records that is a table
pub record Valid (rs : List (List ℕ)) : Type 0 where
  pub sized : Records rs
  pub faultless : Faultless Table rs
  pub links : accepted (link_refusal rs) ≡ true

-- the records of an accepted image are a table
pub valid_of : (image : List ℕ) → accepted (table_verdict image) ≡ true → Valid (records image)
valid_of image h =
    let (sound, named) = accepted_parts image h in
    record {
      sized = records_sized Table image (frame_of Table image (frame_accepted Table image h));
      faultless = faultless_of Table (records image) sound;
      links = named;
    }

-- what a table gives, whether its records are bytes or not
module _ (rs : List (List ℕ)) (v : Valid rs) where
  -- its records are in table order
  pub valid_keys_rise : Rises key rs
  valid_keys_rise = faultless_rises rs v.faultless

  -- the numbers of its transactions rise, and so do the ids of its tasks
  pub valid_transactions_rise : Rises number_of (transactions rs)
  valid_transactions_rise = numbers_rise 1 rs (omega arith) valid_keys_rise

  pub valid_tasks_rise : Rises number_of (tasks rs)
  valid_tasks_rise = numbers_rise 2 rs (omega arith) valid_keys_rise

  -- it has at most 64 tasks
  pub valid_few_tasks : task_count rs ≤ 64
  valid_few_tasks = few_tasks rs v.faultless

  -- and at most 16 + 64 + 256 records
  pub valid_few : length rs ≤ 336
  valid_few =
      omega (
        arith,
        length_kinds rs (faultless_known rs v.faultless),
        few_transactions rs v.faultless,
        few_tasks rs v.faultless,
        few_pairs rs v.faultless,
      )

  -- the tasks and transactions that its records name are listed
  pub valid_listed : Listed rs
  valid_listed = listed_of rs (linked_references rs v.links)

  -- refusals 8 and 14 are fine
  links_fine : link_refusal rs ≡ fine
  links_fine =
      fine_both (reference_refusal rs) (circle_refusal rs)
      (accepted_at 8 (λ k. reference_wrong rs (get_or rs k [])) (length rs) (omega arith) (linked_references rs v.links))
      (accepted_if 14 (first_circle rs) (some (circles rs) (task_count rs)) (omega arith) (linked_circles rs v.links))

  -- the records fit in 23 blocks, so its image is accepted
  pub table_of_valid : table_verdict (image_of Table rs) ≡ fine
  unfolding table_verdict
  table_of_valid =
      rw (records-image_of Table rs v.sized)
      (fine_both (frame_verdict Table (image_of Table rs)) (or_else (records_verdict Table rs) (link_refusal rs))
      (frame_image_of Table rs v.sized (omega (arith, valid_few)))
      (fine_both (records_verdict Table rs) (link_refusal rs)
      (faultless_fine Table rs v.faultless)
      links_fine))

  -- and as an outcome it is not broken
  pub valid_not_broken : broken rs ≡ false
  valid_not_broken =
      ap (λ (w : Verdict). not (accepted w))
      (fine_both (order_refusal Table rs) (or_else (count_refusal Table rs) (link_refusal rs))
      (fine_at 5 (order_wrong rs) (length rs) v.faultless.orders)
      (fine_both (count_refusal Table rs) (link_refusal rs) (counts_fine Table rs v.faultless.counts) links_fine))

-- records of 32 bytes whose image is accepted are a table
pub valid_image_of : (rs : List (List ℕ)) → Records rs → accepted (table_verdict (image_of Table rs)) ≡ true → Valid rs
valid_image_of rs sized h = rw (records-image_of Table rs sized) at (valid_of (image_of Table rs) h)
