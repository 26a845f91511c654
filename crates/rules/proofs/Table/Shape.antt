-- What refusals 4 to 7 leave of a table: the shape of its records.
use Prim.Native.Nat.{ℕ, ◌+◌, ◌≤◌, ◌<◌}
use mathlib.Core.List.{List, []}
use mathlib.Core.Bool.{true, false, not}
use mathlib.Core.Path.{◌≡◌}
use native.Mathlib.Omega.{arith}
use borrow.Author.Tests.{ltb-true, ltb-false, not-false}
use lib.ListN.{length, get_or, get_or-eq_default}
use lib.Dec.{ltb}
use Rattle.rules.specs.declared.Form.{Form}
use Rattle.rules.specs.declared.Form.TheVariants.{Table}
use Rattle.rules.specs.declared.Verdict.{Verdict}
use Rattle.rules.specs.Numbers.{Bytes, between}
use Rattle.rules.specs.Blocks.{record_start, record_at, record_count, records}
use Rattle.rules.specs.Records.{of_kind, kind_of, number_of, way_of, key, image_key, most_of, zero_bytes, form_wrong, range_wrong, task_right, transactions, tasks, pairs, task_count, count_of, too_many}
use Rattle.rules.specs.Refusals.{accepted, fine, or_else, refuse_if, numbered, form_refusal, order_wrong, order_refusal, range_refusal, count_refusal, records_verdict}
use Rattle.rules.proofs.Numbers.{either, length-up_to, get_or-up_to}
use Rattle.rules.proofs.Bytes.{part_bytes}
use Rattle.rules.proofs.Tests.{neither_first, neither_second}
use Rattle.rules.proofs.Refusals.{numbered-some, accepted_first, accepted_second, fine_both, no_fault, no_fault_at, fine_at}
use Rattle.rules.proofs.Table.Kinds.{Known, Grouped, Split, split_of, length_split, task_at_lem, task_kind, count-of_kind, of_kind_all}
use Rattle.rules.proofs.Table.Ranges.{between_least, between_most, task_right_lem}
use Rattle.rules.proofs.Table.Order.{Rises, rises_of_next, order_right, kind_rises, numbers_rise}

-- the records of a table: transactions, tasks and pairs, not too many and in order, tasks in range, with byte 31 at 0
pub record Shape (rs : List (List ℕ)) : Type 0 where
  pub split : Split rs
  pub few_transactions : length (transactions rs) ≤ 16
  pub few_tasks : task_count rs ≤ 64
  pub few_pairs : length (pairs rs) ≤ 256
  pub keys_rise : Rises key rs
  pub transactions_rise : Rises number_of (transactions rs)
  pub tasks_rise : Rises number_of (tasks rs)
  pub tasks_right : (i : ℕ) → i < task_count rs → task_right (get_or (tasks rs) i []) ≡ true
  pub ways : (k : ℕ) → way_of (get_or rs k []) ≡ 0

-- refusals 4 to 7 find no fault in these records of a table or a patch
pub record Faultless (form : Form) (rs : List (List ℕ)) : Type 0 where
  pub forms : (k : ℕ) → k < length rs → form_wrong form (get_or rs k []) ≡ false
  pub orders : (k : ℕ) → k < length rs → order_wrong rs k ≡ false
  pub ranges : (k : ℕ) → k < length rs → range_wrong (get_or rs k []) ≡ false
  pub counts : accepted (count_refusal form rs) ≡ true

-- accepted records have none of these faults
pub faultless_of : (form : Form) (rs : List (List ℕ)) → accepted (records_verdict form rs) ≡ true → Faultless form rs
unfolding records_verdict
faultless_of form rs h =
    let rest = accepted_second (form_refusal form rs) (or_else (order_refusal form rs) (or_else (range_refusal form rs) (count_refusal form rs))) h in
    let rest' = accepted_second (order_refusal form rs) (or_else (range_refusal form rs) (count_refusal form rs)) rest in
    record {
      forms =
          no_fault_at (numbered form 4) (λ k. form_wrong form (get_or rs k [])) (length rs) (numbered-some form 4 (omega arith))
          (accepted_first (form_refusal form rs) _ h);
      orders =
          no_fault_at (numbered form 5) (order_wrong rs) (length rs) (numbered-some form 5 (omega arith))
          (accepted_first (order_refusal form rs) _ rest);
      ranges =
          no_fault_at (numbered form 6) (λ k. range_wrong (get_or rs k [])) (length rs) (numbered-some form 6 (omega arith))
          (accepted_first (range_refusal form rs) _ rest');
      counts = accepted_second (range_refusal form rs) (count_refusal form rs) rest';
    }

-- what it says of a table's record that its form is not found wrong
module _ (r : List ℕ) (right : form_wrong Table r ≡ false) where
  -- it is a transaction, a task or a pair
  pub known_kind : between 1 (kind_of r) 3 ≡ true
  unfolding form_wrong
  known_kind = not-false (between 1 (kind_of r) 3) (neither_first (not (between 1 (kind_of r) 3)) _ right)

  -- its byte 31 is 0
  pub way_zero : way_of r ≡ 0
  unfolding form_wrong
  way_zero =
      omega (arith, ltb-false 0 (way_of r) (neither_second (not (zero_bytes r)) _ (neither_second (not (between 1 (kind_of r) 3)) _ right)))

-- of a kind of which there are not found to be too many there are at most as many as allowed, taken out or put in
pub not_too_many : (rs : List (List ℕ)) (k : ℕ) → too_many rs k ≡ false → (count_of k 0 rs ≤ most_of k) × (count_of k 1 rs ≤ most_of k)
unfolding too_many
not_too_many rs k h =
    (ltb-false (most_of k) (count_of k 0 rs) (neither_first (ltb (most_of k) (count_of k 0 rs)) _ h), ltb-false (most_of k) (count_of k 1 rs) (neither_second (ltb (most_of k) (count_of k 0 rs)) _ h))

-- where refusal 7 finds no fault
module _ (form : Form) (rs : List (List ℕ)) (h : accepted (count_refusal form rs) ≡ true) where
  -- refusal 7 for one kind
  refuse : ℕ → Verdict
  refuse k = refuse_if (numbered form 7) k (too_many rs k)

  -- where it finds no fault, there are not too many of that kind
  few : (k : ℕ) → accepted (refuse k) ≡ true → too_many rs k ≡ false
  unfolding refuse
  few k right = no_fault (numbered form 7) k (too_many rs k) (numbered-some form 7 (omega arith)) right

  -- tasks and pairs are counted after the transactions
  rest : accepted (or_else (refuse 2) (refuse 3)) ≡ true
  unfolding refuse
  rest = accepted_second (refuse 1) (or_else (refuse 2) (refuse 3)) h

  -- there are not too many transactions, tasks or pairs
  pub transactions_counted : too_many rs 1 ≡ false
  unfolding refuse
  transactions_counted = few 1 (accepted_first (refuse 1) (or_else (refuse 2) (refuse 3)) h)

  pub tasks_counted : too_many rs 2 ≡ false
  tasks_counted = few 2 (accepted_first (refuse 2) (refuse 3) rest)

  pub pairs_counted : too_many rs 3 ≡ false
  pairs_counted = few 3 (accepted_second (refuse 2) (refuse 3) rest)

  -- so it is fine
  pub counts_fine : count_refusal form rs ≡ fine
  counts_fine = rw (transactions_counted, tasks_counted, pairs_counted)

-- faultless records are fine
pub faultless_fine : (form : Form) (rs : List (List ℕ)) → Faultless form rs → records_verdict form rs ≡ fine
unfolding records_verdict
faultless_fine form rs f =
    fine_both (form_refusal form rs) (or_else (order_refusal form rs) (or_else (range_refusal form rs) (count_refusal form rs)))
    (fine_at (numbered form 4) (λ k. form_wrong form (get_or rs k [])) (length rs) f.forms)
    (fine_both (order_refusal form rs) (or_else (range_refusal form rs) (count_refusal form rs))
    (fine_at (numbered form 5) (order_wrong rs) (length rs) f.orders)
    (fine_both (range_refusal form rs) (count_refusal form rs)
    (fine_at (numbered form 6) (λ k. range_wrong (get_or rs k [])) (length rs) f.ranges)
    (counts_fine form rs f.counts)))

-- each record is after the one before it, so the image's order rises
pub faultless_order : (form : Form) (rs : List (List ℕ)) → Faultless form rs → Rises image_key rs
faultless_order form rs f = rises_of_next image_key rs (λ k some m. order_right rs k (f.orders k m) some)

-- what it says of records that they are faultless, whether they are bytes or not
module _ (rs : List (List ℕ)) (f : Faultless Table rs) where
  -- byte 31 is 0 throughout, also past the end
  pub faultless_ways : (k : ℕ) → way_of (get_or rs k []) ≡ 0
  faultless_ways k =
      either (ltb k (length rs))
      (λ t. way_zero (get_or rs k []) (f.forms k (ltb-true k (length rs) t)))
      (λ t. rw (get_or-eq_default rs [] (ltb-false k (length rs) t)))

  -- each kind is 1, 2 or 3
  pub faultless_known : Known rs
  faultless_known i l =
      let right = known_kind (get_or rs i []) (f.forms i l) in
      (between_least 1 (kind_of (get_or rs i [])) 3 right, between_most 1 (kind_of (get_or rs i [])) 3 right)

  -- with byte 31 at 0, the image's order is table order
  pub faultless_rises : Rises key rs
  faultless_rises i j b l =
      omega (arith, faultless_order Table rs f i j b l, faultless_ways i, faultless_ways j)

  -- there are at most 16 transactions, 64 tasks and 256 pairs
  pub few_transactions : length (transactions rs) ≤ 16
  few_transactions = rw (← count-of_kind rs faultless_ways 1) (not_too_many rs 1 (transactions_counted Table rs f.counts)).0

  pub few_tasks : task_count rs ≤ 64
  few_tasks = rw (← count-of_kind rs faultless_ways 2) (not_too_many rs 2 (tasks_counted Table rs f.counts)).0

  pub few_pairs : length (pairs rs) ≤ 256
  few_pairs = rw (← count-of_kind rs faultless_ways 3) (not_too_many rs 3 (pairs_counted Table rs f.counts)).0

-- faultless records of bytes have this shape
module _ (rs : List (List ℕ)) (bytes : (k : ℕ) → Bytes (get_or rs k [])) (f : Faultless Table rs) where
  -- where the keys rise, the kinds do not fall
  grouped : Grouped rs
  grouped i j b l = kind_rises (get_or rs i []) (get_or rs j []) (bytes j) (faultless_rises rs f i j b l)

  -- so the list is its transactions, tasks and pairs
  split : Split rs
  split = split_of rs (faultless_known rs f) grouped

  -- the place of each task is in the list
  task_here : (i : ℕ) → i < task_count rs → length (transactions rs) + i < length rs
  task_here i l = omega (arith, length_split rs split)

  -- the shape
  pub shape_of_faultless : Shape rs
  shape_of_faultless =
      record {
        split = split;
        few_transactions = few_transactions rs f;
        few_tasks = few_tasks rs f;
        few_pairs = few_pairs rs f;
        keys_rise = faultless_rises rs f;
        transactions_rise = numbers_rise 1 rs (omega arith) (faultless_rises rs f);
        tasks_rise = numbers_rise 2 rs (omega arith) (faultless_rises rs f);
        tasks_right =
            λ i l.
            rw (← task_at_lem rs split i l)
            (task_right_lem (get_or rs (length (transactions rs) + i) []) (f.ranges (length (transactions rs) + i) (task_here i l)) (task_kind rs split i l));
        ways = faultless_ways rs f;
      }

-- accepted records of bytes have this shape
pub shape_of_records : (rs : List (List ℕ)) → ((k : ℕ) → Bytes (get_or rs k [])) → accepted (records_verdict Table rs) ≡ true → Shape rs
shape_of_records rs bytes h = shape_of_faultless rs bytes (faultless_of Table rs h)

-- each record of an image of bytes is of bytes
pub record_bytes : (image : List ℕ) → Bytes image → (k : ℕ) → Bytes (record_at image k)
record_bytes image bytes k = part_bytes image (record_start k) 32 bytes

-- so are those of the list of its records, also past its end
pub records_bytes : (image : List ℕ) → Bytes image → (k : ℕ) → Bytes (get_or (records image) k [])
records_bytes image bytes k =
    either (ltb k (record_count image))
    (λ t. rw (get_or-up_to (record_at image) (record_count image) k [] (ltb-true k (record_count image) t)) (record_bytes image bytes k))
    (λ t.
    let past : length (records image) ≤ k = rw length-up_to (ltb-false k (record_count image) t) in
    rw (get_or-eq_default (records image) [] past) (λ j. omega arith))

-- and those of one kind
pub of_kind_bytes : (image : List ℕ) → Bytes image → (k i : ℕ) → Bytes (get_or (of_kind k (records image)) i [])
of_kind_bytes image bytes k i = of_kind_all Bytes k (records image) (records_bytes image bytes) i

-- the records of an accepted image have this shape
pub shape_of : (image : List ℕ) → Bytes image → accepted (records_verdict Table (records image)) ≡ true → Shape (records image)
shape_of image bytes h = shape_of_records (records image) (records_bytes image bytes) h
