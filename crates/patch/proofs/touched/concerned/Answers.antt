-- A record concerns the tasks of its transaction, its task, or the two tasks of its pair, and its kind says which.
use Prim.Native.Nat.{ℕ, ◌≤◌, ◌<◌}
use mathlib.Core.Path.{◌≡◌, sym, ◌∙◌}
use mathlib.Core.Logic.{◌⊎◌, inl, inr}
use native.Mathlib.Omega.{arith}
use lib.ListN.{get_or}
use Rattle.rules.specs.Records.{kind_of, number_of, second_of}
use Rattle.sets.proofs.Columns.{column_long}
use Rattle.table.proofs.Tables.{few_records}
use Rattle.patch.specs.Touched.{has_id, concerns_at}
use Rattle.patch.proofs.Touching.{marks_none, marks_either, marks_members, concerns_transaction, concerns_task, concerns_pair, concerns-none}
use Rattle.patch.proofs.touched.concerned.Goals as goal

-- a number that is no kind's is none of the three
other_kind : (n k : ℕ) → (n ≡ 0) ⊎ (3 < n) → 1 ≤ k → k ≤ 3 → n ≡ k → ⊥
other_kind n k (inl none) least most same = omega arith
other_kind n k (inr far) least most same = omega arith

pub members-requires : goal.members-requires
members-requires c =
    let t = c.args.tasks.now in
    let long = column_long _ _ t.read.columns.transactions in
    let few = (few_records t.table).1 in
    (few, omega arith)

pub returns-in-Ok-Transaction : goal.returns-in-Ok-Transaction
returns-in-Ok-Transaction c =
    let t = c.args.tasks.now in
    let fields = c.args.fields.now in
    let kind : kind_of fields ≡ 1 = sym c.byte_at.ensures.0 ∙ sym (rw c.in-Ok-Transaction.field-0-is at c.in-Ok-Transaction.ensures) in
    let number : c.two_bytes-number.result ≡ number_of fields = c.two_bytes-number.ensures.0 in
    λ i l.
    marks_members t c.two_bytes-number.result c.members.result c.members.ensures i l
    ∙ rw number (concerns_transaction fields (get_or t.columns.ids i 0) (get_or t.columns.transactions i 0) kind)

pub returns-in-Ok-Task : goal.returns-in-Ok-Task
returns-in-Ok-Task c =
    let t = c.args.tasks.now in
    let fields = c.args.fields.now in
    let kind : kind_of fields ≡ 2 = sym c.byte_at.ensures.0 ∙ sym (rw c.in-Ok-Task.field-0-is at c.in-Ok-Task.ensures) in
    let number : c.two_bytes-number.result ≡ number_of fields = c.two_bytes-number.ensures.0 in
    λ i l.
    c.task_with.ensures i l ∙ rw number (concerns_task fields (get_or t.columns.ids i 0) (get_or t.columns.transactions i 0) kind)

pub returns-in-Ok-Pair : goal.returns-in-Ok-Pair
returns-in-Ok-Pair c =
    let t = c.args.tasks.now in
    let fields = c.args.fields.now in
    let kind : kind_of fields ≡ 3 = sym c.byte_at.ensures.0 ∙ sym (rw c.in-Ok-Pair.field-0-is at c.in-Ok-Pair.ensures) in
    let first : c.two_bytes-number.result ≡ number_of fields = c.two_bytes-number.ensures.0 in
    let second : c.two_bytes-second.result ≡ second_of fields = c.two_bytes-second.ensures.0 in
    λ i l.
    rw c.union.ensures
    (marks_either t (has_id t c.two_bytes-number.result) (has_id t c.two_bytes-second.result) c.task_with-in-Ok-Pair.result c.task_with-in-Ok-Pair-2.result c.task_with-in-Ok-Pair.ensures c.task_with-in-Ok-Pair-2.ensures i l
    ∙ rw (first, second) (concerns_pair fields (get_or t.columns.ids i 0) (get_or t.columns.transactions i 0) kind))

pub returns-in-Err : goal.returns-in-Err
returns-in-Err c =
    let t = c.args.tasks.now in
    let fields = c.args.fields.now in
    let other = c.in-Err.ensures.1 in
    let read : c.byte_at.result ≡ kind_of fields = c.byte_at.ensures.0 in
    let none = λ (k : ℕ) (least : 1 ≤ k) (most : k ≤ 3) (e : kind_of fields ≡ k). other_kind _ k other least most (read ∙ e) in
    marks_none t (concerns_at t fields)
    (λ i l. concerns-none fields (get_or t.columns.ids i 0) (get_or t.columns.transactions i 0) (none 1 (omega arith) (omega arith)) (none 2 (omega arith) (omega arith)) (none 3 (omega arith) (omega arith)))
