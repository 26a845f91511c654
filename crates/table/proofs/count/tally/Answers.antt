use mathlib.Core.Bool.{cond}
use Prim.Native.Nat.{ℕ, ◌+◌, ◌<◌}
use mathlib.Core.Path.{◌≡◌, refl, sym, ap, ◌∙◌}
use mathlib.Core.List.{List, []}
use mathlib.Core.Bool.{Bool}
use lib.Dec.{eqb}
use lib.ListN.{length, get_or, set, length-set, get_or-replicate}
use lib.Seq.{get_or-set_same, get_or-set_other}
use borrow.Author.Tests.{eq-eqb, ne_eqb, eqb-true, eqb-false}
use Rattle.rules.specs.Blocks.{records, record_at, record_count}
use Rattle.rules.proofs.Numbers.{either, get_or-up_to, length-up_to, sum_to_zero, count_to_passes, count_to_fails, count_to_le}
use Rattle.table.specs.Tally.{slot_of, slotted}
use native.Mathlib.Omega.{arith}
use Rattle.table.proofs.count.tally.Goals as goal

one_more : (rs : List (List ℕ)) (counts : List ℕ) (k at : ℕ) → at < 8 → slot_of (get_or rs k []) ≡ at → length counts ≡ 8
    → ((i : ℕ) → i < 8 → get_or counts i 0 ≡ slotted rs i k)
    → (i : ℕ) → i < 8 → get_or (set counts at (get_or counts at 0 + 1)) i 0 ≡ slotted rs i (k + 1)
one_more rs counts k at inside here size right i h =
    let test : ℕ → Bool = λ n. eqb (slot_of (get_or rs n [])) i in
    either (eqb i at)
    (λ t.
    let same = eqb-true i at t in
    rw same
    (get_or-set_same counts at _ 0 (omega arith)
    ∙ ap (λ (n : ℕ). n + 1) (right at inside)
    ∙ sym (count_to_passes (λ n. eqb (slot_of (get_or rs n [])) at) k (eq-eqb _ _ here))))
    (λ t.
    let other = eqb-false i at t in
    get_or-set_other counts at i _ 0 other ∙ right i h ∙ sym (count_to_fails test k (ne_eqb _ _ (λ e. other (sym e ∙ here)))))

pub loop-k-init : goal.loop-k-init
loop-k-init c = (refl, λ i h. get_or-replicate {A = ℕ} 8 i 0 0 h ∙ sym (sum_to_zero (λ k. cond (eqb (slot_of (get_or (records c.args.image.now) k [])) i) 1 0)))

pub overflow_add-counts : goal.overflow_add-counts
overflow_add-counts c =
    let rs = records c.args.image.now in
    let at = c.slot.result in
    omega (arith, c.loop-k.invariant.1 at c.slot.ensures.1, count_to_le (λ k. eqb (slot_of (get_or rs k [])) at) c.loop-k.k)

pub loop-k-preserved : goal.loop-k-preserved
loop-k-preserved c =
    let image = c.args.image.now in
    let k = c.loop-k.k in
    let inside : k < record_count image = omega (arith, c.record_count-k-end.ensures) in
    let here : slot_of (get_or (records image) k []) ≡ c.slot.result = ap slot_of (get_or-up_to (record_at image) (record_count image) k [] inside ∙ sym c.record_at.ensures) ∙ sym c.slot.ensures.0 in
    (length-set c.loop-k.counts c.slot.result _ ∙ c.loop-k.invariant.0, one_more (records image) c.loop-k.counts k c.slot.result c.slot.ensures.1 here c.loop-k.invariant.0 c.loop-k.invariant.1)

pub returns : goal.returns
returns c =
    let image = c.args.image.now in
    let end : c.loop-k.k ≡ length (records image) = omega (arith, c.record_count-k-end.ensures, length-up_to (record_at image) (record_count image)) in
    record { size = c.loop-k.invariant.0; right = λ i h. c.loop-k.invariant.1 i h ∙ ap (slotted (records image) i) end }
