-- The tally of one pass holds the counts of each kind and way.
use Prim.Native.Nat.{ℕ, zero, suc, ◌+◌, ◌*◌, ◌-◌, ◌≤◌, ◌<◌, min}
use mathlib.Core.List.{List, []}
use mathlib.Core.Bool.{Bool, true, false, cond, ◌&&◌, ◌||◌}
use mathlib.Core.Path.{◌≡◌, sym, ap, ◌∙◌}
use native.Mathlib.Omega.{arith}
use borrow.Author.Tests.{leb-true, leb-false, ltb-true, ltb-false, eqb-true, eqb-false, eq-eqb, ne_eqb}
use lib.ListN.{length, get_or}
use lib.Seq.{ext_get_or}
use lib.Dec.{leb, ltb, eqb}
use Rattle.rules.specs.declared.Form.{Form}
use Rattle.rules.specs.declared.Form.TheVariants.{Table, Patch}
use Rattle.rules.specs.Numbers.{Bytes, sum_to, count_to}
use Rattle.rules.specs.Blocks.{records, record_count}
use Rattle.rules.specs.Refusals.{accepted, frame_verdict, records_verdict, table_verdict, patch_verdict}
use Rattle.rules.proofs.Refusals.{accepted_parts}
use Rattle.rules.proofs.Table.Kinds.{Grouped, length-of_kind}
use Rattle.rules.proofs.Table.Order.{kind_rises}
use Rattle.rules.proofs.Table.Shape.{shape_of, records_bytes}
use Rattle.rules.proofs.Blocks.{most_blocks_most}
use Rattle.rules.proofs.Image.Frame.{frame_accepted, frame_of, records_fit}
use Rattle.rules.specs.Records.{kind_of, way_of, of_kind, count_of, most_of, too_many}
use Rattle.rules.proofs.Numbers.{either, sum_to_ext}
use Rattle.image.specs.Held.{HoldsRecords}
use Rattle.table.specs.Tally.{slot_of, Tallied, KindStart}

-- two tallies of the same records are equal
pub tally_determined : (rs : List (List ℕ)) (counts others : List ℕ) → Tallied rs counts → Tallied rs others → counts ≡ others
tally_determined rs counts others p q =
    ext_get_or 0 counts others
    (p.size ∙ sym q.size)
    (λ i h. p.right i (omega (arith, p.size)) ∙ sym (q.right i (omega (arith, p.size))))

-- a record is counted at k + 4 * w exactly when it is of kind k and way w
slot_is : (r : List ℕ) (k w : ℕ) → 1 ≤ k → k ≤ 3 → w ≤ 1 → eqb (slot_of r) (k + 4 * w) ≡ (eqb (kind_of r) k && eqb (way_of r) w)
slot_is r k w some few way =
    either (leb (kind_of r) 3)
    (λ t.
    either (leb (way_of r) 1)
    (λ u. rw (t, u) (both_are (leb-true (kind_of r) 3 t) (leb-true (way_of r) 1 u)))
    (λ u.
    let other = leb-false (way_of r) 1 u in
    rw (t, u, ne_eqb 0 (k + 4 * w) (λ e. omega arith), ne_eqb (way_of r) w (λ e. omega arith)) (sym (second_fails (eqb (kind_of r) k)))))
    (λ t.
    let other = leb-false (kind_of r) 3 t in
    rw (t, ne_eqb 0 (k + 4 * w) (λ e. omega arith), ne_eqb (kind_of r) k (λ e. omega arith)))
  where
    second_fails : (b : Bool) → (b && false) ≡ false
    second_fails true = λ i. false
    second_fails false = λ i. false

    both_are : kind_of r ≤ 3 → way_of r ≤ 1 → eqb (kind_of r + 4 * way_of r) (k + 4 * w) ≡ (eqb (kind_of r) k && eqb (way_of r) w)
    both_are kind way' =
        either (eqb (kind_of r) k)
        (λ t.
        let same = eqb-true (kind_of r) k t in
        either (eqb (way_of r) w)
        (λ u. rw (t, u, eq-eqb (kind_of r + 4 * way_of r) (k + 4 * w) (omega (arith, eqb-true (way_of r) w u))))
        (λ u. rw (t, u, ne_eqb (kind_of r + 4 * way_of r) (k + 4 * w) (λ e. eqb-false (way_of r) w u (omega arith)))))
        (λ t. rw (t, ne_eqb (kind_of r + 4 * way_of r) (k + 4 * w) (λ e. eqb-false (kind_of r) k t (omega arith))))

-- so the tally there is the count of that kind and way
pub tally_is : (rs : List (List ℕ)) (counts : List ℕ) → Tallied rs counts → (k w : ℕ) → 1 ≤ k → k ≤ 3 → w ≤ 1
    → get_or counts (k + 4 * w) 0 ≡ count_of k w rs
tally_is rs counts tallied k w some few way =
    tallied.right (k + 4 * w) (omega arith)
    ∙ sum_to_ext (λ n. cond (eqb (slot_of (get_or rs n [])) (k + 4 * w)) 1 0)
    (λ n. cond (eqb (kind_of (get_or rs n [])) k && eqb (way_of (get_or rs n [])) w) 1 0)
    (length rs)
    (λ n h. ap (λ (b : Bool). cond b 1 0) (slot_is (get_or rs n []) k w some few way))

-- and too many there is too many of that kind
pub too_many_is : (rs : List (List ℕ)) (counts : List ℕ) → Tallied rs counts → (k : ℕ) → 1 ≤ k → k ≤ 3
    → (ltb (most_of k) (get_or counts k 0) || ltb (most_of k) (get_or counts (k + 4) 0)) ≡ too_many rs k
unfolding too_many
too_many_is rs counts tallied k some few =
    let out : k + 4 * 0 ≡ k = omega arith in
    let put : k + 4 * 1 ≡ k + 4 = omega arith in
    let taken : get_or counts k 0 ≡ count_of k 0 rs = ap (λ (n : ℕ). get_or counts n 0) (sym out) ∙ tally_is rs counts tallied k 0 some few (omega arith) in
    let placed : get_or counts (k + 4) 0 ≡ count_of k 1 rs = ap (λ (n : ℕ). get_or counts n 0) (sym put) ∙ tally_is rs counts tallied k 1 some few (omega arith) in
    rw (taken, placed)

-- an image with a right frame has few records
pub records_few : (form : Form) (image : List ℕ) → accepted (frame_verdict form image) ≡ true → record_count image ≤ 1000
records_few form image a =
    let f = frame_of form image a in
    omega (arith, records_fit form image f, f.not_too_many, most_blocks_most form)

-- and holds them
pub records_held : (form : Form) (image : List ℕ) → accepted (frame_verdict form image) ≡ true → HoldsRecords image
records_held form image a = records_fit form image (frame_of form image a)

-- so does an accepted table
pub table_held : (image : List ℕ) → accepted (table_verdict image) ≡ true → HoldsRecords image
table_held image table = records_held Table image (frame_accepted Table image table)

-- and an accepted patch
pub patch_held : (image : List ℕ) → accepted (patch_verdict image) ≡ true → HoldsRecords image
patch_held image patch = records_held Patch image (frame_accepted Patch image patch)

-- the records of an accepted table are accepted
pub records-accepted : (image : List ℕ) → accepted (table_verdict image) ≡ true → accepted (records_verdict Table (records image)) ≡ true
records-accepted image table = (accepted_parts image table).0

-- which is what counting its records of a kind asks for
pub count_asked : (image : List ℕ) → accepted (table_verdict image) ≡ true → (kind : ℕ) → kind ≤ 3
    → ((accepted (records_verdict Table (records image)) ≡ true) × (kind ≤ 3)) × HoldsRecords image
count_asked image table kind few = ((records-accepted image table, few), table_held image table)

-- the kinds of accepted records do not fall
pub kinds_grouped : (image : List ℕ) → Bytes image → accepted (records_verdict Table (records image)) ≡ true → Grouped (records image)
kinds_grouped image bytes right i j b l =
    kind_rises (get_or (records image) i []) (get_or (records image) j []) (records_bytes image bytes j) ((shape_of image bytes right).keys_rise i j b l)

-- as many numbers pass as lie between two
count-between : (test : ℕ → Bool) (a b n : ℕ) → a ≤ b → ((i : ℕ) → i < a → test i ≡ false) → ((i : ℕ) → a ≤ i → i < b → i < n → test i ≡ true) → ((i : ℕ) → b ≤ i → i < n → test i ≡ false)
    → count_to test n ≡ min n b - min n a
unfolding sum_to
count-between test a b zero h below within above = omega arith
count-between test a b (suc n) h below within above =
    let before = count-between test a b n h below (λ i p q l. within i p q (omega arith)) (λ i p l. above i p (omega arith)) in
    either (ltb n a)
    (λ t.
    let low = ltb-true n a t in
    rw (below n low) (omega arith))
    (λ t.
    let from = ltb-false n a t in
    either (ltb n b)
    (λ u.
    let inside = ltb-true n b u in
    rw (within n from inside (omega arith)) (omega arith))
    (λ u.
    let past = ltb-false n b u in
    rw (above n past (omega arith)) (omega arith)))

-- so the records of a kind are those from its start to the next kind's
pub kind_counted : (rs : List (List ℕ)) (kind start next : ℕ) → Grouped rs → KindStart rs kind start → KindStart rs (kind + 1) next
    → (start ≤ next) × (length (of_kind kind rs) ≡ next - start)
kind_counted rs kind start next grouped s n =
    let least : (k a : ℕ) → KindStart rs k a → (i : ℕ) → a ≤ i → i < length rs → k ≤ kind_of (get_or rs i []) = λ k a from i h l. either (ltb a i) (λ t. omega (arith, from.there (omega arith), grouped a i (ltb-true a i t) l)) (λ t. let same : i ≡ a = omega (arith, ltb-false a i t) in rw same (from.there (omega arith))) in
    let order : start ≤ next = either (ltb next start) (λ t. absurd (omega (arith, s.before next (ltb-true next start t), n.there (omega (arith, ltb-true next start t, s.inside))))) (λ t. ltb-false next start t) in
    let count = count-between (λ i. eqb (kind_of (get_or rs i [])) kind) start next (length rs) order (λ i h. ne_eqb (kind_of (get_or rs i [])) kind (λ e. omega (arith, s.before i h))) (λ i h l m. eq-eqb (kind_of (get_or rs i [])) kind (omega (arith, n.before i l, least kind start s i h m))) (λ i h m. ne_eqb (kind_of (get_or rs i [])) kind (λ e. omega (arith, least (kind + 1) next n i h m))) in
    (order, length-of_kind kind rs ∙ count ∙ omega (arith, s.inside, n.inside))
