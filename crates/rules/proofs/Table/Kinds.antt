-- The records of one kind: how many they are, and where they stand in a list whose kinds are 1, 2, 3 and do not fall.
use Prim.Native.Nat.{ℕ, zero, suc, ◌+◌, ◌≤◌, ◌<◌}
use mathlib.Core.List.{List, [], ◌∷◌, ◌++◌}
use mathlib.Core.Bool.{cond, ◌&&◌}
use mathlib.Core.Path.{◌≡◌, refl, ap, sym, ◌∙◌}
use native.Mathlib.Nat.{add_assoc}
use native.Mathlib.Omega.{arith}
use borrow.Author.Tests.{eqb-true, eqb-false, eq-eqb, ne_eqb}
use lib.ListN.{length, get_or, length-append, get_or-append}
use lib.Seq.{ext_get_or, get_or-append-add}
use lib.Dec.{eqb}
use Rattle.rules.specs.Numbers.{up_to, sum_to, count_to}
use Rattle.rules.specs.Records.{kind_of, way_of, of_kind, count_of, transactions, tasks, pairs, task_count}
use Rattle.rules.proofs.Numbers.{either, length-up_to, get_or-up_to, sum_to_ext}

-- the records of one kind in two lists, one behind the other
pub of_kind-append : (k : ℕ) (rs ss : List (List ℕ)) → of_kind k (rs ++ ss) ≡ of_kind k rs ++ of_kind k ss
unfolding of_kind
of_kind-append k [] ss = refl
of_kind-append k (r ∷ rs) ss =
    either (eqb (kind_of r) k) (λ t. rw (t, of_kind-append k rs ss)) (λ t. rw (t, of_kind-append k rs ss))

-- how many of f 0, .., f (n - 1) are of one kind
pub length-of_kind-up_to : (k : ℕ) (f : ℕ → List ℕ) (n : ℕ)
    → length (of_kind k (up_to f n)) ≡ count_to (λ i. eqb (kind_of (f i)) k) n
unfolding of_kind up_to sum_to
length-of_kind-up_to k f zero = refl
length-of_kind-up_to k f (suc n) =
    rw (of_kind-append, length-append, length-of_kind-up_to k f n)
    (either (eqb (kind_of (f n)) k) (λ t. rw t) (λ t. rw t))

-- a list is made of its elements
pub up_to_elements {ℓ} : {A : Type ℓ} (d : A) (l : List A) → up_to (λ i. get_or l i d) (length l) ≡ l
up_to_elements d l =
    ext_get_or d (up_to (λ i. get_or l i d) (length l)) l (length-up_to (λ i. get_or l i d) (length l))
    (λ i h. get_or-up_to (λ i. get_or l i d) (length l) i d (rw (← length-up_to (λ i. get_or l i d) (length l)) h))

-- how many records of a list are of one kind
pub length-of_kind : (k : ℕ) (rs : List (List ℕ))
    → length (of_kind k rs) ≡ count_to (λ i. eqb (kind_of (get_or rs i [])) k) (length rs)
length-of_kind k rs =
    ap (λ (l : List (List ℕ)). length (of_kind k l)) (sym (up_to_elements [] rs))
    ∙ length-of_kind-up_to k (λ i. get_or rs i []) (length rs)

-- where byte 31 is 0 throughout, what refusal 7 counts of a kind is how many records of that kind there are
pub count-of_kind : (rs : List (List ℕ)) → ((k : ℕ) → way_of (get_or rs k []) ≡ 0) → (k : ℕ)
    → count_of k 0 rs ≡ length (of_kind k rs)
count-of_kind rs ways k =
    sum_to_ext (λ n. cond (eqb (kind_of (get_or rs n [])) k && eqb (way_of (get_or rs n [])) 0) 1 0)
    (λ n. cond (eqb (kind_of (get_or rs n [])) k) 1 0) (length rs)
    (λ n l.
    rw (eq-eqb (way_of (get_or rs n [])) 0 (ways n)) (either (eqb (kind_of (get_or rs n [])) k) (λ t. rw t) (λ t. rw t)))
    ∙ sym (length-of_kind k rs)

-- the records of one kind are of that kind
pub kind_of_kind : (k : ℕ) (rs : List (List ℕ)) (i : ℕ) → i < length (of_kind k rs) → kind_of (get_or (of_kind k rs) i []) ≡ k
unfolding of_kind
kind_of_kind k [] i h = absurd (omega arith)
kind_of_kind k (r ∷ rs) zero h =
    either (eqb (kind_of r) k)
    (λ t. rw t (eqb-true (kind_of r) k t))
    (λ t. rw t (kind_of_kind k rs zero (rw t at h)))
kind_of_kind k (r ∷ rs) (suc i) h =
    either (eqb (kind_of r) k)
    (λ t. rw t (kind_of_kind k rs i (omega (arith, rw t at h))))
    (λ t. rw t (kind_of_kind k rs (suc i) (rw t at h)))

-- what holds of each record of a list, also past its end, holds of each record of one kind
pub of_kind_all {ℓ} : (P : List ℕ → Type ℓ) (k : ℕ) (rs : List (List ℕ)) → ((i : ℕ) → P (get_or rs i [])) → (i : ℕ)
    → P (get_or (of_kind k rs) i [])
unfolding of_kind
of_kind_all P k [] h i = h i
of_kind_all P k (r ∷ rs) h zero =
    either (eqb (kind_of r) k) (λ t. rw t (h zero)) (λ t. rw t (of_kind_all P k rs (λ j. h (suc j)) zero))
of_kind_all P k (r ∷ rs) h (suc i) =
    either (eqb (kind_of r) k)
    (λ t. rw t (of_kind_all P k rs (λ j. h (suc j)) i))
    (λ t. rw t (of_kind_all P k rs (λ j. h (suc j)) (suc i)))

-- what holds of each record of a list holds of each record of one kind
pub of_kind_each {ℓ} : (P : List ℕ → Type ℓ) (k : ℕ) (rs : List (List ℕ)) → ((i : ℕ) → i < length rs → P (get_or rs i []))
    → (i : ℕ) → i < length (of_kind k rs) → P (get_or (of_kind k rs) i [])
unfolding of_kind
of_kind_each P k [] h i l = absurd (omega arith)
of_kind_each P k (r ∷ rs) h zero l =
    either (eqb (kind_of r) k)
    (λ t. rw t (h zero (omega arith)))
    (λ t. rw t (of_kind_each P k rs (λ j m. h (suc j) (omega arith)) zero (rw t at l)))
of_kind_each P k (r ∷ rs) h (suc i) l =
    either (eqb (kind_of r) k)
    (λ t. rw t (of_kind_each P k rs (λ j m. h (suc j) (omega arith)) i (omega (arith, rw t at l))))
    (λ t. rw t (of_kind_each P k rs (λ j m. h (suc j) (omega arith)) (suc i) (rw t at l)))

-- where no record is of a kind, the list of those of that kind is empty
pub of_kind-none : (k : ℕ) (rs : List (List ℕ)) → ((i : ℕ) → i < length rs → kind_of (get_or rs i []) ≡ k → ⊥)
    → of_kind k rs ≡ []
unfolding of_kind
of_kind-none k [] h = refl
of_kind-none k (r ∷ rs) h =
    rw (ne_eqb (kind_of r) k (h zero (omega arith)), of_kind-none k rs (λ i l. h (suc i) (omega arith)))

-- each record is a transaction, a task or a pair
abbrev pub Known : List (List ℕ) → Type 0
Known rs = (i : ℕ) → i < length rs → (1 ≤ kind_of (get_or rs i [])) × (kind_of (get_or rs i []) ≤ 3)

-- no record is of a lower kind than one before it
abbrev pub Grouped : List (List ℕ) → Type 0
Grouped rs = (i j : ℕ) → i < j → j < length rs → kind_of (get_or rs i []) ≤ kind_of (get_or rs j [])

-- the transactions come first, then the tasks, then the pairs, and there is nothing else
abbrev pub Split : List (List ℕ) → Type 0
Split rs = rs ≡ transactions rs ++ (tasks rs ++ pairs rs)

-- a record of a kind stands in front of the others of that kind
of_kind-same : (k : ℕ) (r : List ℕ) (rs : List (List ℕ)) → kind_of r ≡ k → of_kind k (r ∷ rs) ≡ r ∷ of_kind k rs
unfolding of_kind
of_kind-same k r rs e = rw (eq-eqb (kind_of r) k e)

-- a record of another kind is left out
of_kind_other : (k : ℕ) (r : List ℕ) (rs : List (List ℕ)) → (kind_of r ≡ k → ⊥) → of_kind k (r ∷ rs) ≡ of_kind k rs
unfolding of_kind
of_kind_other k r rs other = rw (ne_eqb (kind_of r) k other)

-- where each kind is 1, 2 or 3, a list has as many records as there are of the three kinds
pub length_kinds : (rs : List (List ℕ)) → Known rs → length rs ≡ length (transactions rs) + task_count rs + length (pairs rs)
unfolding of_kind
length_kinds [] known = refl
length_kinds (r ∷ rs) known =
    let rest = length_kinds rs (λ i l. known (suc i) (omega arith)) in
    let (least, most) = known zero (omega arith) in
    either (eqb (kind_of r) 1)
    (λ t.
    let e = eqb-true (kind_of r) 1 t in
    rw (of_kind-same 1 r rs e, of_kind_other 2 r rs (λ o. omega arith), of_kind_other 3 r rs (λ o. omega arith)) (omega arith))
    (λ t.
    let more = eqb-false (kind_of r) 1 t in
    either (eqb (kind_of r) 2)
    (λ u.
    let e = eqb-true (kind_of r) 2 u in
    rw (of_kind_other 1 r rs more, of_kind-same 2 r rs e, of_kind_other 3 r rs (λ o. omega arith)) (omega arith))
    (λ u.
    let pair = eqb-false (kind_of r) 2 u in
    rw (of_kind_other 1 r rs more, of_kind_other 2 r rs pair, of_kind-same 3 r rs (omega arith)) (omega arith)))

-- one more record in front of a list that is split
module _ (r : List ℕ) (rs : List (List ℕ)) (rest : Split rs) where
  -- a transaction goes before all
  split_transaction : kind_of r ≡ 1 → Split (r ∷ rs)
  split_transaction e =
      rw (of_kind-same 1 r rs e, of_kind_other 2 r rs (λ o. omega arith), of_kind_other 3 r rs (λ o. omega arith))
      (ap (λ (l : List (List ℕ)). r ∷ l) rest)

  -- a task goes before tasks and pairs
  split_task : kind_of r ≡ 2 → transactions rs ≡ [] → Split (r ∷ rs)
  split_task e none =
      rw (of_kind_other 1 r rs (λ o. omega arith), of_kind-same 2 r rs e, of_kind_other 3 r rs (λ o. omega arith), none)
      (ap (λ (l : List (List ℕ)). r ∷ l) (rw none at rest))

  -- a pair goes before pairs
  split_pair : kind_of r ≡ 3 → transactions rs ≡ [] → tasks rs ≡ [] → Split (r ∷ rs)
  split_pair e none none' =
      rw (of_kind_other 1 r rs (λ o. omega arith), of_kind_other 2 r rs (λ o. omega arith), of_kind-same 3 r rs e, none, none')
      (ap (λ (l : List (List ℕ)). r ∷ l) (rw (none, none') at rest))

  -- a record of a known kind goes before records of no lower kind
  split_more : 1 ≤ kind_of r → kind_of r ≤ 3 → ((i : ℕ) → i < length rs → kind_of r ≤ kind_of (get_or rs i [])) → Split (r ∷ rs)
  split_more least most after =
      let none_below : (k : ℕ) → k < kind_of r → of_kind k rs ≡ [] = λ k b. of_kind-none k rs (λ i l e. omega (arith, after i l)) in
      either (eqb (kind_of r) 1)
      (λ t. split_transaction (eqb-true (kind_of r) 1 t))
      (λ t.
      let more = eqb-false (kind_of r) 1 t in
      either (eqb (kind_of r) 2)
      (λ u. split_task (eqb-true (kind_of r) 2 u) (none_below 1 (omega arith)))
      (λ u.
      let pair = eqb-false (kind_of r) 2 u in
      split_pair (omega arith) (none_below 1 (omega arith)) (none_below 2 (omega arith))))

-- where the kinds are 1, 2, 3 and do not fall, the list is its transactions, tasks and pairs
pub split_of : (rs : List (List ℕ)) → Known rs → Grouped rs → Split rs
unfolding of_kind
split_of [] known grouped = refl
split_of (r ∷ rs) known grouped =
    split_more r rs
    (split_of rs (λ i l. known (suc i) (omega arith)) (λ i j b l. grouped (suc i) (suc j) (omega arith) (omega arith)))
    (known zero (omega arith)).0
    (known zero (omega arith)).1
    (λ i l. grouped zero (suc i) (omega arith) (omega arith))

-- how long such a list is, and where the records of each kind stand in it
module _ (rs : List (List ℕ)) (split : Split rs) where
  -- it has as many records as there are of the three kinds
  pub length_split : length rs ≡ length (transactions rs) + task_count rs + length (pairs rs)
  length_split = omega (arith, simp length-append at (ap length split))

  -- the transactions stand at its front
  pub transaction_at : (i : ℕ) → i < length (transactions rs) → get_or rs i [] ≡ get_or (transactions rs) i []
  transaction_at i h =
      ap (λ (l : List (List ℕ)). get_or l i []) split ∙ get_or-append (transactions rs) (tasks rs ++ pairs rs) [] i h

  -- the tasks stand behind the transactions
  pub task_at_lem : (i : ℕ) → i < task_count rs → get_or rs (length (transactions rs) + i) [] ≡ get_or (tasks rs) i []
  task_at_lem i h =
      ap (λ (l : List (List ℕ)). get_or l (length (transactions rs) + i) []) split
      ∙ get_or-append-add (transactions rs) (tasks rs ++ pairs rs) i []
      ∙ get_or-append (tasks rs) (pairs rs) [] i h

  -- the pairs stand behind the tasks
  pub pair_at : (i : ℕ) → i < length (pairs rs)
      → get_or rs (length (transactions rs) + task_count rs + i) [] ≡ get_or (pairs rs) i []
  pair_at i h =
      ap (λ (l : List (List ℕ)). get_or l (length (transactions rs) + task_count rs + i) []) split
      ∙ rw add_assoc (get_or-append-add (transactions rs) (tasks rs ++ pairs rs) (task_count rs + i) [])
      ∙ get_or-append-add (tasks rs) (pairs rs) i []

  -- so the records at the tasks' places are of kind 2
  pub task_kind : (i : ℕ) → i < task_count rs → kind_of (get_or rs (length (transactions rs) + i) []) ≡ 2
  task_kind i h = rw (task_at_lem i h) (kind_of_kind 2 rs i h)
