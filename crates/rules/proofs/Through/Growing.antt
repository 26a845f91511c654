-- How far a task may grow: ranks rise along a chain, so that a task stands in it once, and what the task grows by every
-- chain that contains it grows by.
use Prim.Native.Nat.{ℕ, suc, ◌+◌, ◌-◌, ◌≤◌, ◌<◌}
use mathlib.Core.List.{List, [], ◌∷◌}
use mathlib.Core.Bool.{Bool, true}
use mathlib.Core.Path.{◌≡◌, refl, sym, ap, subst}
use mathlib.Core.Logic.{⊎_elim}
use native.Mathlib.Omega.{arith}
use borrow.Author.Tests.{eq-eqb, ne_eqb, ltb-true, ltb-false}
use lib.Dec.{T, ltb}
use lib.IntN.{pos, negsuc, nat_abs, sub_ℕ, pos-ne-negsuc}
use Rattle.rules.specs.Blocks.{records}
use Rattle.rules.specs.Records.{task_count}
use Rattle.rules.specs.Chains.{weight, grown, Under, Through, Largest, related, size_at, priority_at}
use Rattle.rules.specs.Refusals.{accepted, table_verdict}
use Rattle.rules.proofs.Numbers.{either}
use Rattle.rules.proofs.Related.{related_rises}
use Rattle.rules.proofs.FourBounds.Accepted.{accepted_climbing}
use Rattle.rules.proofs.Through.Near.{all_has, under_passes}

-- a difference that is not negative is what is left
left_over : (whole part rest : ℕ) → sub_ℕ whole part ≡ pos rest → whole ≡ part + rest
left_over whole part rest e =
    either (ltb whole part)
    (λ t. absurd (pos-ne-negsuc rest (part - suc whole) (sym (rw t at e))))
    (λ t.
    let difference : whole - part ≡ rest = ap nat_abs (rw t at e) in
    omega (arith, ltb-false whole part t))

-- and one that is negative is what is missing
pub missing : (whole part short : ℕ) → sub_ℕ whole part ≡ negsuc short → part ≡ whole + short + 1
missing whole part short e =
    either (ltb whole part)
    (λ t.
    let difference : suc (part - suc whole) ≡ suc short = ap nat_abs (rw t at e) in
    omega (arith, ltb-true whole part t))
    (λ t. absurd (pos-ne-negsuc (whole - part) short (rw t at e)))

-- the size of the task that has grown, and that of another one
grown_here : (S : ℕ → ℕ) (i more j : ℕ) → j ≡ i → grown S i more j ≡ S j + more
grown_here S i more j e = rw (eq-eqb j i e)

grown_other : (S : ℕ → ℕ) (i more j : ℕ) → (j ≡ i → ⊥) → grown S i more j ≡ S j
grown_other S i more j differ = rw (ne_eqb j i differ)

-- a rank rises along the relation
module _ (n : ℕ) (R : ℕ → ℕ → Bool) (S P : ℕ → ℕ) (rises : (i j : ℕ) → T (R i j) → P i < P j) where
  -- no task may be preempted by itself
  apart : (i j : ℕ) → T (R i j) → i ≡ j → ⊥
  apart i j may e = omega (arith, rises i j may, ap P e)

  -- what may preempt the task weighs what it did
  weight-over : (i more : ℕ) (c : List ℕ) → Under n R i c → weight (grown S i more) c ≡ weight S c
  weight-over i more [] under = refl
  weight-over i more (j ∷ c) under =
      omega (arith, grown_other S i more j (λ e. apart i j under.0 (sym e)), weight-over i more c under.1)

  -- where a task has grown, a chain that contains it weighs so much more
  weight-grown : (i more : ℕ) (c : List ℕ) → Through n R i c → weight (grown S i more) c ≡ weight S c + more
  weight-grown i more [] through = absurd through.1
  weight-grown i more (j ∷ c) (chain, has) =
      ⊎_elim
      (λ e.
      omega (arith, grown_here S i more j e, weight-over i more c (subst (λ (k : ℕ). Under n R k c) e chain.1)))
      (λ later.
      let may : T (R j i) = all_has (R j) i c (under_passes n R j c chain.1) later in
      omega (arith, grown_other S i more j (apart j i may), weight-grown i more c (chain.2, later)))
      has

  -- where the reserve less the heaviest chain that contains a task is not negative, the task may grow by exactly that: every
  -- chain that contains it stays within the reserve, and with one byte more one of them does not
  grows_exactly : (i reserve r figure : ℕ) → Largest (Through n R i) (weight S) r → sub_ℕ reserve r ≡ pos figure
      → ((c : List ℕ) → Through n R i c → weight (grown S i figure) c ≤ reserve) × ((c : List ℕ) × Through n R i c × (reserve < weight (grown S i (figure + 1)) c))
  grows_exactly i reserve r figure largest e =
      let room : reserve ≡ r + figure = left_over reserve r figure e in
      let (heaviest, through, heavy) = largest.reached in (
        λ c contains. omega (arith, room, weight-grown i figure c contains, largest.most c contains),
        (heaviest, through, omega (arith, room, weight-grown i (figure + 1) heaviest through, heavy)),
      )

  -- and where it is negative, a chain that contains the task is above the reserve by so much already
  negative_above : (i reserve r k : ℕ) → Largest (Through n R i) (weight S) r → sub_ℕ reserve r ≡ negsuc k
      → (c : List ℕ) × Through n R i c × (weight S c ≡ reserve + k + 1)
  negative_above i reserve r k largest e =
      let short : r ≡ reserve + k + 1 = missing reserve r k e in
      let (heaviest, through, heavy) = largest.reached in
      (heaviest, through, omega (arith, short, heavy))

-- in an accepted table, with any map, a task may grow by exactly the reserve less the heaviest chain that contains it, where
-- that is not negative
pub room_exact : (image rows : List ℕ) → accepted (table_verdict image) ≡ true
    → (i reserve r figure : ℕ) → Largest (Through (task_count (records image)) (related (records image) rows) i) (weight (size_at (records image))) r
    → sub_ℕ reserve r ≡ pos figure
    → ((c : List ℕ) → Through (task_count (records image)) (related (records image) rows) i c → weight (grown (size_at (records image)) i figure) c ≤ reserve) × ((c : List ℕ) × Through (task_count (records image)) (related (records image) rows) i c × (reserve < weight (grown (size_at (records image)) i (figure + 1)) c))
room_exact image rows table =
    grows_exactly (task_count (records image)) (related (records image) rows) (size_at (records image)) (priority_at (records image))
    (related_rises (records image) (accepted_climbing image table) rows)

-- and where it is negative, a chain that contains the task is above the reserve by so much already
pub room_short : (image rows : List ℕ) → accepted (table_verdict image) ≡ true
    → (i reserve r k : ℕ) → Largest (Through (task_count (records image)) (related (records image) rows) i) (weight (size_at (records image))) r
    → sub_ℕ reserve r ≡ negsuc k
    → (c : List ℕ) × Through (task_count (records image)) (related (records image) rows) i c × (weight (size_at (records image)) c ≡ reserve + k + 1)
room_short image rows table =
    negative_above (task_count (records image)) (related (records image) rows) (size_at (records image)) (priority_at (records image))
    (related_rises (records image) (accepted_climbing image table) rows)
