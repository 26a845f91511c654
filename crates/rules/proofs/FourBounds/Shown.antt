-- What an accepted bound call shows: the ids of its chain are those of listed tasks.
use Prim.Native.Nat.{ℕ, zero, suc, ◌≤◌, ◌<◌}
use mathlib.Core.List.{List, [], ◌∷◌, map}
use mathlib.Core.Bool.{Bool, true, ◌||◌}
use mathlib.Core.Path.{◌≡◌, refl, ap, sym, ◌∙◌}
use native.Mathlib.Omega.{arith}
use borrow.Author.Tests.{eq-eqb}
use lib.Dec.{ltb}
use lib.ListN.{length, get_or, drop, length-map, length-append, get_or-append}
use Rattle.rules.specs.declared.Bounds.{Bounds}
use Rattle.rules.specs.Blocks.{records}
use Rattle.rules.specs.Records.{tasks, task_count, listed}
use Rattle.rules.specs.Chains.{Chain, related, id_at, chain_ids}
use Rattle.rules.specs.Refusals.{accepted, table_verdict, short_refusal}
use Rattle.rules.specs.Calls.{bound_verdict, BoundCall, BoundsWorkedOut}
use Rattle.rules.proofs.Numbers.{either, never}
use Rattle.rules.proofs.Refusals.{accepted_first}
use Rattle.rules.proofs.Table.Listed.{listed_here}

-- the places of a chain hold tasks
pub chain_below : (n : ℕ) (R : ℕ → ℕ → Bool) (c : List ℕ) → Chain n R c → (k : ℕ) → k < length c → get_or c k 0 < n
chain_below n R [] chain k h = absurd (omega arith)
chain_below n R (i ∷ c) chain zero h = chain.0
chain_below n R (i ∷ c) chain (suc k) h = chain_below n R c chain.2 k (omega arith)

-- what a list is mapped to, at a place of it
pub mapped_at : (f : ℕ → ℕ) (l : List ℕ) (k : ℕ) → k < length l → get_or (map f l) k 0 ≡ f (get_or l k 0)
mapped_at f [] k h = absurd (omega arith)
mapped_at f (i ∷ l) zero h = refl
mapped_at f (i ∷ l) (suc k) h = mapped_at f l k (omega arith)

-- a bound call whose answer is no refusal
module _ (image rows ids : List ℕ) (answer : Bounds) (later : List ℕ) (call : BoundCall image rows ids answer later) (fine : answer.number ≡ 0) where
  pub verdict_accepted : accepted (bound_verdict image rows ids) ≡ true
  verdict_accepted =
      either (accepted (bound_verdict image rows ids))
      (λ t. t)
      (λ t. never (accepted (bound_verdict image rows ids)) (eq-eqb _ 0 (ap (λ (b : Bounds). b.number) (sym (call.refused t).0) ∙ fine)) t)

  -- its table is accepted
  pub shown_accepted : accepted (table_verdict image) ≡ true
  unfolding bound_verdict
  shown_accepted = accepted_first (table_verdict image) (short_refusal (ltb (length rows) 64 || ltb (length ids) 64)) verdict_accepted

  -- and its bounds are worked out
  pub worked : BoundsWorkedOut (records image) rows ids answer later
  worked = call.worked verdict_accepted

  -- the chain is written whole
  pub shown_length : length (chain_ids (records image) worked.figures) ≡ answer.length
  shown_length = length-map worked.figures.chain (id_at (records image)) ∙ sym (ap (λ (b : Bounds). b.length) worked.found.0)

  pub shown_fits : answer.length ≤ length later
  shown_fits =
      let written = chain_ids (records image) worked.figures in
      omega (arith, shown_length, ap length worked.found.1, length-append written (drop (length written) ids))

  -- and each of its ids is listed
  pub shown_listed : (k : ℕ) → k < answer.length → listed (tasks (records image)) (get_or later k 0) ≡ true
  shown_listed k h =
      let chain = worked.figures.chain in
      let written = chain_ids (records image) worked.figures in
      let inside : k < length chain = omega (arith, shown_length, length-map chain (id_at (records image))) in
      let id : get_or later k 0 ≡ id_at (records image) (get_or chain k 0) = ap (λ (l : List ℕ). get_or l k 0) worked.found.1 ∙ get_or-append written (drop (length written) ids) 0 k (omega (arith, shown_length)) ∙ mapped_at (id_at (records image)) chain k inside in
      rw id
      (listed_here (tasks (records image)) (get_or chain k 0) (chain_below (task_count (records image)) (related (records image) rows) chain worked.right.chain.among k inside))
