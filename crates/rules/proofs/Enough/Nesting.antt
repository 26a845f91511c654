-- Lemma 3: instances of which each starts within every one before it are of tasks that are a chain, by Lemma 2.
use Prim.Native.Nat.{ℕ, ◌<◌}
use mathlib.Core.List.{List, [], ◌∷◌}
use mathlib.Core.Bool.{true}
use mathlib.Core.Path.{◌≡◌}
use lib.Dec.{T}
use Rattle.rules.specs.Records.{task_count}
use Rattle.rules.specs.Preempt.{decided, cell}
use Rattle.rules.specs.Chains.{Under, Chain, related}
use Rattle.rules.specs.Execution.{Instance, ◌∈◌, UnfinishedAt, KeepsTo}
use Rattle.rules.proofs.Related.{relation_related}
use Rattle.rules.proofs.Reasons.{decided-yields}
use Rattle.rules.proofs.Table.Listed.{Listed}
use Rattle.rules.proofs.Enough.Instances.{Each}
use Rattle.rules.proofs.Enough.Pairwise.{lemma_2}
use Rattle.rules.proofs.Enough.Stacked.{places, Nested}

-- a map that has every cell which the table decides
abbrev pub HasDecided : List (List ℕ) → List ℕ → Type 0
HasDecided rs rows = (i j : ℕ) → i < task_count rs → j < task_count rs → decided rs i j ≡ true → cell rows i j ≡ true

-- a run that keeps to a table, and a map that has those cells
module _ (q : ℕ) (rs : List (List ℕ)) (named : Listed rs) (run : List Instance) (keeps : KeepsTo q rs run) (rows : List ℕ) (covers : HasDecided rs rows) where
  -- two instances
  nests : (v w : Instance) → v ∈ run → w ∈ run → UnfinishedAt v w → T (related rs rows v.place w.place)
  nests v w one other within =
      let may = lemma_2 q rs named run keeps v w one other within in
      relation_related rs rows v.place w.place
      (record {
        first = keeps.known v one;
        second = keeps.known w other;
        yielding = decided-yields rs v.place w.place may;
        set = covers v.place w.place (keeps.known v one) (keeps.known w other) may;
      })

  -- an instance, and those that start within it
  under : (v : Instance) (c : List Instance) → v ∈ run → Each (λ w. w ∈ run) c → Each (UnfinishedAt v) c
      → Under (task_count rs) (related rs rows) v.place (places c)
  under v [] one all within = tt
  under v (w ∷ c) one all within = (nests v w one all.0 within.0, under v c one all.1 within.1)

  -- Lemma 3: a preemption chain gives a possible preemption chain, which is a chain of the map
  pub lemma_3 : (c : List Instance) → Each (λ v. v ∈ run) c → Nested c → Chain (task_count rs) (related rs rows) (places c)
  lemma_3 [] all nested = tt
  lemma_3 (v ∷ c) all nested =
      (keeps.known v all.0, under v c all.0 all.1 nested.0, lemma_3 c all.1 nested.1)
