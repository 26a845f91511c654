-- The instances on the stack at a moment, in the order of their starts: each started within every one before it, because
-- that one had not finished.
use Prim.Native.Nat.{ℕ, ◌+◌, ◌≤◌, ◌<◌}
use mathlib.Core.List.{List, [], ◌∷◌}
use mathlib.Core.Bool.{true, cond}
use mathlib.Core.Path.{◌≡◌, refl, ◌∙◌}
use native.Mathlib.Omega.{arith}
use borrow.Author.Tests.{ltb-true, ltb-false, leb-true}
use lib.Dec.{leb, ltb}
use Rattle.rules.specs.Chains.{weight, size_at}
use Rattle.rules.specs.Execution.{Instance, ◌∈◌, UnfinishedAt, OneByOne, active, on_stack}
use Rattle.rules.proofs.Numbers.{either}
use Rattle.rules.proofs.Tests.{both_first, both_second}
use Rattle.rules.proofs.Enough.Instances.{Each, each_then, each_with, each_one}

-- an instance put before the first that starts later
unfoldable pub inserted : Instance → List Instance → List Instance
inserted v [] = v ∷ []
inserted v (w ∷ c) = cond (ltb v.started w.started) (v ∷ w ∷ c) (w ∷ inserted v c)

-- the instances that have started and not finished at moment m, in the order of their starts
unfoldable pub stacked : ℕ → List Instance → List Instance
stacked m [] = []
stacked m (v ∷ run) = cond (active m v) (inserted v (stacked m run)) (stacked m run)

-- the places of their tasks
abbrev pub places : List Instance → List ℕ
places [] = []
places (v ∷ c) = v.place ∷ places c

-- a preemption chain as Lemma 1 has it: each starts within every one before it
abbrev pub Nested : List Instance → Type 0
Nested [] = Unit {0}
Nested (v ∷ c) = Each (UnfinishedAt v) c × Nested c

-- what each has keeps where one more is put in, and where those at a moment are taken
inserted_each : (P : Instance → Type 0) (v : Instance) (c : List Instance) → P v → Each P c → Each P (inserted v c)
unfolding inserted
inserted_each P v [] h k = (h, tt)
inserted_each P v (w ∷ c) h k =
    either (ltb v.started w.started) (λ t. rw t (h, k)) (λ t. rw t (k.0, inserted_each P v c h k.1))

stacked_each : (P : Instance → Type 0) (m : ℕ) (run : List Instance) → Each P run → Each P (stacked m run)
unfolding stacked
stacked_each P m [] h = tt
stacked_each P m (v ∷ run) h =
    either (active m v)
    (λ t. rw t (inserted_each P v (stacked m run) h.0 (stacked_each P m run h.1)))
    (λ t. rw t (stacked_each P m run h.1))

-- each of those at a moment is one of the run
pub stacked_one : (m : ℕ) (run : List Instance) → Each (λ v. v ∈ run) (stacked m run)
stacked_one m run = stacked_each (λ v. v ∈ run) m run (each_one run)

-- the sizes are added up in another order
inserted_weight : (S : ℕ → ℕ) (v : Instance) (c : List Instance) → weight S (places (inserted v c)) ≡ S v.place + weight S (places c)
unfolding inserted
inserted_weight S v [] = refl
inserted_weight S v (w ∷ c) =
    either (ltb v.started w.started) (λ t. rw t) (λ t. rw t (omega (arith, inserted_weight S v c)))

pub stacked_weight : (rs : List (List ℕ)) (m : ℕ) (run : List Instance) → weight (size_at rs) (places (stacked m run)) ≡ on_stack rs m run
unfolding stacked
stacked_weight rs m [] = refl
stacked_weight rs m (v ∷ run) =
    either (active m v)
    (λ t. rw t (inserted_weight (size_at rs) v (stacked m run) ∙ omega (arith, stacked_weight rs m run)))
    (λ t. rw t (omega (arith, stacked_weight rs m run)))

-- an instance that is there at moment m
abbrev There : ℕ → Instance → Type 0
There m v = (v.started ≤ m) × (m < v.finished)

active_there : (m : ℕ) (v : Instance) → active m v ≡ true → There m v
active_there m v h = (
  leb-true v.started m (both_first (leb v.started m) (ltb m v.finished) h),
  ltb-true m v.finished (both_second (leb v.started m) (ltb m v.finished) h),
)

stacked_there : (m : ℕ) (run : List Instance) → Each (There m) (stacked m run)
unfolding stacked
stacked_there m [] = tt
stacked_there m (v ∷ run) =
    either (active m v)
    (λ t. rw t (inserted_each (There m) v (stacked m run) (active_there m v t) (stacked_there m run)))
    (λ t. rw t (stacked_there m run))

-- one more that is there, and starts when no other does, is put where it nests
inserted_nested : (m : ℕ) (v : Instance) (c : List Instance) → There m v → Each (There m) c
    → Each (λ w. v.started ≡ w.started → ⊥) c → Nested c → Nested (inserted v c)
unfolding inserted
inserted_nested m v [] there all apart nested = (tt, tt)
inserted_nested m v (w ∷ c) there all apart nested =
    either (ltb v.started w.started)
    (λ t.
    let first = ltb-true v.started w.started t in
    rw t ((omega arith, each_with (λ u here over. omega arith) c all.1 nested.0), nested))
    (λ t.
    let last : w.started < v.started = omega (arith, ltb-false v.started w.started t, apart.0) in
    rw t
    (inserted_each (UnfinishedAt w) v c (omega arith) nested.0, inserted_nested m v c there all.1 apart.1 nested.1))

-- so those that are there at a moment are nested
pub stacked_nested : (m : ℕ) (run : List Instance) → OneByOne run → Nested (stacked m run)
unfolding stacked
stacked_nested m [] apart = tt
stacked_nested m (v ∷ run) apart =
    either (active m v)
    (λ t.
    rw t
    (inserted_nested m v (stacked m run) (active_there m v t) (stacked_there m run)
    (each_then apart.0 (stacked m run) (stacked_one m run)) (stacked_nested m run apart.1)))
    (λ t. rw t (stacked_nested m run apart.1))
