-- What a run of the unit is, and when it keeps to a table: the paper's sections 2 to 4. All that is asked of a run here is
-- an assumption on the kernel and on the measurements in the table.
use Rattle.std.specs.Prelude.{ℕ, ◌+◌, ◌*◌, ◌≤◌, ◌<◌, List, [], ◌∷◌, Bool, true, false, cond, ◌&&◌, ◌⊎◌, ◌≡◌, leb, ltb}
use Rattle.rules.specs.declared.Task.{Task}
use Rattle.rules.specs.declared.Bounds.{Bounds}
use Rattle.rules.specs.Records.{task_count, task_at, period_at, jitter_missing}
use Rattle.rules.specs.Preempt.{yields, barred}

-- an instance of the task at a place of the table: when its transaction was activated (alpha), and when it was released
-- (rt), started (st) and finished (ft). A run's instants need not be whole numbers of the table's unit, so they count in one
-- that is q times finer, for any q
pub record Instance : Type 0 where
  pub place : ℕ
  pub activated : ℕ
  pub released : ℕ
  pub started : ℕ
  pub finished : ℕ

-- a run is a list of instances, in any order; by any moment only finitely many have started
-- v is one of the run
infix 20 ◌∈◌
abbrev pub ◌∈◌ : Instance → List Instance → Type 0
v ∈ [] = ⊥
v ∈ (w ∷ run) = (v ≡ w) ⊎ (v ∈ run)

-- what is asked of an instance v of task i; missing says that its jitter was not measured
pub record InTime (q : ℕ) (missing : Bool) (i : Task) (v : Instance) : Type 0 where
  -- (5): it starts no earlier than O after its activation
  pub from_offset : v.activated + q * i.offset ≤ v.started
  -- (6): it is released by O + J after its activation; nothing is asked where J is missing
  pub within_jitter : missing ≡ false → v.released ≤ v.activated + q * (i.offset + i.jitter)
  -- it starts no earlier than it is released
  pub from_release : v.released ≤ v.started
  -- it has finished by R after its activation: R counts from there, and not from O
  pub within_response : v.finished ≤ v.activated + q * i.response

-- v has started and not finished when w starts
pub record UnfinishedAt (v w : Instance) : Type 0 where
  pub earlier : v.started < w.started
  pub unfinished : w.started < v.finished

-- then v is preempted by w, and this is asked of v, an instance of task i, and w, one of task j; forbidden says that the
-- two are barred
pub record PreemptedBy (forbidden : Bool) (i j : Task) (v w : Instance) : Type 0 where
  -- the threshold of i is below the priority of j
  pub yielding : yields i j ≡ true
  -- no one-way pair forbids it, and neither of the two tasks comes before the other
  pub allowed : forbidden ≡ false
  -- v started before w was released, as an early-blocking protocol has it: nothing that w preempts starts while w waits
  pub unblocked : v.started < w.released
  -- w finishes no later than v
  pub inside : w.finished ≤ v.finished

-- no two instances start at the same moment
abbrev pub OneByOne : List Instance → Type 0
OneByOne [] = Unit {0}
OneByOne (v ∷ run) = ((w : Instance) → w ∈ run → v.started ≡ w.started → ⊥) × OneByOne run

-- the task of an instance
abbrev pub task_in : List (List ℕ) → Instance → Task
task_in rs v = task_at rs v.place

-- a run keeps to a table
pub record KeepsTo (q : ℕ) (rs : List (List ℕ)) (run : List Instance) : Type 0 where
  -- each instance is one of a task of the table
  pub known : (v : Instance) → v ∈ run → v.place < task_count rs
  -- and in time
  pub in_time : (v : Instance) → v ∈ run → InTime q (jitter_missing rs v.place) (task_in rs v) v
  -- of two activations of one transaction the later is at least T after the earlier
  pub periodic :
      (v w : Instance) → v ∈ run → w ∈ run → (task_in rs v).transaction ≡ (task_in rs w).transaction
      → v.activated < w.activated → v.activated + q * period_at rs v.place ≤ w.activated
  -- instances start one by one
  pub one_by_one : OneByOne run
  -- and an instance that is unfinished when another starts is preempted by it
  pub preempted :
      (v w : Instance) → v ∈ run → w ∈ run → UnfinishedAt v w
      → PreemptedBy (barred rs (task_in rs v).id (task_in rs w).id) (task_in rs v) (task_in rs w) v w

-- an instance has started and not finished at moment m
abbrev pub active : ℕ → Instance → Bool
active m v = leb v.started m && ltb m v.finished

-- what is on the stack at moment m: of all instances that have started and not finished the whole S, as in (4)
abbrev pub on_stack : List (List ℕ) → ℕ → List Instance → ℕ
on_stack rs m [] = 0
on_stack rs m (v ∷ run) = cond (active m v) (task_in rs v).size 0 + on_stack rs m run

-- what Theorem 1 says: at every moment of the run each of the four bounds is enough for what is on the stack
pub record Enough (rs : List (List ℕ)) (run : List Instance) (b : Bounds) : Type 0 where
  pub chain : (m : ℕ) → on_stack rs m run ≤ b.chain
  pub path : (m : ℕ) → on_stack rs m run ≤ b.path
  pub transactions : (m : ℕ) → on_stack rs m run ≤ b.transactions
  pub levels : (m : ℕ) → on_stack rs m run ≤ b.levels
