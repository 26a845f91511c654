-- Who may preempt whom: equations (7) and (8) of the paper, and the map.
use Rattle.std.specs.Prelude.{ℕ, ◌+◌, ◌-◌, ◌/◌, ◌%◌, ◌^◌, List, [], Bool, cond, ◌&&◌, ◌||◌, not, length, get_or, ltb, eqb}
use Rattle.rules.specs.declared.Reason.{Reason}
use Rattle.rules.specs.declared.Reason.TheVariants.{Transaction, Jitter, Response, Priority, Pair, Timing}
use Rattle.rules.specs.declared.Task.{Task}
use Rattle.rules.specs.Numbers.{up_to, sum_to, some}
use Rattle.rules.specs.Reach.{Reaches, reaches}
use Rattle.rules.specs.Reasons.{told}
use Rattle.rules.specs.Records.{number_of, second_of, sort_of, pairs, task_count, task_at, period_at}

-- (7): from j to i, (O_i - O_j) modulo T, in 0 to T - 1
abbrev pub distance : ℕ → ℕ → ℕ → ℕ
distance t oi oj = (oi + (t - oj)) % t

-- J_j > distance
abbrev pub jitter_reaches : ℕ → Task → Task → Bool
jitter_reaches t i j = ltb (distance t i.offset j.offset) j.jitter

-- R_i - O_i > T - distance
abbrev pub response_reaches : ℕ → Task → Task → Bool
response_reaches t i j = ltb (t - distance t i.offset j.offset) (i.response - i.offset)

-- the first that holds: they are in different transactions, the jitter reaches, the response reaches; else the timing fails
abbrev pub timing : ℕ → Task → Task → Reason
timing t i j =
    cond (not (eqb i.transaction j.transaction)) Transaction
    (cond (jitter_reaches t i j) Jitter
    (cond (response_reaches t i j) Response
    Timing))

-- the first condition of (8): task i yields to task j, as its threshold is below j's priority
abbrev pub yields : Task → Task → Bool
yields i j = ltb i.threshold j.priority

-- (8): the first condition that fails, of priority, pair and timing, or else why task i may be preempted by task j; t is
-- the period of i's transaction and barred says that a one-way pair forbids it or one of the two comes before the other
unfoldable pub reason : ℕ → Bool → Task → Task → Reason
reason t barred i j =
    cond (not (yields i j)) Priority
    (cond barred Pair
    (timing t i j))

-- task i may be preempted by task j: the reason is one of the first three
unfoldable pub may_preempt : ℕ → Bool → Task → Task → Bool
may_preempt t barred i j = (told (reason t barred i j)).set

-- the pair names first a, then b
abbrev pub names : List ℕ → ℕ → ℕ → Bool
names r a b = eqb (number_of r) a && eqb (second_of r) b

-- some pair of this sort names first a, then b
unfoldable pub paired : ℕ → List (List ℕ) → ℕ → ℕ → Bool
paired sort rs a b =
    some (λ k. eqb (sort_of (get_or (pairs rs) k [])) sort && names (get_or (pairs rs) k []) a b) (length (pairs rs))

-- the task with id a comes before the one with id b: a path of precedence pairs leads from a to b
abbrev pub ComesBefore : List (List ℕ) → ℕ → ℕ → Type 0
ComesBefore rs = Reaches (paired 1 rs)

-- the same, worked out over the ids of the table's tasks
unfoldable pub comes_before : List (List ℕ) → ℕ → ℕ → Bool
comes_before rs = reaches (paired 1 rs) (λ k. (task_at rs k).id) (task_count rs)

-- one of the two comes before the other
abbrev pub beside : List (List ℕ) → ℕ → ℕ → Bool
beside rs a b = comes_before rs a b || comes_before rs b a

-- the task with id a may not be preempted by the one with id b: a one-way pair forbids it, or one of the two comes before the
-- other
unfoldable pub barred : List (List ℕ) → ℕ → ℕ → Bool
barred rs a b = paired 0 rs a b || beside rs a b

-- why the task at place i may be preempted by the one at place j, or why not
unfoldable pub reason_at : List (List ℕ) → ℕ → ℕ → Reason
reason_at rs i j =
    reason (period_at rs i) (barred rs (task_at rs i).id (task_at rs j).id) (task_at rs i) (task_at rs j)

-- the task at place i may be preempted by the one at place j
unfoldable pub decided : List (List ℕ) → ℕ → ℕ → Bool
decided rs i j =
    may_preempt (period_at rs i) (barred rs (task_at rs i).id (task_at rs j).id) (task_at rs i) (task_at rs j)

-- bit j of a number, counted from the lowest; of a set of places, whether place j is in it
abbrev pub bit_at : ℕ → ℕ → Bool
bit_at n j = eqb (n / 2 ^ j % 2) 1

-- cell j of row i
abbrev pub cell : List ℕ → ℕ → ℕ → Bool
cell rows i j = bit_at (get_or rows i 0) j

-- 64 rows of 64 cells for n tasks; rows and cells at or beyond the number of tasks are 0
abbrev pub row_from : ℕ → (ℕ → Bool) → ℕ
row_from n set = sum_to (λ j. cond (ltb j n && set j) (2 ^ j) 0) 64

unfoldable pub map_from : ℕ → (ℕ → ℕ → Bool) → List ℕ
map_from n set = up_to (λ i. cond (ltb i n) (row_from n (set i)) 0) 64

-- the map of a table
abbrev pub map_of : List (List ℕ) → List ℕ
map_of rs = map_from (task_count rs) (decided rs)
