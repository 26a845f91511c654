-- Records, as lists of 32 bytes: kinds, fields, ranges, order.
use Rattle.std.specs.Prelude.{ℕ, ◌+◌, ◌*◌, List, [], ◌∷◌, Bool, false, cond, ◌&&◌, ◌||◌, not, length, get_or, leb, ltb, eqb}
use Rattle.rules.specs.declared.Form.{Form}
use Rattle.rules.specs.declared.Form.TheVariants.{Table, Patch}
use Rattle.rules.specs.declared.Task.{Task}
use Rattle.rules.specs.Numbers.{le2, le4, between, count_to, lowest, blank}

-- 1 a transaction, 2 a task, 3 a pair
abbrev pub kind_of : List ℕ → ℕ
kind_of r = get_or r 0 0

-- bytes 2-3: a transaction's number, a task's id, a pair's first task
abbrev pub number_of : List ℕ → ℕ
number_of r = le2 r 2

-- bytes 4-5: a task's transaction, a pair's second task
abbrev pub second_of : List ℕ → ℕ
second_of r = le2 r 4

abbrev pub period_of : List ℕ → ℕ
period_of r = le4 r 8

-- of a jitter: 4,294,967,295 means not measured
abbrev pub unmeasured : ℕ → Bool
unmeasured j = eqb j 4294967295

-- and is read as the period of the task's transaction
abbrev pub jitter_of : ℕ → ℕ → ℕ
jitter_of period j = cond (unmeasured j) period j

-- a task's threshold, from its priority P and byte 22: 0 means equal to P
abbrev pub threshold_of : ℕ → ℕ → ℕ
threshold_of p b = cond (eqb b 0) p b

-- what a task's record says, where its transaction has this period
abbrev pub task_of : ℕ → List ℕ → Task
task_of period r =
    record {
      id = number_of r;
      transaction = second_of r;
      priority = le2 r 6;
      offset = le4 r 8;
      jitter = jitter_of period (le4 r 12);
      response = le4 r 16;
      size = le2 r 20;
      threshold = threshold_of (le2 r 6) (get_or r 22 0);
    }

-- a pair's byte 1: 0 one-way, 1 precedence
abbrev pub sort_of : List ℕ → ℕ
sort_of r = get_or r 1 0

-- byte 31: in a patch 0 taken out, 1 put in; in a table 0
abbrev pub way_of : List ℕ → ℕ
way_of r = get_or r 31 0

abbrev pub most_way : Form → ℕ
most_way Table = 0
most_way Patch = 1

-- the bytes below 31 that are said to be 0 are 0
abbrev pub zero_bytes : List ℕ → Bool
zero_bytes r =
    cond (eqb (kind_of r) 1) (blank r 1 1 && (blank r 4 4 && blank r 12 19))
    (cond (eqb (kind_of r) 2) (blank r 1 1 && blank r 23 8)
    (blank r 6 25))

-- unknown kind, or a byte said to be 0 isn't (byte 31 of a patch record: not 0 or 1)
unfoldable pub form_wrong : Form → List ℕ → Bool
form_wrong form r =
    not (between 1 (kind_of r) 3) || (not (zero_bytes r) || ltb (most_way form) (way_of r))

-- a number that rises exactly as table order does: by kind, bytes 2-3, then for pairs bytes 4-5
abbrev pub key : List ℕ → ℕ
key r = (kind_of r * 65536 + number_of r) * 65536 + cond (eqb (kind_of r) 3) (second_of r) 0

-- the order of an image's records: in a patch all taken out come first, and a table has byte 31 at 0 throughout
abbrev pub image_key : List ℕ → ℕ
image_key r = way_of r * 1099511627776 + key r

-- the ranges that need no other record
abbrev pub transaction_right : List ℕ → Bool
transaction_right r = leb 1 (number_of r) && between 1 (period_of r) 1000000000

-- of a task's byte 22: 0, or from its priority P on
abbrev pub threshold_right : ℕ → ℕ → Bool
threshold_right p b = eqb b 0 || leb p b

-- of a task: id, transaction, P and threshold
abbrev pub name_right : List ℕ → Bool
name_right r =
    leb 1 (number_of r)
    && (leb 1 (second_of r) && (between 1 (le2 r 6) 255 && threshold_right (le2 r 6) (get_or r 22 0)))

-- J alone may be missing
abbrev pub jitter_right : ℕ → Bool
jitter_right j = leb j 1000000000 || unmeasured j

-- of a task: O, J, and R from O on
abbrev pub time_right : List ℕ → Bool
time_right r =
    leb (le4 r 8) 999999999 && (jitter_right (le4 r 12) && between (le4 r 8) (le4 r 16) 2000000000)

abbrev pub task_right : List ℕ → Bool
task_right r = name_right r && (time_right r && leb 1 (le2 r 20))

abbrev pub pair_right : List ℕ → Bool
pair_right r =
    leb (sort_of r) 1 && (leb 1 (number_of r) && (leb 1 (second_of r) && not (eqb (number_of r) (second_of r))))

-- a field out of the range that needs no other record, a pair's byte 1 above 1, or a pair naming one task twice
unfoldable pub range_wrong : List ℕ → Bool
range_wrong r =
    not (cond (eqb (kind_of r) 1) (transaction_right r) (cond (eqb (kind_of r) 2) (task_right r) (pair_right r)))

-- the records of one kind, in the order of the list
unfoldable pub of_kind : ℕ → List (List ℕ) → List (List ℕ)
of_kind k [] = []
of_kind k (r ∷ rs) = cond (eqb (kind_of r) k) (r ∷ of_kind k rs) (of_kind k rs)

abbrev pub transactions : List (List ℕ) → List (List ℕ)
transactions rs = of_kind 1 rs

-- a task's place is its rank among tasks, from 0
abbrev pub tasks : List (List ℕ) → List (List ℕ)
tasks rs = of_kind 2 rs

abbrev pub pairs : List (List ℕ) → List (List ℕ)
pairs rs = of_kind 3 rs

abbrev pub task_count : List (List ℕ) → ℕ
task_count rs = length (tasks rs)

-- where a number or id stands among records of one kind, or their count where it is not listed
abbrev pub place_of : List (List ℕ) → ℕ → ℕ
place_of rs x = lowest (λ k. eqb (number_of (get_or rs k [])) x) (length rs)

abbrev pub listed : List (List ℕ) → ℕ → Bool
listed rs x = ltb (place_of rs x) (length rs)

-- the period of the transaction with this number
abbrev pub period_in : List (List ℕ) → ℕ → ℕ
period_in rs x = period_of (get_or (transactions rs) (place_of (transactions rs) x) [])

-- the period of the transaction of the task at place i
abbrev pub period_at : List (List ℕ) → ℕ → ℕ
period_at rs i = period_in rs (second_of (get_or (tasks rs) i []))

-- the task at place i
abbrev pub task_at : List (List ℕ) → ℕ → Task
task_at rs i = task_of (period_at rs i) (get_or (tasks rs) i [])

-- the record of the task at place i leaves its jitter out
abbrev pub jitter_missing : List (List ℕ) → ℕ → Bool
jitter_missing rs i = unmeasured (le4 (get_or (tasks rs) i []) 12)

-- at most 16 transactions, 64 tasks, 256 pairs
abbrev pub most_of : ℕ → ℕ
most_of k = cond (eqb k 1) 16 (cond (eqb k 2) 64 256)

abbrev pub count_of : ℕ → ℕ → List (List ℕ) → ℕ
count_of k way rs =
    count_to (λ n. eqb (kind_of (get_or rs n [])) k && eqb (way_of (get_or rs n [])) way) (length rs)

-- too many of a kind; in a patch those taken out and those put in are counted apart
unfoldable pub too_many : List (List ℕ) → ℕ → Bool
too_many rs k = ltb (most_of k) (count_of k 0 rs) || ltb (most_of k) (count_of k 1 rs)

-- of a task: its transaction is not listed, or O is not below T
abbrev pub transaction_missing : List (List ℕ) → List ℕ → Bool
transaction_missing rs r =
    not (listed (transactions rs) (second_of r)) || not (ltb (le4 r 8) (period_in rs (second_of r)))

-- of a pair: a task is not listed
abbrev pub task_missing : List (List ℕ) → List ℕ → Bool
task_missing rs r = not (listed (tasks rs) (number_of r)) || not (listed (tasks rs) (second_of r))

-- transaction or task not listed, or O not below T
unfoldable pub reference_wrong : List (List ℕ) → List ℕ → Bool
reference_wrong rs r =
    cond (eqb (kind_of r) 2) (transaction_missing rs r) (cond (eqb (kind_of r) 3) (task_missing rs r) false)
