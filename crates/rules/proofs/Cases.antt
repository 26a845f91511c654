-- Cases 1 to 11 of "On both sides", as one table with one theorem over it; their reasons; and the same for jitters left out
-- and for thresholds.
use Prim.Native.Nat.{ℕ, ◌/◌, ◌%◌}
use mathlib.Core.List.{List, [], ◌∷◌, ◌++◌}
use mathlib.Core.Bool.{true, false}
use mathlib.Core.Path.{◌≡◌, refl}
use lib.ListN.{get_or, set, replicate}
use Rattle.rules.specs.declared.Form.TheVariants.{Table}
use Rattle.rules.specs.declared.Reason.TheVariants.{Transaction, Jitter, Response, Priority, Pair, Timing}
use Rattle.rules.specs.Numbers.{sum_to, largest_to, up_to, lowest, blank}
use Rattle.rules.specs.Records.{task_at, of_kind, form_wrong, range_wrong, too_many, reference_wrong}
use Rattle.rules.specs.Reach.{reaches}
use Rattle.rules.specs.Preempt.{reason, may_preempt, barred, reason_at, decided, map_from, paired, comes_before}
use Rattle.rules.specs.Chains.{related}
use Rattle.rules.specs.Patches.{same, has, taken_out, put_in, without, put, outcome, touched, carried}
use Rattle.rules.specs.Refusals.{refusal, records_verdict, circle_refusal, absent_refusal}
use Rattle.rules.proofs.Enumerate.{figures}
use Rattle.rules.proofs.Enumerate.Paths.{path_sum, sum_from}
use Rattle.rules.proofs.Enumerate.Winner.{not_after, wins, winner, winner_to}
use Rattle.rules.proofs.Enumerate.Chains.{heaviest}
use Rattle.rules.proofs.Cases.Entries.{shown_as, Case, AllHold}
use Rattle.rules.proofs.Cases.Entries.Case.{preempted, shown, patched}
use Rattle.rules.proofs.Cases.Tests.{all_hold}
pub mod Entries
pub mod Tests

-- a number as two and as four bytes, little-endian
abbrev pub two_bytes : ℕ → List ℕ
two_bytes x = x % 256 ∷ x / 256 ∷ []

abbrev pub four_bytes : ℕ → List ℕ
four_bytes x = two_bytes (x % 65536) ++ two_bytes (x / 65536)

-- a transaction's record: its number and period
abbrev pub transaction : ℕ → ℕ → List ℕ
transaction number period = (1 ∷ 0 ∷ two_bytes number) ++ (replicate 4 0 ++ (four_bytes period ++ replicate 20 0))

-- a task's record: id, transaction, offset O, priority P, jitter J, response R and stack S
abbrev pub task : ℕ → ℕ → ℕ → ℕ → ℕ → ℕ → ℕ → List ℕ
task id number O P J R S =
    (2 ∷ 0 ∷ two_bytes id)
    ++ (two_bytes number ++ (two_bytes P ++ (four_bytes O ++ (four_bytes J ++ (four_bytes R ++ (two_bytes S ++ replicate 10 0))))))

-- a one-way pair's and a precedence pair's record: the two tasks
abbrev pub one_way : ℕ → ℕ → List ℕ
one_way first second = (3 ∷ 0 ∷ two_bytes first) ++ (two_bytes second ++ replicate 26 0)

abbrev pub precedence : ℕ → ℕ → List ℕ
precedence first second = set (one_way first second) 1 1

-- a patch's record that puts this one in
abbrev pub puts : List ℕ → List ℕ
puts r = set r 31 1

-- tasks 1 and 2, of one transaction, where the second has the higher priority: O_i, R_i, O_j, J_j
abbrev pub together : ℕ → ℕ → ℕ → ℕ → List (List ℕ)
together Oi Ri Oj Jj = transaction 1 10000 ∷ task 1 1 Oi 1 0 Ri 1 ∷ task 2 1 Oj 2 Jj Oj 1 ∷ []

-- tasks 1 and 2, of two transactions, where the first has priority 1: P_j, and the pairs
abbrev pub asunder : ℕ → List (List ℕ) → List (List ℕ)
asunder Pj pairs = transaction 1 10000 ∷ transaction 2 10000 ∷ task 1 1 0 1 0 0 1 ∷ task 2 2 0 Pj 0 0 1 ∷ pairs

-- the six tasks of the paper's figure 2, each with this jitter
abbrev pub figure2_with : ℕ → List (List ℕ)
figure2_with J =
    transaction 1 10000
    ∷ transaction 2 10000
    ∷ task 11 1 0 1 J 3854 4
    ∷ task 12 1 1697 2 J 3837 1
    ∷ task 13 1 4635 4 J 4781 2
    ∷ task 21 2 0 3 J 393 2
    ∷ task 22 2 617 1 J 3854 1
    ∷ task 23 2 2588 3 J 3699 3
    ∷ []

-- where it is 0, as the scope has it
abbrev pub figure2 : List (List ℕ)
figure2 = figure2_with 0

-- cases 1 to 10 in their order, figure 2 itself, and case 11
abbrev pub cases : List Case
cases =
    preempted (together 617 2588 2588 0) 0 1 false
    ∷ preempted (together 617 2589 2588 0) 0 1 true
    ∷ preempted (together 617 617 0 617) 0 1 false
    ∷ preempted (together 617 617 0 618) 0 1 true
    ∷ preempted (together 0 10000 0 0) 0 1 false
    ∷ preempted (together 0 10001 0 0) 0 1 true
    ∷ preempted (asunder 1 []) 0 1 false
    ∷ preempted (asunder 2 []) 0 1 true
    ∷ preempted (asunder 2 (one_way 2 1 ∷ [])) 0 1 true
    ∷ preempted (asunder 2 (precedence 2 1 ∷ [])) 0 1 false
    ∷ shown figure2 (shown_as 8 (11 ∷ 12 ∷ 23 ∷ []) 10 9 10)
    ∷ patched figure2 (puts (one_way 12 23) ∷ []) (shown_as 7 (11 ∷ 12 ∷ 21 ∷ []) 9 9 10) 2
    ∷ []

-- each of them holds of the definitions
pub starred : AllHold cases
unfolding sum_to largest_to up_to lowest blank of_kind form_wrong range_wrong too_many reference_wrong reason may_preempt barred paired comes_before reaches decided map_from related same has taken_out put_in without put touched carried records_verdict figures path_sum sum_from not_after wins winner winner_to heaviest
starred = all_hold cases tt

-- the reasons that cases 1, 2, 4, 7, 8 and 10 give, and those of the chain of figure 2, whose tasks are at places 0, 1 and 5
pub reasons_of_cases : (reason_at (together 617 2588 2588 0) 0 1 ≡ Timing)
    × (reason_at (together 617 2589 2588 0) 0 1 ≡ Response)
    × (reason_at (together 617 617 0 618) 0 1 ≡ Jitter)
    × (reason_at (asunder 1 []) 0 1 ≡ Priority)
    × (reason_at (asunder 2 []) 0 1 ≡ Transaction)
    × (reason_at (asunder 2 (precedence 2 1 ∷ [])) 0 1 ≡ Pair)
    × (reason_at figure2 0 1 ≡ Response)
    × (reason_at figure2 1 5 ≡ Transaction)
unfolding lowest of_kind reason barred paired comes_before reaches reason_at
reasons_of_cases = (refl, refl, refl, refl, refl, refl, refl, refl)

-- the jitter that means not measured
abbrev pub missing : ℕ
missing = 4294967295

-- case 3 without its jitter, at a distance of 617, and the same in a shorter period
abbrev pub unsure : List (List ℕ)
unsure = together 617 617 0 missing

abbrev pub shorter : List (List ℕ)
shorter = transaction 1 10000 ∷ puts (transaction 1 700) ∷ []

-- jitters left out: at that distance and at the largest; where a pair forbids it; in figure 2, of every task; and under a
-- patch that changes nothing but the period
abbrev pub cases_unmeasured : List Case
cases_unmeasured =
    preempted unsure 0 1 true
    ∷ preempted (together 0 0 1 missing) 0 1 true
    ∷ preempted (unsure ++ (precedence 1 2 ∷ [])) 0 1 false
    ∷ shown (figure2_with missing) (shown_as 10 (11 ∷ 12 ∷ 23 ∷ 13 ∷ []) 10 11 10)
    ∷ patched unsure shorter (shown_as 2 (1 ∷ 2 ∷ []) 2 2 2) 2
    ∷ []

-- each of them holds of the definitions
pub unmeasured_cases : AllHold cases_unmeasured
unfolding sum_to largest_to up_to lowest blank of_kind form_wrong range_wrong too_many reference_wrong reason may_preempt barred paired comes_before reaches decided map_from related same has taken_out put_in without put touched carried records_verdict figures path_sum sum_from not_after wins winner winner_to heaviest
unmeasured_cases = all_hold cases_unmeasured tt

-- the jitter is read as the period, and after the patch as the new one; with the period written in its place the task is
-- read alike, but neither record stands for the other where a patch takes one out
pub unmeasured_read : ((task_at unsure 1).jitter ≡ 10000)
    × ((task_at (outcome unsure shorter) 1).jitter ≡ 700)
    × (task_at unsure 1 ≡ task_at (together 617 617 0 10000) 1)
    × (absent_refusal unsure (task 2 1 0 2 10000 0 1 ∷ []) ≡ refusal 9 0)
    × (absent_refusal (together 617 617 0 10000) (task 2 1 0 2 missing 0 1 ∷ []) ≡ refusal 9 0)
unfolding lowest of_kind same has taken_out put_in without put
unmeasured_read = (refl, refl, refl, refl, refl)

-- the record with this in byte 22
abbrev pub with_threshold : ℕ → List ℕ → List ℕ
with_threshold x r = set r 22 x

-- case 8 where task 1, of priority 1, has this in byte 22: P_j is 2
abbrev pub reluctant : ℕ → List (List ℕ)
reluctant x = transaction 1 10000 ∷ transaction 2 10000 ∷ with_threshold x (task 1 1 0 1 0 0 1) ∷ task 2 2 0 2 0 0 1 ∷ []

-- task 12 of figure 2, of priority 2, with this in byte 22
abbrev pub task12 : ℕ → List ℕ
task12 x = with_threshold x (task 12 1 1697 2 0 3837 1)

-- figure 2 with it
abbrev pub figure2_threshold : ℕ → List (List ℕ)
figure2_threshold x = set figure2 3 (task12 x)

-- a patch that changes nothing but byte 22 of that task
abbrev pub exchanged : ℕ → ℕ → List (List ℕ)
exchanged x y = task12 x ∷ puts (task12 y) ∷ []

-- thresholds: 0, equal to the priority, equal to the other's, and 255; in figure 2, where 3 keeps the tasks of priority 3
-- from preempting task 12, and 2 changes nothing; and under patches of byte 22 alone
abbrev pub cases_threshold : List Case
cases_threshold =
    preempted (reluctant 0) 0 1 true
    ∷ preempted (reluctant 1) 0 1 true
    ∷ preempted (reluctant 2) 0 1 false
    ∷ preempted (reluctant 255) 0 1 false
    ∷ shown (figure2_threshold 2) (shown_as 8 (11 ∷ 12 ∷ 23 ∷ []) 10 9 10)
    ∷ shown (figure2_threshold 3) (shown_as 7 (11 ∷ 23 ∷ []) 9 9 10)
    ∷ patched figure2 (exchanged 0 3) (shown_as 7 (11 ∷ 23 ∷ []) 9 9 10) 1
    ∷ patched (figure2_threshold 3) (exchanged 3 2) (shown_as 8 (11 ∷ 12 ∷ 23 ∷ []) 10 9 10) 1
    ∷ []

-- each of them holds of the definitions
pub threshold_cases : AllHold cases_threshold
unfolding sum_to largest_to up_to lowest blank of_kind form_wrong range_wrong too_many reference_wrong reason may_preempt barred paired comes_before reaches decided map_from related same has taken_out put_in without put touched carried records_verdict figures path_sum sum_from not_after wins winner winner_to heaviest
threshold_cases = all_hold cases_threshold tt

-- figure 2 with this in byte k of a record
abbrev pub figure2_byte : ℕ → ℕ → ℕ → List (List ℕ)
figure2_byte place k x = set figure2 place (set (get_or figure2 place []) k x)

-- how byte 22 is read; that a map with every cell set does not set aside a threshold, and that the word is `priority`; that
-- neither of 0 and the priority written out stands for the other where a patch takes one out
pub threshold_read : ((task_at (reluctant 0) 0).threshold ≡ 1)
    × ((task_at (reluctant 255) 0).threshold ≡ 255)
    × (related (reluctant 1) (replicate 64 18446744073709551615) 0 1 ≡ true)
    × (related (reluctant 2) (replicate 64 18446744073709551615) 0 1 ≡ false)
    × (reason_at (reluctant 2) 0 1 ≡ Priority)
    × (absent_refusal figure2 (task12 2 ∷ []) ≡ refusal 9 0)
    × (absent_refusal (figure2_threshold 2) (task12 0 ∷ []) ≡ refusal 9 0)
unfolding lowest of_kind reason barred paired comes_before reaches reason_at related same has taken_out
threshold_read = (refl, refl, refl, refl, refl, refl, refl)

-- what is refused: of task 13, of priority 4, the thresholds 1 and 3, and byte 23; of a transaction and of a pair byte 22
pub threshold_refused : (records_verdict Table (figure2_byte 4 22 1) ≡ refusal 6 4)
    × (records_verdict Table (figure2_byte 4 22 3) ≡ refusal 6 4)
    × (records_verdict Table (figure2_byte 4 22 4) ≡ refusal 0 0)
    × (records_verdict Table (figure2_byte 4 23 4) ≡ refusal 4 4)
    × (records_verdict Table (figure2_byte 0 22 4) ≡ refusal 4 0)
    × (records_verdict Table (figure2 ++ (set (one_way 11 12) 22 4 ∷ [])) ≡ refusal 4 8)
unfolding sum_to lowest blank of_kind form_wrong range_wrong too_many records_verdict
threshold_refused = (refl, refl, refl, refl, refl, refl)

-- tasks 1, 2 and 3, of three transactions, where each has a higher priority than the one before it; and the pairs
abbrev pub three_apart : List (List ℕ) → List (List ℕ)
three_apart pairs =
    transaction 1 10000
    ∷ transaction 2 10000
    ∷ transaction 3 10000
    ∷ task 1 1 0 1 0 0 1
    ∷ task 2 2 0 2 0 0 1
    ∷ task 3 3 0 3 0 0 1
    ∷ pairs

-- precedence through a third task. Tasks 1 and 3 are barred where a path of precedences leads from one to the other, either way;
-- not where both come before, or after, task 2, and not over a one-way pair. Then figure 2 where 11 comes before 12 and 12 before
-- 23, so that 11 and 23 do not nest; and 23 put behind 12 by a patch, which touches 11 too
abbrev pub cases_precedence : List Case
cases_precedence =
    preempted (three_apart (precedence 1 2 ∷ precedence 2 3 ∷ [])) 0 2 false
    ∷ preempted (three_apart (precedence 2 1 ∷ precedence 3 2 ∷ [])) 0 2 false
    ∷ preempted (three_apart (precedence 1 2 ∷ precedence 3 2 ∷ [])) 0 2 true
    ∷ preempted (three_apart (precedence 2 1 ∷ precedence 2 3 ∷ [])) 0 2 true
    ∷ preempted (three_apart (precedence 1 2 ∷ one_way 2 3 ∷ [])) 0 2 true
    ∷ preempted (three_apart (one_way 1 2 ∷ precedence 2 3 ∷ [])) 0 2 true
    ∷ shown (figure2 ++ (precedence 11 12 ∷ precedence 12 23 ∷ [])) (shown_as 6 (11 ∷ 21 ∷ []) 8 8 10)
    ∷ patched (figure2 ++ (precedence 11 12 ∷ [])) (puts (precedence 12 23) ∷ []) (shown_as 6 (11 ∷ 21 ∷ []) 8 8 10) 3
    ∷ []

-- each of them holds of the definitions
pub precedence_cases : AllHold cases_precedence
unfolding sum_to largest_to up_to lowest blank of_kind form_wrong range_wrong too_many reference_wrong reason may_preempt barred paired comes_before reaches decided map_from related same has taken_out put_in without put touched carried records_verdict figures path_sum sum_from not_after wins winner winner_to heaviest
precedence_cases = all_hold cases_precedence tt

-- the reason that a path gives, either way, where priority does not speak before it
pub precedence_reasons : (reason_at (three_apart (precedence 1 2 ∷ precedence 2 3 ∷ [])) 0 2 ≡ Pair)
    × (reason_at (three_apart (precedence 2 1 ∷ precedence 3 2 ∷ [])) 0 2 ≡ Pair)
    × (reason_at (three_apart (precedence 1 2 ∷ precedence 2 3 ∷ [])) 2 0 ≡ Priority)
    × (reason_at (three_apart (precedence 1 2 ∷ precedence 3 2 ∷ [])) 0 2 ≡ Transaction)
unfolding lowest of_kind reason barred paired comes_before reaches reason_at
precedence_reasons = (refl, refl, refl, refl)

-- what is refused: a circle of two, and of three with task 11 leading into it, at the lowest id of the circle; a one-way pair closes
-- none
pub precedence_refused : (circle_refusal (asunder 2 (precedence 1 2 ∷ precedence 2 1 ∷ [])) ≡ refusal 14 1)
    × (circle_refusal (asunder 2 (one_way 1 2 ∷ precedence 2 1 ∷ [])) ≡ refusal 0 0)
    × (circle_refusal (figure2 ++ (precedence 11 13 ∷ precedence 12 23 ∷ precedence 13 12 ∷ precedence 23 13 ∷ [])) ≡ refusal 14 12)
unfolding lowest of_kind paired comes_before reaches
precedence_refused = (refl, refl, refl)
