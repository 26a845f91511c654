-- Nothing comes before itself in an accepted table: a task on a path of precedence pairs is listed, and refusal 14 asks each task.
use Prim.Native.Nat.{ℕ}
use mathlib.Core.List.{List}
use mathlib.Core.Bool.{true}
use mathlib.Core.Path.{◌≡◌}
use native.Mathlib.Omega.{arith}
use Rattle.rules.specs.Numbers.{some}
use Rattle.rules.specs.Blocks.{records}
use Rattle.rules.specs.Records.{tasks, task_count, place_of}
use Rattle.rules.specs.Preempt.{ComesBefore}
use Rattle.rules.specs.Refusals.{accepted, circles, first_circle, circle_refusal, table_verdict}
use Rattle.rules.proofs.Numbers.{never, some_fails}
use Rattle.rules.proofs.Refusals.{accepted_parts, linked_references, linked_circles, no_fault}
use Rattle.rules.proofs.Before.{path_before, last_listed_of}
use Rattle.rules.proofs.Table.Listed.{Listed, listed_of, place_below, number_at_place}

-- where 14 finds no fault
no_circle : (rs : List (List ℕ)) → Listed rs → accepted (circle_refusal rs) ≡ true → (a : ℕ) → ComesBefore rs a a → ⊥
no_circle rs named right a path =
    let there = last_listed_of rs named path in
    let place = place_of (tasks rs) a in
    let id = number_at_place (tasks rs) a there in
    let none = no_fault 14 (first_circle rs) (some (circles rs) (task_count rs)) (omega arith) right in
    never (circles rs place) (rw id (path_before rs named a a path)) (some_fails (circles rs) (task_count rs) place (place_below (tasks rs) a there) none)

pub nothing_before_itself : (image : List ℕ) → accepted (table_verdict image) ≡ true → (a : ℕ) → ComesBefore (records image) a a → ⊥
nothing_before_itself image h =
    let (sound, linked) = accepted_parts image h in
    no_circle (records image) (listed_of (records image) (linked_references (records image) linked)) (linked_circles (records image) linked)
