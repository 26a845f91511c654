-- The first row that has its own place is that of the lowest task that comes before itself.
use mathlib.Core.Path.{◌≡◌, ap, sym, ◌∙◌}
use native.Mathlib.Omega.{arith}
use Rattle.rules.specs.Blocks.{records}
use Rattle.rules.specs.Numbers.{lowest}
use Rattle.rules.specs.Records.{task_count}
use Rattle.rules.specs.Preempt.{cell}
use Rattle.rules.specs.Refusals.{refusal, circles}
use Rattle.image.proofs.First.{first-lowest, first-none}
use Rattle.table.proofs.Closed.{circle_place, circle_found, circle_none}
use Rattle.table.proofs.Places.{shape}
use Rattle.table.proofs.verdict.check_circles.Goals as goal

pub mark_before-requires : goal.mark_before-requires
mark_before-requires c =
    let t = c.args.listing.now in
    record { sound_records = record { held = t.held; sound = t.sound; referring = c.requires.referring }; tasks_listed = t.tasks_listed; blank = c.requires.blank }

pub first_circle-requires : goal.first_circle-requires
first_circle-requires c =
    let t = c.args.listing.now in
    record { few = omega (arith, t.tasks_listed.counted, (shape t.image.now t.bytes t.sound).few_tasks) }

pub returns-in-Some : goal.returns-in-Some
returns-in-Some c =
    let t = c.args.listing.now in
    let rs = records t.image.now in
    let few = (shape t.image.now t.bytes t.sound).few_tasks in
    let rows = c.mark_before in
    let place = c.in-Some.place in
    let found = first-lowest (λ i. cell rows.new.rows i i) t.tasks place c.in-Some.ensures in
    let lowest_one : lowest (circles rs) (task_count rs) ≡ place = sym (circle_place rs rows.new.rows few rows.ensures) ∙ ap (lowest (λ i. cell rows.new.rows i i)) (sym t.tasks_listed.counted) ∙ found.0 in
    record {
      verdict = ap (refusal 14) (t.tasks_listed.right place found.1) ∙ sym (circle_found rs place lowest_one (omega (arith, t.tasks_listed.counted, found.1)));
      before = rows.ensures;
    }

pub returns-in-None : goal.returns-in-None
returns-in-None c =
    let t = c.args.listing.now in
    let rs = records t.image.now in
    let few = (shape t.image.now t.bytes t.sound).few_tasks in
    let rows = c.mark_before in
    let counted = t.tasks_listed.counted in
    let none = first-none (λ i. cell rows.new.rows i i) t.tasks c.in-None.ensures in
    record {
      verdict = sym (circle_none rs (sym (circle_place rs rows.new.rows few rows.ensures) ∙ ap (lowest (λ i. cell rows.new.rows i i)) (sym counted) ∙ none ∙ counted));
      before = rows.ensures;
    }
