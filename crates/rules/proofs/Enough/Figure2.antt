-- The bound is reached: a run of the paper's figure 2 that keeps to its table and has tasks 11, 12 and 23 nested.
use Prim.Native.Nat.{◌≤◌, ◌<◌}
use mathlib.Core.List.{List, [], ◌∷◌}
use mathlib.Core.Bool.{true}
use mathlib.Core.Path.{◌≡◌, refl, ap, sym, ◌∙◌}
use native.Mathlib.Omega.{arith}
use Rattle.rules.specs.declared.Form.TheVariants.{Table}
use Rattle.rules.specs.Numbers.{up_to, sum_to, lowest, blank}
use Rattle.rules.specs.Blocks.{check_of, header_wrong, block_of, records, image_of}
use Rattle.rules.specs.Records.{of_kind, form_wrong, range_wrong, too_many, reference_wrong}
use Rattle.rules.specs.Reach.{reaches}
use Rattle.rules.specs.Preempt.{yields, barred, map_of, paired, comes_before}
use Rattle.rules.specs.Chains.{Figures, FiguresOf, chain_bound}
use Rattle.rules.specs.Refusals.{accepted, frame_verdict, records_verdict, table_verdict}
use Rattle.rules.specs.Execution.{Instance, PreemptedBy, task_in, KeepsTo, on_stack}
use Rattle.rules.proofs.FourBounds.Unique.{figures_unique}
use Rattle.rules.proofs.Cases.{figure2, starred}
use Rattle.rules.proofs.Enough.Instances.{each_at, each_two}

-- both transactions are activated at 0; each task is released at its offset, starts at once, and takes all of its response
abbrev pub of11 : Instance
of11 = record { place = 0; activated = 0; released = 0; started = 0; finished = 3854 }

abbrev pub of12 : Instance
of12 = record { place = 1; activated = 0; released = 1697; started = 1697; finished = 3837 }

abbrev pub of23 : Instance
of23 = record { place = 5; activated = 0; released = 2588; started = 2588; finished = 3699 }

abbrev pub figure2_run : List Instance
figure2_run = of11 ∷ of12 ∷ of23 ∷ []

-- the table has no pairs: two of them nest where priority and times allow it
nests : (v w : Instance) → yields (task_in figure2 v) (task_in figure2 w) ≡ true → v.started < w.released → w.finished ≤ v.finished
    → PreemptedBy (barred figure2 (task_in figure2 v).id (task_in figure2 w).id) (task_in figure2 v) (task_in figure2 w) v w
unfolding lowest of_kind barred paired comes_before reaches
nests v w yielding unblocked inside = record { yielding = yielding; allowed = refl; unblocked = unblocked; inside = inside }

-- the image of figure 2 is accepted, and has its records
pub figure2_accepted : accepted (table_verdict (image_of Table figure2)) ≡ true
unfolding up_to sum_to lowest blank check_of header_wrong block_of of_kind form_wrong range_wrong too_many reference_wrong frame_verdict records_verdict table_verdict paired comes_before reaches
figure2_accepted = refl

pub figure2_records : records (image_of Table figure2) ≡ figure2
unfolding up_to sum_to lowest blank check_of header_wrong block_of
figure2_records = refl

-- it keeps to the table
pub figure2_keeps : KeepsTo 1 figure2 figure2_run
unfolding lowest of_kind barred paired comes_before reaches
figure2_keeps =
    record {
      known = each_at _ figure2_run (omega arith);
      in_time = each_at _ figure2_run (omega arith);
      periodic = each_two _ figure2_run (omega arith);
      one_by_one = (
        each_at _ (of12 ∷ of23 ∷ []) (omega arith),
        (each_at _ (of23 ∷ []) (omega arith), (each_at _ [] tt, tt)),
      );
      preempted =
          each_two _ figure2_run (
            (λ h. absurd (omega arith), (λ h. nests of11 of12 refl (omega arith) (omega arith), (λ h. nests of11 of23 refl (omega arith) (omega arith), tt))),
            (
              (λ h. absurd (omega arith), (λ h. absurd (omega arith), (λ h. nests of12 of23 refl (omega arith) (omega arith), tt))),
              ((λ h. absurd (omega arith), (λ h. absurd (omega arith), (λ h. absurd (omega arith), tt))), tt),
            ),
          );
    }

-- and at 2,588 it has 8 bytes on the stack
pub figure2_reaches : on_stack figure2 2588 figure2_run ≡ 8
unfolding of_kind
figure2_reaches = refl

-- which is the chain bound, by the eleventh of the worked cases
pub figure2_exactly : (f : Figures) → FiguresOf figure2 (map_of figure2) f → on_stack figure2 2588 figure2_run ≡ chain_bound figure2 f
figure2_exactly f right =
    let shows = starred.1.1.1.1.1.1.1.1.1.1.0.1 in
    figure2_reaches
    ∙ sym (ap (chain_bound figure2) (figures_unique figure2 (map_of figure2) f shows.found right shows.right) ∙ shows.weight)
