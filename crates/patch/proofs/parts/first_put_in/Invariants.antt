-- The loop keeps that all records passed are taken out.
use mathlib.Core.Path.{◌≡◌}
use Rattle.rules.specs.Numbers.{lowest}
use Rattle.rules.specs.Blocks.{records}
use Rattle.patch.specs.Parts.{is_put_in}
use Rattle.patch.proofs.parts.first_put_in.Given as goal

abbrev pub invariant-loop-place : goal.invariant-loop-place
invariant-loop-place l = (lowest (is_put_in (records l.patch)) l.place ≡ l.place)
