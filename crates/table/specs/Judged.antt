-- What judging a table gives: the verdict, and which of its tasks come before which.
use Rattle.std.specs.Prelude.{ℕ, List, cond, ◌≡◌}
use Rattle.rules.specs.declared.Form.TheVariants.{Table}
use Rattle.rules.specs.declared.Verdict.{Verdict}
use Rattle.rules.specs.Blocks.{records}
use Rattle.rules.specs.Refusals.{accepted, or_else, frame_verdict, records_verdict, reference_refusal}
use Rattle.table.specs.Precedence.{before_map}

-- 1 to 8, which are asked before 14
abbrev pub earlier_verdict : List ℕ → Verdict
earlier_verdict image =
    or_else (frame_verdict Table image) (or_else (records_verdict Table (records image)) (reference_refusal (records image)))

-- this verdict is told, and rows that are lent are made those of what comes before what where the earlier checks find
-- nothing; else they stay
pub record Judges (v earlier : Verdict) (rs : List (List ℕ)) (told : Verdict) (rows later : List ℕ) : Type 0 where
  pub verdict : told ≡ v
  pub before : later ≡ cond (accepted earlier) (before_map rs) rows
