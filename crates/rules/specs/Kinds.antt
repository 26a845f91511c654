-- The numbers that records have for their kinds and sorts.
use Rattle.std.specs.Prelude.{ℕ, ◌<◌, ◌≡◌, Result, MatchResult}
use Rattle.std.proofs.Math.Logic.{◌⊎◌}
use Rattle.rules.specs.declared.Kind.{Kind}
use Rattle.rules.specs.declared.Kind.TheVariants.{Transaction, Task, Pair}
use Rattle.rules.specs.declared.Sort.{Sort}
use Rattle.rules.specs.declared.Sort.TheVariants.{OneWay, Precedence}
use Rattle.rules.specs.declared.UnknownKind.{UnknownKind}

-- byte 0 of a record of the kind
abbrev pub kind_number : Kind → ℕ
kind_number Transaction = 1
kind_number Task = 2
kind_number Pair = 3

-- the kind with this number, or the number where no kind has it
abbrev pub ReadsKind : ℕ → Result Kind UnknownKind → Type 0
ReadsKind number r = MatchResult r (λ kind. kind_number kind ≡ number) (λ e. (e.0 ≡ number) × ((number ≡ 0) ⊎ (3 < number)))

-- byte 1 of a pair of the sort
abbrev pub sort_number : Sort → ℕ
sort_number OneWay = 0
sort_number Precedence = 1
