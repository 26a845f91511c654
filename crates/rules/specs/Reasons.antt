-- The six reasons, by which a pair may nest or may not: what each is told as.
use Rattle.std.specs.Prelude.{ℕ, List, [], ◌∷◌, Bool, true, false}
use Rattle.rules.specs.declared.Reason.{Reason}
use Rattle.rules.specs.declared.Reason.TheVariants.{Transaction, Jitter, Response, Priority, Pair, Timing}

-- the number, the printed word in ASCII, which is the name of the case in small letters, and whether a cell is set
pub record Told : Type 0 where
  pub number : ℕ
  pub word : List ℕ
  pub set : Bool

-- transaction, jitter, response set a cell; priority, pair, timing do not
abbrev pub told : Reason → Told
told Transaction =
    record { number = 1; word = 116 ∷ 114 ∷ 97 ∷ 110 ∷ 115 ∷ 97 ∷ 99 ∷ 116 ∷ 105 ∷ 111 ∷ 110 ∷ []; set = true }
told Jitter = record { number = 2; word = 106 ∷ 105 ∷ 116 ∷ 116 ∷ 101 ∷ 114 ∷ []; set = true }
told Response = record { number = 3; word = 114 ∷ 101 ∷ 115 ∷ 112 ∷ 111 ∷ 110 ∷ 115 ∷ 101 ∷ []; set = true }
told Priority = record { number = 4; word = 112 ∷ 114 ∷ 105 ∷ 111 ∷ 114 ∷ 105 ∷ 116 ∷ 121 ∷ []; set = false }
told Pair = record { number = 5; word = 112 ∷ 97 ∷ 105 ∷ 114 ∷ []; set = false }
told Timing = record { number = 6; word = 116 ∷ 105 ∷ 109 ∷ 105 ∷ 110 ∷ 103 ∷ []; set = false }
