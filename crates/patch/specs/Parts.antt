-- The two parts of a patch: what is taken out, and behind it what is put in.
use Rattle.std.specs.Prelude.{ℕ, List, [], Bool, not, get_or, eqb}
use Rattle.rules.specs.Records.{way_of}
use Rattle.patch.specs.declared.parts.Way.{Way}
use Rattle.patch.specs.declared.parts.Way.TheVariants.{TakenOut, PutIn}

-- byte 31 of a record that is taken out or put in
abbrev pub way_number : Way → ℕ
way_number TakenOut = 0
way_number PutIn = 1

-- record k is put in
abbrev pub is_put_in : List (List ℕ) → ℕ → Bool
is_put_in ps k = not (eqb (way_of (get_or ps k [])) 0)
