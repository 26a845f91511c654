-- Laws of a buffer that is written over from its start: it is the values with what is left of the buffer behind them.
use Prim.Native.Nat.{ℕ, ◌+◌, ◌-◌, ◌≤◌, ◌<◌}
use mathlib.Core.List.{List}
use mathlib.Core.Path.{◌≡◌, ap, sym, ◌∙◌}
use native.Mathlib.Omega.{arith}
use lib.ListN.{length, get_or, drop, length-append, length-drop, get_or-append}
use lib.Seq.{get_or-append-add, get_or-drop}
use Rattle.rules.specs.Calls.{over}

-- values written over a buffer
module _ {A : Type 0} (values buffer : List A) where
  -- are its entries from the start on
  pub over_written : (i : ℕ) (default : A) → i < length values → get_or (over values buffer) i default ≡ get_or values i default
  over_written i default inside = get_or-append values (drop (length values) buffer) default i inside

  -- the entries behind them are as they were
  pub over_kept : (i : ℕ) (default : A) → length values ≤ i → get_or (over values buffer) i default ≡ get_or buffer i default
  over_kept i default behind =
      let place : length values + (i - length values) ≡ i = omega arith in
      ap (λ (k : ℕ). get_or (over values buffer) k default) (sym place)
      ∙ get_or-append-add values (drop (length values) buffer) (i - length values) default
      ∙ get_or-drop (length values) buffer (i - length values) default
      ∙ ap (λ (k : ℕ). get_or buffer k default) place

  -- and where the buffer holds them, it stays as long as it was
  pub over-length : length values ≤ length buffer → length (over values buffer) ≡ length buffer
  over-length fits =
      length-append values (drop (length values) buffer) ∙ omega (arith, length-drop (length values) buffer)
