-- What fixes the answers of the C interface. The map call promises what `map_determined` of `preempt` asks, the bound call what
-- `bound_call_determined` of `rules` asks, the bound call with a limit what `within_call_determined` there asks, the patch call
-- what `patch_determined` of `patch` asks, and the reverse call what `reverse_determined` of `reverse` asks. Where the offending
-- part stands is fixed here.
use Prim.Native.Nat.{ℕ}
use mathlib.Core.List.{List, []}
use mathlib.Core.Path.{◌≡◌, ap, sym, ◌∙◌}
use native.Mathlib.Omega.{arith}
use borrow.Author.Tests.{eqb-true}
use lib.Dec.{eqb}
use Rattle.rules.proofs.Numbers.{either}
use Rattle.rules.specs.declared.Verdict.{Verdict}
use Rattle.rules.specs.declared.Offending.{Offending}
use Rattle.rules.specs.Blocks.{record_start}
use Rattle.rules.specs.Calls.{patch_call_verdict, stands_at, OffendsAt}
use Rattle.patch.proofs.Calling.{both_verdict, only_nine, offending_number}
use Rattle.siodlomil.proofs.Nine.{nine_inside}

-- two answers that meet the promise are equal
pub offending_at_determined : (base patch : List ℕ) (answer other : Offending) → OffendsAt base patch answer → OffendsAt base patch other → answer ≡ other
offending_at_determined base patch answer other p q = p.stands [] [] [] ∙ sym (q.stands [] [] [])

-- only the checks that need no outcome give 9, so their verdict decides
stands_both : (base patch rows room new_rows : List ℕ) → stands_at (patch_call_verdict base patch rows room new_rows) ≡ stands_at (both_verdict base patch)
stands_both base patch rows room new_rows =
    only_nine base patch rows room new_rows (λ v. record { at = record_start v.place; length = 32 }) (record { at = 0; length = 0 })

-- the verdict of the checks that need no outcome, and where it points
module _ (base patch : List ℕ) (v : Verdict) (both : v ≡ both_verdict base patch) where
  -- the part that it points to is the offending part, and lies in the patch
  pub stands_offends : (answer : Offending) → answer ≡ stands_at v → OffendsAt base patch answer
  stands_offends answer stands =
      let pointed : answer ≡ stands_at (both_verdict base patch) = stands ∙ ap stands_at both in
      rw pointed
      (either (eqb (both_verdict base patch).number 9)
      (λ nine.
      rw nine
      (record {
        stands = λ rows room new_rows. sym (stands_both base patch rows room new_rows ∙ rw nine);
        part = λ rows room new_rows. sym (offending_number base patch rows room new_rows ∙ rw nine);
        inside = nine_inside base patch (eqb-true (both_verdict base patch).number 9 nine);
      }))
      (λ other.
      rw other
      (record {
        stands = λ rows room new_rows. sym (stands_both base patch rows room new_rows ∙ rw other);
        part = λ rows room new_rows. sym (offending_number base patch rows room new_rows ∙ rw other);
        inside = omega arith;
      })))
