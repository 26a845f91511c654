-- The places that are gone through are those of the bytes which the slice has.
use Prim.Native.Nat.{◌+◌, min}
use mathlib.Core.Path.{◌≡◌, refl}
use lib.ListN.{length, get_or}
use Rattle.std.proofs.Common.{rules}
use Rattle.std.proofs.lemmas.Iterator.{YieldsList-from_range, cases_from_all}
use Rattle.image.proofs.Blank.{blank_between}
use native.Mathlib.Omega.{arith}
use Rattle.image.proofs.bytes.is_blank.Goals as goal

pub returns : goal.returns
returns c =
    let s = c.args.s.now in
    let from : c.min-from.result ≡ min c.args.start (length s) = omega (arith, c.min-from.ensures) in
    let to : c.min-to.result ≡ min (c.args.start + c.args.count) (length s) = omega (arith, c.min-to.ensures, c.saturating_add.ensures) in
    blank_between s c.args.start c.args.count c.min-from.result c.min-to.result c.all.result from to
    (cases_from_all _ _ c.all.result (λ x. get_or s x 0 ≡ 0) (λ x. get_or s x 0 ≡ 0 → ⊥) c.all.ensures.ran (YieldsList-from_range _ _ _ refl refl) (λ x q called. search rules) (λ x q called. search rules))
