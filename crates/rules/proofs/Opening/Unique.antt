-- The rule of opening has at most one outcome.
use Prim.Native.Nat.{ℕ}
use mathlib.Core.List.{List}
use mathlib.Core.Bool.{Bool}
use mathlib.Core.Path.{◌≡◌, sym, ◌∙◌}
use native.Mathlib.Omega.{arith}
use Rattle.rules.specs.Chains.{weight, Path, All}
use Rattle.rules.specs.Opening.{preempts_all, PathAbove, Opens, Extends}
use Rattle.rules.specs.Opening.Opens.{alone, extended}
use Rattle.rules.specs.Opening.Extends.{past_last, passed_over, opened}
use Rattle.rules.proofs.Numbers.{never}
use Rattle.rules.proofs.FourBounds.Unique.{largest_unique}

module _ (n : ℕ) (R : ℕ → ℕ → Bool) (S : ℕ → ℕ) where
  -- the path bound that is asked is one
  above_unique : (c : List ℕ) {a b : ℕ} → PathAbove n R S c a → PathAbove n R S c b → a ≡ b
  above_unique c {a = a} {b = b} = largest_unique (λ d. Path n R d × All (preempts_all R c) d) (weight S) a b

  mutual
    -- how many chains are opened, and the best then, are determined
    pub opens_same : {c : List ℕ} {best count later count' later' : ℕ} → Opens n R S c best count later
        → Opens n R S c best count' later' → (count ≡ count') × (later ≡ later')
    opens_same (alone p l e f) (alone q m g h) = (e ∙ sym g, f ∙ sym h)
    opens_same {c = c} (alone p l e f) (extended q m x g) = absurd (omega (arith, above_unique c p q))
    opens_same {c = c} (extended p l x e) (alone q m g h) = absurd (omega (arith, above_unique c p q))
    opens_same (extended p l x e) (extended q m y g) =
        let (same, best) = extends_same x y in
        (omega arith, best)

    pub extends_same : {c : List ℕ} {k best count later count' later' : ℕ} → Extends n R S c k best count later
        → Extends n R S c k best count' later' → (count ≡ count') × (later ≡ later')
    extends_same (past_last a b d) (past_last e f g) = (b ∙ sym f, d ∙ sym g)
    extends_same (past_last a b d) (passed_over l t y) = absurd (omega arith)
    extends_same (past_last a b d) (opened l t o y e) = absurd (omega arith)
    extends_same (passed_over l t x) (past_last a b d) = absurd (omega arith)
    extends_same (passed_over l t x) (passed_over m u y) = extends_same x y
    extends_same {c = c} {k = k} (passed_over l t x) (opened m u o y e) = never (preempts_all R c k) u t
    extends_same (opened l t o x e) (past_last a b d) = absurd (omega arith)
    extends_same {c = c} {k = k} (opened l t o x e) (passed_over m u y) = never (preempts_all R c k) t u
    extends_same (opened l t o x e) (opened m u p y f) =
        let (first, between) = opens_same o p in
        let (rest, best) = extends_same x (rw (sym between) at y) in
        (omega arith, best)
