-- Laws of the distance (7): the remainder by cases, as both offsets are below the period.
use Prim.Native.Nat.{ℕ, ◌+◌, ◌-◌, ◌%◌, ◌≤◌, ◌<◌}
use mathlib.Core.Path.{◌≡◌, ap, ◌∙◌}
use native.Mathlib.Nat.{add-mod_right, mod-eq_of_lt}
use native.Mathlib.Omega.{arith}
use Rattle.rules.specs.Preempt.{distance}

-- from an offset to one that is no lower
pub distance_above : (t oi oj : ℕ) → oi < t → oj < t → oj ≤ oi → distance t oi oj ≡ oi - oj
distance_above t oi oj h l above =
    let e : oi + (t - oj) ≡ (oi - oj) + t = omega arith in
    ap (λ (n : ℕ). n % t) e ∙ add-mod_right (oi - oj) t ∙ mod-eq_of_lt (omega arith)

-- and to one that is lower
pub distance_below : (t oi oj : ℕ) → oi < t → oj < t → oi < oj → distance t oi oj ≡ t - (oj - oi)
distance_below t oi oj h l below =
    let e : oi + (t - oj) ≡ t - (oj - oi) = omega arith in
    ap (λ (n : ℕ). n % t) e ∙ mod-eq_of_lt (omega arith)
