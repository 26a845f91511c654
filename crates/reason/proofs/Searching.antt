-- Whether some number below n passes a test, from what a search of them answers.
use Prim.Native.Nat.{ℕ, ◌+◌, ◌<◌}
use mathlib.Core.Bool.{Bool, true, false}
use mathlib.Core.List.{List}
use mathlib.Core.Path.{◌≡◌, refl, sym}
use native.Mathlib.Omega.{arith}
use lib.ListN.{length}
use denote.Param.Members.{Mut}
use Rattle.std.specs.Prelude.{Option}
use Rattle.std.specs.Bool.{MatchBool}
use Rattle.std.specs.Fn.{Called}
use Rattle.std.specs.Iterator.{YieldsThen}
use Rattle.std.specs.List.{FoldsTo, AllWithin, HoldsAt, range_with_len}
use Rattle.std.specs.Option.{MatchOption}
use Rattle.std.proofs.iter.Yields.{nat_range_steps}
use Rattle.std.proofs.lemmas.Iterator.{YieldsList-from_range, cases_from_any}
use Rattle.std.proofs.lemmas.List.FromFn.{length-range_with_len, get_or-range_with_len}
use Rattle.rules.specs.Numbers.{some}
use Rattle.rules.proofs.Numbers.{lowest-none, some_true, some_false}

-- what is found among the numbers below n, in turn
found : (test : ℕ → Bool) (n : ℕ) (r : Bool)
    → MatchBool r ((k : ℕ) × (k < length (range_with_len 0 n)) × HoldsAt (λ x. test x ≡ true) (range_with_len 0 n) k) (AllWithin (λ x. test x ≡ false) (range_with_len 0 n) 0 (length (range_with_len 0 n)))
    → r ≡ some test n
found test n true (k, below, here) =
    let inside : k < n = omega (arith, length-range_with_len 0 n) in
    let same : 0 + k ≡ k = omega arith in
    sym (some_true test n k inside (rw (get_or-range_with_len 0 n k 0 inside, same) at (here 0)))
found test n false none =
    sym
    (some_false test n
    (lowest-none test n
    (λ k h.
    let same : 0 + k ≡ k = omega arith in
    rw (get_or-range_with_len 0 n k 0 h, same) at (none k 0 (omega arith) (omega (arith, length-range_with_len 0 n))))))

-- `any` over the numbers below n, of a closure that answers as the test does
pub any_in_range : {F : Type 0} {g : Mut F (ℕ × Unit {0}) Bool} (test : ℕ → Bool) (n : ℕ) (u : _) (f : F) (r : Bool)
    → (xs : List ℕ) × (o : Option ℕ) × (j : F) × YieldsThen nat_range_steps (record { start = 0; end = n }) xs o u × FoldsTo (λ p x q. Called g p (x, tt) false q) f xs j × MatchOption o (r ≡ false) (λ x. (r ≡ true) × ((h : F) × Called g j (x, tt) true h))
    → ((x : ℕ) (answer : Bool) (q : F) → Called g f (x, tt) answer q → (q ≡ f) × (answer ≡ test x))
    → r ≡ some test n
any_in_range test n u f r ran answers =
    found test n r
    (cases_from_any _ _ _ (λ x. test x ≡ true) (λ x. test x ≡ false) ran (YieldsList-from_range 0 n n refl (omega arith))
    (λ x q called. sym (answers x true q called).1)
    (λ x q called. ((answers x false q called).0, sym (answers x false q called).1)))
