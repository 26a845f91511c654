-- The first number that passes a test, from what a search finds, and what it says of the lowest.
use Prim.Native.Nat.{ℕ, ◌≤◌, ◌<◌}
use mathlib.Core.Bool.{Bool, true, false}
use mathlib.Core.Path.{◌≡◌, sym}
use native.Mathlib.Omega.{arith}
use borrow.Author.Tests.{lt-ltb, ltb-true, ltb-false}
use Rattle.std.specs.Prelude.{Option, Some, None}
use Rattle.std.specs.Bool.{⊤}
use Rattle.std.specs.Fn.{CalledAt}
use Rattle.std.specs.Iterator.{YieldsThen}
use Rattle.std.specs.List.{FoldsTo}
use Rattle.std.specs.Option.{MatchOption}
use Rattle.std.proofs.iter.Yields.{nat_range_steps}
use Rattle.std.proofs.lemmas.Iterator.{first_from_Range}
use mathlib.Core.List.{List}
use denote.Param.Members.{Mut}
use denote.Ref.{Bor}
use Rattle.std.proofs.lemmas.Option.{none-some, same_Some}
use Rattle.rules.specs.Numbers.{lowest, some}
use Rattle.rules.proofs.Numbers.{either, lowest_le, lowest_here, lowest-none, some_false}
use Rattle.rules.specs.Refusals.{fine, refusal, refuse_at}
use Rattle.rules.proofs.Refusals.{refuse_at_found, refuse_at-none}
use Rattle.image.specs.First.{first}

-- a search that starts at 0 and ends at n
abbrev pub Searched : (ℕ → Bool) → ℕ → Option ℕ → Type 0
Searched test n r =
    MatchOption r ((k : ℕ) → 0 ≤ k → k < n → test k ≡ false)
    (λ i. (0 ≤ i) × (i < n) × (test i ≡ true) × ((k : ℕ) → 0 ≤ k → k < i → test k ≡ false))

pub first_found : (test : ℕ → Bool) (n : ℕ) (r : Option ℕ) → Searched test n r → r ≡ first test n
first_found test n None fails = rw (some_false test n (lowest-none test n (λ k h. fails k (omega arith) h)))
first_found test n (Some i) (low, below, passes, fails) =
    let here = lowest_here test i n (lowest-none test i (λ k h. fails k (omega arith) h)) passes below in
    rw (here, lt-ltb i n below)

-- `find` over the numbers below n, of a closure that answers as the test does
pub first_in_range : {F : Type 0} {g : Mut F (Bor ℕ × Unit {0}) Bool} (test : ℕ → Bool) (n : ℕ) (u : _) (f : F) (r : Option ℕ)
    → (xs : List ℕ) × (j : F) × YieldsThen nat_range_steps (record { start = 0; end = n }) xs r u × FoldsTo (λ p x q. CalledAt g p x false q) f xs j × MatchOption r ⊤ (λ x. (h : F) × CalledAt g j x true h)
    → ((x : ℕ) (answer : Bool) (q : F) → CalledAt g f x answer q → (q ≡ f) × (answer ≡ test x))
    → r ≡ first test n
first_in_range test n u f r ran answers =
    first_found test n r
    (first_from_Range _ _ _ _ (λ k. test k ≡ true) (λ k. test k ≡ false) ran
    (λ x q called. sym (answers x true q called).1)
    (λ x q called. ((answers x false q called).0, sym (answers x false q called).1)))

-- where it finds a number, that is the lowest, and where it finds none, the lowest is n
pub first-lowest : (test : ℕ → Bool) (n i : ℕ) → Some i ≡ first test n → (lowest test n ≡ i) × (i < n)
first-lowest test n i e =
    either (some test n)
    (λ t. let same = same_Some i (lowest test n) (rw t at e) in (rw same, omega (arith, ltb-true (lowest test n) n t, same)))
    (λ t. absurd (none-some i (sym (rw t at e))))

pub first-none : (test : ℕ → Bool) (n : ℕ) → None ≡ first test n → lowest test n ≡ n
first-none test n e =
    either (some test n)
    (λ t. absurd (none-some (lowest test n) (rw t at e)))
    (λ t. omega (arith, ltb-false (lowest test n) n t, lowest_le test n))

-- so a refusal at the first place with a fault is at that place, and without one it is fine
pub refuse_at_first : (number : ℕ) (fault : ℕ → Bool) (n i : ℕ) → Some i ≡ first fault n → refuse_at number fault n ≡ refusal number i
refuse_at_first number fault n i e =
    let here = first-lowest fault n i e in
    refuse_at_found number fault n i here.0 here.1

pub refuse_at_no_first : (number : ℕ) (fault : ℕ → Bool) (n : ℕ) → None ≡ first fault n → refuse_at number fault n ≡ fine
refuse_at_no_first number fault n e = refuse_at-none number fault n (first-none fault n e)
