-- Laws of the refusals: one check after another, an accepted check has found no fault, and the lowest place with a fault.
use Prim.Native.Nat.{ℕ, ◌<◌}
use mathlib.Core.List.{List}
use mathlib.Core.Bool.{Bool, true, false, ◌&&◌, not}
use mathlib.Core.Path.{◌≡◌, refl}
use native.Mathlib.Omega.{arith}
use borrow.Author.Tests.{eqb-true, lt-ltb, le-ltb, eq-eqb, ne_eqb}
use Rattle.rules.specs.declared.Form.{Form}
use Rattle.rules.specs.declared.Form.TheVariants.{Table, Patch}
use Rattle.rules.specs.declared.Verdict.{Verdict}
use Rattle.rules.specs.Numbers.{lowest, some}
use Rattle.rules.specs.Blocks.{records}
use Rattle.rules.specs.Refusals.{accepted, fine, refusal, refuse_if, refuse_at, or_else, numbered, frame_verdict, records_verdict, reference_refusal, circle_refusal, link_refusal, table_verdict}
use Rattle.rules.proofs.Numbers.{either, lowest-none, some_fails, some_false}

-- no refusal has the number 0
pub numbered-some : (form : Form) (n : ℕ) → 0 < n → 0 < numbered form n
numbered-some Table n h = h
numbered-some Patch n h = omega arith

-- a verdict that was worked out is accepted where its number is 0, and refused where it is not
pub zero_accepted : (v w : Verdict) → v ≡ w → v.number ≡ 0 → accepted w ≡ true
zero_accepted v w same zero = rw (← same) (eq-eqb v.number 0 zero)

pub other_refused : (v w : Verdict) → v ≡ w → (v.number ≡ 0 → ⊥) → accepted w ≡ false
other_refused v w same other = rw (← same) (ne_eqb v.number 0 other)

-- two checks, one after the other, are accepted where both are
pub accepted_first : (v w : Verdict) → accepted (or_else v w) ≡ true → accepted v ≡ true
accepted_first v w h = either (accepted v) (λ t. t) (λ t. rw t at h)

pub accepted_second : (v w : Verdict) → accepted (or_else v w) ≡ true → accepted w ≡ true
accepted_second v w h = rw (accepted_first v w h) at h

pub accepted_both : (v w : Verdict) → accepted (or_else v w) ≡ true → (accepted v ≡ true) × (accepted w ≡ true)
accepted_both v w h = (accepted_first v w h, accepted_second v w h)

-- so an accepted table has records in which neither refusals 4 to 7 nor refusals 8 and 14 find a fault
pub accepted_parts : (image : List ℕ) → accepted (table_verdict image) ≡ true
    → (accepted (records_verdict Table (records image)) ≡ true) × (accepted (link_refusal (records image)) ≡ true)
unfolding table_verdict
accepted_parts image h =
    let rs : List (List ℕ) = records image in
    accepted_both (records_verdict Table rs) (link_refusal rs)
    (accepted_second (frame_verdict Table image) (or_else (records_verdict Table rs) (link_refusal rs)) h)

-- of which 8 finds none, and 14 none
pub linked_references : (rs : List (List ℕ)) → accepted (link_refusal rs) ≡ true → accepted (reference_refusal rs) ≡ true
linked_references rs h = accepted_first (reference_refusal rs) (circle_refusal rs) h

pub linked_circles : (rs : List (List ℕ)) → accepted (link_refusal rs) ≡ true → accepted (circle_refusal rs) ≡ true
linked_circles rs h = accepted_second (reference_refusal rs) (circle_refusal rs) h

-- and only there, as one equation
pub accepted-or_else : (v w : Verdict) → accepted (or_else v w) ≡ (accepted v && accepted w)
accepted-or_else v w = either (accepted v) (λ t. rw t) (λ t. rw t t)

-- two checks that find nothing, one after the other, find nothing
pub fine_both : (v w : Verdict) → v ≡ fine → w ≡ fine → or_else v w ≡ fine
fine_both v w p q = rw (p, q)

-- one test: where it is accepted there is no fault, and where there is no fault it is fine
pub no_fault : (n p : ℕ) (fault : Bool) → 0 < n → accepted (refuse_if n p fault) ≡ true → fault ≡ false
no_fault n p true some h = absurd (omega (arith, eqb-true n 0 h))
no_fault n p false some h = refl

pub fine_if : (n p : ℕ) (fault : Bool) → fault ≡ false → refuse_if n p fault ≡ fine
fine_if n p fault h = rw h

-- it is accepted exactly where there is no fault
pub accepted_unless : (n p : ℕ) (fault : Bool) → 0 < n → accepted (refuse_if n p fault) ≡ not fault
accepted_unless n p true some = ne_eqb n 0 (λ e. omega arith)
accepted_unless n p false some = refl

-- a test at each place below count: where it is accepted there is no fault at any, and where there is none it is fine
pub no_fault_at : (n : ℕ) (fault : ℕ → Bool) (count : ℕ) → 0 < n → accepted (refuse_at n fault count) ≡ true
    → (k : ℕ) → k < count → fault k ≡ false
no_fault_at n fault count positive h k l =
    some_fails fault count k l (no_fault n (lowest fault count) (some fault count) positive h)

pub fine_at : (n : ℕ) (fault : ℕ → Bool) (count : ℕ) → ((k : ℕ) → k < count → fault k ≡ false)
    → refuse_at n fault count ≡ fine
fine_at n fault count h =
    fine_if n (lowest fault count) (some fault count) (some_false fault count (lowest-none fault count h))

-- so a test, or a test at each place, that is accepted is fine
pub accepted_if : (n p : ℕ) (fault : Bool) → 0 < n → accepted (refuse_if n p fault) ≡ true → refuse_if n p fault ≡ fine
accepted_if n p fault positive h = fine_if n p fault (no_fault n p fault positive h)

pub accepted_at : (n : ℕ) (fault : ℕ → Bool) (count : ℕ) → 0 < n → accepted (refuse_at n fault count) ≡ true
    → refuse_at n fault count ≡ fine
accepted_at n fault count positive h = accepted_if n (lowest fault count) (some fault count) positive h

-- a refusal hides what comes after it
pub or_else-refusal : (n p : ℕ) (w : Verdict) → 0 < n → or_else (refusal n p) w ≡ refusal n p
or_else-refusal n p w h = rw (ne_eqb n 0 (λ e. omega arith))

-- the lowest place with a fault is the refusal's, and a count without one is fine
pub refuse_at_found : (n : ℕ) (fault : ℕ → Bool) (count i : ℕ) → lowest fault count ≡ i → i < count
    → refuse_at n fault count ≡ refusal n i
refuse_at_found n fault count i e h = rw (e, lt-ltb i count h)

pub refuse_at-none : (n : ℕ) (fault : ℕ → Bool) (count : ℕ) → lowest fault count ≡ count → refuse_at n fault count ≡ fine
refuse_at-none n fault count e = rw (e, le-ltb count count (omega arith))
