-- A record whose byte 0, n, is read as a kind is of that kind, and one whose byte 0 is not read as one is of none.
use Prim.Native.Nat.{ℕ, ◌≤◌, ◌<◌}
use mathlib.Core.Bool.{true, false, and-false}
use mathlib.Core.Path.{◌≡◌, refl}
use mathlib.Core.Logic.{◌⊎◌, inl, inr}
use native.Mathlib.Omega.{arith}
use borrow.Author.Tests.{ne_eqb, lt-leb}
use lib.Dec.{eqb, leb}
use Rattle.rules.specs.declared.Kind.{Kind}
use Rattle.rules.specs.declared.Kind.TheVariants.{Transaction, Task, Pair}
use Rattle.rules.specs.Numbers.{between}
use Rattle.rules.specs.Kinds.{kind_number}

pub kind_is : {n byte : ℕ} {kind k : Kind} → byte ≡ n → kind_number kind ≡ byte → kind ≡ k → n ≡ kind_number k
kind_is read number is = rw (← read, ← number, is)

pub kind_none : {n byte : ℕ} → byte ≡ n → (byte ≡ 0) ⊎ (3 < byte) → (k : ℕ) → 1 ≤ k → k ≤ 3 → eqb n k ≡ false
kind_none {n} read (inl e) k least most = ne_eqb n k (λ same. omega arith)
kind_none {n} read (inr e) k least most = ne_eqb n k (λ same. omega arith)

-- one of the three numbers, or not
pub kind_known : {n byte : ℕ} (kind : Kind) → byte ≡ n → kind_number kind ≡ byte → between 1 n 3 ≡ true
kind_known kind read number = rw (← read, ← number) (each kind)
  where
    each : (kind : Kind) → between 1 (kind_number kind) 3 ≡ true
    each Transaction = refl
    each Task = refl
    each Pair = refl

pub kind_unknown : {n byte : ℕ} → byte ≡ n → (byte ≡ 0) ⊎ (3 < byte) → between 1 n 3 ≡ false
kind_unknown read (inl e) = rw (← read, e)
kind_unknown {n} {byte} read (inr e) = rw (← read, lt-leb byte 3 e) (and-false (leb 1 byte))

pub kind_bounds : (kind : Kind) → (1 ≤ kind_number kind) × (kind_number kind ≤ 3)
kind_bounds Transaction = (omega arith, omega arith)
kind_bounds Task = (omega arith, omega arith)
kind_bounds Pair = (omega arith, omega arith)
