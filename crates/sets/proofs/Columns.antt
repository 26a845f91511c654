-- Laws of 64 values that are filled in from the front, and of columns, where they are numbers.
use Prim.Native.Nat.{ℕ, ◌+◌, ◌≤◌, ◌<◌}
use mathlib.Core.List.{List}
use mathlib.Core.Bool.{cond}
use mathlib.Core.Path.{◌≡◌, ap, sym, ◌∙◌}
use native.Mathlib.Omega.{arith}
use borrow.Author.Tests.{lt-ltb, le-ltb, ltb-true, ltb-false, eqb-true, eqb-false}
use lib.ListN.{length, get_or, set, replicate, length-set, length-replicate, get_or-replicate, get_or-eq_default}
use lib.Seq.{ext_get_or, get_or-set_same, get_or-set_other}
use lib.Dec.{ltb, eqb}
use Rattle.rules.proofs.Numbers.{either, length-up_to, get_or-up_to}
use Rattle.sets.specs.Bits.{column, filled}

-- 64 values, of any kind
module _ {A : Type 0} (beyond : A) where
  pub filled-length : (n : ℕ) (f : ℕ → A) → length (filled beyond n f) ≡ 64
  unfolding filled
  filled-length n f = length-up_to (λ i. cond (ltb i n) (f i) beyond) 64

  -- what stands at a place of the 64
  filled_here : (n : ℕ) (f : ℕ → A) (i : ℕ) → i < 64 → get_or (filled beyond n f) i beyond ≡ cond (ltb i n) (f i) beyond
  unfolding filled
  filled_here n f i h = get_or-up_to (λ i. cond (ltb i n) (f i) beyond) 64 i beyond h

  -- nothing is filled in at first
  pub filled-none : (f : ℕ → A) → replicate 64 beyond ≡ filled beyond 0 f
  filled-none f =
      ext_get_or beyond (replicate 64 beyond) (filled beyond 0 f) (length-replicate 64 beyond ∙ sym (filled-length 0 f))
      (λ i h.
      let inside : i < 64 = omega (arith, length-replicate 64 beyond) in
      get_or-replicate 64 i beyond beyond inside ∙ sym (filled_here 0 f i inside ∙ rw (le-ltb i 0 (omega arith))))

  -- one more place is filled in
  pub filled_more : (n : ℕ) (f : ℕ → A) → n < 64 → set (filled beyond n f) n (f n) ≡ filled beyond (n + 1) f
  filled_more n f most =
      ext_get_or beyond (set (filled beyond n f) n (f n)) (filled beyond (n + 1) f)
      (length-set (filled beyond n f) n (f n) ∙ filled-length n f ∙ sym (filled-length (n + 1) f))
      (λ i h.
      let inside : i < 64 = omega (arith, length-set (filled beyond n f) n (f n), filled-length n f) in
      either (eqb i n)
      (λ t.
      let same = eqb-true i n t in
      rw same
      (get_or-set_same (filled beyond n f) n (f n) beyond (omega (arith, filled-length n f))
      ∙ sym (filled_here (n + 1) f n most ∙ rw (lt-ltb n (n + 1) (omega arith)))))
      (λ t.
      let other = eqb-false i n t in
      get_or-set_other (filled beyond n f) n i (f n) beyond other
      ∙ filled_here n f i inside
      ∙ either (ltb i n)
      (λ u. rw (u, filled_here (n + 1) f i inside, lt-ltb i (n + 1) (omega (arith, ltb-true i n u))))
      (λ u. rw (u, filled_here (n + 1) f i inside, le-ltb i (n + 1) (omega (arith, ltb-false i n u))))))

pub column-length : (n : ℕ) (f : ℕ → ℕ) → length (column n f) ≡ 64
column-length = filled-length 0

-- so what is one has 64 numbers
pub column_long : {l : List ℕ} (n : ℕ) (f : ℕ → ℕ) → l ≡ column n f → length l ≡ 64
column_long n f e = ap length e ∙ column-length n f

-- what stands at a place of them
column_here : (n : ℕ) (f : ℕ → ℕ) (i : ℕ) → i < 64 → get_or (column n f) i 0 ≡ cond (ltb i n) (f i) 0
column_here = filled_here 0

pub column_at : (n : ℕ) (f : ℕ → ℕ) (i : ℕ) → n ≤ 64 → i < n → get_or (column n f) i 0 ≡ f i
column_at n f i most h = column_here n f i (omega arith) ∙ rw (lt-ltb i n h)

column_beyond : (n : ℕ) (f : ℕ → ℕ) (i : ℕ) → n ≤ i → i < 64 → get_or (column n f) i 0 ≡ 0
column_beyond n f i past h = column_here n f i h ∙ rw (le-ltb i n past)

-- a column of a function that is 0 beyond n is the function
pub column_total : (n : ℕ) (f : ℕ → ℕ) → n ≤ 64 → ((i : ℕ) → n ≤ i → f i ≡ 0) → (i : ℕ) → get_or (column n f) i 0 ≡ f i
column_total n f few beyond i =
    either (ltb i n)
    (λ t. column_at n f i few (ltb-true i n t))
    (λ t.
    let out = ltb-false i n t in
    either (ltb i 64)
    (λ u. column_beyond n f i out (ltb-true i 64 u) ∙ sym (beyond i out))
    (λ u.
    let past : length (column n f) ≤ i = omega (arith, column-length n f, ltb-false i 64 u) in
    get_or-eq_default (column n f) 0 past ∙ sym (beyond i out)))

-- a column of zeros
pub column_zero : (n : ℕ) (f : ℕ → ℕ) → ((i : ℕ) → i < n → f i ≡ 0) → replicate 64 0 ≡ column n f
column_zero n f zeros =
    ext_get_or 0 (replicate 64 0) (column n f) (length-replicate {A = ℕ} 64 0 ∙ sym (column-length n f))
    (λ i h.
    let inside : i < 64 = omega (arith, length-replicate {A = ℕ} 64 0) in
    get_or-replicate {A = ℕ} 64 i 0 0 inside
    ∙ sym
    (column_here n f i inside
    ∙ either (ltb i n) (λ t. rw t (zeros i (ltb-true i n t))) (λ t. rw t)))

-- nothing is filled in at first
pub column-none : (f : ℕ → ℕ) → replicate 64 0 ≡ column 0 f
column-none = filled-none 0

-- a column with a value written at its next place
pub column_filled : (n : ℕ) (f : ℕ → ℕ) (l : List ℕ) (x : ℕ) → n < 64 → l ≡ column n f → x ≡ f n → set l n x ≡ column (n + 1) f
column_filled n f l x most e here = rw (e, here) (filled_more 0 n f most)

-- another number at one of its places
pub column-set : (n : ℕ) (f g : ℕ → ℕ) (a x : ℕ) → n ≤ 64 → a < n → ((i : ℕ) → i < n → (i ≡ a → ⊥) → f i ≡ g i) → x ≡ g a
    → set (column n f) a x ≡ column n g
column-set n f g a x most h same here =
    ext_get_or 0 (set (column n f) a x) (column n g) (length-set (column n f) a x ∙ column-length n f ∙ sym (column-length n g))
    (λ i l.
    let inside : i < 64 = omega (arith, length-set (column n f) a x, column-length n f) in
    either (eqb i a)
    (λ t.
    let at = eqb-true i a t in
    rw at (get_or-set_same (column n f) a x 0 (omega (arith, column-length n f)) ∙ here ∙ sym (column_at n g a most h)))
    (λ t.
    let other = eqb-false i a t in
    get_or-set_other (column n f) a i x 0 other
    ∙ column_here n f i inside
    ∙ either (ltb i n)
    (λ u. rw (u, column_here n g i inside, u) (same i (ltb-true i n u) other))
    (λ u. rw (u, column_here n g i inside, u))))
