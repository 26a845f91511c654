-- Laws of what is asked of the numbers from 0 up to n.
use Prim.Native.Nat.{ℕ, zero, suc, ◌+◌, ◌*◌, ◌≤◌, ◌<◌, max}
use mathlib.Core.List.{List, [], ◌∷◌, ◌++◌}
use mathlib.Core.Bool.{Bool, true, false, cond, ◌||◌}
use mathlib.Core.Path.{◌≡◌, refl, ◌∙◌}
use native.Mathlib.Numerals.{add-one}
use native.Mathlib.Omega.{arith}
use borrow.Author.Tests.{ltb-true, ltb-false, lt-ltb, le-ltb}
use lib.ListN.{length, get_or, set, length-append, get_or-append}
use lib.Seq.{get_or_at, get_or-set_same, get_or-set_other}
use lib.Dec.{ltb}
use Rattle.rules.specs.Numbers.{up_to, sum_to, product_to, largest_to, count_to, lowest, some}

-- either way of a test
pub either {ℓ} : {P : Type ℓ} (b : Bool) → (b ≡ true → P) → (b ≡ false → P) → P
either true yes' no' = yes' refl
either false yes' no' = no' refl

-- no test goes both ways
pub never {ℓ} : {P : Type ℓ} (b : Bool) → b ≡ true → b ≡ false → P
never b y n = let z : ◌≡◌ {A = ℕ} 0 1 = cc in absurd (omega arith)

-- one step of each definition, at the code's i + 1
pub up_to_step {ℓ} : {A : Type ℓ} (f : ℕ → A) (i : ℕ) → up_to f (i + 1) ≡ up_to f i ++ (f i ∷ [])
unfolding up_to
up_to_step f i = rw add-one

pub sum_to_step : (f : ℕ → ℕ) (i : ℕ) → sum_to f (i + 1) ≡ sum_to f i + f i
unfolding sum_to
sum_to_step f i = rw add-one

pub largest_to_step : (f : ℕ → ℕ) (i : ℕ) → largest_to f (i + 1) ≡ max (largest_to f i) (f i)
unfolding largest_to
largest_to_step f i = rw add-one

-- a list made by up_to has its length and its elements
pub length-up_to {ℓ} : {A : Type ℓ} (f : ℕ → A) (n : ℕ) → length (up_to f n) ≡ n
unfolding up_to
length-up_to f zero = refl
length-up_to f (suc n) = length-append (up_to f n) (f n ∷ []) ∙ omega (arith, length-up_to f n)

pub get_or-up_to {ℓ} : {A : Type ℓ} (f : ℕ → A) (n i : ℕ) (d : A) → i < n → get_or (up_to f n) i d ≡ f i
unfolding up_to
get_or-up_to f zero i d h = absurd (omega arith)
get_or-up_to f (suc n) i d h =
    either (ltb i n)
    (λ t. get_or-append (up_to f n) (f n ∷ []) d i (rw (length-up_to f n) (ltb-true i n t)) ∙ get_or-up_to f n i d (ltb-true i n t))
    (λ t.
    let e : i ≡ n = omega (arith, ltb-false i n t) in
    rw e (get_or_at (up_to f n) (f n) [] d n (length-up_to f n)))

-- sums of equal numbers are equal
pub sum_to_ext : (f g : ℕ → ℕ) (n : ℕ) → ((i : ℕ) → i < n → f i ≡ g i) → sum_to f n ≡ sum_to g n
unfolding sum_to
sum_to_ext f g zero h = refl
sum_to_ext f g (suc n) h = rw (sum_to_ext f g n (λ i l. h i (omega arith)), h n (omega arith))

-- lists of equal elements are equal
pub up_to_ext {ℓ} : {A : Type ℓ} (f g : ℕ → A) (n : ℕ) → ((i : ℕ) → i < n → f i ≡ g i) → up_to f n ≡ up_to g n
unfolding up_to
up_to_ext f g zero h = refl
up_to_ext f g (suc n) h = rw (up_to_ext f g n (λ i l. h i (omega arith)), h n (omega arith))

-- each number is at most the largest
pub largest_to_most : (f : ℕ → ℕ) (n i : ℕ) → i < n → f i ≤ largest_to f n
unfolding largest_to
largest_to_most f zero i h = absurd (omega arith)
largest_to_most f (suc n) i h =
    either (ltb i n)
    (λ t. omega (arith, largest_to_most f n i (ltb-true i n t)))
    (λ t.
    let e : i ≡ n = omega (arith, ltb-false i n t) in
    rw e (omega arith))

-- the lowest is n, or below n and passes the test
pub lowest_le : (test : ℕ → Bool) (n : ℕ) → lowest test n ≤ n
unfolding lowest
lowest_le test zero = omega arith
lowest_le test (suc n) =
    either (ltb (lowest test n) n)
    (λ t. rw t (omega (arith, ltb-true (lowest test n) n t)))
    (λ t. rw t (either (test n) (λ s. rw s (omega arith)) (λ s. rw s (omega arith))))

-- one more number that fails the test
pub lowest_more : (test : ℕ → Bool) (i : ℕ) → lowest test i ≡ i → test i ≡ false → lowest test (i + 1) ≡ i + 1
unfolding lowest
lowest_more test i all fails = rw (add-one, le-ltb (lowest test i) i (omega arith), fails)

-- the first number that passes the test is the lowest
pub lowest_here : (test : ℕ → Bool) (i n : ℕ) → lowest test i ≡ i → test i ≡ true → i < n → lowest test n ≡ i
unfolding lowest
lowest_here test i zero all passes h = absurd (omega arith)
lowest_here test i (suc n) all passes h =
    either (ltb i n)
    (λ t.
    let below = lowest_here test i n all passes (ltb-true i n t) in
    rw (below, t))
    (λ t.
    let e : n ≡ i = omega (arith, ltb-false i n t) in
    rw (e, all, le-ltb i i (omega arith), passes))

-- what the lowest says of the test: it passes there, and at nothing below
pub lowest_passes : (test : ℕ → Bool) (n : ℕ) → lowest test n < n → test (lowest test n) ≡ true
unfolding lowest
lowest_passes test zero h = absurd (omega arith)
lowest_passes test (suc n) h =
    either (ltb (lowest test n) n)
    (λ t. rw t (lowest_passes test n (ltb-true (lowest test n) n t)))
    (λ t. either (test n) (λ s. rw (t, s) s) (λ s. absurd (omega (arith, rw (t, s) at h))))

pub lowest_below : (test : ℕ → Bool) (n k : ℕ) → k < lowest test n → test k ≡ false
unfolding lowest
lowest_below test zero k h = absurd (omega arith)
lowest_below test (suc n) k h =
    either (ltb (lowest test n) n)
    (λ t. lowest_below test n k (rw t at h))
    (λ t.
    let all : lowest test n ≡ n = omega (arith, ltb-false (lowest test n) n t, lowest_le test n) in
    either (test n)
    (λ s. lowest_below test n k (rw all (rw (t, s) at h)))
    (λ s.
    either (ltb k n)
    (λ l. lowest_below test n k (rw all (ltb-true k n l)))
    (λ l.
    let h' : k < suc n = rw (t, s) at h in
    let e : k ≡ n = omega (arith, ltb-false k n l) in
    rw e s)))

-- no number below n passes the test
pub lowest-none : (test : ℕ → Bool) (n : ℕ) → ((k : ℕ) → k < n → test k ≡ false) → lowest test n ≡ n
unfolding lowest
lowest-none test zero h = refl
lowest-none test (suc n) h =
    rw (le-ltb (lowest test n) n (omega (arith, lowest-none test n (λ k l. h k (omega arith)))), h n (omega arith))

-- some number passes the test, or none does
pub some_true : (test : ℕ → Bool) (n k : ℕ) → k < n → test k ≡ true → some test n ≡ true
some_true test n k h passes =
    either (ltb (lowest test n) n)
    (λ t. t)
    (λ t. never (test k) passes (lowest_below test n k (omega (arith, ltb-false (lowest test n) n t))))

pub some_false : (test : ℕ → Bool) (n : ℕ) → lowest test n ≡ n → some test n ≡ false
some_false test n e = le-ltb (lowest test n) n (omega arith)

-- one more number that is asked
pub some_more : (test : ℕ → Bool) (n : ℕ) → some test (n + 1) ≡ (some test n || test n)
unfolding lowest
some_more test n =
    rw add-one
    (either (ltb (lowest test n) n)
    (λ t. rw (t, lt-ltb (lowest test n) (suc n) (omega (arith, ltb-true (lowest test n) n t))))
    (λ t.
    rw t
    (either (test n)
    (λ u. rw (u, lt-ltb n (suc n) (omega arith)))
    (λ u. rw (u, le-ltb (suc n) (suc n) (omega arith))))))

-- where none passes, each fails, and where some passes, it has a place
pub some_fails : (test : ℕ → Bool) (n k : ℕ) → k < n → some test n ≡ false → test k ≡ false
some_fails test n k h none = either (test k) (λ t. never (some test n) (some_true test n k h t) none) (λ t. t)

pub some_place : (test : ℕ → Bool) (n : ℕ) → some test n ≡ true → (k : ℕ) × (k < n) × (test k ≡ true)
some_place test n h =
    let below = ltb-true (lowest test n) n h in
    (lowest test n, below, lowest_passes test n below)

-- below 0 nothing passes
pub lowest_zero : (test : ℕ → Bool) → lowest test 0 ≡ 0
unfolding lowest
lowest_zero test = refl

-- below 0 there is nothing to add up
pub sum_to_zero : (f : ℕ → ℕ) → sum_to f 0 ≡ 0
unfolding sum_to
sum_to_zero f = refl

-- one more number that passes the test, or fails it
pub count_to_passes : (test : ℕ → Bool) (n : ℕ) → test n ≡ true → count_to test (n + 1) ≡ count_to test n + 1
count_to_passes test n e = sum_to_step (λ k. cond (test k) 1 0) n ∙ rw e

pub count_to_fails : (test : ℕ → Bool) (n : ℕ) → test n ≡ false → count_to test (n + 1) ≡ count_to test n
count_to_fails test n e = sum_to_step (λ k. cond (test k) 1 0) n ∙ rw e (omega arith)

-- no more numbers pass a test than there are
pub count_to_le : (test : ℕ → Bool) (n : ℕ) → count_to test n ≤ n
unfolding sum_to
count_to_le test zero = omega arith
count_to_le test (suc n) =
    either (test n)
    (λ t. rw t (omega (arith, count_to_le test n)))
    (λ t. rw t (omega (arith, count_to_le test n)))

-- tests that agree below n have the same lowest
pub lowest_ext : (test other : ℕ → Bool) (n : ℕ) → ((k : ℕ) → k < n → test k ≡ other k) → lowest test n ≡ lowest other n
unfolding lowest
lowest_ext test other zero h = refl
lowest_ext test other (suc n) h = rw (lowest_ext test other n (λ k l. h k (omega arith)), h n (omega arith))

-- and pass somewhere together
pub some_ext : (test other : ℕ → Bool) (n : ℕ) → ((k : ℕ) → k < n → test k ≡ other k) → some test n ≡ some other n
some_ext test other n h = rw (lowest_ext test other n h)

-- one more value stored at the end of what is known
pub set_next : (f : ℕ → ℕ) (l : List ℕ) (k v : ℕ) → k < length l → ((i : ℕ) → i < k → get_or l i 0 ≡ f i) → v ≡ f k
    → (i : ℕ) → i < k + 1 → get_or (set l k v) i 0 ≡ f i
set_next f l k v inside known here i h =
    either (ltb i k)
    (λ t.
    let below = ltb-true i k t in
    get_or-set_other l k i v 0 (λ e. omega arith) ∙ known i below)
    (λ t.
    let e : i ≡ k = omega (arith, ltb-false i k t) in
    rw e (get_or-set_same l k v 0 inside ∙ here))

-- a sum over more numbers is no smaller
pub sum_to-longer : (f : ℕ → ℕ) (p m : ℕ) → p ≤ m → sum_to f p ≤ sum_to f m
unfolding sum_to
sum_to-longer f p zero h = let e : p ≡ 0 = omega arith in rw e (omega arith)
sum_to-longer f p (suc m) h =
    either (ltb m p)
    (λ t.
    let e : p ≡ suc m = omega (arith, ltb-true m p t) in
    rw e (omega arith))
    (λ t. omega (arith, sum_to-longer f p m (ltb-false m p t)))

-- a sum whose terms are no smaller
pub sum_to_least : (f g : ℕ → ℕ) (n : ℕ) → ((t : ℕ) → t < n → g t ≤ f t) → sum_to g n ≤ sum_to f n
unfolding sum_to
sum_to_least f g zero all = omega arith
sum_to_least f g (suc n) all = omega (arith, all n (omega arith), sum_to_least f g n (λ t h. all t (omega arith)))

-- and one of them larger by x
pub sum_to_more : (f g : ℕ → ℕ) (n k x : ℕ) → ((t : ℕ) → g t ≤ f t) → k < n → g k + x ≤ f k → sum_to g n + x ≤ sum_to f n
unfolding sum_to
sum_to_more f g zero k x all h more = absurd (omega arith)
sum_to_more f g (suc n) k x all h more =
    either (ltb k n)
    (λ t. omega (arith, all n, sum_to_more f g n k x all (ltb-true k n t) more))
    (λ t.
    let e : n ≡ k = omega (arith, ltb-false k n t) in
    rw e (omega (arith, sum_to_least f g k (λ i l. all i))))

-- numbers that are 0 add nothing
pub sum_to_rest : (f : ℕ → ℕ) (m n : ℕ) → m ≤ n → ((t : ℕ) → m ≤ t → t < n → f t ≡ 0) → sum_to f n ≡ sum_to f m
unfolding sum_to
sum_to_rest f m zero h zeros =
    let e : m ≡ 0 = omega arith in
    rw e
sum_to_rest f m (suc n) h zeros =
    either (ltb n m)
    (λ t.
    let e : m ≡ suc n = omega (arith, ltb-true n m t) in
    rw e)
    (λ t.
    let low : m ≤ n = ltb-false n m t in
    omega (arith, zeros n low (omega arith), sum_to_rest f m n low (λ k l below. zeros k l (omega arith))))

-- numbers that are at most 65,535 each
pub sum_to_light : (f : ℕ → ℕ) (n : ℕ) → ((t : ℕ) → t < n → f t ≤ 65535) → sum_to f n ≤ 65535 * n
unfolding sum_to
sum_to_light f zero light = omega arith
sum_to_light f (suc n) light = omega (arith, light n (omega arith), sum_to_light f n (λ t h. light t (omega arith)))

-- the largest is one of those added up
pub largest_to-sum : (f : ℕ → ℕ) (n : ℕ) → largest_to f n ≤ sum_to f n
unfolding sum_to largest_to
largest_to-sum f zero = omega arith
largest_to-sum f (suc n) = omega (arith, largest_to-sum f n)

-- two sums are one
pub sum_to_both : (f g : ℕ → ℕ) (n : ℕ) → sum_to (λ t. f t + g t) n ≡ sum_to f n + sum_to g n
unfolding sum_to
sum_to_both f g zero = refl
sum_to_both f g (suc n) = omega (arith, sum_to_both f g n)

-- a sum of which one number is exchanged for another
pub sum_to_changed : (f g : ℕ → ℕ) (n k : ℕ) → k < n → ((i : ℕ) → (i ≡ k → ⊥) → g i ≡ f i)
    → sum_to g n + f k ≡ sum_to f n + g k
unfolding sum_to
sum_to_changed f g zero k h others = absurd (omega arith)
sum_to_changed f g (suc n) k h others =
    either (ltb k n)
    (λ t.
    let below = ltb-true k n t in
    omega (arith, sum_to_changed f g n k below others, others n (λ e. omega arith)))
    (λ t.
    let e : n ≡ k = omega (arith, ltb-false k n t) in
    rw (e, sum_to_ext g f k (λ i l. others i (λ at_k. omega arith))) (omega arith))

-- what counts for at most one of the numbers counts at most once
pub sum_to_once : (test : ℕ → Bool) (x n : ℕ) → ((t u : ℕ) → t < n → u < n → test t ≡ true → test u ≡ true → t ≡ u)
    → sum_to (λ t. cond (test t) x 0) n ≤ x
unfolding sum_to
sum_to_once test x zero one = omega arith
sum_to_once test x (suc n) one =
    either (test n)
    (λ here.
    let others : (t : ℕ) → t < n → cond (test t) x 0 ≡ 0 = λ t h. either (test t) (λ there. absurd (omega (arith, one t n (omega arith) (omega arith) there here))) (λ not_there. rw not_there) in
    rw here (omega (arith, sum_to_rest (λ t. cond (test t) x 0) 0 n (omega arith) (λ t l h. others t h))))
    (λ not_here. rw not_here (omega (arith, sum_to_once test x n (λ t u h k. one t u (omega arith) (omega arith)))))

-- what counts the same for each number that passes a test counts so many times
pub sum_to_passed : (test : ℕ → Bool) (x n : ℕ) → sum_to (λ t. cond (test t) x 0) n ≡ count_to test n * x
unfolding sum_to
sum_to_passed test x zero = omega arith
sum_to_passed test x (suc n) =
    either (test n)
    (λ t. rw t (omega (arith, sum_to_passed test x n)))
    (λ t. rw t (omega (arith, sum_to_passed test x n)))

-- f m * f (m + 1) * .. * f (m + k - 1), k numbers from m on
unfoldable pub product_from : (ℕ → ℕ) → ℕ → ℕ → ℕ
product_from f m zero = 1
product_from f m (suc k) = f m * product_from f (m + 1) k

-- a product is that of its first numbers times that of the others
pub product_parts : (f : ℕ → ℕ) (m k : ℕ) → product_to f m * product_from f m k ≡ product_to f (m + k)
unfolding product_to product_from
product_parts f m zero =
    let same : m + 0 ≡ m = omega arith in
    rw same (omega arith)
product_parts f m (suc k) =
    let step : product_to f (m + 1) ≡ product_to f m * f m = rw add-one in
    let same : m + suc k ≡ m + 1 + k = omega arith in
    rw same (omega (arith, rw step at (product_parts f (m + 1) k)))

-- and all of it is that from 0 on
pub product_whole : (f : ℕ → ℕ) (k : ℕ) → product_from f 0 k ≡ product_to f k
unfolding product_to
product_whole f k =
    let same : 0 + k ≡ k = omega arith in
    omega (arith, rw same at (product_parts f 0 k))
