-- Numbers read from bytes, and what is asked of the numbers from 0 up to n.
use Rattle.std.specs.Prelude.{ℕ, zero, suc, ◌+◌, ◌*◌, ◌<◌, max, List, [], ◌∷◌, ◌++◌, Bool, cond, ◌&&◌, not, get_or, leb, ltb, eqb}

-- each element is a byte, as in every slice of bytes
abbrev pub Bytes : List ℕ → Type 0
Bytes s = (k : ℕ) → get_or s k 0 < 256

-- a little-endian number of two and of four bytes, at place k
abbrev pub le2 : List ℕ → ℕ → ℕ
le2 s k = get_or s k 0 + 256 * get_or s (k + 1) 0

abbrev pub le4 : List ℕ → ℕ → ℕ
le4 s k = le2 s k + 65536 * le2 s (k + 2)

-- low <= x <= high
abbrev pub between : ℕ → ℕ → ℕ → Bool
between low x high = leb low x && leb x high

-- f 0, f 1, .., f (n - 1)
unfoldable pub up_to {ℓ} : {A : Type ℓ} → (ℕ → A) → ℕ → List A
up_to f zero = []
up_to f (suc n) = up_to f n ++ (f n ∷ [])

-- f 0 + f 1 + .. + f (n - 1)
unfoldable pub sum_to : (ℕ → ℕ) → ℕ → ℕ
sum_to f zero = 0
sum_to f (suc n) = sum_to f n + f n

-- f 0 * f 1 * .. * f (n - 1)
unfoldable pub product_to : (ℕ → ℕ) → ℕ → ℕ
product_to f zero = 1
product_to f (suc n) = product_to f n * f n

-- the largest of f 0, .., f (n - 1), or 0 where there is none
unfoldable pub largest_to : (ℕ → ℕ) → ℕ → ℕ
largest_to f zero = 0
largest_to f (suc n) = max (largest_to f n) (f n)

-- how many k below n pass the test
abbrev pub count_to : (ℕ → Bool) → ℕ → ℕ
count_to test n = sum_to (λ k. cond (test k) 1 0) n

-- the lowest k below n that passes the test, or n
unfoldable pub lowest : (ℕ → Bool) → ℕ → ℕ
lowest test zero = zero
lowest test (suc n) = cond (ltb (lowest test n) n) (lowest test n) (cond (test n) n (suc n))

-- some k below n passes the test
abbrev pub some : (ℕ → Bool) → ℕ → Bool
some test n = ltb (lowest test n) n

-- the count bytes from start on are zero
unfoldable pub blank : List ℕ → ℕ → ℕ → Bool
blank s start count = not (some (λ k. not (eqb (get_or s (start + k) 0) 0)) count)
