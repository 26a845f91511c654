-- Rows of bits, and columns of numbers by place.
use Rattle.std.specs.Prelude.{ℕ, ◌^◌, List, Bool, cond, ltb, eqb, get_or, set}
use Rattle.std.specs.Int.Bits.{bit_or}
use Rattle.rules.specs.Numbers.{up_to}

-- the place's number is this one
abbrev pub has_number : List ℕ → ℕ → ℕ → Bool
has_number numbers number j = eqb (get_or numbers j 0) number

-- 64 values: f 0, .., f (n - 1), and the same other value beyond
unfoldable pub filled : {A : Type 0} → A → ℕ → (ℕ → A) → List A
filled beyond n f = up_to (λ i. cond (ltb i n) (f i) beyond) 64

-- 64 numbers: f 0, .., f (n - 1), and 0 beyond
abbrev pub column : ℕ → (ℕ → ℕ) → List ℕ
column = filled 0

-- rows with bit j of row i set besides
abbrev pub with_cell : List ℕ → ℕ → ℕ → List ℕ
with_cell rows i j = set rows i (bit_or (get_or rows i 0) (2 ^ j))
