-- The reserve that bytes say in decimal digits.
use Rattle.std.specs.Prelude.{ℕ, ◌+◌, ◌-◌, ◌*◌, List, [], ◌∷◌, Bool, true, cond, ◌&&◌, leb, ltb}

-- what stands for no reserve is one more than the largest
abbrev pub none : ℕ
none = 4294967296

abbrev pub is_digit : ℕ → Bool
is_digit byte = leb 48 byte && leb byte 57

abbrev pub are_digits : List ℕ → Bool
are_digits [] = true
are_digits (byte ∷ rest) = is_digit byte && are_digits rest

-- a number with a digit more behind it, however large it gets
abbrev pub longer : ℕ → ℕ → ℕ
longer number byte = number * 10 + (byte - 48)

-- a number with all these digits behind it
abbrev pub decimal : ℕ → List ℕ → ℕ
decimal number [] = number
decimal number (byte ∷ rest) = decimal (longer number byte) rest

-- a number that is a reserve, or what stands for none
abbrev pub if_reserve : ℕ → ℕ
if_reserve number = cond (ltb number none) number none

-- a number with one byte more behind it, which is no reserve where the byte is no digit
abbrev pub with_digit : ℕ → ℕ → ℕ
with_digit number byte = cond (is_digit byte) (if_reserve (longer number byte)) none

-- the reserve that bytes say behind a number, and the one that they say by themselves; no bytes say 0, and the program takes no
-- empty argument
abbrev pub said_behind : ℕ → List ℕ → ℕ
said_behind number bytes = cond (are_digits bytes) (if_reserve (decimal number bytes)) none

abbrev pub said : List ℕ → ℕ
said = said_behind 0
