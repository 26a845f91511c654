-- Numbers and ids of records, read into an array.
use Rattle.std.specs.Prelude.{ℕ, ◌+◌, ◌≤◌, ◌<◌, List, [], ◌≡◌, length, get_or, eqb}
use Rattle.rules.specs.Numbers.{lowest}
use Rattle.rules.specs.Blocks.{record_at}
use Rattle.rules.specs.Records.{number_of}

-- the first count numbers rise strictly
abbrev pub Rising : List ℕ → ℕ → Type 0
Rising numbers count = (i j : ℕ) → i < j → j < count → get_or numbers i 0 < get_or numbers j 0

-- the place of a number among the first count, or count
abbrev pub place_among : List ℕ → ℕ → ℕ → ℕ
place_among numbers count x = lowest (λ k. eqb (get_or numbers k 0) x) count

-- the place of a number among the bytes 2-3 of count records from first on, or count
abbrev pub place_from : List ℕ → ℕ → ℕ → ℕ → ℕ
place_from image first count x = lowest (λ k. eqb (number_of (record_at image (first + k))) x) count

-- of count records from first on, bytes 2-3
pub record NumbersRead (image : List ℕ) (first count : ℕ) (numbers : List ℕ) : Type 0 where
  pub size : length numbers ≡ 64
  pub right : (k : ℕ) → k < count → get_or numbers k 0 ≡ number_of (record_at image (first + k))

-- the first count numbers are those of the listed records, and they rise
pub record Directory (listed : List (List ℕ)) (numbers : List ℕ) (count : ℕ) : Type 0 where
  pub counted : count ≡ length listed
  pub room : count ≤ length numbers
  pub right : (k : ℕ) → k < count → get_or numbers k 0 ≡ number_of (get_or listed k [])
  pub rising : Rising numbers count
