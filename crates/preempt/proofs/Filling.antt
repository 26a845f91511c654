-- Numbers written at one place of some columns of a flat list, whose columns of 64 stand one behind the other: each stands in its column. The columns of a table are arrays of their own; what is said here is of any flat list.
use Prim.Native.Nat.{ℕ, zero, suc, ◌+◌, ◌*◌, ◌-◌, ◌≤◌, ◌<◌}
use mathlib.Core.List.{List, [], ◌∷◌}
use mathlib.Core.Path.{◌≡◌, refl, ap, sym, ◌∙◌}
use native.Mathlib.Omega.{arith}
use lib.ListN.{length, get_or, set, take, drop}
use lib.Seq.{drop-set-add, drop-set-lt, take-set-lt, take-set-le}

-- column m of a flat list
abbrev pub column_in : ℕ → List ℕ → List ℕ
column_in m columns = take 64 (drop (64 * m) columns)

-- a number written at a place of a column
part_same : (m : ℕ) (l : List ℕ) (i x : ℕ) → i < 64 → column_in m (set l (64 * m + i) x) ≡ set (column_in m l) i x
part_same m l i x h = ap (take 64) (drop-set-add (64 * m) l i x) ∙ take-set-lt 64 (drop (64 * m) l) i x h

-- changes no column behind it
part_behind : (m : ℕ) (l : List ℕ) (at x : ℕ) → at < 64 * m → column_in m (set l at x) ≡ column_in m l
part_behind m l at x h = ap (take 64) (drop-set-lt (64 * m) l at x h)

-- and none before it
part_before : (m : ℕ) (l : List ℕ) (at x : ℕ) → 64 * m + 64 ≤ at → column_in m (set l at x) ≡ column_in m l
part_before m l at x h =
    let further : at ≡ 64 * m + (at - 64 * m) = omega arith in
    ap (λ (n : ℕ). column_in m (set l n x)) further
    ∙ ap (take 64) (drop-set-add (64 * m) l (at - 64 * m) x)
    ∙ take-set-le 64 (drop (64 * m) l) (at - 64 * m) x (omega arith)

-- numbers written at one place of the columns from column k on, one number in each
abbrev pub put : ℕ → List ℕ → ℕ → List ℕ → List ℕ
put k l i [] = l
put k l i (x ∷ xs) = put (k + 1) (set l (64 * k + i) x) i xs

-- change no column before them
put_before : (k : ℕ) (l : List ℕ) (i : ℕ) (xs : List ℕ) (m : ℕ) → m < k → column_in m (put k l i xs) ≡ column_in m l
put_before k l i [] m h = refl
put_before k l i (x ∷ xs) m h =
    put_before (k + 1) (set l (64 * k + i) x) i xs m (omega arith) ∙ part_before m l (64 * k + i) x (omega arith)

-- and stand each in its column
pub put_here : (k : ℕ) (l : List ℕ) (i : ℕ) (xs : List ℕ) (m : ℕ) → i < 64 → m < length xs
    → column_in (k + m) (put k l i xs) ≡ set (column_in (k + m) l) i (get_or xs m 0)
put_here k l i [] m inside h = absurd (omega arith)
put_here k l i (x ∷ xs) zero inside h =
    let same : k + 0 ≡ k = omega arith in
    rw same (put_before (k + 1) (set l (64 * k + i) x) i xs k (omega arith) ∙ part_same k l i x inside)
put_here k l i (x ∷ xs) (suc m) inside h =
    ap (λ (n : ℕ). column_in n (put (k + 1) (set l (64 * k + i) x) i xs)) next
    ∙ put_here (k + 1) (set l (64 * k + i) x) i xs m inside (omega arith)
    ∙ ap (λ (c : List ℕ). set c i (get_or xs m 0)) (part_behind (k + 1 + m) l (64 * k + i) x (omega arith) ∙ ap (λ (n : ℕ). column_in n l) (sym next))
  where
    next : k + suc m ≡ k + 1 + m
    next = omega arith
