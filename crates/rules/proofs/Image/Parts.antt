-- Lists cut into parts of one length, and joined again.
use Prim.Native.Nat.{ℕ, zero, suc, ◌+◌, ◌*◌, ◌-◌, ◌≤◌, ◌<◌, min}
use mathlib.Core.List.{List, [], ◌∷◌, ◌++◌, append_assoc, append-nil}
use mathlib.Core.Path.{◌≡◌, refl, sym}
use native.Mathlib.Nat.{mul-zero, mul-suc}
use native.Mathlib.Omega.{arith}
use lib.ListN.{length, get_or, take, drop, replicate, length-append, length-take, length-drop, length-replicate, get_or-replicate}
use lib.Seq.{take_at, take-add, take-take, drop-drop, drop-append-add, get_or-take, get_or-drop, ext_get_or}
use Rattle.rules.specs.Numbers.{up_to}
use Rattle.rules.specs.Blocks.{joined}
use Rattle.rules.proofs.Numbers.{length-up_to, get_or-up_to}

-- each list of these is w long
abbrev pub Sized : ℕ → List (List ℕ) → Type 0
Sized w ls = (k : ℕ) → k < length ls → length (get_or ls k []) ≡ w

-- each record of these is 32 bytes long
abbrev pub Records : List (List ℕ) → Type 0
Records rs = Sized 32 rs

-- the lists behind the first are as long as all
pub sized_rest : (w : ℕ) (r : List ℕ) (rs : List (List ℕ)) → Sized w (r ∷ rs) → Sized w rs
sized_rest w r rs h = λ k l. h (suc k) (omega arith)

-- some of the records, taken from the middle, are records too
pub sized_part : (w n m : ℕ) (ls : List (List ℕ)) → Sized w ls → Sized w (take n (drop m ls))
sized_part w n m ls h k l =
    let small : k < n = omega (arith, simp length-take at l) in
    let there : m + k < length ls = omega (arith, simp (length-take, length-drop) at l) in
    rw (get_or-take n (drop m ls) k [] small, get_or-drop) (h (m + k) there)

-- a list made by up_to of parts that are w long is of such parts
pub sized_up_to : (w : ℕ) (f : ℕ → List ℕ) (n : ℕ) → ((k : ℕ) → k < n → length (f k) ≡ w) → Sized w (up_to f n)
sized_up_to w f n h k l =
    let l' : k < n = rw length-up_to at l in
    rw (get_or-up_to f n k [] l') (h k l')

-- the length of parts joined: how many they are, times the length of each
pub length-joined : (w : ℕ) (ls : List (List ℕ)) → Sized w ls → length (joined ls) ≡ w * length ls
length-joined w [] h = sym (mul-zero w)
length-joined w (r ∷ rs) h =
    let first : length r ≡ w = h zero (omega arith) in
    rw (length-append, mul-suc, length-joined w rs (sized_rest w r rs h), first) (omega arith)

-- part k of the joined list is list k
pub part_joined : (w : ℕ) (ls : List (List ℕ)) (k : ℕ) → Sized w ls → k < length ls
    → take w (drop (w * k) (joined ls)) ≡ get_or ls k []
part_joined w [] k h l = absurd (omega arith)
part_joined w (r ∷ rs) zero h l = rw mul-zero (take_at r (joined rs) w (h zero l))
part_joined w (r ∷ rs) (suc k) h l =
    let first : length r ≡ w = h zero (omega arith) in
    let further : w * suc k ≡ length r + w * k = rw (mul-suc, first) (omega arith) in
    rw (further, drop-append-add) (part_joined w rs k (sized_rest w r rs h) (omega arith))

-- one more list joined behind the others
pub joined-append : (ls ms : List (List ℕ)) → joined (ls ++ ms) ≡ joined ls ++ joined ms
joined-append [] ms = refl
joined-append (r ∷ rs) ms = rw (joined-append rs ms, append_assoc)

-- the first n parts of a list, joined, are the front of the list
pub joined_parts : (w : ℕ) (l : List ℕ) (n : ℕ) → joined (up_to (λ k. take w (drop (w * k) l)) n) ≡ take (w * n) l
unfolding up_to
joined_parts w l zero = rw mul-zero
joined_parts w l (suc n) = rw (joined-append, joined_parts w l n, append-nil, mul-suc, take-add)

-- a part of the front of a list is that part of the list
pub part_front : (n m w : ℕ) (l : List ℕ) → n + m ≤ w → take m (drop n (take w l)) ≡ take m (drop n l)
part_front zero m w l h = take-take m w l (omega arith)
part_front (suc n) m zero l h = absurd (omega arith)
part_front (suc n) m (suc w) [] h = refl
part_front (suc n) m (suc w) (x ∷ xs) h = part_front n m w xs (omega arith)

-- the front of a list, cut into three
pub three_parts : (n m k : ℕ) (l : List ℕ)
    → take (n + (m + k)) l ≡ take n l ++ (take m (drop n l) ++ take k (drop (n + m) l))
three_parts n m k l = rw (take-add, take-add m k (drop n l), drop-drop m n l)

-- the front of a list, byte by byte
pub front_bytes : (l : List ℕ) (n : ℕ) → n ≤ length l → take n l ≡ up_to (λ k. get_or l k 0) n
front_bytes l n h =
    ext_get_or 0 (take n l) (up_to (λ k. get_or l k 0) n) (simp (length-take, length-up_to) (omega arith))
    (λ k b.
    let b' : k < n = omega (arith, simp length-take at b) in
    rw (get_or-take n l k 0 b', get_or-up_to (λ j. get_or l j 0) n k 0 b'))

-- a part of zeros
pub zero_part : (l : List ℕ) (m n : ℕ) → m + n ≤ length l → ((k : ℕ) → k < n → get_or l (m + k) 0 ≡ 0)
    → take n (drop m l) ≡ replicate n 0
zero_part l m n h zeros =
    ext_get_or 0 (take n (drop m l)) (replicate n 0) (simp (length-take, length-drop, length-replicate) (omega arith))
    (λ k b.
    let b' : k < n = omega (arith, simp length-take at b) in
    rw (get_or-take n (drop m l) k 0 b', get_or-drop, get_or-replicate {A = ℕ} n k 0 0 b', zeros k b'))

-- a part of a list made by up_to
pub part_up_to {ℓ} : {A : Type ℓ} (f : ℕ → A) (n m count : ℕ)
    → take n (drop m (up_to f count)) ≡ up_to (λ k. f (m + k)) (min n (count - m))
part_up_to f n m count =
    ext_get_or (f 0) (take n (drop m (up_to f count))) (up_to (λ k. f (m + k)) (min n (count - m)))
    (simp (length-take, length-drop, length-up_to))
    (λ k b.
    let b' : k < min n (count - m) = simp (length-take, length-drop, length-up_to) at b in
    rw (
      get_or-take n (drop m (up_to f count)) k (f 0) (omega arith),
      get_or-drop,
      get_or-up_to f count (m + k) (f 0) (omega arith),
      get_or-up_to (λ j. f (m + j)) (min n (count - m)) k (f 0) b',
    ))
