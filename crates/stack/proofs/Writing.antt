-- Values stored one by one over the start of a buffer.
use Prim.Native.Nat.{ℕ, suc, ◌+◌, ◌<◌}
use mathlib.Core.List.{List, [], ◌∷◌, ◌++◌, map, append_assoc}
use mathlib.Core.Path.{◌≡◌, refl, sym, ap, ◌∙◌}
use native.Mathlib.Numerals.{add-one}
use native.Mathlib.Omega.{arith}
use lib.ListN.{length, get_or, take, drop, set, length-append, length-take, length-map}
use lib.Seq.{set_at, drop-cons, take-suc}
use Rattle.rules.specs.Calls.{over}

-- one more value behind those that are written
pub stored_next : {A : Type 0} (done l : List A) (k : ℕ) (v : A) → length done ≡ k → k < length l → set (over done l) k v ≡ over (done ++ (v ∷ [])) l
stored_next done l k v e h =
    let here : drop (length done) l ≡ get_or l (length done) v ∷ drop (suc (length done)) l = drop-cons l (length done) v (omega arith) in
    let count : length (done ++ (v ∷ [])) ≡ suc (length done) = rw (length-append done (v ∷ [])) (omega arith) in
    rw (here, set_at done (get_or l (length done) v) (drop (suc (length done)) l) v k e, count) (sym (append_assoc done (v ∷ []) (drop (suc (length done)) l)))

map_last : (f : ℕ → ℕ) (l : List ℕ) (x : ℕ) → map f (l ++ (x ∷ [])) ≡ map f l ++ (f x ∷ [])
map_last f [] x = refl
map_last f (y ∷ l) x = ap (λ (m : List ℕ). f y ∷ m) (map_last f l x)

-- the values of the first k elements, and of one more
pub mapped_next : (f : ℕ → ℕ) (s l : List ℕ) (k v : ℕ) → k < length s → k < length l → v ≡ f (get_or s k 0)
    → set (over (map f (take k s)) l) k v ≡ over (map f (take (k + 1) s)) l
mapped_next f s l k v inside room here =
    let count : length (map f (take k s)) ≡ k = length-map (take k s) f ∙ rw (length-take) (omega arith) in
    let more : map f (take (k + 1) s) ≡ map f (take k s) ++ (v ∷ []) = rw (add-one, take-suc s k 0 inside, map_last, here) in
    stored_next (map f (take k s)) l k v count room ∙ ap (λ (m : List ℕ). over m l) (sym more)
