-- A part of an image from a start to an end, said by its size.
use Prim.Native.Nat.{ℕ, ◌+◌, ◌-◌, ◌≤◌, min}
use mathlib.Core.List.{List, []}
use mathlib.Core.Path.{◌≡◌, sym, ◌∙◌}
use native.Mathlib.Omega.{arith}
use borrow.Author.Tests.{leb-true, leb-false}
use lib.ListN.{length, take, drop, length-drop, length-take, drop_of_length-le}
use lib.Seq.{take-nil, take_all}
use lib.Dec.{leb}
use Rattle.rules.proofs.Numbers.{either}

-- its end less its start
pub part_size : (s : List ℕ) (start size : ℕ) → take ((start + size) - start) (drop start s) ≡ take size (drop start s)
part_size s start size =
    let e : (start + size) - start ≡ size = omega arith in
    rw e

-- a part that lies within a list is as long as it says
pub part_length : (s : List ℕ) (start size : ℕ) → start + size ≤ length s → length (take size (drop start s)) ≡ size
part_length s start size h = simp (length-take, length-drop) (omega arith)

-- past the end a part is empty
pub part_past : (s : List ℕ) (start size : ℕ) → length s ≤ start → take size (drop start s) ≡ []
part_past s start size h = rw (drop_of_length-le s {i = start} h) (take-nil size)

-- a part that is cut off at the end of the list is the part
pub part_clipped : (s : List ℕ) (start size : ℕ) → take (min (start + size) (length s) - min start (length s)) (drop (min start (length s)) s) ≡ take size (drop start s)
part_clipped s start size =
    either (leb (length s) start)
    (λ t.
    let past = leb-true (length s) start t in
    let low : min start (length s) ≡ length s = omega arith in
    part_past s (min start (length s)) (min (start + size) (length s) - min start (length s)) (omega arith) ∙ sym (part_past s start size past))
    (λ t.
    let inside = leb-false (length s) start t in
    let low : min start (length s) ≡ start = omega arith in
    rw low
    (either (leb (start + size) (length s))
    (λ u.
    let fits = leb-true (start + size) (length s) u in
    let e : min (start + size) (length s) - start ≡ size = omega arith in
    rw e)
    (λ u.
    let cut = leb-false (start + size) (length s) u in
    let rest = length-drop start s in
    take_all (min (start + size) (length s) - start) (drop start s) (omega arith) ∙ sym (take_all size (drop start s) (omega arith)))))
