-- Records that lie one after another in a list of bytes: one more is written behind those that are there.
use Prim.Native.Nat.{ℕ, ◌+◌, ◌-◌, ◌≤◌}
use mathlib.Core.List.{List, [], ◌∷◌, ◌++◌, append_assoc, append-nil}
use mathlib.Core.Path.{◌≡◌, ap, sym, ◌∙◌}
use native.Mathlib.Nat.{zero-add, suc-add}
use native.Mathlib.Omega.{arith}
use borrow.Rule.Slice.PartMut.{put_mid}
use lib.ListN.{length, set, take, drop, length-append, length-take, length-drop}
use lib.Seq.{length-take-le, take_at, drop-drop, drop-length, set-append_left}
use Rattle.rules.specs.Blocks.{joined}
use Rattle.rules.specs.Calls.{over}
use Rattle.patch.specs.Merge.{in_all}

-- a list with a record behind its first bytes
abbrev pub with_record : ℕ → List ℕ → List ℕ → List ℕ
with_record written r flat = take written flat ++ (r ++ drop (written + 32) flat)

-- a part of 32 bytes that a record is copied over
pub record_written : (r flat : List ℕ) (written : ℕ) → length r ≡ 32 → written + 32 ≤ length flat
    → put_mid written (written + 32 - written) flat (over r (take (written + 32 - written) (drop written flat))) ≡ with_record written r flat
record_written r flat written long fits =
    let size : written + 32 - written ≡ 32 = omega arith in
    let part : length (take 32 (drop written flat)) ≡ length r = simp (length-take, length-drop) (omega arith) in
    rw (size, ← part, drop-length (take 32 (drop written flat)), append-nil, drop-drop 32 written flat)

-- what stands where bytes of known length are in front of a record
module _ (r flat : List ℕ) (written : ℕ) (long : length r ≡ 32) (fits : written + 32 ≤ length flat) where
  -- the list is as long as before
  pub length_written : length (with_record written r flat) ≡ length flat
  length_written = simp (length-append, length-take, length-drop) (omega arith)

  -- its first bytes are those that were there and the record
  pub front_written : take (written + 32) (with_record written r flat) ≡ take written flat ++ r
  front_written =
      let front : length (take written flat ++ r) ≡ written + 32 = rw (length-append, length-take-le written flat (omega arith), long) in
      rw (← append_assoc (take written flat) r (drop (written + 32) flat)) (take_at (take written flat ++ r) (drop (written + 32) flat) (written + 32) front)

  -- a record that is written is no longer left
  pub written_in_all : (rest : List (List ℕ)) → in_all written flat (r ∷ rest) ≡ in_all (written + 32) (with_record written r flat) rest
  written_in_all rest = rw (front_written, append_assoc (take written flat) r (joined rest))

-- a store behind a list in front
set_behind : (p q : List ℕ) (i x : ℕ) → set (p ++ q) (length p + i) x ≡ p ++ set q i x
set_behind [] q i x = rw zero-add
set_behind (y ∷ p) q i x = rw suc-add (ap (λ (l : List ℕ). y ∷ l) (set_behind p q i x))

-- byte 31 of the record is written where it lies
pub way_written : (r flat : List ℕ) (written way : ℕ) → length r ≡ 32 → written + 32 ≤ length flat
    → set (with_record written r flat) (written + 31) way ≡ with_record written (set r 31 way) flat
way_written r flat written way long fits =
    let front : length (take written flat) ≡ written = length-take-le written flat (omega arith) in
    ap (λ (n : ℕ). set (with_record written r flat) (n + 31) way) (sym front)
    ∙ set_behind (take written flat) (r ++ drop (written + 32) flat) 31 way
    ∙ rw (set-append_left r (drop (written + 32) flat) 31 way (omega arith))
