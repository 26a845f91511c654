-- Laws of a written block: its length, header, records, zero fill and check.
use Prim.Native.Nat.{ℕ, zero, suc, ◌+◌, ◌*◌, ◌-◌, ◌/◌, ◌%◌, ◌≤◌, ◌<◌}
use mathlib.Core.List.{List, [], ◌∷◌, ◌++◌, append_assoc}
use mathlib.Core.Bool.{true, false}
use mathlib.Core.Path.{◌≡◌, refl, ◌∙◌}
use native.Mathlib.Nat.{add_assoc}
use native.Mathlib.Omega.{arith}
use lib.ListN.{length, get_or, take, drop, replicate, length-append, length-replicate, length-drop, get_or-replicate, get_or-append}
use lib.Seq.{get_or-append-add, drop-append-add, drop-append-le, take-append-le}
use Rattle.rules.specs.declared.Form.{Form}
use Rattle.rules.specs.declared.Form.TheVariants.{Table, Patch}
use Rattle.rules.specs.Numbers.{le2}
use Rattle.rules.specs.Blocks.{mark, check_of, check_wrong, count_right, joined, body_of, with_check}
use Rattle.rules.proofs.Numbers.{sum_to_ext}
use Rattle.rules.proofs.Image.Parts.{Records, length-joined, part_joined}
use Rattle.rules.proofs.Tests.{not_different}
use Rattle.rules.proofs.Image.Frame.{Header}

-- what stands behind a list of known length
behind_byte : (p q : List ℕ) (n k : ℕ) → length p ≡ n → get_or (p ++ q) (n + k) 0 ≡ get_or q k 0
behind_byte p q n k e = rw (← e) (get_or-append-add p q k 0)

behind : (p q : List ℕ) (n k : ℕ) → length p ≡ n → drop (n + k) (p ++ q) ≡ drop k q
behind p q n k e = rw (← e) (drop-append-add p q k)

-- the check reads the first 510 bytes only
pub check_front : (s t : List ℕ) → ((i : ℕ) → i < 510 → get_or s i 0 ≡ get_or t i 0) → check_of s ≡ check_of t
unfolding check_of
check_front s t h = rw (sum_to_ext (λ i. (i + 1) * get_or s i 0) (λ i. (i + 1) * get_or t i 0) 510 (λ i l. rw (h i l)))

-- 510 bytes with their check behind them
module _ (body : List ℕ) (e : length body ≡ 510) where
  -- the block is 512 bytes long
  pub length-with_check : length (with_check body) ≡ 512
  length-with_check = rw (length-append, e)

  -- its check is that of its first 510 bytes
  pub check_with_check : check_of (with_check body) ≡ check_of body
  check_with_check =
      check_front (with_check body) body
      (λ i l. get_or-append body (check_of body % 256 ∷ check_of body / 256 ∷ []) 0 i (omega arith))

  -- which is what the last two bytes say
  pub with_check_right : check_wrong (with_check body) ≡ false
  with_check_right =
      not_different (le2 (with_check body) 510) (check_of (with_check body))
      (rw (
        check_with_check,
        behind_byte body (check_of body % 256 ∷ check_of body / 256 ∷ []) 510 0 e,
        behind_byte body (check_of body % 256 ∷ check_of body / 256 ∷ []) 510 1 e,
      ) (omega arith))

-- the eight bytes in front of the records
abbrev pub header_bytes : Form → ℕ → ℕ → ℕ → List ℕ
header_bytes form total b count =
    get_or (mark form) 0 0 ∷ get_or (mark form) 1 0 ∷ b ∷ total ∷ count ∷ 0 ∷ 0 ∷ 0 ∷ []

-- a block's body: header, records, fill
pub body_parts : (form : Form) (total b : ℕ) (rs : List (List ℕ))
    → body_of form total b rs ≡ header_bytes form total b (length rs) ++ (joined rs ++ replicate (502 - 32 * length rs) 0)
body_parts Table total b rs = refl
body_parts Patch total b rs = refl

-- the count byte
pub count_byte : (form : Form) (total b : ℕ) (rs : List (List ℕ)) (check : List ℕ)
    → get_or (body_of form total b rs ++ check) 4 0 ≡ length rs
count_byte Table total b rs check = refl
count_byte Patch total b rs check = refl

-- each of three zeros is zero
three_zeros : (rest : List ℕ) (k : ℕ) → k < 3 → get_or (0 ∷ 0 ∷ 0 ∷ rest) k 0 ≡ 0
three_zeros rest zero l = refl
three_zeros rest (suc zero) l = refl
three_zeros rest (suc (suc zero)) l = refl
three_zeros rest (suc (suc (suc k))) l = absurd (omega arith)

-- the eight bytes are a right header, where the count is right and zeros follow the records
pub header_written : (form : Form) (total b count : ℕ) (rest : List ℕ) → count_right total b count ≡ true
    → ((k : ℕ) → k < 502 - 32 * count → get_or rest (32 * count + k) 0 ≡ 0)
    → Header form total b (header_bytes form total b count ++ rest)
header_written form total b count rest right zeros =
    record {
      first_mark = refl;
      second_mark = refl;
      number = refl;
      blocks = refl;
      count = right;
      gap =
          λ k l.
          behind_byte (get_or (mark form) 0 0 ∷ get_or (mark form) 1 0 ∷ b ∷ total ∷ count ∷ []) (0 ∷ 0 ∷ 0 ∷ rest) 5 k refl
          ∙ three_zeros rest k l;
      fill =
          λ k l.
          rw add_assoc (behind_byte (header_bytes form total b count) rest 8 (32 * count + k) refl ∙ zeros k l);
    }

-- block b of total that holds these records
module _ (form : Form) (total b : ℕ) (rs : List (List ℕ)) (records : Records rs) (few : length rs ≤ 15) where
  -- its body is 510 bytes long
  pub length-body_of : length (body_of form total b rs) ≡ 510
  length-body_of =
      rw body_parts (simp (length-append, length-replicate, length-joined 32 rs records) (omega arith))

  -- it is header, records, fill and check
  block_parts : (check : List ℕ) → body_of form total b rs ++ check
      ≡ header_bytes form total b (length rs) ++ (joined rs ++ (replicate (502 - 32 * length rs) 0 ++ check))
  block_parts check = rw body_parts (simp append_assoc)

  -- its record k is record k of the list
  pub block_record : (check : List ℕ) (k : ℕ) → k < length rs → take 32 (drop (8 + 32 * k) (body_of form total b rs ++ check)) ≡ get_or rs k []
  block_record check k l =
      let rest = replicate (502 - 32 * length rs) 0 ++ check in
      let long : 32 * k ≤ length (joined rs) = rw (length-joined 32 rs records) (omega arith) in
      let longer : 32 ≤ length (drop (32 * k) (joined rs)) = simp (length-drop, length-joined 32 rs records) (omega arith) in
      rw (
        block_parts check,
        behind (header_bytes form total b (length rs)) (joined rs ++ rest) 8 (32 * k) refl,
        drop-append-le (32 * k) (joined rs) rest long,
        take-append-le 32 (drop (32 * k) (joined rs)) rest longer,
      ) (part_joined 32 rs k records l)

  -- its header is right, where the count is
  pub block_header : (check : List ℕ) → count_right total b (length rs) ≡ true → Header form total b (body_of form total b rs ++ check)
  block_header check right =
      rw (block_parts check)
      (header_written form total b (length rs) (joined rs ++ (replicate (502 - 32 * length rs) 0 ++ check)) right
      (λ k l.
      behind_byte (joined rs) (replicate (502 - 32 * length rs) 0 ++ check) (32 * length rs) k (length-joined 32 rs records)
      ∙ (get_or-append (replicate (502 - 32 * length rs) 0) check 0 k (rw length-replicate l)
      ∙ get_or-replicate (502 - 32 * length rs) k 0 0 l)))
