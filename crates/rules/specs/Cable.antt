-- On the cable: an image whose bytes changed on the way, and what every call then answers.
use Rattle.std.specs.Prelude.{ℕ, ◌+◌, List, [], true, ◌≡◌, get_or, set, ℤ}
use Rattle.rules.specs.declared.Form.{Form}
use Rattle.rules.specs.declared.Form.TheVariants.{Table, Patch}
use Rattle.rules.specs.declared.Verdict.{Verdict}
use Rattle.rules.specs.declared.Bounds.{Bounds}
use Rattle.rules.specs.declared.Shown.{Shown}
use Rattle.rules.specs.Refusals.{accepted, refusal, table_verdict, patch_verdict}
use Rattle.rules.specs.Calls.{map_verdict, map_after, bound_refusal, BoundCall, RoomLeftCall, through_refusal, ThroughCall, reason_refusal, reason_answer, patch_call_verdict, patch_refusal, patch_answer, room_after, patched_after, offending, reverse_refusal, reverse_answer, reverse_after}

-- bytes i and i + 1 changed over with each other
abbrev pub changed_over : List ℕ → ℕ → List ℕ
changed_over image i = set (set image i (get_or image (i + 1) 0)) (i + 1) (get_or image i 0)

-- a patch call that answers refusal n at place p: all else of its answer is 0, no part offends, both rooms are as they were
abbrev pub PatchCallRefused : ℕ → ℕ → List ℕ → List ℕ → List ℕ → List ℕ → List ℕ → Type 0
PatchCallRefused n p base patch rows room new_rows =
    let v = patch_call_verdict base patch rows room new_rows in
    (patch_answer v base patch ≡ patch_refusal (refusal n p))
    × (offending v patch ≡ [])
    × (room_after v base patch room ≡ room)
    × (patched_after v base patch rows new_rows ≡ new_rows)

-- a table is refused with 2 at block b: by its verdict, and by every call that starts with it, whatever else is lent
pub record TableCaught (image : List ℕ) (b : ℕ) : Type 0 where
  pub verdict : table_verdict image ≡ refusal 2 b
  pub map_call : (rows : List ℕ) → (map_verdict image rows ≡ refusal 2 b) × (map_after image rows ≡ rows)
  pub bound_call :
      (rows ids : List ℕ) (answer : Bounds) (later : List ℕ) → BoundCall image rows ids answer later
      → (answer ≡ bound_refusal (refusal 2 b)) × (later ≡ ids)
  pub room_call :
      (rows : List ℕ) (reserve : ℕ) (room : List ℤ) (answer : Verdict) (later : List ℤ) → RoomLeftCall image rows reserve room answer later
      → (answer ≡ refusal 2 b) × (later ≡ room)
  pub through_call :
      (rows : List ℕ) (id : ℕ) (ids : List ℕ) (answer : Shown) (later : List ℕ) → ThroughCall image rows id ids answer later
      → (answer ≡ through_refusal (refusal 2 b)) × (later ≡ ids)
  pub reason_call : (low high : ℕ) → reason_answer image low high ≡ reason_refusal (refusal 2 b)
  pub base : (patch rows room new_rows : List ℕ) → PatchCallRefused 2 b image patch rows room new_rows

-- a patch is refused with 22 at block b: by its verdict, by every patch call on an accepted base, and by every reverse call,
-- whatever else is lent
pub record PatchCaught (image : List ℕ) (b : ℕ) : Type 0 where
  pub verdict : patch_verdict image ≡ refusal 22 b
  pub patch_call :
      (base rows room new_rows : List ℕ) → accepted (table_verdict base) ≡ true → PatchCallRefused 22 b base image rows room new_rows
  pub reverse_call : (room : List ℕ) → (reverse_answer image room ≡ reverse_refusal (refusal 22 b)) × (reverse_after image room ≡ room)

-- an image of this form is refused so
abbrev pub Caught : Form → List ℕ → ℕ → Type 0
Caught Table image b = TableCaught image b
Caught Patch image b = PatchCaught image b
