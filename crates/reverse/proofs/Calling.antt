-- A reverse call by its ways out: a refused patch, too short a room, and a reverse that is written; and that this leaves no choice.
use Prim.Native.Nat.{ℕ, ◌≤◌, ◌<◌}
use mathlib.Core.List.{List}
use mathlib.Core.Bool.{true, false}
use mathlib.Core.Path.{◌≡◌, refl, sym, ◌∙◌}
use borrow.Author.Tests.{lt-ltb, le-ltb}
use lib.ListN.{length}
use Rattle.rules.specs.declared.Reversed.{Reversed}
use Rattle.rules.specs.Refusals.{accepted, refusal, patch_verdict}
use Rattle.rules.specs.Calls.{over, reverse_verdict, reverse_refusal, reverse_answer, reverse_of, reverse_after}

-- what a reverse call promises of its answer and of the room afterwards
abbrev pub ReverseCall : List ℕ → List ℕ → Reversed → List ℕ → Type 0
ReverseCall patch room answer later = (answer ≡ reverse_answer patch room) × (later ≡ reverse_after patch room)

module _ (patch room : List ℕ) where
  -- two answers and two rooms afterwards that meet the promise are equal
  pub reverse_determined : (answer other : Reversed) (later later' : List ℕ)
      → ReverseCall patch room answer later → ReverseCall patch room other later' → (answer ≡ other) × (later ≡ later')
  reverse_determined answer other later later' p q = (p.0 ∙ sym q.0, p.1 ∙ sym q.1)

  -- a refused patch: its refusal, and nothing written
  pub reverse_refused : accepted (patch_verdict patch) ≡ false → ReverseCall patch room (reverse_refusal (patch_verdict patch)) room
  unfolding reverse_verdict
  reverse_refused h = rw (h, h) (refl, refl)

  -- an accepted patch
  module _ (right : accepted (patch_verdict patch) ≡ true) where
    -- and too short a room: 11, and nothing written
    pub reverse_short : length room < length patch → ReverseCall patch room (reverse_refusal (refusal 11 0)) room
    unfolding reverse_verdict
    reverse_short h = rw (right, lt-ltb (length room) (length patch) h) (refl, refl)

    -- and room enough: the patch's length, and the reverse over the start of the room
    pub reverse_done : length patch ≤ length room
        → ReverseCall patch room (record { number = 0; place = 0; length = length patch }) (over (reverse_of patch) room)
    unfolding reverse_verdict
    reverse_done h = rw (right, le-ltb (length room) (length patch) h) (refl, refl)
