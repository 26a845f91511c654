-- The room after a room call, and each answer of a chain call for one task with the ids afterwards, are determined by the
-- table and the map: there is one largest weight and one heaviest chain.
use Prim.Native.Nat.{ℕ, ◌<◌}
use mathlib.Core.List.{List, map}
use mathlib.Core.Path.{◌≡◌, ap, sym, ◌∙◌}
use lib.IntN.{ℤ, sub_ℕ}
use Rattle.rules.specs.declared.Verdict.{Verdict}
use Rattle.rules.specs.declared.Shown.{Shown}
use Rattle.rules.specs.Blocks.{records}
use Rattle.rules.specs.Records.{tasks, task_count, place_of}
use Rattle.rules.specs.Chains.{weight, Through, related, size_at, id_at}
use Rattle.rules.specs.Refusals.{accepted}
use Rattle.rules.specs.Calls.{over, room_left_verdict, RoomLeftWorkedOut, RoomLeftCall, through_verdict, through_found, ThroughWorkedOut, ThroughCall}
use Rattle.rules.proofs.Numbers.{either, up_to_ext}
use Rattle.rules.proofs.FourBounds.Unique.{largest_unique, heaviest_unique}

-- the later room of figures that are worked out is determined
room_determined : (rs : List (List ℕ)) (rows : List ℕ) (reserve : ℕ) (room l m : List ℤ)
    → RoomLeftWorkedOut rs rows reserve room l → RoomLeftWorkedOut rs rows reserve room m → l ≡ m
room_determined rs rows reserve room l m x y =
    x.written
    ∙ ap (λ (values : List ℤ). over values room) (up_to_ext (λ i. sub_ℕ reserve (x.heaviest i)) (λ i. sub_ℕ reserve (y.heaviest i)) (task_count rs) same)
    ∙ sym y.written
  where
    same : (i : ℕ) → i < task_count rs → sub_ℕ reserve (x.heaviest i) ≡ sub_ℕ reserve (y.heaviest i)
    same i inside =
        ap (sub_ℕ reserve)
        (largest_unique (Through (task_count rs) (related rs rows) i) (weight (size_at rs)) (x.heaviest i) (y.heaviest i)
        (x.right i inside) (y.right i inside))

-- the answer of a room call and the room afterwards are determined, for every image, map, reserve and room
pub room_call_determined : (image rows : List ℕ) (reserve : ℕ) (room : List ℤ) (a b : Verdict) (l m : List ℤ)
    → RoomLeftCall image rows reserve room a l → RoomLeftCall image rows reserve room b m → (a ≡ b) × (l ≡ m)
room_call_determined image rows reserve room a b l m x y = (
  x.answered ∙ sym y.answered,
  either (accepted (room_left_verdict image rows room))
      (λ t. room_determined (records image) rows reserve room l m (x.worked t) (y.worked t))
      (λ t. x.refused t ∙ sym (y.refused t)),
)

-- the answer and the later ids of a chain that is worked out are determined
through_determined : (rs : List (List ℕ)) (rows : List ℕ) (id : ℕ) (ids : List ℕ) (a b : Shown) (l m : List ℕ)
    → ThroughWorkedOut rs rows id ids a l → ThroughWorkedOut rs rows id ids b m → (a ≡ b) × (l ≡ m)
through_determined rs rows id ids a b l m x y = (
  x.found.0 ∙ ap (through_found rs) same ∙ sym y.found.0,
  x.found.1 ∙ ap (λ (chain : List ℕ). over (map (id_at rs) chain) ids) same ∙ sym y.found.1,
)
  where
    same : x.chain ≡ y.chain
    same =
        heaviest_unique (Through (task_count rs) (related rs rows) (place_of (tasks rs) id)) (size_at rs) (id_at rs)
        x.chain y.chain x.right y.right

-- the answer of a chain call for one task and the ids afterwards are determined, for every image, map, id and room
pub chain_through_determined : (image rows : List ℕ) (id : ℕ) (ids : List ℕ) (a b : Shown) (l m : List ℕ)
    → ThroughCall image rows id ids a l → ThroughCall image rows id ids b m → (a ≡ b) × (l ≡ m)
chain_through_determined image rows id ids a b l m x y =
    either (accepted (through_verdict image rows id ids))
    (λ t. through_determined (records image) rows id ids a b l m (x.worked t) (y.worked t))
    (λ t. ((x.refused t).0 ∙ sym (y.refused t).0, (x.refused t).1 ∙ sym (y.refused t).1))
