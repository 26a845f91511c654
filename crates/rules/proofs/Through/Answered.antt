-- Every room call and every chain call for one task has an answer: the heaviest chain that contains a task is worked out as
-- the heaviest of the tasks that are it or near it.
use Prim.Native.Nat.{ℕ, ◌<◌}
use mathlib.Core.List.{List, map}
use mathlib.Core.Bool.{Bool, true, false, ◌||◌, not}
use mathlib.Core.Path.{◌≡◌, refl}
use native.Mathlib.Omega.{arith}
use borrow.Author.Tests.{not-false}
use lib.Dec.{T, ltb, eqb}
use lib.IntN.{ℤ, sub_ℕ}
use lib.ListN.{length}
use Rattle.rules.specs.declared.Verdict.{Verdict}
use Rattle.rules.specs.declared.Shown.{Shown}
use Rattle.rules.specs.Numbers.{up_to}
use Rattle.rules.specs.Blocks.{records}
use Rattle.rules.specs.Records.{tasks, task_count, place_of, listed}
use Rattle.rules.specs.Chains.{weight, Through, Largest, Heaviest, related, size_at, id_at, priority_at}
use Rattle.rules.specs.Refusals.{accepted, or_else, table_verdict, short_refusal, unlisted_refusal}
use Rattle.rules.specs.Calls.{over, room_left_verdict, RoomLeftCall, through_verdict, through_refusal, through_found, ThroughCall}
use Rattle.rules.proofs.Numbers.{either, never}
use Rattle.rules.proofs.Refusals.{accepted_first, accepted_second, no_fault}
use Rattle.rules.proofs.Related.{related_rises}
use Rattle.rules.proofs.Table.Listed.{place_below}
use Rattle.rules.proofs.FourBounds.Order.{size_in_level}
use Rattle.rules.proofs.FourBounds.Accepted.{accepted_climbing, accepted_sizes}
use Rattle.rules.proofs.Enumerate.{top_of}
use Rattle.rules.proofs.Enumerate.Chains.{heaviest, heaviest_passing}
use Rattle.rules.proofs.Enumerate.Apart.{accepted_apart}
use Rattle.rules.proofs.Through.Near.{near_by, inside_through}

-- the heaviest chain of the tasks that are the one at a place or near it
abbrev chain_through : List (List ℕ) → List ℕ → ℕ → List ℕ
chain_through rs rows i =
    heaviest (task_count rs) (related rs rows) (size_at rs) (id_at rs) (top_of rs) (λ j. eqb j i || near_by (related rs rows) i j)

-- in an accepted table it is the heaviest chain that contains the task, with any map
chain_through_heaviest : (image rows : List ℕ) → accepted (table_verdict image) ≡ true → (i : ℕ) → i < task_count (records image)
    → Heaviest (Through (task_count (records image)) (related (records image) rows) i) (size_at (records image)) (id_at (records image)) (chain_through (records image) rows i)
chain_through_heaviest image rows table i inside =
    inside_through count R (size_at rs) (priority_at rs) rises i near (λ j. refl) inside (accepted_sizes image table i inside)
    (id_at rs) (chain_through rs rows i)
    (heaviest_passing count R (size_at rs) (id_at rs) (priority_at rs) (top_of rs) rises
    (λ k below. (size_in_level (size_at rs) (priority_at rs) count k below).1) (accepted_apart image table) near)
  where
    rs : List (List ℕ)
    rs = records image

    count : ℕ
    count = task_count rs

    R : ℕ → ℕ → Bool
    R = related rs rows

    near : ℕ → Bool
    near j = eqb j i || near_by R i j

    rises : (j k : ℕ) → T (R j k) → priority_at rs j < priority_at rs k
    rises = related_rises rs (accepted_climbing image table) rows

-- what the heaviest list weighs is the largest weight
heaviest_largest : (P : List ℕ → Type 0) (S id : ℕ → ℕ) (c : List ℕ) → Heaviest P S id c → Largest P (weight S) (weight S c)
heaviest_largest P S id c best = record { reached = (c, best.among, refl); most = best.most }

-- some answer and some later room meet the definition of a room call
abbrev pub RoomAnswered : List ℕ → List ℕ → ℕ → List ℤ → Type 0
RoomAnswered image rows reserve room = (answer : Verdict) × (later : List ℤ) × RoomLeftCall image rows reserve room answer later

-- every room call has an answer, whatever the image, the map, the reserve and the room
pub room_call_answered : (image rows : List ℕ) (reserve : ℕ) (room : List ℤ) → RoomAnswered image rows reserve room
unfolding room_left_verdict
room_call_answered image rows reserve room = either (accepted v) found refused
  where
    v : Verdict
    v = room_left_verdict image rows room

    rs : List (List ℕ)
    rs = records image

    weighs : ℕ → ℕ
    weighs i = weight (size_at rs) (chain_through rs rows i)

    refused : accepted v ≡ false → RoomAnswered image rows reserve room
    refused t = (v, room, record { answered = refl; refused = λ u. refl; worked = λ u. never (accepted v) u t })

    found : accepted v ≡ true → RoomAnswered image rows reserve room
    found t =
        let table = accepted_first (table_verdict image) (short_refusal (ltb (length rows) 64 || ltb (length room) 64)) t in (
          v,
          over (up_to (λ i. sub_ℕ reserve (weighs i)) (task_count rs)) room,
          record {
            answered = refl;
            refused = λ u. never (accepted v) t u;
            worked = λ u.
                record {
                  heaviest = weighs;
                  right = λ i inside.
                      heaviest_largest (Through (task_count rs) (related rs rows) i) (size_at rs) (id_at rs) (chain_through rs rows i)
                      (chain_through_heaviest image rows table i inside);
                  written = refl;
                };
          },
        )

-- some answer and some later ids meet the definition of a chain call for one task
abbrev pub ThroughAnswered : List ℕ → List ℕ → ℕ → List ℕ → Type 0
ThroughAnswered image rows id ids = (answer : Shown) × (later : List ℕ) × ThroughCall image rows id ids answer later

-- every chain call for one task has an answer, whatever the image, the map, the id and the room
pub chain_through_answered : (image rows : List ℕ) (id : ℕ) (ids : List ℕ) → ThroughAnswered image rows id ids
unfolding through_verdict
chain_through_answered image rows id ids = either (accepted v) found refused
  where
    v : Verdict
    v = through_verdict image rows id ids

    rs : List (List ℕ)
    rs = records image

    chain : List ℕ
    chain = chain_through rs rows (place_of (tasks rs) id)

    refused : accepted v ≡ false → ThroughAnswered image rows id ids
    refused t = (through_refusal v, ids, record { refused = λ u. (refl, refl); worked = λ u. never (accepted v) u t })

    found : accepted v ≡ true → ThroughAnswered image rows id ids
    found t =
        let named = listed (tasks rs) id in
        let short = short_refusal (ltb (length rows) 64 || ltb (length ids) 64) in
        let table = accepted_first (table_verdict image) (or_else (unlisted_refusal (not named)) short) t in
        let rest = accepted_second (table_verdict image) (or_else (unlisted_refusal (not named)) short) t in
        let known = not-false named (no_fault 15 0 (not named) (omega arith) (accepted_first (unlisted_refusal (not named)) short rest)) in (
          through_found rs chain,
          over (map (id_at rs) chain) ids,
          record {
            refused = λ u. never (accepted v) t u;
            worked = λ u.
                record {
                  chain = chain;
                  right = chain_through_heaviest image rows table (place_of (tasks rs) id) (place_below (tasks rs) id known);
                  found = (refl, refl);
                };
          },
        )
