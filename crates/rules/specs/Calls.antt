-- What each call returns, and what each lent buffer holds afterwards, for every input.
use Rattle.std.specs.Prelude.{ℕ, ◌+◌, ◌*◌, ◌/◌, ◌%◌, ◌≤◌, ◌<◌, List, [], ◌++◌, map, Bool, true, false, cond, ◌&&◌, ◌||◌, not, ◌≡◌, length, take, drop, ℤ, leb, ltb, eqb}
use Rattle.std.proofs.Math.IntN.{sub_ℕ}
use Rattle.rules.specs.declared.Form.{Form}
use Rattle.rules.specs.declared.Form.TheVariants.{Table, Patch}
use Rattle.rules.specs.declared.Verdict.{Verdict}
use Rattle.rules.specs.declared.Bounds.{Bounds}
use Rattle.rules.specs.declared.BoundsWithin.{BoundsWithin}
use Rattle.rules.specs.declared.Patched.{Patched}
use Rattle.rules.specs.declared.Offending.{Offending}
use Rattle.rules.specs.declared.Reasoned.{Reasoned}
use Rattle.rules.specs.declared.Reversed.{Reversed}
use Rattle.rules.specs.declared.Shown.{Shown}
use Rattle.rules.specs.Numbers.{up_to}
use Rattle.rules.specs.Blocks.{most_blocks, records, record_start, record_at, blocks_for, image_of}
use Rattle.rules.specs.Records.{tasks, task_count, place_of, listed}
use Rattle.rules.specs.Reasons.{told}
use Rattle.rules.specs.Preempt.{reason_at, map_of}
use Rattle.rules.specs.Chains.{weight, Through, Largest, Heaviest, related, size_at, id_at, Figures, FiguresOf, chain_bound, chain_ids}
use Rattle.rules.specs.Opening.{OpensInAll}
use Rattle.rules.specs.Patches.{outcome, reversed, touched_count, patched_map}
use Rattle.rules.specs.Refusals.{accepted, or_else, table_verdict, patch_verdict, absent_refusal, outcome_refusal, short_refusal, unlisted_refusal}

-- a buffer with these values written over its start; what lies beyond them keeps its values
abbrev pub over : {A : Type 0} → List A → List A → List A
over values buffer = values ++ drop (length values) buffer

-- what a buffer holds after a call: written where the verdict accepts, as it was where it refuses
abbrev pub after : Verdict → List ℕ → List ℕ → List ℕ
after v values buffer = cond (accepted v) (over values buffer) buffer

-- writing an image of records, which the calls below do: the records that lie one after another in a list of bytes, 32 bytes
-- each
abbrev pub cut : List ℕ → List (List ℕ)
cut flat = up_to (λ k. take 32 (drop (32 * k) flat)) (length flat / 32)

-- how many blocks the records fill
abbrev pub blocks_of : List ℕ → ℕ
blocks_of flat = blocks_for (length flat / 32)

-- the bytes are whole records, the form may have that many blocks, and the room holds them
unfoldable pub writable : Form → List ℕ → List ℕ → Bool
writable form flat room =
    eqb (length flat % 32) 0 && (leb (blocks_of flat) (most_blocks form) && leb (512 * blocks_of flat) (length room))

-- the length of the image that is written, or 0 where none is
abbrev pub written_length : Form → List ℕ → List ℕ → ℕ
written_length form flat room = cond (writable form flat room) (512 * blocks_of flat) 0

-- the room afterwards: the image at its start and the rest as it was, or all as it was where none is written
abbrev pub written_room : Form → List ℕ → List ℕ → List ℕ
written_room form flat room = cond (writable form flat room) (over (image_of form (cut flat)) room) room

-- map calls answer 1-8, 14, 11
unfoldable pub map_verdict : List ℕ → List ℕ → Verdict
map_verdict image rows = or_else (table_verdict image) (short_refusal (ltb (length rows) 64))

unfoldable pub map_after : List ℕ → List ℕ → List ℕ
map_after image rows = after (map_verdict image rows) (map_of (records image)) rows

-- bound calls answer 1-8, 14, 11
unfoldable pub bound_verdict : List ℕ → List ℕ → List ℕ → Verdict
bound_verdict image rows ids =
    or_else (table_verdict image) (short_refusal (ltb (length rows) 64 || ltb (length ids) 64))

abbrev pub bound_refusal : Verdict → Bounds
bound_refusal v =
    record {
      number = v.number;
      place = v.place;
      tasks = 0;
      chain = 0;
      path = 0;
      transactions = 0;
      levels = 0;
      length = 0;
    }

abbrev pub bounds_found : List (List ℕ) → Figures → Bounds
bounds_found rs f =
    record {
      number = 0;
      place = 0;
      tasks = task_count rs;
      chain = chain_bound rs f;
      path = f.path;
      transactions = f.transactions;
      levels = f.levels;
      length = length f.chain;
    }

-- the answer and the later ids, where the figures are worked out
pub record BoundsWorkedOut (rs : List (List ℕ)) (rows ids : List ℕ) (answer : Bounds) (later : List ℕ) : Type 0 where
  pub figures : Figures
  pub right : FiguresOf rs rows figures
  pub found : (answer ≡ bounds_found rs figures) × (later ≡ over (chain_ids rs figures) ids)

-- a bound call: its answer, and the ids afterwards
pub record BoundCall (image rows ids : List ℕ) (answer : Bounds) (later : List ℕ) : Type 0 where
  pub refused :
      accepted (bound_verdict image rows ids) ≡ false → (answer ≡ bound_refusal (bound_verdict image rows ids)) × (later ≡ ids)
  pub worked :
      accepted (bound_verdict image rows ids) ≡ true → BoundsWorkedOut (records image) rows ids answer later

-- a bound call's fields, then the number of chains opened
abbrev pub with_opened : Bounds → ℕ → BoundsWithin
with_opened b count =
    record {
      number = b.number;
      place = b.place;
      tasks = b.tasks;
      chain = b.chain;
      path = b.path;
      transactions = b.transactions;
      levels = b.levels;
      length = b.length;
      opened = count;
    }

-- refusal 13 at place 0, with the path and transactions bounds
abbrev pub gave_up : ℕ → ℕ → BoundsWithin
gave_up path transactions =
    record {
      number = 13;
      place = 0;
      tasks = 0;
      chain = 0;
      path = path;
      transactions = transactions;
      levels = 0;
      length = 0;
      opened = 0;
    }

-- the answer and the later ids, where the figures are worked out and the rule's chains are counted
pub record WithinWorkedOut (rs : List (List ℕ)) (rows ids : List ℕ) (limit : ℕ) (answer : BoundsWithin) (later : List ℕ) : Type 0 where
  pub figures : Figures
  pub right : FiguresOf rs rows figures
  pub count : ℕ
  pub counted : OpensInAll rs rows count
  pub passed : limit < count → (answer ≡ gave_up figures.path figures.transactions) × (later ≡ ids)
  pub found :
      count ≤ limit → (answer ≡ with_opened (bounds_found rs figures) count) × (later ≡ over (chain_ids rs figures) ids)

-- a bound call with a limit answers 1-8, 14, 11, then 13: its answer, and the ids afterwards
pub record WithinCall (image rows ids : List ℕ) (limit : ℕ) (answer : BoundsWithin) (later : List ℕ) : Type 0 where
  pub refused :
      accepted (bound_verdict image rows ids) ≡ false
      → (answer ≡ with_opened (bound_refusal (bound_verdict image rows ids)) 0) × (later ≡ ids)
  pub worked :
      accepted (bound_verdict image rows ids) ≡ true → WithinWorkedOut (records image) rows ids limit answer later

-- room calls answer 1-8, 14, 11
unfoldable pub room_left_verdict : List ℕ → List ℕ → List ℤ → Verdict
room_left_verdict image rows room =
    or_else (table_verdict image) (short_refusal (ltb (length rows) 64 || ltb (length room) 64))

-- the room afterwards: for each task, by place, the reserve less what the heaviest chain that contains it weighs
pub record RoomLeftWorkedOut (rs : List (List ℕ)) (rows : List ℕ) (reserve : ℕ) (room later : List ℤ) : Type 0 where
  pub heaviest : ℕ → ℕ
  pub right :
      (i : ℕ) → i < task_count rs → Largest (Through (task_count rs) (related rs rows) i) (weight (size_at rs)) (heaviest i)
  pub written : later ≡ over (up_to (λ i. sub_ℕ reserve (heaviest i)) (task_count rs)) room

-- a room call: its answer, and the room afterwards
pub record RoomLeftCall (image rows : List ℕ) (reserve : ℕ) (room : List ℤ) (answer : Verdict) (later : List ℤ) : Type 0 where
  pub answered : answer ≡ room_left_verdict image rows room
  pub refused : accepted (room_left_verdict image rows room) ≡ false → later ≡ room
  pub worked : accepted (room_left_verdict image rows room) ≡ true → RoomLeftWorkedOut (records image) rows reserve room later

-- chain calls for one task answer 1-8, 14, then 15 where its id is not listed, then 11
unfoldable pub through_verdict : List ℕ → List ℕ → ℕ → List ℕ → Verdict
through_verdict image rows id ids =
    or_else (table_verdict image)
    (or_else (unlisted_refusal (not (listed (tasks (records image)) id)))
    (short_refusal (ltb (length rows) 64 || ltb (length ids) 64)))

abbrev pub through_refusal : Verdict → Shown
through_refusal v = record { number = v.number; place = v.place; weight = 0; length = 0 }

abbrev pub through_found : List (List ℕ) → List ℕ → Shown
through_found rs chain =
    record {
      number = 0;
      place = 0;
      weight = weight (size_at rs) chain;
      length = length chain;
    }

-- the answer and the later ids, where the heaviest chain that contains the named task is worked out
pub record ThroughWorkedOut (rs : List (List ℕ)) (rows : List ℕ) (id : ℕ) (ids : List ℕ) (answer : Shown) (later : List ℕ) : Type 0 where
  pub chain : List ℕ
  pub right :
      Heaviest (Through (task_count rs) (related rs rows) (place_of (tasks rs) id)) (size_at rs) (id_at rs) chain
  pub found : (answer ≡ through_found rs chain) × (later ≡ over (map (id_at rs) chain) ids)

-- a chain call for one task: its answer, and the ids afterwards
pub record ThroughCall (image rows : List ℕ) (id : ℕ) (ids : List ℕ) (answer : Shown) (later : List ℕ) : Type 0 where
  pub refused :
      accepted (through_verdict image rows id ids) ≡ false
      → (answer ≡ through_refusal (through_verdict image rows id ids)) × (later ≡ ids)
  pub worked :
      accepted (through_verdict image rows id ids) ≡ true → ThroughWorkedOut (records image) rows id ids answer later

-- reason calls answer 1-8, 14, then 15 where one of the two ids is not listed
unfoldable pub reason_verdict : List ℕ → ℕ → ℕ → Verdict
reason_verdict image low high =
    or_else (table_verdict image)
    (unlisted_refusal (not (listed (tasks (records image)) low) || not (listed (tasks (records image)) high)))

abbrev pub reason_refusal : Verdict → Reasoned
reason_refusal v = record { number = v.number; place = v.place; reason = 0 }

-- why the task with the id low may be preempted by the one with the id high, or why not
abbrev pub reason_answer : List ℕ → ℕ → ℕ → Reasoned
reason_answer image low high =
    let rs = records image in
    cond (accepted (reason_verdict image low high))
    (record { number = 0; place = 0; reason = (told (reason_at rs (place_of (tasks rs) low) (place_of (tasks rs) high))).number })
    (reason_refusal (reason_verdict image low high))

-- the outcome's length in bytes
abbrev pub outcome_length : List ℕ → List ℕ → ℕ
outcome_length base patch = 512 * blocks_for (length (outcome (records base) (records patch)))

-- a patch call answers 1-8 and 14 for the base, then 21-27, 9, 10, 11
unfoldable pub patch_call_verdict : List ℕ → List ℕ → List ℕ → List ℕ → List ℕ → Verdict
patch_call_verdict base patch rows room new_rows =
    or_else (table_verdict base)
    (or_else (patch_verdict patch)
    (or_else (absent_refusal (records base) (records patch))
    (or_else (outcome_refusal (records base) (records patch))
    (short_refusal (ltb (length rows) 64 || (ltb (length new_rows) 64 || ltb (length room) (outcome_length base patch)))))))

-- a refused patch call, and an accepted one
abbrev pub patch_refusal : Verdict → Patched
patch_refusal v = record { number = v.number; place = v.place; touched = 0; length = 0 }

abbrev pub patch_accepted : ℕ → ℕ → Patched
patch_accepted tasks bytes = record { number = 0; place = 0; touched = tasks; length = bytes }

-- the number of touched tasks and the outcome's length in bytes are returned
abbrev pub patch_answer : Verdict → List ℕ → List ℕ → Patched
patch_answer v base patch =
    cond (accepted v)
    (patch_accepted (touched_count (records base) (records patch)) (outcome_length base patch))
    (patch_refusal v)

-- the room for the image and the room for the map afterwards
abbrev pub room_after : Verdict → List ℕ → List ℕ → List ℕ → List ℕ
room_after v base patch room = after v (image_of Table (outcome (records base) (records patch))) room

abbrev pub patched_after : Verdict → List ℕ → List ℕ → List ℕ → List ℕ → List ℕ
patched_after v base patch rows new_rows = after v (patched_map (records base) (records patch) rows) new_rows

-- a patch call: its answer, and the two rooms afterwards
pub record PatchCall (base patch rows room new_rows : List ℕ) (answer : Patched) (image map : List ℕ) : Type 0 where
  pub answered : answer ≡ patch_answer (patch_call_verdict base patch rows room new_rows) base patch
  pub written : image ≡ room_after (patch_call_verdict base patch rows room new_rows) base patch room
  pub carried : map ≡ patched_after (patch_call_verdict base patch rows room new_rows) base patch rows new_rows

-- with refusal 9 the offending 32 bytes of the patch image, in every other case none
abbrev pub offending : Verdict → List ℕ → List ℕ
offending v patch = cond (eqb v.number 9) (record_at patch v.place) []

-- the offending part, whatever maps and rooms are lent to the call
abbrev pub Offends : List ℕ → List ℕ → List ℕ → Type 0
Offends base patch part =
    (rows room new_rows : List ℕ) → part ≡ offending (patch_call_verdict base patch rows room new_rows) patch

-- with refusal 9 where the record at its place starts, and 32; in every other case 0 and 0
abbrev pub stands_at : Verdict → Offending
stands_at v =
    cond (eqb v.number 9) (record { at = record_start v.place; length = 32 }) (record { at = 0; length = 0 })

-- whatever maps and rooms are lent to the call: the answer is that, the bytes there are the offending part, and they lie in
-- the patch image
pub record OffendsAt (base patch : List ℕ) (answer : Offending) : Type 0 where
  pub stands : (rows room new_rows : List ℕ) → answer ≡ stands_at (patch_call_verdict base patch rows room new_rows)
  pub part :
      (rows room new_rows : List ℕ) → take answer.length (drop answer.at patch) ≡ offending (patch_call_verdict base patch rows room new_rows) patch
  pub inside : answer.at + answer.length ≤ length patch

-- a reverse call answers 21-27, then 11: the room must hold as many bytes as the patch
unfoldable pub reverse_verdict : List ℕ → List ℕ → Verdict
reverse_verdict patch room = or_else (patch_verdict patch) (short_refusal (ltb (length room) (length patch)))

abbrev pub reverse_refusal : Verdict → Reversed
reverse_refusal v = record { number = v.number; place = v.place; length = 0 }

-- the length in bytes is returned, which is the patch's
abbrev pub reverse_answer : List ℕ → List ℕ → Reversed
reverse_answer patch room =
    cond (accepted (reverse_verdict patch room))
    (record { number = 0; place = 0; length = length patch })
    (reverse_refusal (reverse_verdict patch room))

-- the reverse of a patch, as a patch image
abbrev pub reverse_of : List ℕ → List ℕ
reverse_of patch = image_of Patch (reversed (records patch))

-- the room afterwards
abbrev pub reverse_after : List ℕ → List ℕ → List ℕ
reverse_after patch room = after (reverse_verdict patch room) (reverse_of patch) room
