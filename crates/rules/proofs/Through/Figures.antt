-- What an accepted room call wrote, read off the entries of the room: each is the reserve less the heaviest chain that
-- contains its task, and none is less than the reserve less the heaviest chain of all.
use Prim.Native.Nat.{ℕ, suc, ◌+◌, ◌-◌, ◌≤◌, ◌<◌}
use mathlib.Core.List.{List, [], ◌∷◌}
use mathlib.Core.Bool.{Bool, true, ◌||◌}
use mathlib.Core.Path.{◌≡◌, refl, ap, sym, subst, ◌∙◌}
use mathlib.Core.Logic.{inl}
use native.Mathlib.Omega.{arith}
use borrow.Author.Tests.{ltb-true, ltb-false, le-leb}
use lib.Dec.{ltb, leb}
use lib.ListN.{length, get_or}
use lib.IntN.{ℤ, pos, negsuc, sub_ℕ}
use lib.Signed.{◌≤ℤ◌, le_z_yes}
use Rattle.rules.specs.declared.Form.TheVariants.{Table}
use Rattle.rules.specs.declared.Verdict.{Verdict}
use Rattle.rules.specs.Numbers.{up_to}
use Rattle.rules.specs.Blocks.{records}
use Rattle.rules.specs.Records.{task_count}
use Rattle.rules.specs.Chains.{weight, grown, Chain, Has, Through, Largest, Heaviest, related, size_at, id_at, Figures, FiguresOf, chain_bound}
use Rattle.rules.specs.Refusals.{accepted, table_verdict, short_refusal}
use Rattle.rules.specs.Calls.{room_left_verdict, RoomLeftWorkedOut, RoomLeftCall}
use Rattle.rules.proofs.Numbers.{either, length-up_to, get_or-up_to}
use Rattle.rules.proofs.Tests.{true_T, neither_second}
use Rattle.rules.proofs.Over.{over_written, over_kept, over-length}
use Rattle.rules.proofs.Refusals.{zero_accepted, accepted_first, accepted_second, accepted_parts, no_fault}
use Rattle.rules.proofs.Table.Shape.{faultless_of, few_tasks}
use Rattle.rules.proofs.FourBounds.Accepted.{accepted_sizes}
use Rattle.rules.proofs.Through.Growing.{room_exact, room_short}

-- of two differences from one number, the one that takes more away is the smaller
less_left : (whole small large : ℕ) → small ≤ large → sub_ℕ whole large ≤ℤ sub_ℕ whole small
less_left whole small large order =
    le_z_yes
    (either (ltb whole large)
    (λ short.
    either (ltb whole small)
    (λ shorter.
    rw (short, shorter)
    (true_T (leb (small - suc whole) (large - suc whole)) (le-leb (small - suc whole) (large - suc whole) (omega (arith, ltb-true whole small shorter)))))
    (λ enough. rw (short, enough) tt))
    (λ fits.
    either (ltb whole small)
    (λ short. absurd (omega (arith, ltb-false whole large fits, ltb-true whole small short)))
    (λ enough.
    rw (fits, enough)
    (true_T (leb (whole - large) (whole - small)) (le-leb (whole - large) (whole - small) (omega arith))))))

-- where there is a task and the first weighs something, the heaviest chain contains a task
heaviest_contains : (n : ℕ) (R : ℕ → ℕ → Bool) (S id : ℕ → ℕ) → 0 < n → 0 < S 0 → (c : List ℕ) → Heaviest (Chain n R) S id c
    → (i : ℕ) × (i < n) × Has i c
heaviest_contains n R S id some heavy [] best = absurd (omega (arith, best.most (0 ∷ []) (some, tt, tt)))
heaviest_contains n R S id some heavy (i ∷ c) best = (i, best.among.0, inl refl)

-- a chain of the table and the map that contains the task at a place
abbrev pub ChainThrough : List ℕ → List ℕ → ℕ → List ℕ → Type 0
ChainThrough image rows i = Through (task_count (records image)) (related (records image) rows) i

-- a room call whose answer is no refusal
module _ (image rows : List ℕ) (reserve : ℕ) (room : List ℤ) (answer : Verdict) (later : List ℤ) (call : RoomLeftCall image rows reserve room answer later) (fine : answer.number ≡ 0) where
  -- is accepted by its verdict
  room_accepted : accepted (room_left_verdict image rows room) ≡ true
  room_accepted = zero_accepted answer (room_left_verdict image rows room) call.answered fine

  -- its table is accepted
  pub room_table : accepted (table_verdict image) ≡ true
  unfolding room_left_verdict
  room_table = accepted_first (table_verdict image) (short_refusal (ltb (length rows) 64 || ltb (length room) 64)) room_accepted

  -- the room has 64 entries or more
  room_long : 64 ≤ length room
  unfolding room_left_verdict
  room_long =
      let short = ltb (length rows) 64 || ltb (length room) 64 in
      let long = no_fault 11 0 short (omega arith) (accepted_second (table_verdict image) (short_refusal short) room_accepted) in
      ltb-false (length room) 64 (neither_second (ltb (length rows) 64) (ltb (length room) 64) long)

  -- and the table has no more tasks
  room_tasks : task_count (records image) ≤ 64
  room_tasks = few_tasks (records image) (faultless_of Table (records image) (accepted_parts image room_table).0)

  -- so its figures are worked out
  room_worked : RoomLeftWorkedOut (records image) rows reserve room later
  room_worked = call.worked room_accepted

  -- what is written, by place
  written : ℕ → ℤ
  written i = sub_ℕ reserve (room_worked.heaviest i)

  -- the entry of a task is the reserve less what the heaviest chain that contains it weighs
  pub room_figure : (i : ℕ) → i < task_count (records image)
      → (r : ℕ) × Largest (ChainThrough image rows i) (weight (size_at (records image))) r × (get_or later i (pos 0) ≡ sub_ℕ reserve r)
  unfolding written
  room_figure i inside =
      let count = task_count (records image) in (
        room_worked.heaviest i,
        room_worked.right i inside,
        ap (λ (l : List ℤ). get_or l i (pos 0)) room_worked.written
            ∙ over_written (up_to written count) room i (pos 0) (rw (length-up_to written count) inside)
            ∙ get_or-up_to written count i (pos 0) inside,
      )

  -- the entries behind those of the tasks are as they were
  pub room_kept : (i : ℕ) → task_count (records image) ≤ i → get_or later i (pos 0) ≡ get_or room i (pos 0)
  unfolding written
  room_kept i behind =
      let count = task_count (records image) in
      ap (λ (l : List ℤ). get_or l i (pos 0)) room_worked.written
      ∙ over_kept (up_to written count) room i (pos 0) (rw (length-up_to written count) behind)

  -- and the room is as long as it was
  pub room_length : length later ≡ length room
  unfolding written
  room_length =
      let count = task_count (records image) in
      ap length room_worked.written
      ∙ over-length (up_to written count) room (omega (arith, length-up_to written count, room_tasks, room_long))

  -- where the entry of a task is not negative, the task may grow by exactly that: every chain that contains it stays within
  -- the reserve, and with one byte more one of them does not
  pub room_grows : (i figure : ℕ) → i < task_count (records image) → get_or later i (pos 0) ≡ pos figure
      → ((c : List ℕ) → ChainThrough image rows i c → weight (grown (size_at (records image)) i figure) c ≤ reserve) × ((c : List ℕ) × ChainThrough image rows i c × (reserve < weight (grown (size_at (records image)) i (figure + 1)) c))
  room_grows i figure inside same =
      let (r, largest, entry) = room_figure i inside in
      room_exact image rows room_table i reserve r figure largest (sym entry ∙ same)

  -- and where it is negative, some chain that contains the task is above the reserve by so much already
  pub room_lacks : (i k : ℕ) → i < task_count (records image) → get_or later i (pos 0) ≡ negsuc k
      → (c : List ℕ) × ChainThrough image rows i c × (weight (size_at (records image)) c ≡ reserve + k + 1)
  room_lacks i k inside same =
      let (r, largest, entry) = room_figure i inside in
      room_short image rows room_table i reserve r k largest (sym entry ∙ same)

  -- the figures of a bound call with the same table and map
  module _ (f : Figures) (right : FiguresOf (records image) rows f) where
    -- no chain that contains a task weighs more than the chain bound
    within_bound : (i r : ℕ) → Largest (ChainThrough image rows i) (weight (size_at (records image))) r → r ≤ chain_bound (records image) f
    within_bound i r largest =
        let (c, through, same) = largest.reached in
        omega (arith, same, right.chain.most c through.0)

    -- no entry of a task is less than the reserve less the chain bound
    pub room_least : (i : ℕ) → i < task_count (records image) → sub_ℕ reserve (chain_bound (records image) f) ≤ℤ get_or later i (pos 0)
    room_least i inside =
        let (r, largest, entry) = room_figure i inside in
        subst (λ (z : ℤ). sub_ℕ reserve (chain_bound (records image) f) ≤ℤ z) (sym entry)
        (less_left reserve r (chain_bound (records image) f) (within_bound i r largest))

    -- the entry of each task of the shown chain is exactly that
    room_shown : (i : ℕ) → i < task_count (records image) → Has i f.chain
        → get_or later i (pos 0) ≡ sub_ℕ reserve (chain_bound (records image) f)
    room_shown i inside has =
        let (r, largest, entry) = room_figure i inside in
        let same : r ≡ chain_bound (records image) f = omega (arith, within_bound i r largest, largest.most f.chain (right.chain.among, has)) in
        entry ∙ ap (sub_ℕ reserve) same

    -- so where there is a task, some entry of a task is exactly that
    pub room_least_reached : 0 < task_count (records image)
        → (i : ℕ) × (i < task_count (records image)) × (get_or later i (pos 0) ≡ sub_ℕ reserve (chain_bound (records image) f))
    room_least_reached some =
        let (i, inside, has) = heaviest_contains (task_count (records image)) (related (records image) rows) (size_at (records image)) (id_at (records image)) some (accepted_sizes image room_table 0 some) f.chain right.chain in
        (i, inside, room_shown i inside has)
