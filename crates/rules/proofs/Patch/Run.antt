-- Demand 3 over a run of patches: an accepted call leaves what working it out afresh gives, a refused one what was there.
use Prim.Native.Nat.{ℕ, ◌≤◌}
use mathlib.Core.List.{List, [], ◌∷◌}
use mathlib.Core.Bool.{true, false, cond, ◌&&◌}
use mathlib.Core.Path.{◌≡◌, refl, ap, sym, subst, ◌∙◌}
use native.Mathlib.Omega.{arith}
use borrow.Author.Tests.{leb-true}
use lib.ListN.{length, drop, length-append}
use lib.Seq.{take_at, drop-append_seam}
use lib.Dec.{leb}
use Rattle.rules.specs.declared.Form.TheVariants.{Table}
use Rattle.rules.specs.declared.Bounds.{Bounds}
use Rattle.rules.specs.Numbers.{Bytes}
use Rattle.rules.specs.Blocks.{records, image_of}
use Rattle.rules.specs.Records.{task_count}
use Rattle.rules.specs.Preempt.{decided, map_of}
use Rattle.rules.specs.Patches.{outcome, patched_map}
use Rattle.rules.specs.Refusals.{accepted, table_verdict, patch_verdict, absent_refusal}
use Rattle.rules.specs.Calls.{over, patch_call_verdict, BoundCall}
use Rattle.rules.specs.Runs.{Step, State, called, calls, left_after, afresh, acceptable, afresh_after, Demand3}
use Rattle.rules.proofs.Numbers.{either}
use Rattle.rules.proofs.Tests.{both_first, both_second}
use Rattle.rules.proofs.Maps.{map-length}
use Rattle.rules.proofs.Over.{over-length}
use Rattle.rules.proofs.Image.Parts.{Records}
use Rattle.rules.proofs.Image.Frame.{frame_accepted}
use Rattle.rules.proofs.Image.Written.{length-image_of, records-image_of}
use Rattle.rules.proofs.Image.Read.{image_of-records}
use Rattle.rules.proofs.FourBounds.Unique.{bound_call_determined}
use Rattle.rules.proofs.Patch.Valid.{Valid, valid_of, table_of_valid, valid_image_of}
use Rattle.rules.proofs.Patch.Outcome.{outcome_sized}
use Rattle.rules.proofs.Patch.Exactly.{accepted-acceptable}
use Rattle.rules.proofs.Patch.TrueMap.{patched_true}

-- the true map of a table that is written over rows once more changes nothing
pub over_again : (rs : List (List ℕ)) (rows : List ℕ) → over (map_of rs) rows ≡ over (map_of rs) (over (map_of rs) rows)
over_again rs rows = rw (drop-append_seam (map_of rs) (drop (length (map_of rs)) rows))

-- what an accepted patch leaves of a base with these records and this map
abbrev pub patched_state : List (List ℕ) → List (List ℕ) → List ℕ → List ℕ → State
patched_state rs ps rows new_rows =
    record { image = image_of Table (outcome rs ps); rows = over (patched_map rs ps rows) new_rows }

-- a call that is accepted leaves that
pub called-accepted : (s : State) (p : Step) → Records (outcome (records s.image) (records p.patch))
    → accepted (patch_call_verdict s.image p.patch s.rows p.room p.rows) ≡ true
    → called s p ≡ patched_state (records s.image) (records p.patch) s.rows p.rows
called-accepted s p sized taken =
    let out = outcome (records s.image) (records p.patch) in
    rw (taken, take_at (image_of Table out) (drop (length (image_of Table out)) p.room) _ (length-image_of Table out sized))

-- and one that is refused leaves what was there
called_refused : (s : State) (p : Step)
    → accepted (patch_call_verdict s.image p.patch s.rows p.room p.rows) ≡ false → called s p ≡ s
called_refused s p refused = rw refused

-- a table worked out afresh, with rows enough for its map, and one patch of a run
module _ (rs : List (List ℕ)) (rows : List ℕ) (p : Step) (table : Valid rs) (long : 64 ≤ length rows) where
  -- its image is accepted
  image_accepted : accepted (table_verdict (image_of Table rs)) ≡ true
  image_accepted = ap accepted (table_of_valid rs table)

  -- the call is accepted exactly where the patch is acceptable
  call_acceptable : accepted (patch_call_verdict (image_of Table rs) p.patch (over (map_of rs) rows) p.room p.rows) ≡ acceptable rs rows p
  call_acceptable =
      let fits : length (map_of rs) ≤ length rows = omega (arith, long, map-length (task_count rs) (decided rs)) in
      accepted-acceptable (image_of Table rs) (over (map_of rs) rows) p image_accepted
      ∙ rw (records-image_of Table rs table.sized, over-length (map_of rs) rows fits)

  -- a patch that is acceptable
  module _ (h : acceptable rs rows p ≡ true) where
    -- puts in records of 32 bytes
    outcome-records : Records (outcome rs (records p.patch))
    outcome-records =
        rw (records-image_of Table rs table.sized) at
        (outcome_sized (image_of Table rs) p.patch image_accepted (both_first (accepted (patch_verdict p.patch)) _ h))

    -- what is asked of it besides that it is well-formed and takes out what is there
    rest : (accepted (table_verdict (image_of Table (outcome rs (records p.patch))))
        && (leb 64 (length rows)
        && (leb 64 (length p.rows) && leb (length (image_of Table (outcome rs (records p.patch)))) (length p.room))))
        ≡ true
    rest =
        both_second (accepted (absent_refusal rs (records p.patch))) _ (both_second (accepted (patch_verdict p.patch)) _ h)

    -- leaves a table
    pub outcome_table : Valid (outcome rs (records p.patch))
    outcome_table =
        valid_image_of (outcome rs (records p.patch)) outcome-records
        (both_first (accepted (table_verdict (image_of Table (outcome rs (records p.patch))))) _ rest)

    -- with rows enough for its map
    pub outcome_long : 64 ≤ length p.rows
    outcome_long =
        leb-true 64 (length p.rows)
        (both_first (leb 64 (length p.rows)) _
        (both_second (leb 64 (length rows)) _
        (both_second (accepted (table_verdict (image_of Table (outcome rs (records p.patch))))) _ rest)))

    -- and leaves what working it out afresh gives
    accepted-afresh : called (afresh rs rows) p ≡ afresh (outcome rs (records p.patch)) p.rows
    accepted-afresh =
        let ps = records p.patch in
        let e = records-image_of Table rs table.sized in
        called-accepted (afresh rs rows) p (rw e outcome-records) (call_acceptable ∙ h)
        ∙ ap (λ (l : List (List ℕ)). patched_state l ps (over (map_of rs) rows) p.rows) e
        ∙ rw (patched_true rs ps (over (map_of rs) rows) table outcome_table (over_again rs rows))

  -- so a call, accepted or refused, gives what working it out afresh gives
  pub called-afresh : called (afresh rs rows) p
      ≡ cond (acceptable rs rows p) (afresh (outcome rs (records p.patch)) p.rows) (afresh rs rows)
  called-afresh =
      either (acceptable rs rows p)
      (λ t. accepted-afresh t ∙ rw t)
      (λ t. called_refused (afresh rs rows) p (call_acceptable ∙ t) ∙ rw t)

-- so does a run of calls
pub run_afresh : (rs : List (List ℕ)) (rows : List ℕ) (ps : List Step) → Valid rs → 64 ≤ length rows
    → calls (afresh rs rows) ps ≡ afresh_after rs rows ps
unfolding calls afresh_after
run_afresh rs rows [] table long = refl
run_afresh rs rows (p ∷ ps) table long =
    ap (λ (s : State). calls s ps) (called-afresh rs rows p table long)
    ∙ either (acceptable rs rows p)
    (λ t.
    rw t
    (run_afresh (outcome rs (records p.patch)) p.rows ps (outcome_table rs rows p table long t) (outcome_long rs rows p table long t)))
    (λ t. rw t (run_afresh rs rows ps table long))

-- a state that is worked out afresh from a table, with rows enough for its map
pub record Afresh (s : State) : Type 0 where
  pub table : List (List ℕ)
  pub lent : List ℕ
  pub valid : Valid table
  pub long : 64 ≤ length lent
  pub state : s ≡ afresh table lent

-- in such a state the rows are the true map of the image
pub afresh_true : (s : State) → Afresh s → s.rows ≡ over (map_of (records s.image)) s.rows
afresh_true s a =
    rw (a.state, records-image_of Table a.table a.valid.sized) (over_again a.table a.lent)

-- each run, worked out afresh, ends in such a state
pub afresh-after : (rs : List (List ℕ)) (rows : List ℕ) (ps : List Step) → Valid rs → 64 ≤ length rows → Afresh (afresh_after rs rows ps)
unfolding afresh_after
afresh-after rs rows [] table long = record { table = rs; lent = rows; valid = table; long = long; state = refl }
afresh-after rs rows (p ∷ ps) table long =
    either (acceptable rs rows p)
    (λ t.
    rw t
    (afresh-after (outcome rs (records p.patch)) p.rows ps (outcome_table rs rows p table long t) (outcome_long rs rows p table long t)))
    (λ t. rw t (afresh-after rs rows ps table long))

-- a true map has rows enough
true_long : (rs : List (List ℕ)) (rows : List ℕ) → rows ≡ over (map_of rs) rows → 64 ≤ length rows
true_long rs rows right =
    omega (arith, ap length right, length-append (map_of rs) (drop (length (map_of rs)) rows), map-length (task_count rs) (decided rs))

-- demand 3: of a valid table, its true map and any run of patches, the calls give what working it out afresh gives
pub demand3 : (image rows : List ℕ) (ps : List Step) → Demand3 image rows ps
demand3 image rows ps bytes table right =
    let same : image ≡ image_of Table (records image) = sym (image_of-records Table image bytes (frame_accepted Table image table)) in
    let start : record { image = image; rows = rows } ≡ afresh (records image) rows = λ i. record { image = same i; rows = right i } in
    ap (λ (s : State). calls s ps) start ∙ run_afresh (records image) rows ps (valid_of image table) (true_long (records image) rows right)

-- what a run leaves of a valid table and its true map
module _ (image rows : List ℕ) (ps : List Step) (bytes : Bytes image) (table : accepted (table_verdict image) ≡ true) (right : rows ≡ over (map_of (records image)) rows) where
  -- is worked out afresh from a table, so it is again a valid table with its true map
  pub run_left : Afresh (left_after image rows ps)
  run_left =
      rw (demand3 image rows ps bytes table right)
      (afresh-after (records image) rows ps (valid_of image table) (true_long (records image) rows right))

  -- and a bound call on it gives the bounds and the chain that one on the table worked out afresh gives
  pub run_bounds : (ids : List ℕ) (answer other : Bounds) (later others : List ℕ)
      → BoundCall (left_after image rows ps).image (left_after image rows ps).rows ids answer later
      → BoundCall (afresh_after (records image) rows ps).image (afresh_after (records image) rows ps).rows ids other others
      → (answer ≡ other) × (later ≡ others)
  run_bounds ids answer other later others call call' =
      let fresh = afresh_after (records image) rows ps in
      bound_call_determined fresh.image fresh.rows ids answer other later others
      (subst (λ (s : State). BoundCall s.image s.rows ids answer later) (demand3 image rows ps bytes table right) call)
      call'
