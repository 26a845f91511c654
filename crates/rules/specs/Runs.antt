-- Demand 3: a run of patches, each applied to what the last accepted one left, and the same worked out afresh from records.
-- A patch is taken off again by a run of two: the patch, then its reverse.
use Rattle.std.specs.Prelude.{ℕ, List, [], ◌∷◌, Bool, true, cond, ◌&&◌, ◌≡◌, length, take, leb}
use Rattle.rules.specs.declared.Form.TheVariants.{Table}
use Rattle.rules.specs.declared.Verdict.{Verdict}
use Rattle.rules.specs.Numbers.{Bytes}
use Rattle.rules.specs.Blocks.{records, image_of}
use Rattle.rules.specs.Preempt.{map_of}
use Rattle.rules.specs.Patches.{outcome}
use Rattle.rules.specs.Refusals.{accepted, table_verdict, patch_verdict, absent_refusal}
use Rattle.rules.specs.Calls.{over, patch_call_verdict, outcome_length, room_after, patched_after, reverse_of}

-- one patch of a run, with the rooms that are lent for it
pub record Step : Type 0 where
  pub patch : List ℕ
  pub room : List ℕ
  pub rows : List ℕ

-- a table with its map
pub record State : Type 0 where
  pub image : List ℕ
  pub rows : List ℕ

-- what a call leaves: an accepted patch its outcome and map, a refused one what was there
abbrev pub called : State → Step → State
called s p =
    let v = patch_call_verdict s.image p.patch s.rows p.room p.rows in
    cond (accepted v)
    (record {
      image = take (outcome_length s.image p.patch) (room_after v s.image p.patch p.room);
      rows = patched_after v s.image p.patch s.rows p.rows;
    })
    s

-- the run of calls
unfoldable pub calls : State → List Step → State
calls s [] = s
calls s (p ∷ ps) = calls (called s p) ps

-- the state that a run of calls leaves of a table and its map
abbrev pub left_after : List ℕ → List ℕ → List Step → State
left_after image rows ps = calls (record { image = image; rows = rows }) ps

-- worked out afresh: the image of the records, and the map of that table over the start of the rows that were lent for it
abbrev pub afresh : List (List ℕ) → List ℕ → State
afresh rs rows = record { image = image_of Table rs; rows = over (map_of rs) rows }

-- a patch is accepted exactly when it is well-formed, each record that it takes out stands in the base byte for byte, the
-- outcome is a valid table, and the lent map and rooms suffice
abbrev pub acceptable : List (List ℕ) → List ℕ → Step → Bool
acceptable rs rows p =
    accepted (patch_verdict p.patch)
    && (accepted (absent_refusal rs (records p.patch))
    && (accepted (table_verdict (image_of Table (outcome rs (records p.patch))))
    && (leb 64 (length rows)
    && (leb 64 (length p.rows)
    && leb (length (image_of Table (outcome rs (records p.patch)))) (length p.room)))))

-- the first records, less what each accepted patch took out, plus what it put in, in turn; with the rows lent last
unfoldable pub afresh_after : List (List ℕ) → List ℕ → List Step → State
afresh_after rs rows [] = afresh rs rows
afresh_after rs rows (p ∷ ps) =
    cond (acceptable rs rows p) (afresh_after (outcome rs (records p.patch)) p.rows ps) (afresh_after rs rows ps)

-- demand 3, of a valid table, its true map and any run of patches: the calls give what working it out afresh gives
abbrev pub Demand3 : List ℕ → List ℕ → List Step → Type 0
Demand3 image rows ps =
    Bytes image → accepted (table_verdict image) ≡ true → rows ≡ over (map_of (records image)) rows
    → calls (record { image = image; rows = rows }) ps ≡ afresh_after (records image) rows ps

-- the way back from what a patch left: the reverse of the patch is put to it, with this map and these rooms lent
abbrev pub back : Step → List ℕ → List ℕ → Step
back p room rows = record { patch = reverse_of p.patch; room = room; rows = rows }

abbrev pub back_verdict : State → Step → List ℕ → List ℕ → List ℕ → Verdict
back_verdict s p lent room rows = patch_call_verdict (called s p).image (reverse_of p.patch) lent room rows

-- what the way back leaves
abbrev pub brought_back : State → Step → List ℕ → List ℕ → List ℕ → State
brought_back s p lent room rows = called (record { image = (called s p).image; rows = lent }) (back p room rows)

-- a patch that was put to a table with its map can be taken off again
pub record TakenOff (s : State) (p : Step) : Type 0 where
  -- the reverse is accepted exactly when the lent map and rooms suffice
  pub accepted-back :
      (lent room rows : List ℕ)
      → accepted (back_verdict s p lent room rows)
      ≡ (leb 64 (length lent) && (leb 64 (length rows) && leb (length s.image) (length room)))
  -- then the table is given back, byte for byte
  pub image_back :
      (lent room rows : List ℕ) → accepted (back_verdict s p lent room rows) ≡ true
      → (brought_back s p lent room rows).image ≡ s.image
  -- and with a true first map, where the map that the patch left is lent, its 64 rows
  pub rows_back :
      (room rows : List ℕ) → s.rows ≡ over (map_of (records s.image)) s.rows
      → accepted (back_verdict s p (called s p).rows room rows) ≡ true
      → (brought_back s p (called s p).rows room rows).rows ≡ over (take 64 s.rows) rows

-- request k): so can every patch that is accepted
abbrev pub TakesOff : State → Step → Type 0
TakesOff s p =
    Bytes s.image → Bytes p.patch
    → accepted (patch_call_verdict s.image p.patch s.rows p.room p.rows) ≡ true
    → TakenOff s p
