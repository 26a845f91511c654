-- The answers of the two calls: refused by the table, by an id that is not listed, by a short map or room, or worked out.
use Prim.Native.Nat.{ℕ, ◌≤◌, ◌<◌}
use mathlib.Core.List.{List, map}
use mathlib.Core.Bool.{true, false, ◌||◌, or-true}
use mathlib.Core.Logic.{◌⊎◌, ⊎_elim}
use mathlib.Core.Path.{◌≡◌, refl, sym, ap, ◌∙◌}
use native.Mathlib.Omega.{arith}
use borrow.Author.Tests.{lt-ltb, le-ltb}
use lib.Dec.{ltb}
use lib.IntN.{ℤ, sub_ℕ}
use lib.ListN.{length, get_or}
use Rattle.std.specs.Prelude.{Result}
use Rattle.std.specs.Result.{IsErrAnd}
use Rattle.std.proofs.lemmas.Result.{err_from_is_err_and}
use Rattle.rules.specs.declared.Refusal.{Refusal}
use Rattle.rules.specs.declared.Verdict.{Verdict}
use Rattle.rules.specs.declared.ChainFound.{ChainFound}
use Rattle.rules.specs.Numbers.{up_to}
use Rattle.rules.specs.Blocks.{records}
use Rattle.rules.specs.Records.{tasks, place_of, listed}
use Rattle.rules.specs.Preempt.{cell}
use Rattle.rules.specs.Chains.{weight, Through, related}
use Rattle.rules.specs.Refusals.{accepted, refusal, fine, table_verdict}
use Rattle.rules.specs.Calls.{over, room_left_verdict, RoomLeftCall, through_verdict, through_refusal, ThroughCall}
use Rattle.rules.specs.Told.{verdict_of, judged, chain_told}
use Rattle.rules.proofs.Judged.{is_refused}
use Rattle.rules.proofs.Numbers.{never}
use Rattle.rules.proofs.Table.Shape.{Shape}
use Rattle.rules.proofs.FourBounds.Accepted.{accepted_sizes}
use Rattle.table.specs.declared.accepted.Table.{Table}
use Rattle.table.proofs.Judging.{handed_on}
use Rattle.table.proofs.Tables.{shape}
use Rattle.preempt.specs.declared.tasks.Tasks.{Tasks}
use Rattle.preempt.proofs.Reading.{size_is}
use Rattle.stack.specs.declared.search.Best.{Best}
use Rattle.stack.specs.Search.{best_of, HeaviestFound}
use Rattle.stack.proofs.Calling.{listed_long}
use Rattle.stack.proofs.Figures.{chain_within, sizes_same, ids_same, over_relation, heaviest_found}
use Rattle.through.specs.Weights.{WeightsThrough}

-- one of two rooms is short
short : (a b : ℕ) → (a < 64) ⊎ ((64 ≤ a) × (b < 64)) → (ltb a 64 || ltb b 64) ≡ true
short a b which =
    ⊎_elim (λ l. rw (lt-ltb a 64 l)) (λ l. rw (lt-ltb b 64 l.1) (or-true (ltb a 64))) which

module _ (image lent : List ℕ) (reserve : ℕ) (room : List ℤ) where
  -- a room call that is refused
  room_refused : (v : Verdict) → room_left_verdict image lent room ≡ v → accepted v ≡ false → RoomLeftCall image lent reserve room v room
  room_refused v e no' =
      record {
        answered = sym e;
        refused = λ h. refl;
        worked = λ h. never (accepted v) (ap accepted (sym e) ∙ h) no';
      }

  pub room_by_table : {T : Type 0} (r : Result T Refusal) (e : Refusal) → IsErrAnd r (λ y. y ≡ e) → verdict_of e ≡ table_verdict image → RoomLeftCall image lent reserve room (judged r) room
  unfolding room_left_verdict
  room_by_table r e is told =
      let no' : accepted (table_verdict image) ≡ false = rw (← told) (is_refused e) in
      rw (handed_on r e is told) (room_refused (table_verdict image) (rw no') no')

module _ (image lent : List ℕ) (id : ℕ) (ids : List ℕ) where
  -- a chain call for one task that is refused
  through_refused : (v : Verdict) → through_verdict image lent id ids ≡ v → accepted v ≡ false → ThroughCall image lent id ids (through_refusal v) ids
  through_refused v e no' =
      record {
        refused = λ h. (ap through_refusal (sym e), refl);
        worked = λ h. never (accepted v) (ap accepted (sym e) ∙ h) no';
      }

  pub through_by_table : (r : Result ChainFound Refusal) (e : Refusal) → IsErrAnd r (λ y. y ≡ e) → verdict_of e ≡ table_verdict image → ThroughCall image lent id ids (chain_told r) ids
  unfolding through_verdict
  through_by_table r e is told =
      let no' : accepted (table_verdict image) ≡ false = rw (← told) (is_refused e) in
      let (handed, refused, same) = err_from_is_err_and r is in
      rw (refused, same, told) (through_refused (table_verdict image) (rw no') no')

-- of an accepted table
module _ (t : Table) (lent : List ℕ) where
  pub room_by_short : (reserve : ℕ) (room : List ℤ) → (length lent < 64) ⊎ ((64 ≤ length lent) × (length room < 64)) → RoomLeftCall t.image.now lent reserve room (refusal 11 0) room
  unfolding room_left_verdict
  room_by_short reserve room which =
      room_refused t.image.now lent reserve room (refusal 11 0) (rw (t.accepted, short (length lent) (length room) which)) refl

  pub through_by_id : (id : ℕ) (ids : List ℕ) → t.tasks ≡ place_of (tasks (records t.image.now)) id → ThroughCall t.image.now lent id ids (through_refusal (refusal 15 0)) ids
  unfolding through_verdict
  through_by_id id ids none =
      through_refused t.image.now lent id ids (refusal 15 0) (rw (t.accepted, unlisted)) refl
    where
      unlisted : listed (tasks (records t.image.now)) id ≡ false
      unlisted = le-ltb _ _ (omega (arith, none, t.tasks_counted))

  -- the id is listed
  module _ (id place : ℕ) (here : place ≡ place_of (tasks (records t.image.now)) id) (below : place < t.tasks) where
    known : listed (tasks (records t.image.now)) id ≡ true
    known = lt-ltb _ _ (omega (arith, here, below, t.tasks_counted))

    pub through_by_short : (ids : List ℕ) → (length lent < 64) ⊎ ((64 ≤ length lent) × (length ids < 64)) → ThroughCall t.image.now lent id ids (through_refusal (refusal 11 0)) ids
    unfolding through_verdict
    through_by_short ids which =
        through_refused t.image.now lent id ids (refusal 11 0) (rw (t.accepted, known, short (length lent) (length ids) which)) refl

-- the rows are the relation of the table and a lent map
module _ (t : Tasks) (lent rows : List ℕ) (same : cell rows ≡ related (records t.table.image.now) lent) where
  abbrev image : List ℕ
  image = t.table.image.now

  abbrev rs : List (List ℕ)
  rs = records image

  abbrev count : ℕ
  count = t.table.tasks

  whole : Shape rs
  whole = shape t.table

  -- every task has a size
  pub some_size : (i : ℕ) → i < count → 0 < get_or t.columns.sizes i 0
  some_size i h =
      omega (arith, size_is rs count t.columns whole t.read i, accepted_sizes image t.table.accepted i (omega (arith, t.read.count)))

  -- what was found over them is right for the table and the map
  pub room_answered : (reserve : ℕ) (room later : List ℤ) (weights : List ℕ) → 64 ≤ length lent → 64 ≤ length room → WeightsThrough count rows t.columns.sizes weights
      → later ≡ over (up_to (λ i. sub_ℕ reserve (get_or weights i 0)) count) room → RoomLeftCall image lent reserve room fine later
  unfolding room_left_verdict
  room_answered reserve room later weights map_long room_long found written =
      record {
        answered = sym verdict;
        refused = λ h. never (accepted (room_left_verdict image lent room)) (ap accepted verdict) h;
        worked = λ h.
            record {
              heaviest = λ i. get_or weights i 0;
              right = λ i below. over_relation rs lent count t.columns whole t.read rows same (λ n R. Through n R i) (get_or weights i 0) (found i (omega (arith, t.read.count)));
              written = written ∙ ap (λ (n : ℕ). over (up_to (λ i. sub_ℕ reserve (get_or weights i 0)) n) room) t.read.count;
            };
      }
    where
      verdict : room_left_verdict image lent room ≡ fine
      verdict = rw (t.table.accepted, le-ltb (length lent) 64 map_long, le-ltb (length room) 64 room_long)

  pub through_answered : (id place : ℕ) (best : Best) (ids later : List ℕ) → place ≡ place_of (tasks rs) id → place < count → 64 ≤ length lent → 64 ≤ length ids
      → length best.chain.places ≡ 64 → HeaviestFound (Through count (cell rows) place) t.columns.sizes best
      → later ≡ over (map (λ i. get_or t.columns.ids i 0) (best_of best)) ids
      → ThroughCall image lent id ids (record { number = 0; place = 0; weight = best.weight; length = best.chain.length }) later
  unfolding through_verdict
  through_answered id place best ids later here below map_long room_long long found written =
      record {
        refused = λ h. never (accepted (through_verdict image lent id ids)) verdict h;
        worked = λ h.
            record {
              chain = best_of best;
              right = rw here at (heaviest_found rs lent count t.columns whole t.read rows same (λ n R. Through n R place) (λ n R d through. chain_within n R d through.0) (best_of best) found.heaviest);
              found = (
                rw (found.weighs ∙ ap (λ (S : ℕ → ℕ). weight S (best_of best)) (sizes_same rs lent count t.columns whole t.read), listed_long best.chain long) refl,
                written ∙ ap (λ (f : ℕ → ℕ). over (map f (best_of best)) ids) (ids_same rs lent count t.columns whole t.read),
              );
            };
      }
    where
      verdict : accepted (through_verdict image lent id ids) ≡ true
      verdict = rw (t.table.accepted, known t.table lent id place here below, le-ltb (length lent) 64 map_long, le-ltb (length ids) 64 room_long)
