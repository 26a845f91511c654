-- A chain call for a task of the chain that a bound call shows: the heaviest chain of all is the heaviest that contains each
-- of its tasks, so the call shows the same chain again.
use Prim.Native.Nat.{ℕ, zero, suc, ◌≤◌, ◌<◌}
use mathlib.Core.List.{List, [], ◌∷◌, map}
use mathlib.Core.Bool.{Bool, true, ◌||◌, not}
use mathlib.Core.Path.{◌≡◌, refl, ap, sym, subst, ◌∙◌}
use mathlib.Core.Logic.{inl, inr, ⊎_elim}
use native.Mathlib.Omega.{arith}
use borrow.Author.Tests.{eq-eqb, ltb-false, le-ltb, not-false}
use lib.Dec.{ltb}
use lib.ListN.{length, get_or, take, drop, length-map, get_or-append}
use lib.Seq.{take_at}
use Rattle.rules.specs.declared.Form.TheVariants.{Table}
use Rattle.rules.specs.declared.Bounds.{Bounds}
use Rattle.rules.specs.declared.Shown.{Shown}
use Rattle.rules.specs.Blocks.{records}
use Rattle.rules.specs.Records.{tasks, task_count, place_of, listed}
use Rattle.rules.specs.Chains.{weight, Chain, Has, Through, Largest, Heaviest, related, size_at, id_at, Figures, FiguresOf, chain_ids}
use Rattle.rules.specs.Refusals.{accepted, or_else, table_verdict, short_refusal, unlisted_refusal}
use Rattle.rules.specs.Calls.{over, bound_verdict, BoundCall, through_verdict, through_found, ThroughCall, ThroughWorkedOut}
use Rattle.rules.proofs.Numbers.{either, never}
use Rattle.rules.proofs.Tests.{neither_first, neither_second}
use Rattle.rules.proofs.Refusals.{accepted_first, accepted_second, accepted_parts, no_fault}
use Rattle.rules.proofs.Table.Order.{numbers_rise}
use Rattle.rules.proofs.Table.Shape.{faultless_of, faultless_rises}
use Rattle.rules.proofs.Table.Listed.{place_of_number, number_at_place}
use Rattle.rules.proofs.FourBounds.Unique.{heaviest_unique}
use Rattle.rules.proofs.FourBounds.Shown.{chain_below, mapped_at, verdict_accepted, shown_accepted, worked, shown_length, shown_listed}

-- the heaviest of all chains is the heaviest of those that contain a task of it
pub heaviest_through : (n : ℕ) (R : ℕ → ℕ → Bool) (S id : ℕ → ℕ) (i : ℕ) (c : List ℕ) → Heaviest (Chain n R) S id c → Has i c
    → Heaviest (Through n R i) S id c
heaviest_through n R S id i c best has =
    record {
      among = (best.among, has);
      most = λ d through. best.most d through.0;
      first = λ d through. best.first d through.0;
    }

-- the chain among the figures of a table and a map is the heaviest that contains each of its tasks
shown_through : (rs : List (List ℕ)) (rows : List ℕ) (f : Figures) (i : ℕ) → FiguresOf rs rows f → Has i f.chain
    → Heaviest (Through (task_count rs) (related rs rows) i) (size_at rs) (id_at rs) f.chain
shown_through rs rows f i right has =
    heaviest_through (task_count rs) (related rs rows) (size_at rs) (id_at rs) i f.chain right.chain has

-- what stands at a place of a list is in it
pub has_at : (c : List ℕ) (k : ℕ) → k < length c → Has (get_or c k 0) c
has_at [] k h = absurd (omega arith)
has_at (i ∷ c) zero h = inl refl
has_at (i ∷ c) (suc k) h = inr (has_at c k (omega arith))

-- and what is in a list has a place
pub place_in : (i : ℕ) (c : List ℕ) → Has i c → (k : ℕ) × (k < length c) × (get_or c k 0 ≡ i)
place_in i [] has = absurd has
place_in i (j ∷ c) has =
    ⊎_elim
    (λ e. (0, omega arith, e))
    (λ behind.
    let (k, inside, same) = place_in i c behind in
    (suc k, omega arith, same))
    has

-- a chain call for one task is accepted where the table is, the id is listed, and map and room have 64 entries
through_taken : (image rows : List ℕ) (id : ℕ) (ids : List ℕ) → accepted (table_verdict image) ≡ true
    → listed (tasks (records image)) id ≡ true → 64 ≤ length rows → 64 ≤ length ids → accepted (through_verdict image rows id ids) ≡ true
unfolding through_verdict
through_taken image rows id ids table known long enough =
    rw (table, known, le-ltb (length rows) 64 long, le-ltb (length ids) 64 enough)

-- a bound call whose answer is no refusal
module _ (image rows ids : List ℕ) (answer : Bounds) (later : List ℕ) (call : BoundCall image rows ids answer later) (fine : answer.number ≡ 0) where
  -- its map and its room have 64 entries or more
  bound_long : (64 ≤ length rows) × (64 ≤ length ids)
  unfolding bound_verdict
  bound_long =
      let short = ltb (length rows) 64 || ltb (length ids) 64 in
      let long = no_fault 11 0 short (omega arith) (accepted_second (table_verdict image) (short_refusal short) (verdict_accepted image rows ids answer later call fine)) in (
        ltb-false (length rows) 64 (neither_first (ltb (length rows) 64) (ltb (length ids) 64) long),
        ltb-false (length ids) 64 (neither_second (ltb (length rows) 64) (ltb (length ids) 64) long),
      )

  -- the chain that it shows, by places
  shown_places : List ℕ
  shown_places = (worked image rows ids answer later call fine).figures.chain

  -- the ids that it wrote are those of the chain
  shown_ids : take answer.length later ≡ map (id_at (records image)) shown_places
  unfolding shown_places
  shown_ids =
      let found = worked image rows ids answer later call fine in
      let written = chain_ids (records image) found.figures in
      ap (take answer.length) found.found.1
      ∙ take_at written (drop (length written) ids) answer.length (shown_length image rows ids answer later call fine)

  -- the task with a shown id is a task of that chain
  shown_has : (k : ℕ) → k < answer.length → Has (place_of (tasks (records image)) (get_or later k 0)) shown_places
  unfolding shown_places
  shown_has k h =
      let rs = records image in
      let found = worked image rows ids answer later call fine in
      let chain = found.figures.chain in
      let written = chain_ids rs found.figures in
      let long = shown_length image rows ids answer later call fine in
      let inside : k < length chain = omega (arith, long, length-map chain (id_at rs)) in
      let id : get_or later k 0 ≡ id_at rs (get_or chain k 0) = ap (λ (l : List ℕ). get_or l k 0) found.found.1 ∙ get_or-append written (drop (length written) ids) 0 k (omega (arith, long)) ∙ mapped_at (id_at rs) chain k inside in
      let rises = numbers_rise 2 rs (omega arith) (faultless_rises rs (faultless_of Table rs (accepted_parts image (shown_accepted image rows ids answer later call fine)).0)) in
      let place : place_of (tasks rs) (get_or later k 0) ≡ get_or chain k 0 = ap (place_of (tasks rs)) id ∙ place_of_number (tasks rs) rises (get_or chain k 0) (chain_below (task_count rs) (related rs rows) chain found.right.chain.among k inside) in
      subst (λ (i : ℕ). Has i chain) (sym place) (has_at chain k inside)

  -- a chain call for a task of the shown chain, with the same table and map and a room of 64 entries or more
  module _ (k : ℕ) (inside : k < answer.length) (other : List ℕ) (enough : 64 ≤ length other) (shown : Shown) (again : List ℕ) (through : ThroughCall image rows (get_or later k 0) other shown again) where
    -- is accepted
    again_worked : ThroughWorkedOut (records image) rows (get_or later k 0) other shown again
    again_worked =
        through.worked
        (through_taken image rows (get_or later k 0) other (shown_accepted image rows ids answer later call fine)
        (shown_listed image rows ids answer later call fine k inside) bound_long.0 enough)

    -- works out the same chain
    again_same : again_worked.chain ≡ shown_places
    unfolding shown_places
    again_same =
        let rs = records image in
        let found = worked image rows ids answer later call fine in
        let place = place_of (tasks rs) (get_or later k 0) in
        heaviest_unique (Through (task_count rs) (related rs rows) place) (size_at rs) (id_at rs)
        again_worked.chain found.figures.chain again_worked.right
        (shown_through rs rows found.figures place found.right (shown_has k inside))

    -- answers that chain's weight and length, which are the bound call's
    shown_answer_again : shown ≡ record { number = 0; place = 0; weight = answer.chain; length = answer.length }
    unfolding shown_places
    shown_answer_again =
        let found = worked image rows ids answer later call fine in
        again_worked.found.0 ∙ ap (through_found (records image)) again_same
        ∙ ap (λ (b : Bounds). record { number = 0; place = 0; weight = b.chain; length = b.length }) (sym found.found.0)

    -- and writes the same ids at the start of its room
    shown_ids_again : again ≡ over (take answer.length later) other
    shown_ids_again =
        again_worked.found.1
        ∙ ap (λ (chain : List ℕ). over (map (id_at (records image)) chain) other) again_same
        ∙ ap (λ (written : List ℕ). over written other) (sym shown_ids)

  -- a chain call for a task that the bound call shows, with the same table, map and room of ids: the weight, the length and
  -- the ids afterwards are those of the bound call
  pub shown_chain_again : (k : ℕ) → k < answer.length → (shown : Shown) (again : List ℕ)
      → ThroughCall image rows (get_or later k 0) ids shown again
      → (shown ≡ record { number = 0; place = 0; weight = answer.chain; length = answer.length }) × (again ≡ later)
  unfolding shown_places
  shown_chain_again k inside shown again through = (
    shown_answer_again k inside ids bound_long.1 shown again through,
    shown_ids_again k inside ids bound_long.1 shown again through
        ∙ ap (λ (written : List ℕ). over written ids) shown_ids
        ∙ sym (worked image rows ids answer later call fine).found.1,
  )

-- a chain call for one task whose answer is no refusal
module _ (image rows : List ℕ) (id : ℕ) (ids : List ℕ) (answer : Shown) (later : List ℕ) (call : ThroughCall image rows id ids answer later) (fine : answer.number ≡ 0) where
  -- is accepted by its verdict
  through_accepted : accepted (through_verdict image rows id ids) ≡ true
  through_accepted =
      either (accepted (through_verdict image rows id ids))
      (λ t. t)
      (λ t. never (accepted (through_verdict image rows id ids)) (eq-eqb _ 0 (ap (λ (s : Shown). s.number) (sym (call.refused t).0) ∙ fine)) t)

  -- the named task is listed
  pub through_named : listed (tasks (records image)) id ≡ true
  unfolding through_verdict
  through_named =
      let named = listed (tasks (records image)) id in
      let short = short_refusal (ltb (length rows) 64 || ltb (length ids) 64) in
      let rest = accepted_second (table_verdict image) (or_else (unlisted_refusal (not named)) short) through_accepted in
      not-false named (no_fault 15 0 (not named) (omega arith) (accepted_first (unlisted_refusal (not named)) short rest))

  -- and the chain is worked out
  through_worked : ThroughWorkedOut (records image) rows id ids answer later
  through_worked = call.worked through_accepted

  -- the answered weight is that of the heaviest chain that contains the named task
  pub through_weight : Largest (Through (task_count (records image)) (related (records image) rows) (place_of (tasks (records image)) id)) (weight (size_at (records image))) answer.weight
  through_weight =
      let same : answer.weight ≡ weight (size_at (records image)) through_worked.chain = ap (λ (s : Shown). s.weight) through_worked.found.0 in
      record {
        reached = (through_worked.chain, through_worked.right.among, sym same);
        most = λ c through. omega (arith, same, through_worked.right.most c through);
      }

  -- the chain is written whole
  through_length : length (map (id_at (records image)) through_worked.chain) ≡ answer.length
  through_length =
      length-map through_worked.chain (id_at (records image)) ∙ sym (ap (λ (s : Shown). s.length) through_worked.found.0)

  -- each written id is that of the task at its place in the chain
  through_at : (k : ℕ) → k < length through_worked.chain → get_or later k 0 ≡ id_at (records image) (get_or through_worked.chain k 0)
  through_at k inside =
      let chain = through_worked.chain in
      let written = map (id_at (records image)) chain in
      ap (λ (l : List ℕ). get_or l k 0) through_worked.found.1
      ∙ get_or-append written (drop (length written) ids) 0 k (omega (arith, inside, length-map chain (id_at (records image))))
      ∙ mapped_at (id_at (records image)) chain k inside

  -- so the named id is one of them
  pub through_contains : (k : ℕ) × (k < answer.length) × (get_or later k 0 ≡ id)
  through_contains =
      let rs = records image in
      let chain = through_worked.chain in
      let (k, inside, same) = place_in (place_of (tasks rs) id) chain through_worked.right.among.1 in
      (k, omega (arith, inside, through_length, length-map chain (id_at rs)), through_at k inside ∙ ap (id_at rs) same ∙ number_at_place (tasks rs) id through_named)
