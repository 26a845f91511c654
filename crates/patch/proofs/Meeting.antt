-- Records taken out are met in turn among the base's: both rise, so the first that is not met stands nowhere in the base.
use Prim.Native.Nat.{ℕ, zero, suc, ◌+◌, ◌≤◌, ◌<◌}
use mathlib.Core.List.{List, []}
use mathlib.Core.Bool.{Bool, true, false, ◌&&◌, not}
use mathlib.Core.Path.{◌≡◌, refl, ap, sym, ◌∙◌}
use native.Mathlib.Numerals.{add-one}
use native.Mathlib.Omega.{arith}
use borrow.Author.Tests.{eq-eqb, ne_eqb, ltb-true, ltb-false, lt-ltb}
use lib.ListN.{length, get_or}
use lib.Dec.{eqb, ltb}
use Rattle.rules.specs.Numbers.{lowest}
use Rattle.rules.specs.Records.{way_of, image_key}
use Rattle.rules.specs.Patches.{same, has, taken_out}
use Rattle.rules.proofs.Numbers.{either, never, lowest_here, lowest-none}
use Rattle.rules.proofs.Tests.{both_first, both_second}
use Rattle.rules.proofs.Table.Order.{Rises}
use Rattle.rules.proofs.Patch.Members.{same_refl, same_equal, has_at, has_place, has-taken_out}
use Rattle.image.specs.InTurn.{past, met_among}

-- one more record of the base is passed
pub met_step : (bs ps : List (List ℕ)) (n : ℕ) → met_among bs ps (n + 1) ≡ past ps (get_or bs n []) (met_among bs ps n)
unfolding met_among
met_step bs ps n = rw add-one

-- before the first, none is met
pub met_none : (bs ps : List (List ℕ)) → met_among bs ps 0 ≡ 0
unfolding met_among
met_none bs ps = refl

-- the record sought is this one
abbrev is_met : List (List ℕ) → List ℕ → ℕ → Bool
is_met ps r k = ltb k (length ps) && same (get_or ps k []) r

-- then it is passed
past_met : (ps : List (List ℕ)) (r : List ℕ) (k : ℕ) → is_met ps r k ≡ true → past ps r k ≡ k + 1
unfolding past
past_met ps r k h = rw h

-- else it is still sought
past_unmet : (ps : List (List ℕ)) (r : List ℕ) (k : ℕ) → is_met ps r k ≡ false → past ps r k ≡ k
unfolding past
past_unmet ps r k h = rw h

-- a record that is met is in the list, and is the one sought
met_inside : (ps : List (List ℕ)) (r : List ℕ) (k : ℕ) → is_met ps r k ≡ true → k < length ps
met_inside ps r k h = ltb-true k (length ps) (both_first (ltb k (length ps)) (same (get_or ps k []) r) h)

met_same : (ps : List (List ℕ)) (r : List ℕ) (k : ℕ) → is_met ps r k ≡ true → get_or ps k [] ≡ r
met_same ps r k h = same_equal (get_or ps k []) r (both_second (ltb k (length ps)) (same (get_or ps k []) r) h)

-- the record sought is met where it is this one
met_here : (ps : List (List ℕ)) (r : List ℕ) (k : ℕ) → k < length ps → get_or ps k [] ≡ r → is_met ps r k ≡ true
met_here ps r k l e = rw (lt-ltb k (length ps) l, e) (same_refl r)

-- a test that fails leaves nothing of both
and-false : (b : Bool) → (b && false) ≡ false
and-false true = refl
and-false false = refl

-- base and patch, both in order
module _ (bs ps : List (List ℕ)) (base_rises : Rises image_key bs) (patch_rises : Rises image_key ps) where
  -- those below are met
  pub met_below : (n k : ℕ) → k < met_among bs ps n → (i : ℕ) × (i < n) × (get_or bs i [] ≡ get_or ps k [])
  unfolding met_among
  met_below zero k l = absurd (omega arith)
  met_below (suc n) k l =
      let g = met_among bs ps n in
      let earlier : k < g → (i : ℕ) × (i < suc n) × (get_or bs i [] ≡ get_or ps k []) = λ h. let there = met_below n k h in (there.0, omega (arith, there.1), there.2) in
      either (is_met ps (get_or bs n []) g)
      (λ t.
      either (ltb k g)
      (λ u. earlier (ltb-true k g u))
      (λ u.
      let same : k ≡ g = omega (arith, ltb-false k g u, past_met ps (get_or bs n []) g t) in
      (n, omega arith, sym (rw same (met_same ps (get_or bs n []) g t)))))
      (λ t. earlier (omega (arith, past_unmet ps (get_or bs n []) g t)))

  -- the one sought is none of those passed
  pub met_next : (n i : ℕ) → n ≤ length bs → i < n → met_among bs ps n < length ps → get_or ps (met_among bs ps n) [] ≡ get_or bs i [] → ⊥
  unfolding met_among
  met_next zero i few l inside e = absurd (omega arith)
  met_next (suc n) i few l inside e =
      let g = met_among bs ps n in
      either (is_met ps (get_or bs n []) g)
      (λ t.
      let next : past ps (get_or bs n []) g ≡ g + 1 = past_met ps (get_or bs n []) g t in
      let above : image_key (get_or ps g []) < image_key (get_or ps (g + 1) []) = patch_rises g (g + 1) (omega arith) (omega arith) in
      let here : image_key (get_or ps g []) ≡ image_key (get_or bs n []) = ap image_key (met_same ps (get_or bs n []) g t) in
      let there : image_key (get_or ps (g + 1) []) ≡ image_key (get_or bs i []) = ap image_key (rw next at e) in
      either (ltb i n)
      (λ u. omega (arith, base_rises i n (ltb-true i n u) (omega arith)))
      (λ u.
      let same : i ≡ n = omega (arith, ltb-false i n u) in
      omega (arith, ap (λ (j : ℕ). image_key (get_or bs j [])) same)))
      (λ t.
      let stays : past ps (get_or bs n []) g ≡ g = past_unmet ps (get_or bs n []) g t in
      let sought : get_or ps g [] ≡ get_or bs i [] = rw stays at e in
      either (ltb i n)
      (λ u. met_next n i (omega arith) (ltb-true i n u) (omega arith) sought)
      (λ u.
      let same : i ≡ n = omega (arith, ltb-false i n u) in
      never (is_met ps (get_or bs n []) g) (met_here ps (get_or bs n []) g (omega arith) (sought ∙ ap (λ (j : ℕ). get_or bs j []) same)) t))

  -- all that are taken out come before all that are put in, and no record of the base is put in
  module _ (ways : (j k : ℕ) → j < k → k < length ps → way_of (get_or ps j []) ≤ way_of (get_or ps k [])) (table : (k : ℕ) → way_of (get_or bs k []) ≡ 0) where
    -- a record to take out that the base lacks
    abbrev pub is_absent : ℕ → Bool
    is_absent k = eqb (way_of (get_or ps k [])) 0 && not (has bs (get_or ps k []))

    -- none that is met is such
    met_stands : (k : ℕ) → k < met_among bs ps (length bs) → is_absent k ≡ false
    met_stands k l =
        let there = met_below (length bs) k l in
        let stands : has bs (get_or ps k []) ≡ true = rw (← there.2) (has_at bs there.0 there.1) in
        rw stands (and-false (eqb (way_of (get_or ps k [])) 0))

    -- the one sought at the end is the first such, where it is taken out
    pub met_absent : met_among bs ps (length bs) < length ps → way_of (get_or ps (met_among bs ps (length bs)) []) ≡ 0
        → lowest is_absent (length ps) ≡ met_among bs ps (length bs)
    met_absent inside way =
        let g = met_among bs ps (length bs) in
        let lacking : has bs (get_or ps g []) ≡ false = either (has bs (get_or ps g [])) (λ t. let there = has_place bs (get_or ps g []) t in absurd (met_next (length bs) there.0 (omega arith) there.1 inside (sym there.2))) (λ t. t) in
        lowest_here is_absent g (length ps) (lowest-none is_absent g met_stands) (rw (eq-eqb (way_of (get_or ps g [])) 0 way, lacking)) inside

    -- and where it is not, there is none
    pub met_all : (met_among bs ps (length bs) < length ps → way_of (get_or ps (met_among bs ps (length bs)) []) ≡ 0 → ⊥)
        → lowest is_absent (length ps) ≡ length ps
    met_all end =
        let g = met_among bs ps (length bs) in
        lowest-none is_absent (length ps)
        (λ k l.
        either (ltb k g)
        (λ t. met_stands k (ltb-true k g t))
        (λ t.
        let from = ltb-false k g t in
        let other : way_of (get_or ps k []) ≡ 0 → ⊥ = λ e. either (ltb g k) (λ u. end (omega arith) (omega (arith, ways g k (ltb-true g k u) l))) (λ u. let same : k ≡ g = omega (arith, ltb-false g k u) in end (omega arith) (ap (λ (j : ℕ). way_of (get_or ps j [])) (sym same) ∙ e)) in
        rw (ne_eqb (way_of (get_or ps k [])) 0 other)))

    -- where each record that is taken out stands in the base
    module _ (present : (k : ℕ) → k < length ps → way_of (get_or ps k []) ≡ 0 → has bs (get_or ps k []) ≡ true) where
      -- a record of the base that is taken out is the one sought when it is passed
      taken_sought : (b : ℕ) → b < length bs → has (taken_out ps) (get_or bs b []) ≡ true → is_met ps (get_or bs b []) (met_among bs ps b) ≡ true
      taken_sought b l taken =
          let r = get_or bs b [] in
          let g = met_among bs ps b in
          let there = has_place ps r (both_first (has ps r) (eqb (way_of r) 0) (sym (has-taken_out ps r) ∙ taken)) in
          let k = there.0 in
          let way : way_of (get_or ps k []) ≡ 0 = ap way_of there.2 ∙ table b in
          either (ltb k g)
          (λ t.
          let before = met_below b k (ltb-true k g t) in
          absurd (omega (arith, base_rises before.0 b before.1 l, ap image_key before.2, ap image_key there.2)))
          (λ t.
          either (ltb g k)
          (λ u.
          let after = ltb-true g k u in
          let sought = has_place bs (get_or ps g []) (present g (omega (arith, there.1)) (omega (arith, ways g k after there.1))) in
          let lower : image_key (get_or bs sought.0 []) < image_key r = omega (arith, patch_rises g k after there.1, ap image_key sought.2, ap image_key there.2) in
          either (ltb sought.0 b)
          (λ v. absurd (met_next b sought.0 (omega arith) (ltb-true sought.0 b v) (omega (arith, there.1)) (sym sought.2)))
          (λ v.
          either (ltb b sought.0)
          (λ w. absurd (omega (arith, base_rises b sought.0 (ltb-true b sought.0 w) sought.1)))
          (λ w.
          let same : sought.0 ≡ b = omega (arith, ltb-false sought.0 b v, ltb-false b sought.0 w) in
          absurd (omega (arith, ap (λ (j : ℕ). image_key (get_or bs j [])) same)))))
          (λ u.
          let same : k ≡ g = omega (arith, ltb-false k g t, ltb-false g k u) in
          met_here ps r g (omega (arith, there.1)) (ap (λ (j : ℕ). get_or ps j []) (sym same) ∙ there.2)))

      -- so a record of the base is kept exactly where it is not the one sought
      pub kept_where : (b : ℕ) → b < length bs → eqb (past ps (get_or bs b []) (met_among bs ps b)) (met_among bs ps b) ≡ not (has (taken_out ps) (get_or bs b []))
      kept_where b l =
          let r = get_or bs b [] in
          let g = met_among bs ps b in
          either (is_met ps r g)
          (λ t.
          let member : has ps r ≡ true = rw (← met_same ps r g t) (has_at ps g (met_inside ps r g t)) in
          rw (ne_eqb (past ps r g) g (λ e. omega (arith, past_met ps r g t)), has-taken_out ps r, member, eq-eqb (way_of r) 0 (table b)))
          (λ t.
          either (has (taken_out ps) r)
          (λ u. never (is_met ps r g) (taken_sought b l u) t)
          (λ u. rw (u, eq-eqb (past ps r g) g (past_unmet ps r g t))))
