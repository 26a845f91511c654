-- A test that computes, for each entry of the table of cases: where it passes, the entry holds.
use Prim.Native.Nat.{ℕ}
use mathlib.Core.List.{List, [], ◌∷◌}
use mathlib.Core.Bool.{Bool, true, false, ◌&&◌, not}
use mathlib.Core.Path.{◌≡◌, refl}
use lib.Dec.{T, eqb, eqb→eq}
use Rattle.rules.proofs.Tests.{T_true, both}
use Rattle.rules.specs.declared.Form.TheVariants.{Table}
use Rattle.rules.specs.Preempt.{decided, map_of}
use Rattle.rules.specs.Chains.{Figures, chain_bound, chain_ids}
use Rattle.rules.specs.Patches.{same, outcome, touched_count, patched_map}
use Rattle.rules.specs.Refusals.{records_verdict, link_refusal}
use Rattle.rules.proofs.Refusals.{accepted_both}
use Rattle.rules.proofs.Enumerate.{figures, figures_right}
use Rattle.rules.proofs.FourBounds.Accepted.{records_climbing}
use Rattle.rules.proofs.Enumerate.Apart.{records_apart}
use Rattle.rules.proofs.Cases.Entries.{Shown, Shows, Case, valid, applies, Holds, AllHold}
use Rattle.rules.proofs.Cases.Entries.Case.{preempted, shown, patched}

-- the answers agree
abbrev pub agree : Bool → Bool → Bool
agree true b = b
agree false b = not b

-- answers that agree are equal
agree_equal : (a b : Bool) → T (agree a b) → a ≡ b
agree_equal true true t = refl
agree_equal true false t = absurd t
agree_equal false true t = absurd t
agree_equal false false t = refl

-- lists with the same numbers are equal
same_equal : (s t : List ℕ) → T (same s t) → s ≡ t
unfolding same
same_equal [] [] p = refl
same_equal [] (b ∷ t) p = absurd p
same_equal (a ∷ s) [] p = absurd p
same_equal (a ∷ s) (b ∷ t) p =
    let (first, rest) = both (eqb a b) (same s t) p in
    rw (eqb→eq a b first, same_equal s t rest)

-- the figures that are worked out are shown so
abbrev pub shows : List (List ℕ) → Figures → Shown → Bool
shows rs f s =
    eqb (chain_bound rs f) s.weight
    && (same (chain_ids rs f) s.ids
    && (eqb f.path s.path && (eqb f.transactions s.transactions && eqb f.levels s.levels)))

-- and then so are the figures that the definitions ask for
shows_right : (rs : List (List ℕ)) (rows : List ℕ) (s : Shown) → valid rs ≡ true → T (shows rs (figures rs rows) s) → Shows rs rows s
shows_right rs rows s table p =
    let f : Figures = figures rs rows in
    let sound = (accepted_both (records_verdict Table rs) (link_refusal rs) table).0 in
    let (weight, p1) = both (eqb (chain_bound rs f) s.weight) (same (chain_ids rs f) s.ids && bounds f) p in
    let (ids, p2) = both (same (chain_ids rs f) s.ids) (bounds f) p1 in
    let (path, p3) = both (eqb f.path s.path) (eqb f.transactions s.transactions && eqb f.levels s.levels) p2 in
    let (transactions, levels) = both (eqb f.transactions s.transactions) (eqb f.levels s.levels) p3 in
    record {
      found = f;
      right = figures_right rs rows (records_climbing rs sound) (records_apart rs sound);
      weight = eqb→eq (chain_bound rs f) s.weight weight;
      ids = same_equal (chain_ids rs f) s.ids ids;
      path = eqb→eq f.path s.path path;
      transactions = eqb→eq f.transactions s.transactions transactions;
      levels = eqb→eq f.levels s.levels levels;
    }
  where
    bounds : Figures → Bool
    bounds f = eqb f.path s.path && (eqb f.transactions s.transactions && eqb f.levels s.levels)

-- the entry passes its test
abbrev pub passes : Case → Bool
passes (preempted rs i j answer) = valid rs && agree (decided rs i j) answer
passes (shown rs s) = valid rs && shows rs (figures rs (map_of rs)) s
passes (patched base patch s count) =
    valid base
    && (applies base patch
    && (valid (outcome base patch)
    && (shows (outcome base patch) (figures (outcome base patch) (patched_map base patch (map_of base))) s
    && eqb (touched_count base patch) count)))

-- an entry that passes its test holds
pub passes_holds : (c : Case) → T (passes c) → Holds c
passes_holds (preempted rs i j answer) p =
    let (table, right) = both (valid rs) (agree (decided rs i j) answer) p in
    (T_true (valid rs) table, agree_equal (decided rs i j) answer right)
passes_holds (shown rs s) p =
    let (table, right) = both (valid rs) (shows rs (figures rs (map_of rs)) s) p in
    (T_true (valid rs) table, shows_right rs (map_of rs) s (T_true (valid rs) table) right)
passes_holds (patched base patch s count) p =
    let rs : List (List ℕ) = outcome base patch in
    let rows : List ℕ = patched_map base patch (map_of base) in
    let seen : Bool = shows rs (figures rs rows) s in
    let counted : Bool = eqb (touched_count base patch) count in
    let (table, p1) = both (valid base) (applies base patch && (valid rs && (seen && counted))) p in
    let (fits, p2) = both (applies base patch) (valid rs && (seen && counted)) p1 in
    let (still, p3) = both (valid rs) (seen && counted) p2 in
    let (right, number) = both seen counted p3 in (
      T_true (valid base) table,
      T_true (applies base patch) fits,
      T_true (valid rs) still,
      shows_right rs rows s (T_true (valid rs) still) right,
      eqb→eq (touched_count base patch) count number,
    )

-- all entries pass
abbrev pub all_pass : List Case → Bool
all_pass [] = true
all_pass (c ∷ cs) = passes c && all_pass cs

-- so that all of them hold
pub all_hold : (cs : List Case) → T (all_pass cs) → AllHold cs
all_hold [] p = tt
all_hold (c ∷ cs) p =
    let (first, rest) = both (passes c) (all_pass cs) p in
    (passes_holds c first, all_hold cs rest)
