-- Every bound call has an answer.
use mathlib.Core.List.{List}
use mathlib.Core.Bool.{true, false, ◌||◌}
use mathlib.Core.Path.{◌≡◌, refl}
use Prim.Native.Nat.{ℕ}
use lib.ListN.{length}
use lib.Dec.{ltb}
use Rattle.rules.specs.declared.Verdict.{Verdict}
use Rattle.rules.specs.declared.Bounds.{Bounds}
use Rattle.rules.specs.Blocks.{records}
use Rattle.rules.specs.Chains.{Figures, FiguresOf, chain_ids}
use Rattle.rules.specs.Refusals.{accepted, table_verdict, short_refusal}
use Rattle.rules.specs.Calls.{over, bound_verdict, bound_refusal, bounds_found, BoundCall}
use Rattle.rules.proofs.Refusals.{accepted_both}
use Rattle.rules.proofs.Numbers.{either, never}
use Rattle.rules.proofs.Enumerate.{figures, figures_right}
use Rattle.rules.proofs.FourBounds.Accepted.{accepted_climbing}
use Rattle.rules.proofs.Enumerate.Apart.{accepted_apart}

-- some answer and some later ids meet the definition
abbrev pub Answered : List ℕ → List ℕ → List ℕ → Type 0
Answered image rows ids = (answer : Bounds) × (later : List ℕ) × BoundCall image rows ids answer later

-- every bound call has an answer, whatever the image, the map and the room
pub bound_call_answered : (image rows ids : List ℕ) → Answered image rows ids
unfolding bound_verdict
bound_call_answered image rows ids = either (accepted v) found refused
  where
    v : Verdict
    v = bound_verdict image rows ids

    rs : List (List ℕ)
    rs = records image

    f : Figures
    f = figures rs rows

    right : accepted v ≡ true → FiguresOf rs rows f
    right t =
        let table = (accepted_both (table_verdict image) (short_refusal (ltb (length rows) 64 || ltb (length ids) 64)) t).0 in
        figures_right rs rows (accepted_climbing image table) (accepted_apart image table)

    refused : accepted v ≡ false → Answered image rows ids
    refused t = (bound_refusal v, ids, record { refused = λ u. (refl, refl); worked = λ u. never (accepted v) u t })

    found : accepted v ≡ true → Answered image rows ids
    found t = (
      bounds_found rs f,
      over (chain_ids rs f) ids,
      record {
        refused = λ u. never (accepted v) t u;
        worked = λ u. record { figures = f; right = right t; found = (refl, refl) };
      },
    )
