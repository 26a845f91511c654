-- A run of calls that meet their promise: whoever makes them and goes on from what each accepted one left ends where working it out afresh ends.
use Prim.Native.Nat.{ℕ}
use mathlib.Core.List.{List, [], ◌∷◌}
use mathlib.Core.Bool.{true}
use mathlib.Core.Path.{◌≡◌, refl, ap, sym, ◌∙◌}
use borrow.Author.Tests.{eq-eqb}
use lib.ListN.{take}
use Rattle.rules.specs.declared.Patched.{Patched}
use Rattle.rules.specs.Numbers.{Bytes}
use Rattle.rules.specs.Blocks.{records}
use Rattle.rules.specs.Preempt.{map_of}
use Rattle.rules.specs.Refusals.{accepted, table_verdict}
use Rattle.rules.specs.Calls.{over, patch_call_verdict, outcome_length, PatchCall}
use Rattle.rules.specs.Runs.{Step, State, called, calls, afresh_after}
use Rattle.rules.proofs.Numbers.{either, never}
use Rattle.rules.proofs.Patch.Run.{demand3}

-- one call: its answer and its rooms meet the promise, and the caller goes on with the first bytes of the room and with
-- the written map where the number is 0, and with what it had where it is not
pub record Made (s : State) (p : Step) (next : State) : Type 0 where
  pub answer : Patched
  pub image : List ℕ
  pub map : List ℕ
  pub meets : PatchCall s.image p.patch s.rows p.room p.rows answer image map
  pub goes_on : answer.number ≡ 0 → next ≡ record { image = take answer.length image; rows = map }
  pub stays : (answer.number ≡ 0 → ⊥) → next ≡ s

-- one call after another
pub data Ran : State → List Step → State → Type 0 where
  none : {s : State} → Ran s [] s
  more : {s next last : State} {p : Step} {ps : List Step} → Made s p next → Ran next ps last → Ran s (p ∷ ps) last

-- a call that is made leaves what the definition of a run says
made_called : (s : State) (p : Step) (next : State) → Made s p next → next ≡ called s p
made_called s p next made =
    let v = patch_call_verdict s.image p.patch s.rows p.room p.rows in
    either (accepted v)
    (λ t.
    let zero : made.answer.number ≡ 0 = ap (λ (a : Patched). a.number) made.meets.answered ∙ rw t in
    let long : made.answer.length ≡ outcome_length s.image p.patch = ap (λ (a : Patched). a.length) made.meets.answered ∙ rw t in
    made.goes_on zero ∙ rw (long, made.meets.written, made.meets.carried, t))
    (λ t.
    let same : made.answer.number ≡ v.number = ap (λ (a : Patched). a.number) made.meets.answered ∙ rw t in
    made.stays (λ e. never (accepted v) (eq-eqb v.number 0 (sym same ∙ e)) t) ∙ rw t)

-- so the calls that are made are the run
pub ran_calls : {s last : State} {ps : List Step} → Ran s ps last → last ≡ calls s ps
unfolding calls
ran_calls none = refl
ran_calls {s} (more {next = next} {p = p} {ps = ps} made rest) = ran_calls rest ∙ ap (λ (t : State). calls t ps) (made_called s p next made)

-- and from a valid table with its true map they end where working it out afresh from the records ends
pub ran_afresh : (image rows : List ℕ) (ps : List Step) (last : State) → Bytes image → accepted (table_verdict image) ≡ true → rows ≡ over (map_of (records image)) rows
    → Ran (record { image = image; rows = rows }) ps last → last ≡ afresh_after (records image) rows ps
ran_afresh image rows ps last bytes table true_map ran = ran_calls ran ∙ demand3 image rows ps bytes table true_map
