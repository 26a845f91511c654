-- What a reason call answers, by its ways: a refused table, an id that is not listed, and the reason.
use Prim.Native.Nat.{ℕ, ◌<◌}
use mathlib.Core.List.{List}
use mathlib.Core.Bool.{Bool, true, false, not, or-true}
use mathlib.Core.Path.{◌≡◌, refl, sym}
use borrow.Author.Tests.{lt-ltb}
use Rattle.std.specs.Prelude.{Result, IsErrAnd}
use Rattle.std.proofs.lemmas.Result.{err_from_is_err_and}
use Rattle.rules.specs.declared.Reason.{Reason}
use Rattle.rules.specs.declared.Reasoned.{Reasoned}
use Rattle.rules.specs.declared.Refusal.{Refusal}
use Rattle.rules.specs.Blocks.{records}
use Rattle.rules.specs.Records.{tasks, task_count, place_of, listed}
use Rattle.rules.specs.Reasons.{told}
use Rattle.rules.specs.Preempt.{reason_at}
use Rattle.rules.specs.Refusals.{accepted, refusal, unlisted_refusal, table_verdict}
use Rattle.rules.specs.Told.{verdict_of, reason_told}
use Rattle.rules.specs.Calls.{reason_verdict, reason_refusal, reason_answer}
use Rattle.rules.proofs.Numbers.{never}
use Rattle.rules.proofs.Judged.{is_refused}

-- a refusal that is handed on by `?` is told as it was
pub refusal_handed_on : {answer : Reasoned} (r : Result Reason Refusal) (e : Refusal) → IsErrAnd r (λ y. y ≡ e) → reason_refusal (verdict_of e) ≡ answer → reason_told r ≡ answer
refusal_handed_on r e is same =
    let p = err_from_is_err_and r is in
    rw (p.1, p.2) same

-- a refused table: its refusal
pub reason_refused : (image : List ℕ) (low high : ℕ) → accepted (table_verdict image) ≡ false → reason_answer image low high ≡ reason_refusal (table_verdict image)
unfolding reason_verdict
reason_refused image low high h = rw (h, h)

-- as it is handed on
pub table_refused : (image : List ℕ) (low high : ℕ) (e : Refusal) → verdict_of e ≡ table_verdict image → reason_refusal (verdict_of e) ≡ reason_answer image low high
table_refused image low high e same =
    let refused : accepted (table_verdict image) ≡ false = rw (← same) (is_refused e) in
    rw same (sym (reason_refused image low high refused))

-- an id that is told as not listed is not
unlisted : (e : Refusal) (here : Bool) → verdict_of e ≡ unlisted_refusal (not here) → (here ≡ false) × (verdict_of e ≡ refusal 15 0)
unlisted e true same = never (accepted (verdict_of e)) (rw same) (is_refused e)
unlisted e false same = (refl, same)

module _ (image : List ℕ) (low high : ℕ) (right : accepted (table_verdict image) ≡ true) where
  -- one of the two is not listed: 15
  pub low_unlisted : (e : Refusal) → verdict_of e ≡ unlisted_refusal (not (listed (tasks (records image)) low))
      → reason_refusal (verdict_of e) ≡ reason_answer image low high
  unfolding reason_verdict
  low_unlisted e same =
      let (out, fifteen) = unlisted e (listed (tasks (records image)) low) same in
      rw (right, out, fifteen)

  pub high_unlisted : (e : Refusal) → verdict_of e ≡ unlisted_refusal (not (listed (tasks (records image)) high))
      → reason_refusal (verdict_of e) ≡ reason_answer image low high
  unfolding reason_verdict
  high_unlisted e same =
      let (out, fifteen) = unlisted e (listed (tasks (records image)) high) same in
      rw (right, out, or-true (not (listed (tasks (records image)) low)), fifteen)

  -- both are: the number of the reason
  pub reason_found : (i j : ℕ) → (i ≡ place_of (tasks (records image)) low) × (i < task_count (records image)) → (j ≡ place_of (tasks (records image)) high) × (j < task_count (records image))
      → reason_answer image low high ≡ record { number = 0; place = 0; reason = (told (reason_at (records image) i j)).number }
  unfolding reason_verdict
  reason_found i j (low_at, below) (high_at, below') =
      let low_listed : listed (tasks (records image)) low ≡ true = rw low_at at (lt-ltb i (task_count (records image)) below) in
      let high_listed : listed (tasks (records image)) high ≡ true = rw high_at at (lt-ltb j (task_count (records image)) below') in
      rw (right, low_listed, high_listed, low_at, high_at)
