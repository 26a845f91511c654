-- What a check finds, read off what is told of it: nothing where it hands something on, and a fault where it refuses.
use Rattle.std.specs.Prelude.{true, false, Result, Ok, Err, ◌≡◌}
use mathlib.Core.Path.{refl}
use Rattle.rules.specs.declared.Form.TheVariants.{Table, Patch}
use Rattle.rules.specs.declared.Fault.TheVariants.{Length, Check, Header, Unformed, Unordered, OutOfRange, TooMany}
use Rattle.rules.specs.declared.Refusal.{Refusal}
use Rattle.rules.specs.declared.Refusal.TheVariants.{Image, Unknown, Circle, Absent, NoTable, Short, Unlisted}
use Rattle.rules.specs.declared.Form.{Form}
use Rattle.rules.specs.declared.Fault.{Fault}
use Rattle.rules.specs.declared.Verdict.{Verdict}
use Rattle.rules.specs.Refusals.{accepted}
use Rattle.rules.specs.Told.{fault_verdict, verdict_of, judged}

fault_refused : (form : Form) (fault : Fault) → accepted (fault_verdict form fault) ≡ false
fault_refused Table Length = refl
fault_refused Table (Check block) = refl
fault_refused Table (Header block) = refl
fault_refused Table (Unformed place) = refl
fault_refused Table (Unordered place) = refl
fault_refused Table (OutOfRange place) = refl
fault_refused Table (TooMany kind) = refl
fault_refused Patch Length = refl
fault_refused Patch (Check block) = refl
fault_refused Patch (Header block) = refl
fault_refused Patch (Unformed place) = refl
fault_refused Patch (Unordered place) = refl
fault_refused Patch (OutOfRange place) = refl
fault_refused Patch (TooMany kind) = refl

-- no refusal is told as 0
pub is_refused : (e : Refusal) → accepted (verdict_of e) ≡ false
is_refused (Image form fault) = fault_refused form fault
is_refused (Unknown place) = refl
is_refused (Circle id) = refl
is_refused (Absent place) = refl
is_refused NoTable = refl
is_refused Short = refl
is_refused Unlisted = refl

-- a check that hands something on accepts
pub ok_accepted : {T : Type 0} {r : Result T Refusal} {v : Verdict} (x : T) → judged r ≡ v → r ≡ Ok x → accepted v ≡ true
ok_accepted x told is = rw (← told, is)

-- one that refuses does not
pub err_refused : {T : Type 0} {r : Result T Refusal} {v : Verdict} (e : Refusal) → judged r ≡ v → r ≡ Err e → accepted v ≡ false
err_refused e told is = rw (← told, is) (is_refused e)
