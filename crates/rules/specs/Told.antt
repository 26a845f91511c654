-- What C is told of a refusal, and of each call from what it finds or its refusal.
use Rattle.std.specs.Prelude.{ℕ, Result, Ok, Err}
use Rattle.rules.specs.declared.Form.{Form}
use Rattle.rules.specs.declared.Fault.{Fault}
use Rattle.rules.specs.declared.Fault.TheVariants.{Length, Check, Header, Unformed, Unordered, OutOfRange, TooMany}
use Rattle.rules.specs.declared.Refusal.{Refusal}
use Rattle.rules.specs.declared.Refusal.TheVariants.{Image, Unknown, Circle, Absent, NoTable, Short, Unlisted}
use Rattle.rules.specs.declared.Verdict.{Verdict}
use Rattle.rules.specs.declared.Bounds.{Bounds}
use Rattle.rules.specs.declared.BoundsFound.{BoundsFound}
use Rattle.rules.specs.declared.BoundsWithin.{BoundsWithin}
use Rattle.rules.specs.declared.WithinFound.{WithinFound}
use Rattle.rules.specs.declared.WithinFound.TheVariants.{Opened, GaveUp}
use Rattle.rules.specs.declared.Patched.{Patched}
use Rattle.rules.specs.declared.PatchFound.{PatchFound}
use Rattle.rules.specs.declared.Reason.{Reason}
use Rattle.rules.specs.declared.Reasoned.{Reasoned}
use Rattle.rules.specs.declared.Reversed.{Reversed}
use Rattle.rules.specs.declared.Shown.{Shown}
use Rattle.rules.specs.declared.ChainFound.{ChainFound}
use Rattle.rules.specs.Kinds.{kind_number}
use Rattle.rules.specs.Reasons.{told}
use Rattle.rules.specs.Refusals.{fine, refusal, numbered}
use Rattle.rules.specs.Calls.{bound_refusal, with_opened, gave_up, patch_refusal, patch_accepted, reason_refusal, reverse_refusal, through_refusal}

-- a fault's number, which is 20 higher in a patch, and its place: the block, the record or the kind
abbrev pub fault_verdict : Form → Fault → Verdict
fault_verdict form Length = refusal (numbered form 1) 0
fault_verdict form (Check block) = refusal (numbered form 2) block
fault_verdict form (Header block) = refusal (numbered form 3) block
fault_verdict form (Unformed place) = refusal (numbered form 4) place
fault_verdict form (Unordered place) = refusal (numbered form 5) place
fault_verdict form (OutOfRange place) = refusal (numbered form 6) place
fault_verdict form (TooMany kind) = refusal (numbered form 7) (kind_number kind)

-- a refusal's number and place: the record, the id, or 0
abbrev pub verdict_of : Refusal → Verdict
verdict_of (Image form fault) = fault_verdict form fault
verdict_of (Unknown place) = refusal 8 place
verdict_of (Absent place) = refusal 9 place
verdict_of NoTable = refusal 10 0
verdict_of Short = refusal 11 0
verdict_of (Circle id) = refusal 14 id
verdict_of Unlisted = refusal 15 0

-- what is told of a check, whatever it hands on where it finds nothing
abbrev pub judged : {T : Type 0} → Result T Refusal → Verdict
judged (Ok handed) = fine
judged (Err e) = verdict_of e

abbrev pub bounds_told : Result BoundsFound Refusal → Bounds
bounds_told (Ok b) =
    record {
      number = 0;
      place = 0;
      tasks = b.tasks;
      chain = b.chain;
      path = b.path;
      transactions = b.transactions;
      levels = b.levels;
      length = b.length;
    }
bounds_told (Err e) = bound_refusal (verdict_of e)

abbrev pub within_told : Result WithinFound Refusal → BoundsWithin
within_told (Ok (Opened b count)) = with_opened (bounds_told (Ok b)) count
within_told (Ok (GaveUp path transactions)) = gave_up path transactions
within_told (Err e) = with_opened (bound_refusal (verdict_of e)) 0

abbrev pub patch_told : Result PatchFound Refusal → Patched
patch_told (Ok f) = patch_accepted f.touched f.length
patch_told (Err e) = patch_refusal (verdict_of e)

abbrev pub reason_told : Result Reason Refusal → Reasoned
reason_told (Ok reason) = record { number = 0; place = 0; reason = (told reason).number }
reason_told (Err e) = reason_refusal (verdict_of e)

-- of the reverse its length in bytes
abbrev pub reverse_told : Result ℕ Refusal → Reversed
reverse_told (Ok bytes) = record { number = 0; place = 0; length = bytes }
reverse_told (Err e) = reverse_refusal (verdict_of e)

abbrev pub chain_told : Result ChainFound Refusal → Shown
chain_told (Ok f) = record { number = 0; place = 0; weight = f.weight; length = f.length }
chain_told (Err e) = through_refusal (verdict_of e)
