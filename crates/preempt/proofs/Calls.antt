-- What a map call answers and writes, by its three ways, and that this leaves no choice.
use Prim.Native.Nat.{ℕ, ◌≤◌, ◌<◌}
use mathlib.Core.List.{List}
use mathlib.Core.Bool.{true, false}
use mathlib.Core.Path.{◌≡◌, sym, ◌∙◌}
use borrow.Author.Tests.{lt-ltb, le-ltb}
use lib.ListN.{length}
use Rattle.rules.specs.declared.Verdict.{Verdict}
use Rattle.rules.specs.Blocks.{records}
use Rattle.rules.specs.Preempt.{map_of}
use Rattle.rules.specs.Refusals.{accepted, fine, refusal, table_verdict}
use Rattle.rules.specs.Calls.{over, map_verdict, map_after}

-- what a map call promises of its answer and of the rows afterwards
abbrev pub MapCall : List ℕ → List ℕ → Verdict → List ℕ → Type 0
MapCall image rows answer later = (answer ≡ map_verdict image rows) × (later ≡ map_after image rows)

-- two answers and two maps afterwards that meet the promise are equal
pub map_determined : (image rows : List ℕ) (answer other : Verdict) (later others : List ℕ)
    → MapCall image rows answer later → MapCall image rows other others → (answer ≡ other) × (later ≡ others)
map_determined image rows answer other later others p q = (p.0 ∙ sym q.0, p.1 ∙ sym q.1)

-- a refused table: its refusal, and nothing written
pub map_refused : (image rows : List ℕ) → accepted (table_verdict image) ≡ false → MapCall image rows (table_verdict image) rows
unfolding map_verdict map_after
map_refused image rows h = (rw h, rw (h, h))

-- an accepted table and too short a map: 11, and nothing written
pub map_short : (image rows : List ℕ) → accepted (table_verdict image) ≡ true → length rows < 64 → MapCall image rows (refusal 11 0) rows
unfolding map_verdict map_after
map_short image rows h short = (rw (h, lt-ltb (length rows) 64 short), rw (h, lt-ltb (length rows) 64 short))

-- an accepted table and a map that is long enough: the map of the table over its first rows
pub map_filled : (image rows : List ℕ) → accepted (table_verdict image) ≡ true → 64 ≤ length rows
    → MapCall image rows fine (over (map_of (records image)) rows)
unfolding map_verdict map_after
map_filled image rows h enough = (rw (h, le-ltb (length rows) 64 enough), rw (h, le-ltb (length rows) 64 enough))
