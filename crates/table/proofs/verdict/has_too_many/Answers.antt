-- The tally holds the counts of a kind taken out and put in, so the two tests are those of the definition.
use Prim.Native.Nat.{ℕ, ◌+◌}
use mathlib.Core.List.{List}
use mathlib.Core.Bool.{◌||◌}
use mathlib.Core.Path.{◌≡◌}
use borrow.Author.Tests.{lt-ltb, le-ltb}
use lib.Dec.{ltb}
use lib.ListN.{get_or}
use Rattle.rules.specs.declared.Kind.{Kind}
use Rattle.rules.specs.Kinds.{kind_number}
use Rattle.rules.specs.Records.{most_of, too_many}
use Rattle.table.specs.Tally.{Tallied}
use Rattle.table.proofs.Counts.{too_many_is}
use Rattle.table.proofs.KindsRead.{kind_bounds}
use Rattle.table.proofs.verdict.has_too_many.Goals as goal

by_tally : (kind : Kind) (most at : ℕ) (counts : List ℕ) (rs : List (List ℕ)) → most ≡ most_of (kind_number kind) → at ≡ kind_number kind → Tallied rs counts
    → (ltb most (get_or counts at 0) || ltb most (get_or counts (at + 4) 0)) ≡ too_many rs (kind_number kind)
by_tally kind most at counts rs limit place tallied =
    rw (limit, place) (too_many_is rs counts tallied (kind_number kind) (kind_bounds kind).0 (kind_bounds kind).1)

pub returns-then-most-counts : goal.returns-then-most-counts
returns-then-most-counts c rs tallied =
    rw (← by_tally c.args.kind c.most_of-most.result c.from-at.result c.args.counts rs c.most_of-most.ensures c.from-at.ensures tallied, lt-ltb _ _ c.if-most-counts.true)

pub returns-else-most-counts : goal.returns-else-most-counts
returns-else-most-counts c rs tallied =
    rw (← by_tally c.args.kind c.most_of-most.result c.from-at.result c.args.counts rs c.most_of-most.ensures c.from-at.ensures tallied, le-ltb _ _ c.if-most-counts.false)
