-- Only a precedence pair has paths, and its two tasks are asked one after the other.
use mathlib.Core.Path.{◌≡◌, ◌∙◌}
use native.Mathlib.Omega.{arith}
use borrow.Author.Tests.{eq-eqb}
use Rattle.rules.specs.Records.{number_of, second_of}
use Rattle.patch.specs.Touched.{beside_in}
use Rattle.patch.proofs.Touching.{marks_either}
use Rattle.patch.proofs.touched.tasks_along.Goals as goal

pub returns : goal.returns
returns c =
    let r = c.args.related.now in
    let fields = c.args.fields.now in
    let first : c.two_bytes.result ≡ number_of fields = c.two_bytes.ensures.0 in
    let second : c.two_bytes-2.result ≡ second_of fields = c.two_bytes-2.ensures.0 in
    let kind : c.byte_at.result ≡ 3 = omega (arith, c.from.ensures) in
    let sort : c.byte_at-2.result ≡ 1 = omega (arith, c.from-2.ensures) in
    λ i l.
    rw c.union.ensures
    (marks_either r.tasks (beside_in r c.two_bytes.result) (beside_in r c.two_bytes-2.result) c.tasks_beside-first.result c.tasks_beside-second.result c.tasks_beside-first.ensures c.tasks_beside-second.ensures i l
    ∙ rw (← c.byte_at-2.ensures.0, eq-eqb _ _ sort, ← c.byte_at.ensures.0, eq-eqb _ _ kind, first, second))
