-- Each test in turn is that of the definition.
use Rattle.rules.specs.Records.{form_wrong}
use Rattle.table.proofs.KindsRead.{kind_known, kind_unknown}
use Rattle.table.proofs.form.is_form_wrong.Goals as goal

pub returns-in_default : goal.returns-in_default
unfolding form_wrong
returns-in_default c = rw (kind_unknown c.byte_at.ensures.0 c.in_default.ensures.1)

pub returns-then-not-has_zero_bytes : goal.returns-then-not-has_zero_bytes
unfolding form_wrong
returns-then-not-has_zero_bytes c =
    rw (kind_known c.in-Ok.kind c.byte_at.ensures.0 c.in-Ok.ensures, ← c.has_zero_bytes.ensures, c.if-not-has_zero_bytes.true)

pub returns-else-not-has_zero_bytes : goal.returns-else-not-has_zero_bytes
unfolding form_wrong
returns-else-not-has_zero_bytes c =
    rw (kind_known c.in-Ok.kind c.byte_at.ensures.0 c.in-Ok.ensures, ← c.has_zero_bytes.ensures, c.if-not-has_zero_bytes.false, ← c.most_way.ensures, ← c.byte_at-else-not-has_zero_bytes.ensures.0)
