-- The search over the records is that of the definition.
use Rattle.std.proofs.Common.{rules}
use Rattle.rules.specs.Records.{form_wrong}
use Rattle.image.proofs.First.{first_in_range}
use Rattle.table.proofs.Finding.{first_record}
use Rattle.table.proofs.form.first_wrong_form.Goals as goal

pub returns : goal.returns
returns c =
    first_record c.args.image.now (form_wrong c.args.form) _ _ c.record_count.ensures (first_in_range _ _ _ _ _ c.find.ensures.ran (λ k answer q called. search rules))
