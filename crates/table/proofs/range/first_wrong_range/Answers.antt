-- The search over the records is that of the definition.
use Rattle.std.proofs.Common.{rules}
use Rattle.rules.specs.Records.{range_wrong}
use Rattle.image.proofs.First.{first_in_range}
use Rattle.table.proofs.Finding.{first_record}
use Rattle.table.proofs.range.first_wrong_range.Goals as goal

pub returns : goal.returns
returns c =
    first_record c.args.image.now (range_wrong) _ _ c.record_count.ensures (first_in_range _ _ _ _ _ c.find.ensures.ran (λ k answer q called. search rules))
