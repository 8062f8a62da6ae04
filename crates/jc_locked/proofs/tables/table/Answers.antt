use Rattle.jc_locked.proofs.Opened.{sixteen}
use Rattle.jc_locked.proofs.tables.table.Goals as goal

pub unreachable-requires : goal.unreachable-requires
unreachable-requires c = c.in-Err-BadBuckets.ensures.refused.0 c.in-Err-BadBuckets.field-0-is sixteen
