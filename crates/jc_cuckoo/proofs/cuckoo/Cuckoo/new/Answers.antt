use Rattle.std.proofs.Common.{◌*◌, ap, ◌∙◌}
use Rattle.jc_cuckoo.specs.Cells.{rows_in}
use Rattle.jc_cuckoo.proofs.Empty.{rows_none}
use Rattle.jc_cuckoo.proofs.cuckoo.Cuckoo.new.Goals as goal

pub returns-in-Ok-clause-empty : goal.returns-in-Ok-clause-empty
returns-in-Ok-clause-empty g c = ap rows_in c.in-Ok.ensures.empty ∙ rows_none (4 * c.args.buckets)
