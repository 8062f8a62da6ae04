use Rattle.std.proofs.Common.{rules}
use Rattle.jc_index.specs.StripeLayout.{version_count}
use Rattle.jc_index.proofs.Keeps.{shares}
use Rattle.jc_index.proofs.writer.StripeWriter.renew.Goals as goal

pub split_seat-seat-requires : goal.split_seat-seat-requires
split_seat-seat-requires g c = (search rules, search rules, shares g.L.Law.group version_count g.L.Law.admits _ _ _)
