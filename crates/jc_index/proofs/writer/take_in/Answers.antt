use Rattle.std.proofs.Common.{rules, ap, ◌∙◌}
use Rattle.jc_index.specs.StripeLayout.{version_count}
use Rattle.jc_index.specs.Stripes.{desk_of}
use Rattle.jc_index.proofs.Keeps.{hears, recalls}
use Rattle.jc_index.proofs.writer.take_in.Goals as goal

pub join_seat-requires : goal.join_seat-requires
join_seat-requires g c = (search rules, search rules, search rules, search rules, hears g.L.Law.group version_count g.L.Law.admits _ _ _ (desk_of c.args.seat.now.me.0) _ _ c.requires.writes)

pub load-requires : goal.load-requires
load-requires g c = (search rules, search rules, recalls g.L.Law.group version_count g.L.Law.admits _ _ _ _ (desk_of c.args.seat.now.me.0) 0 (ap (λ m. m.0.role) c.join_seat.ensures.2 ∙ c.requires.writes))
