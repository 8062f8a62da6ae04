use Rattle.std.proofs.Common.{rules, ap, ◌∙◌}
use Rattle.jc_index.proofs.Rolling.{hears, recalls}
use Rattle.jc_index.proofs.keeper.Keeper.hear.Goals as goal

pub join_seat-requires : goal.join_seat-requires
join_seat-requires g c = (search rules, search rules, search rules, search rules, hears _ _ _ _)

pub load-requires : goal.load-requires
load-requires g c = (search rules, search rules, recalls _ _ _ (ap (λ m. m.0.keeps) c.join_seat.ensures.2 ∙ c.args.self.now.keeps.1))
