use Rattle.std.proofs.Common.{rules}
use Rattle.jc_index.proofs.Rolling.{shares}
use Rattle.jc_index.proofs.keeper.Keeper.follower.Goals as goal

pub split_seat-seat-requires : goal.split_seat-seat-requires
split_seat-seat-requires g c = (search rules, search rules, shares _ _)
