use Rattle.jc_script.proofs.SameLives.{same_where_equal}
use Rattle.jc_script.proofs.following.same_lives.Goals as goal

pub returns : goal.returns
returns c = same_where_equal c.args.some.now c.args.others.now c.eq.result c.eq.ensures
