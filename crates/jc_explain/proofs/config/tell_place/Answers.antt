use Rattle.std.proofs.Common.{rules, arith}
use Rattle.std.proofs.lemmas.Result.{IfOk-weaker}
use Rattle.jc_explain.proofs.config.tell_place.Goals as goal

pub returns : goal.returns
returns c = IfOk-weaker c.place_line.result _ _ (λ s h. (c.min-at.result, c.args.why.now, search (rules, arith), h)) c.place_line.ensures
