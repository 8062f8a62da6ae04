use Rattle.std.proofs.lemmas.Result.{IfOk-weaker}
use Rattle.jc_explain.proofs.script.not_json_at.Goals as goal

pub returns : goal.returns
returns c = IfOk-weaker c.column_line.result _ _ (λ s h. (_, _, h)) c.column_line.ensures
