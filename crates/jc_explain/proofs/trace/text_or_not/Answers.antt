use Rattle.std.proofs.Common.{string_bytes}
use Rattle.std.proofs.lemmas.Result.{IfOk-weaker}
use Rattle.jc_explain.proofs.Texts.{shown_text, shown_not}
use Rattle.jc_explain.proofs.trace.text_or_not.Goals as goal

pub returns-in-Ok : goal.returns-in-Ok
returns-in-Ok c = IfOk-weaker c.show_text.result _ _ (λ s h. shown_text c.args.piece.now _ (string_bytes s) c.in-Ok.ensures.cases.0 c.in-Ok.ensures.cases.1 h) c.show_text.ensures

pub returns-in-Err : goal.returns-in-Err
returns-in-Err c = IfOk-weaker c.from_str.result _ _ (λ s h. shown_not c.args.piece.now (string_bytes s) c.in-Err.ensures.cases.0 h) c.from_str.ensures.ok
