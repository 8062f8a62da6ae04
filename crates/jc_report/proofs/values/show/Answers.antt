use Rattle.std.proofs.Common.{rules, ap, ◌∙◌}
use Rattle.std.proofs.lemmas.Result.{IfOk-weaker}
use Rattle.json.specs.Print.{quoted}
use Rattle.jc_report.proofs.JsonShown.{of_text, of_bytes}
use Rattle.jc_report.proofs.values.show.Goals as goal

pub returns-in-Ok : goal.returns-in-Ok
returns-in-Ok c = rw (of_text c.args.bytes.now c.in-Ok.ensures.cases.1) (IfOk-weaker c.quote_text.result _ _ (λ s h. h ∙ ap quoted c.in-Ok.ensures.cases.0) c.quote_text.ensures)

pub returns-in_ok-push_str-in-Err-2 : goal.returns-in_ok-push_str-in-Err-2
returns-in_ok-push_str-in-Err-2 c = rw (of_bytes c.args.bytes.now c.in-Err.ensures.cases.0) (search rules)
