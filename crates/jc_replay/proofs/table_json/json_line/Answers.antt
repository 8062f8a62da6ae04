use Rattle.std.proofs.Common.{◌∙◌, ap, ap₂}
use Rattle.std.proofs.lemmas.Result.{IfOk-weaker}
use Rattle.jc_replay.specs.TableJson.{in_braces, row_text}
use Rattle.jc_replay.proofs.table_json.json_line.Goals as goal

pub returns : goal.returns
returns c =
    let parts = ap₂ (row_text c.args.ratio.now) c.saturating_sub-misses.ensures (c.as_str.ensures.value ∙ c.in_ok-hit_ratio.ensures) in
    IfOk-weaker c.in_braces.result _ _ (λ s h. h ∙ ap in_braces (c.as_str-2.ensures.value ∙ (c.in_ok-row.ensures ∙ parts))) c.in_braces.ensures
