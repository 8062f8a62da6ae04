use Rattle.std.proofs.Common.{◌≡◌, drop, true, false, sym, ap, ◌∙◌}
use Rattle.std.specs.Prelude.{option_and_then}
use Rattle.fast_float.specs.Text.{scan}
use Rattle.serde_json.specs.Find.{as_u64}
use Rattle.serde_json.specs.Read.{number_of, number_from}
use Rattle.jc_script.proofs.Numerals.{with_minus, without_minus, whole_by_number, never_whole}
use Rattle.jc_script.proofs.number.whole_of.Goals as goal

pub returns-then-has_minus : goal.returns-then-has_minus
returns-then-has_minus c =
    let s = c.as_bytes-bytes.result.now in
    let read : number_from true (scan (drop 1 s)) ≡ number_of c.args.text.now = with_minus s (sym c.if-has_minus.ensures.value) ∙ ap number_of c.as_bytes-bytes.ensures.value in
    never_whole (scan (drop 1 s)) ∙ ap (option_and_then as_u64) read ∙ whole_by_number c.args.text.now

pub returns-else-has_minus : goal.returns-else-has_minus
returns-else-has_minus c =
    let s = c.as_bytes-bytes.result.now in
    let read : number_from false c.scan.result ≡ number_of c.args.text.now =
    ap (number_from false) c.scan.ensures.parts ∙ without_minus s (sym c.if-has_minus.ensures.value) ∙ ap number_of c.as_bytes-bytes.ensures.value in
    c.whole_from.ensures ∙ ap (option_and_then as_u64) read ∙ whole_by_number c.args.text.now
