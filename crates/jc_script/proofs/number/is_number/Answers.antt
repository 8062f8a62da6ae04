use Rattle.std.proofs.Common.{◌≡◌, drop, true, false, is_some, sym, ap, ◌∙◌, arith, take_all, length-drop}
use Rattle.fast_float.specs.Text.{scan}
use Rattle.serde_json.specs.Read.{number_of, number_from}
use Rattle.jc_script.proofs.Numerals.{with_minus, without_minus}
use Rattle.jc_script.proofs.number.is_number.Goals as goal

pub returns-then-has_minus : goal.returns-then-has_minus
returns-then-has_minus c =
    let s = c.as_bytes-bytes.result.now in
    let parts : c.scan.result ≡ scan (drop 1 s) = c.scan.ensures.parts ∙ ap scan (take_all _ (drop 1 s) (omega (arith, length-drop 1 s))) in
    let read : number_from true c.scan.result ≡ number_of s = ap (number_from true) parts ∙ with_minus s (sym c.if-has_minus.ensures.value) in
    c.has_negative.ensures ∙ ap is_some (read ∙ ap number_of c.as_bytes-bytes.ensures.value)

pub returns-else-has_minus : goal.returns-else-has_minus
returns-else-has_minus c =
    let s = c.as_bytes-bytes.result.now in
    let read : number_from false c.scan-else-has_minus.result ≡ number_of s = ap (number_from false) c.scan-else-has_minus.ensures.parts ∙ without_minus s (sym c.if-has_minus.ensures.value) in
    c.has_unsigned.ensures ∙ ap is_some (read ∙ ap number_of c.as_bytes-bytes.ensures.value)
