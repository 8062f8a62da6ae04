use Rattle.std.proofs.Common.{◌++◌, ◌∙◌, ap, codes, string_bytes}
use Rattle.std.proofs.lemmas.Result.{IfOk-weaker}
use Rattle.jc_runner.proofs.every.explained.Goals as goal

pub returns : goal.returns
returns c =
    let lines = string_bytes c.in_ok-lines.lines in
    IfOk-weaker c.named.result _ _ (λ s h. (lines, c.in_ok-lines.ensures, h ∙ ap (λ line. codes "jcache: " ++ (line ++ lines)) c.in_ok-line.ensures)) c.named.ensures
