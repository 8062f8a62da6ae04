use Rattle.std.proofs.Common.{◌++◌, ap, ◌∙◌, string_bytes}
use Rattle.std.proofs.lemmas.Result.{IfOk-weaker}
use Rattle.jc_explain.proofs.config.not_toml.Goals as goal

pub returns : goal.returns
returns c = IfOk-weaker c.join.result _ _ (λ s h. (string_bytes c.in_ok-place.place, c.in_ok-place.ensures, h ∙ ap (λ shape. string_bytes c.in_ok-place.place ++ shape) c.in_ok-shape.ensures)) c.join.ensures
