use Rattle.std.proofs.Common.{◌≡◌, ◌++◌, [], refl, ap, ◌∙◌, inl, inr, rules, string_bytes}
use Rattle.std.proofs.lemmas.Result.{IfOk-weaker}
use Rattle.jc_runner.proofs.explaining.lines_in.Goals as goal

pub returns-then-is_empty : goal.returns-then-is_empty
returns-then-is_empty c =
    let none : string_bytes c.in_ok-lines.lines ≡ [] = search rules in
    record { rest = string_bytes c.in_ok-lines.lines; tells = c.in_ok-lines.ensures; lines = inr (none, none) }

pub returns : goal.returns
returns c = IfOk-weaker c.joined.result _ _ (λ s h. record {
  rest = string_bytes c.in_ok-lines.lines;
  tells = c.in_ok-lines.ensures;
  lines = inl (h ∙ ap (λ place. place ++ string_bytes c.in_ok-lines.lines) c.in_ok-place.ensures);
}) c.joined.ensures
