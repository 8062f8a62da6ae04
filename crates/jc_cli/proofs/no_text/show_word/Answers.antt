use Rattle.std.proofs.Common.{◌∙◌, ◌++◌, ℕ, List, sym, ap, append_assoc, string_bytes}
use Rattle.std.proofs.lemmas.List.{append-nil}
use Rattle.jc_cli.proofs.NoText.{chunk_shown, none_shown}
use Rattle.jc_cli.proofs.no_text.show_word.Goals as goal

pub loop-chunk-preserved : goal.loop-chunk-preserved
loop-chunk-preserved c =
    let steps = c.in-Some.ensures.steps in
    let text = chunk_shown _ _ _ _ steps.0 steps.3.0 steps.3.1 steps.2 in
    rw (c.in_ok-push_bytes.ensures, c.in_ok-push_str.ensures.bytes, c.valid.ensures, c.invalid.ensures) (simp append_assoc (rw text at c.loop-chunk.invariant))

pub returns : goal.returns
returns c = sym (ap (λ (more : List ℕ). string_bytes c.loop-chunk.text ++ more) (none_shown _ c.in-None.ensures.steps.0) ∙ append-nil _) ∙ c.loop-chunk.invariant
