use Rattle.std.proofs.Common.{◌∙◌, ap, List, ℕ, arith, map, Bor, string_bytes}
use Rattle.std.proofs.lemmas.List.{map_push}
use Rattle.jc_runner.proofs.Pushed.{more_mapped, all_mapped}
use Rattle.jc_runner.proofs.command.texts_of.Goals as goal

pub loop-word-preserved : goal.loop-word-preserved
loop-word-preserved c =
    more_mapped string_bytes c.args.words.now c.loop-word.word-index c.word-item.result (map (λ (text : Bor (List ℕ)). text.now) c.loop-word.texts.items) (map (λ (text : Bor (List ℕ)). text.now) c.push.new.self.items) c.as_str.result.now (omega (arith, c.loop-word-test.true)) c.loop-word.invariant
    (c.as_str.ensures.value ∙ ap string_bytes c.word-item.is)
    (ap (map (λ (text : Bor (List ℕ)). text.now)) c.in_ok-push.ensures.items ∙ map_push (λ (text : Bor (List ℕ)). text.now) c.loop-word.texts.items c.as_str.result)

pub returns : goal.returns
returns c = all_mapped string_bytes c.args.words.now c.loop-word.word-index (map (λ (text : Bor (List ℕ)). text.now) c.loop-word.texts.items) (omega (arith, c.loop-word-test.false)) c.loop-word.invariant
