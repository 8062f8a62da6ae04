use Rattle.std.proofs.Common.{Bor, List, ℕ, map}
use Rattle.std.proofs.lemmas.Result.{IfOk-weaker}
use Rattle.jc_cli.proofs.NoText.{told_of_some}
use Rattle.jc_cli.proofs.given.told_of_words.Goals as goal

pub returns : goal.returns
returns g c = IfOk-weaker c.no_text_mistake.result _ _ (λ told is. told_of_some c.args.at_terminal (map (λ (word : Bor (List ℕ)). word.now) c.as_slice-2.result.now) told is) c.no_text_mistake.ensures
