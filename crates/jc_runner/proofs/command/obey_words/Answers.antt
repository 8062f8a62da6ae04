use Rattle.std.proofs.Common.{◌≡◌, ◌∙◌, sym, ap, subst, refl, false, map, Bor, List, ℕ, Result}
use Rattle.std.proofs.lemmas.Bool.{false≢true}
use Rattle.jc_runner.proofs.Pushed.{of_some, none_of, not_both}
use Rattle.jc_cli.specs.Program.{AsksFor, MayRefuse}
use Rattle.jc_cli.specs.declared.asked.Asked.{Asked}
use Rattle.jc_cli.specs.Endings.{ending_of, ending_of_check, path_of, plain_ending}
use Rattle.jc_runner.specs.Program.{RefusesSo, as_program, plays, runs, checks, replays, refuses}
use Rattle.jc_cli.specs.declared.fault.RunFault.{RunFault}
use Rattle.jc_runner.proofs.command.obey_words.Goals as goal

abbrev shown : List (Bor (List ℕ)) → List (List ℕ)
shown texts = map (λ text. text.now) texts

asked_for : (ws ws' : List (List ℕ)) (a b : Asked) → ws ≡ ws' → a ≡ b → AsksFor ws a → AsksFor ws' b
asked_for ws ws' a b words same asks = subst (λ (vs : List (List ℕ)). AsksFor vs b) words (subst (λ (c : Asked). AsksFor ws c) same asks)

pub returns-in-Ok-Some-Run-clause-ends : goal.returns-in-Ok-Some-Run-clause-ends
returns-in-Ok-Some-Run-clause-ends g c =
    let same = ap shown c.as_slice.ensures.value ∙ c.in-Ok.ensures in
    let told = of_some c.in-Ok-Some-Run.field-0 c.in-Ok-Some-Run.field-0-0 _ c.in-Ok-Some-Run.field-0-is c.in-Ok-Some-Run.ensures.exact in
    runs c.in-Ok-Some-Run.run' (asked_for _ _ _ _ same c.in-Ok-Some-Run.field-0-0-is told) c.run_files-ran.result c.run_files-ran.ensures.ends (c.ending_of.ensures ∙ ap (λ explain. ending_of explain (path_of c.in-Ok-Some-Run.run'.config c.in-Ok-Some-Run.run'.script) c.run_files-ran.result) c.explains-explain.ensures)

pub returns-in-Ok-Some-Check-clause-ends : goal.returns-in-Ok-Some-Check-clause-ends
returns-in-Ok-Some-Check-clause-ends g c =
    let same = ap shown c.as_slice.ensures.value ∙ c.in-Ok.ensures in
    let told = of_some c.in-Ok-Some-Check.field-0 c.in-Ok-Some-Check.field-0-0 _ c.in-Ok-Some-Check.field-0-is c.in-Ok-Some-Check.ensures.exact in
    checks c.in-Ok-Some-Check.check (asked_for _ _ _ _ same c.in-Ok-Some-Check.field-0-0-is told) c.check_files-ran.result c.check_files-ran.ensures.ends refl (c.ending_of_check.ensures ∙ ap (λ explain. ending_of_check explain c.in-Ok-Some-Check.check c.check_files-ran.result) c.explains-explain-in-Ok-Some-Check.ensures)

pub returns-in-Ok-Some-Replay-clause-ends : goal.returns-in-Ok-Some-Replay-clause-ends
returns-in-Ok-Some-Replay-clause-ends g c =
    let same = ap shown c.as_slice.ensures.value ∙ c.in-Ok.ensures in
    let told = of_some c.in-Ok-Some-Replay.field-0 c.in-Ok-Some-Replay.field-0-0 _ c.in-Ok-Some-Replay.field-0-is c.in-Ok-Some-Replay.ensures.exact in
    replays c.in-Ok-Some-Replay.replay (asked_for _ _ _ _ same c.in-Ok-Some-Replay.field-0-0-is told) c.replay_file-ran.result c.replay_file-ran.ensures.ends (c.ending_in.ensures ∙ ap (λ explain. ending_of explain (λ fault. c.in-Ok-Some-Replay.replay.trace) c.replay_file-ran.result) c.explains-explain-in-Ok-Some-Replay.ensures)

pub returns-in-Ok-demonstrate-clause-ends : goal.returns-in-Ok-demonstrate-clause-ends
returns-in-Ok-demonstrate-clause-ends g c =
    let same = ap shown c.as_slice.ensures.value ∙ c.in-Ok.ensures in
    plays (sym same ∙ ap shown (c.in-Ok-None.ensures.none.0 c.in-Ok-None.field-0-is)) c.demonstrate.result c.demonstrate.ensures.ends c.demonstrate.ensures.reads c.demonstrate.ensures.unfailed (refl, refl) (ap (λ (r : Result (Unit {0}) RunFault). plain_ending (as_program r)) (sym c.in-Ok-demonstrate.is))

pub returns-in-Ok-None-clause-ends : goal.returns-in-Ok-None-clause-ends
returns-in-Ok-None-clause-ends g c =
    let same = ap shown c.as_slice.ensures.value ∙ c.in-Ok.ensures in
    plays (sym same ∙ ap shown (c.in-Ok-None.ensures.none.0 c.in-Ok-None.field-0-is)) c.demonstrate.result c.demonstrate.ensures.ends c.demonstrate.ensures.reads c.demonstrate.ensures.unfailed (refl, refl) (ap (λ (r : Result (Unit {0}) RunFault). plain_ending (as_program r)) (sym c.in-Err-demonstrate.is))

pub returns-clause-ends : goal.returns-clause-ends
returns-clause-ends g c =
    let same = ap shown c.as_slice.ensures.value ∙ c.in-Ok.ensures in
    refuses c.in-Err.error (λ none. not_both _ _ (c.in-Err.ensures.wordless (none_of _ _ (same ∙ none)))) (subst (λ (ws : List (List ℕ)). MayRefuse ws c.in-Err.error) same c.in-Err.ensures.refused) (λ e. absurd (false≢true (sym c.if-lacks_memory.false ∙ c.lacks_memory.ensures.1 e))) (subst (λ (ws : List (List ℕ)). RefusesSo c.args.standard.now.at_terminal ws c.in-Err.error c.refusal.result) (ap shown c.as_slice-in-Err.ensures.value ∙ c.in-Ok.ensures) c.refusal.ensures) ((refl, refl), refl, refl)
