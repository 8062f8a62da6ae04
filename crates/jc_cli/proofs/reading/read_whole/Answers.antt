use Rattle.std.proofs.Common.{rules, ◌≡◌, ◌∙◌, sym, ap, subst, inl, inr, map, option_map, List}
use Rattle.std.proofs.lemmas.Result.{err_from_is_err_and}
use Rattle.clap.specs.Words.{App, Text, app_of, found_of, rows_of, is_simple, subcommand_of, subcommand_rows_of}
use Rattle.jc_cli.specs.Program.{program, MayRefuseInFull}
use Rattle.clap.specs.declared.error.Error.{Error}
use Rattle.jc_cli.proofs.Readings.{named, name_read, no_asked, none_met, standing, none_standing, clashing, some_clash, some_asks, refused, is_simple_program}
use Rattle.jc_cli.proofs.reading.read_whole.Goals.{in-Some+in_default-clash_of+in_ok-asked+in_default-2, in_default}
use Rattle.jc_cli.proofs.reading.read_whole.Goals as goal

pub returns-in_err-matches-clause-refused : goal.returns-in_err-matches-clause-refused
returns-in_err-matches-clause-refused c =
    let p = err_from_is_err_and c.from_residual-in_err-matches.result c.from_residual-in_err-matches.ensures.1 in
    let words : List Text = map (λ word. word.now) c.args.words.now in
    let refusal = refused (app_of c.in_ok-command.command) words c.in_err-matches.field-0.0 c.in_ok-command.ensures.app c.in_err-matches.ensures.kinds in
    let Q : Error → Type 0 = MayRefuseInFull words in
    rw p.1 (subst Q (sym p.2) refusal)

pub returns-in-Some-2-clause-exact : goal.returns-in-Some-2-clause-exact
returns-in-Some-2-clause-exact c =
    let is : app_of c.in_ok-command.command ≡ program = c.in_ok-command.ensures.app in
    let words : List Text = map (λ word. word.now) c.args.words.now in
    let read : subcommand_rows_of c.in_ok-matches.matches ≡ subcommand_of program words =
    (c.in_ok-matches.ensures.ok.2 (ap is_simple is ∙ is_simple_program)).1 ∙ ap (λ (app : App). subcommand_of app words) is in
    named (subcommand_of program words) _ _ c.in-Some-2.asked
    (c.in-Some.ensures.name ∙ name_read _ _ _ ∙ ap (λ o. option_map (λ p. p.0) o) read)
    (c.in-Some.ensures.rows ∙ ap (λ o. option_map (λ p. p.1) o) read) (sym c.clash_of.ensures ∙ c.in_default-clash_of.is) (some_asks _ _ _ c.in_ok-asked.ensures.asks c.in-Some-2.is)

pub returns-clause-refused : goal.returns-clause-refused
returns-clause-refused c =
    let is : app_of c.in_ok-command.command ≡ program = c.in_ok-command.ensures.app in
    let words : List Text = map (λ word. word.now) c.args.words.now in
    let read : subcommand_rows_of c.in_ok-matches.matches ≡ subcommand_of program words =
    (c.in_ok-matches.ensures.ok.2 (ap is_simple is ∙ is_simple_program)).1 ∙ ap (λ (app : App). subcommand_of app words) is in
    inr (inr (
      search rules,
      λ p met. elim c.match-subcommand.branch [
        | in-Some+in_default-clash_of+in_ok-asked+in_default-2 w ↦ standing (subcommand_of program words) _ (w.in-Some.ensures.rows ∙ ap (λ o. option_map (λ p. p.1) o) read) (sym w.clash_of.ensures ∙ w.in_default-clash_of.is) p met
        | in_default w ↦ none_standing (subcommand_of program words) (w.in_default.ensures.rows ∙ ap (λ o. option_map (λ p. p.1) o) read) p met
      ],
      λ a asks within. elim c.match-subcommand.branch [
        | in-Some+in_default-clash_of+in_ok-asked+in_default-2 w ↦ no_asked (subcommand_of program words) _ _ a
            (w.in-Some.ensures.name ∙ name_read _ _ _ ∙ ap (λ o. option_map (λ p. p.0) o) read)
            (w.in-Some.ensures.rows ∙ ap (λ o. option_map (λ p. p.1) o) read) (w.in_ok-asked.ensures.none w.in_default-2.is) asks within
        | in_default w ↦ none_met (subcommand_of program words) a (w.in_default.ensures.rows ∙ ap (λ o. option_map (λ p. p.1) o) read) asks
      ],
    ))

pub returns-in-Some-clash_of-clause-refused : goal.returns-in-Some-clash_of-clause-refused
returns-in-Some-clash_of-clause-refused c =
    let is : app_of c.in_ok-command.command ≡ program = c.in_ok-command.ensures.app in
    let words : List Text = map (λ word. word.now) c.args.words.now in
    let read : subcommand_rows_of c.in_ok-matches.matches ≡ subcommand_of program words =
    (c.in_ok-matches.ensures.ok.2 (ap is_simple is ∙ is_simple_program)).1 ∙ ap (λ (app : App). subcommand_of app words) is in
    inr (inl (inr (inl c.in_ok-error.ensures.kind), clashing (subcommand_of program words) _ (c.in-Some.ensures.rows ∙ ap (λ o. option_map (λ p. p.1) o) read) (some_clash _ _ (rows_of (found_of c.in-Some.inner.now)) c.clash_of.ensures c.in-Some-clash_of.is)))
