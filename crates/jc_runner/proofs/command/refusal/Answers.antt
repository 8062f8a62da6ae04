use Rattle.std.proofs.Common.{rules, sym, ◌∙◌, refl, inr}
use Rattle.jc_runner.proofs.command.refusal.Goals as goal

pub returns-in-Ok : goal.returns-in-Ok
returns-in-Ok c =
    let no = c.use_stderr.ensures.0 (search rules) in
    inr (record {
      text = c.in-Ok.text;
      is = refl;
      told = c.in-Ok.ensures;
      asked = sym c.asks_to_explain.ensures ∙ search rules;
      no_help = no.0;
      no_version = no.1;
    })
