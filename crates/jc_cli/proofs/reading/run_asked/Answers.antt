use Rattle.std.proofs.Common.{codes, refl, sym, ◌∙◌}
use Rattle.clap.specs.Words.{found_of, first_value}
use Rattle.clap.proofs.WalkLemmas.{first_value-rows}
use Rattle.jc_cli.proofs.Readings.{text_read, no_text}
use Rattle.jc_cli.proofs.reading.run_asked.Goals as goal

pub returns-clause-asks : goal.returns-clause-asks
returns-clause-asks c =
    let found = found_of c.args.matches.now in
    record {
      config = sym (first_value-rows found (codes "CONFIG")) ∙ text_read c.get_str.result c.in-Some.config _ _ c.get_str.ensures c.in-Some.is c.in_ok-from_str.ensures.ok;
      script = sym (first_value-rows found (codes "SCRIPT")) ∙ text_read c.get_str-2.result c.in-Some-get_str.script _ _ c.get_str-2.ensures c.in-Some-get_str.is c.in_ok-from_str-2.ensures.ok;
      options = c.in-Some-options.ensures.asks;
    }

pub returns-in_default-clause-none : goal.returns-in_default-clause-none
returns-in_default-clause-none c e run asks within =
    let found = found_of c.args.matches.now in
    no_text c.get_str.result (first_value found (codes "CONFIG")) _ c.get_str.ensures c.in_default.is (first_value-rows found (codes "CONFIG") ∙ asks.config)

pub returns-in_default-get_str-clause-none : goal.returns-in_default-get_str-clause-none
returns-in_default-get_str-clause-none c e run asks within =
    let found = found_of c.args.matches.now in
    no_text c.get_str-2.result (first_value found (codes "SCRIPT")) _ c.get_str-2.ensures c.in_default-get_str.is (first_value-rows found (codes "SCRIPT") ∙ asks.script)

pub returns-in_default-options-clause-none : goal.returns-in_default-options-clause-none
returns-in_default-options-clause-none c e run asks within = c.in_default-options.ensures.none refl _ asks.options within
