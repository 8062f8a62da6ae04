use Rattle.std.proofs.Common.{codes, sym, ◌∙◌}
use Rattle.clap.specs.Words.{found_of, first_value, one_text}
use Rattle.clap.proofs.WalkLemmas.{first_value-rows, one_text-rows}
use Rattle.jc_cli.proofs.Readings.{text_read, no_text, truth_read, no_truth}
use Rattle.jc_cli.proofs.reading.check_asked.Goals as goal

pub returns-clause-asks : goal.returns-clause-asks
returns-clause-asks c =
    let found = found_of c.args.matches.now in
    record {
      config = sym (first_value-rows found (codes "CONFIG")) ∙ text_read c.get_str.result c.in-Some.config _ _ c.get_str.ensures c.in-Some.is c.in_ok-config.ensures.ok;
      script = sym (first_value-rows found (codes "SCRIPT")) ∙ sym c.get_str-2.ensures ∙ sym c.in_ok-script.ensures;
      strict = sym (one_text-rows found (codes "strict")) ∙ truth_read (one_text found (codes "strict")) c.in-Some-get_one.strict c.in-Some-get_one.ensures.none c.in-Some-get_one.ensures.value;
      all = sym (one_text-rows found (codes "all")) ∙ truth_read (one_text found (codes "all")) c.in-Some-get_one-2.all c.in-Some-get_one-2.ensures.none c.in-Some-get_one-2.ensures.value;
      explain = c.in-Some-explain_in.ensures;
    }

pub returns-in_default-clause-none : goal.returns-in_default-clause-none
returns-in_default-clause-none c e check asks =
    let found = found_of c.args.matches.now in
    no_text c.get_str.result (first_value found (codes "CONFIG")) _ c.get_str.ensures c.in_default.is (first_value-rows found (codes "CONFIG") ∙ asks.config)

pub returns-in_default-get_one-clause-none : goal.returns-in_default-get_one-clause-none
returns-in_default-get_one-clause-none c e check asks =
    let found = found_of c.args.matches.now in
    no_truth (one_text found (codes "strict")) check.strict c.in_default-get_one.ensures.value (one_text-rows found (codes "strict") ∙ asks.strict)

pub returns-in_default-get_one-2-clause-none : goal.returns-in_default-get_one-2-clause-none
returns-in_default-get_one-2-clause-none c e check asks =
    let found = found_of c.args.matches.now in
    no_truth (one_text found (codes "all")) check.all c.in_default-get_one-2.ensures.value (one_text-rows found (codes "all") ∙ asks.all)

pub returns-in_default-explain_in-clause-none : goal.returns-in_default-explain_in-clause-none
returns-in_default-explain_in-clause-none c e check asks = c.in_default-explain_in.ensures check.explain asks.explain
