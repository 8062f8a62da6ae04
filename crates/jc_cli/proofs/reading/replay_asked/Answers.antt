use Rattle.std.proofs.Common.{codes, sym, ◌∙◌}
use Rattle.clap.specs.Words.{found_of, first_value}
use Rattle.clap.proofs.WalkLemmas.{first_value-rows}
use Rattle.jc_cli.proofs.Parts.{listed, unlisted, no_list}
use Rattle.jc_cli.proofs.Readings.{text_read, text_of_rows, no_text}
use Rattle.jc_cli.proofs.reading.replay_asked.Goals as goal

pub returns-clause-asks : goal.returns-clause-asks
returns-clause-asks c = record {
  trace = sym (first_value-rows (found_of c.args.matches.now) (codes "TRACE")) ∙ text_read c.get_str.result c.in-Some.trace _ _ c.get_str.ensures c.in-Some.is c.in_ok-trace.ensures.ok;
  capacities = listed _ c.in-Some-get_str.list.now _ _ (text_of_rows (found_of c.args.matches.now) (codes "capacity") _ _ c.get_str-2.ensures c.in-Some-get_str.is) c.in-Some-2.is c.in_ok-capacities.ensures.read;
  format = c.in-Some-format_in.ensures;
  explain = c.in-Some-explain_in.ensures;
}

pub returns-in_default-clause-none : goal.returns-in_default-clause-none
returns-in_default-clause-none c e replay asks =
    let found = found_of c.args.matches.now in
    no_text c.get_str.result (first_value found (codes "TRACE")) _ c.get_str.ensures c.in_default.is (first_value-rows found (codes "TRACE") ∙ asks.trace)

pub returns-in_default-get_str-clause-none : goal.returns-in_default-get_str-clause-none
returns-in_default-get_str-clause-none c e replay asks =
    no_list c.get_str-2.result _ _ (c.get_str-2.ensures ∙ first_value-rows (found_of c.args.matches.now) (codes "capacity")) c.in_default-get_str.is asks.capacities

pub returns-in_default-2-clause-none : goal.returns-in_default-2-clause-none
returns-in_default-2-clause-none c e replay asks =
    unlisted _ c.in-Some-get_str.list.now _ (text_of_rows (found_of c.args.matches.now) (codes "capacity") _ _ c.get_str-2.ensures c.in-Some-get_str.is) c.in_default-2.is c.in_ok-capacities.ensures.read _ asks.capacities

pub returns-in_default-explain_in-clause-none : goal.returns-in_default-explain_in-clause-none
returns-in_default-explain_in-clause-none c e replay asks = c.in_default-explain_in.ensures replay.explain asks.explain

pub returns-in_default-format_in-clause-none : goal.returns-in_default-format_in-clause-none
returns-in_default-format_in-clause-none c e replay asks = c.in_default-format_in.ensures replay.format asks.format
