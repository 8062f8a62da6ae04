use Rattle.std.proofs.Common.{codes, ◌∙◌}
use Rattle.clap.specs.Words.{found_of}
use Rattle.clap.proofs.WalkLemmas.{first_value-rows}
use Rattle.jc_cli.proofs.Readings.{text_of_rows, no_text, format_read}
use Rattle.jc_cli.proofs.format.format_in.Goals as goal

pub returns-in-Some : goal.returns-in-Some
returns-in-Some c = format_read c.read_format.result _ c.in-Some.text.now (text_of_rows (found_of c.args.matches.now) (codes "format") _ _ c.get_str.ensures c.in-Some.is) c.read_format.ensures

pub returns-in-None : goal.returns-in-None
returns-in-None c form named = no_text c.get_str.result _ _ (c.get_str.ensures ∙ first_value-rows (found_of c.args.matches.now) (codes "format")) c.in-None.is named
