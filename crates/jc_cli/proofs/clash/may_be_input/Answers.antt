use Rattle.std.proofs.Common.{◌∙◌}
use Rattle.clap.specs.Words.{found_of}
use Rattle.jc_cli.proofs.Readings.{input_read}
use Rattle.jc_cli.proofs.clash.may_be_input.Goals as goal

pub returns-in-None : goal.returns-in-None
returns-in-None c = input_read (found_of c.args.matches.now) c.args.id.now _ _ c.get_str.ensures c.in-None.is

pub returns-in-Some : goal.returns-in-Some
returns-in-Some c = c.is_input.ensures ∙ input_read (found_of c.args.matches.now) c.args.id.now _ _ c.get_str.ensures c.in-Some.is
