use Rattle.std.proofs.Common.{Some, ◌∙◌, ap}
use Rattle.clap.specs.Words.{found_of}
use Rattle.jc_cli.proofs.Readings.{worded}
use Rattle.jc_cli.proofs.clash.is_in_words.Goals as goal

pub returns-in-None : goal.returns-in-None
returns-in-None c = worded (found_of c.args.matches.now) c.args.id.now _ _ c.value_source.ensures c.in-None.is

pub returns-in-Some-DefaultValue : goal.returns-in-Some-DefaultValue
returns-in-Some-DefaultValue c = worded (found_of c.args.matches.now) c.args.id.now _ _ c.value_source.ensures (c.in-Some-DefaultValue.is ∙ ap (λ s. Some s) c.in-Some-DefaultValue.field-0-is)

pub returns-in-Some-CommandLine : goal.returns-in-Some-CommandLine
returns-in-Some-CommandLine c = worded (found_of c.args.matches.now) c.args.id.now _ _ c.value_source.ensures (c.in-Some-CommandLine.is ∙ ap (λ s. Some s) c.in-Some-CommandLine.field-0-is)
