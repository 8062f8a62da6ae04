-- An argument that is added to a command whose shape is known.
use Rattle.std.proofs.Common.{◌≡◌, false, refl, ap₂, ◌∙◌}
use Rattle.std.specs.Prelude.{◌||◌}
use Rattle.clap.specs.Words.{App, Rule, AddsArg, app_of, rule_of, with_rule}
use Rattle.clap.specs.declared.builder.Arg.{Arg}
use Rattle.clap.specs.declared.builder.Command.{Command}
use Rattle.clap.specs.declared.builder.Command.TheViews.{out-Command}

-- the command has this shape, and no global argument
abbrev pub Has : App → Command → Type 0
Has app c = (app_of c ≡ app) × ((out-Command c).has_globals ≡ false)

pub adds : (old new : Command) (a : Arg) (app : App) (r : Rule) → AddsArg old a new → a.global ≡ false → rule_of a ≡ r → Has app old → Has (with_rule app r) new
adds old new a app r h here rule before =
    let none : ((out-Command old).has_globals || a.global) ≡ false = rw (before.1, here) refl in
    (h.shape here ∙ ap₂ with_rule before.0 rule, h.globals ∙ none)
