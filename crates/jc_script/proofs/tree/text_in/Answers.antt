use Rattle.std.proofs.Common.{◌∙◌}
use Rattle.json.specs.Value.{value_view}
use Rattle.jc_script.proofs.Trees.{same_text}
use Rattle.jc_script.proofs.tree.text_in.Goals as goal

pub returns : goal.returns
returns c = c.as_str.ensures ∙ same_text (value_view c.args.value.now)
