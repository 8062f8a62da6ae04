use Rattle.std.proofs.Common.{◌∙◌}
use Rattle.json.specs.Value.{value_view}
use Rattle.jc_script.proofs.Trees.{same_truth}
use Rattle.jc_script.proofs.tree.truth_in.Goals as goal

pub returns : goal.returns
returns c = c.as_bool.ensures ∙ same_truth (value_view c.args.value.now)
