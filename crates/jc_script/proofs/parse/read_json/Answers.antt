use Rattle.std.proofs.Common.{sym, ◌∙◌, rules}
use Rattle.jc_script.proofs.Texts.{json_read, json_refused}
use Rattle.jc_script.proofs.parse.read_json.Goals as goal

pub returns-in-Ok : goal.returns-in-Ok
returns-in-Ok c = sym c.in-Ok.ensures.ok.1 ∙ json_read _ c.in-Ok.ensures.ok.0

pub returns-else-is_memory : goal.returns-else-is_memory
returns-else-is_memory c = json_refused _ (c.in-Err.ensures.err (search rules))
