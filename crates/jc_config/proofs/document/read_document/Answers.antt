use Rattle.std.proofs.Common.{sym, ◌∙◌, ap, rules, None}
use Rattle.toml.specs.Parse.{parse_document}
use Rattle.jc_config.proofs.Documents.{document_is, no_document}
use Rattle.jc_config.proofs.document.read_document.Goals as goal

pub returns-in-Err : goal.returns-in-Err
returns-in-Err c = no_document c.args.bytes.now c.in-Err.ensures.cases.0

pub returns-in-Ok-table_from_str : goal.returns-in-Ok-table_from_str
returns-in-Ok-table_from_str c = document_is c.args.bytes.now c.in-Ok.ensures.cases.1 _ (ap parse_document (sym c.in-Ok.ensures.cases.0) ∙ c.in-Ok-table_from_str.ensures.ok)

pub returns-else-is_memory : goal.returns-else-is_memory
returns-else-is_memory c = document_is c.args.bytes.now c.in-Ok.ensures.cases.1 None (ap parse_document (sym c.in-Ok.ensures.cases.0) ∙ c.in-Err-table_from_str.ensures.refused (search rules))
