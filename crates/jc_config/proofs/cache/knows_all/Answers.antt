use Rattle.std.proofs.Common.{◌∙◌}
use Rattle.jc_config.specs.Members.{is_table_member}
use Rattle.jc_config.proofs.Documents.{known_keys}
use Rattle.jc_config.proofs.cache.knows_all.Goals as goal

pub returns : goal.returns
returns c = c.has_member_keys.ensures ∙ known_keys is_table_member c.args.table.now.entries
