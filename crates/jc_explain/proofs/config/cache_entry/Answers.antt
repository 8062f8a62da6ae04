use Rattle.std.proofs.Common.{codes}
use Rattle.toml.proofs.Views.{table_get}
use Rattle.jc_explain.proofs.config.cache_entry.Goals as goal

pub returns : goal.returns
returns c = table_get c.get.result (codes "cache") c.args.document.now.entries c.get.ensures.value
