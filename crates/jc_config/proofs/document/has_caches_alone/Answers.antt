use Rattle.std.proofs.Common.{◌∙◌}
use Rattle.jc_config.specs.Config.{is_cache}
use Rattle.jc_config.proofs.Documents.{known_keys}
use Rattle.jc_config.proofs.document.has_caches_alone.Goals as goal

pub returns : goal.returns
returns c = c.has_cache_keys.ensures ∙ known_keys is_cache c.args.document.now.entries
