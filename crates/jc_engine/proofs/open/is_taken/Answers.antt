use Rattle.std.proofs.Common.{◌∙◌, bytes_eq}
use Rattle.jc_engine.proofs.Names.{CacheConfig}
use Rattle.jc_engine.proofs.Openings.{any_map}
use Rattle.jc_engine.proofs.open.is_taken.Goals as goal

pub returns-in-None : goal.returns-in-None
returns-in-None c = c.is_named.ensures ∙ any_map (λ n. bytes_eq n c.args.name) (λ (k : CacheConfig). k.name) c.args.before.now
