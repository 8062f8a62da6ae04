-- What became of lines, and then of more lines.
use Rattle.std.proofs.Common.{List, [], ◌∷◌, ◌++◌, Option, Some, None}
use Rattle.jc_model.specs.declared.config.CacheConfig.{CacheConfig}
use Rattle.jc_model.specs.declared.event.CreateRefusal.{CreateRefusal}
use Rattle.jc_script.specs.declared.line.Line.{Line}
use Rattle.jc_script.specs.declared.line.Line.TheVariants.{Call, Create, Destroy}
use Rattle.jc_threads.specs.Managing.{AreManaged}

pub managed_both : (configs : List CacheConfig) (done more : List Line) (rs ss : List (Option CreateRefusal)) → AreManaged configs done rs → AreManaged configs more ss → AreManaged configs (done ++ more) (rs ++ ss)
managed_both configs [] more [] ss first rest = rest
managed_both configs [] more (r ∷ rs) ss first rest = absurd first
managed_both configs (Call l ∷ ls) more rs ss first rest = managed_both configs ls more rs ss first rest
managed_both configs (Create session config ∷ ls) more [] ss first rest = absurd first
managed_both configs (Create session config ∷ ls) more (r ∷ rs) ss first rest = (first.0, managed_both configs ls more rs ss first.1 rest)
managed_both configs (Destroy session id ∷ ls) more [] ss first rest = absurd first
managed_both configs (Destroy session id ∷ ls) more (None ∷ rs) ss first rest = (first.0, managed_both configs ls more rs ss first.1 rest)
managed_both configs (Destroy session id ∷ ls) more (Some refusal ∷ rs) ss first rest = absurd first
