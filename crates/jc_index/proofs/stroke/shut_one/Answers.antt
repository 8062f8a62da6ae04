use Rattle.std.proofs.Common.{rules, refl}
use Rattle.jc_index.specs.StripeLayout.{version_count}
use Rattle.jc_index.proofs.Keeps.{turns}
use Rattle.jc_index.proofs.stroke.shut_one.Goals as goal

pub store-requires : goal.store-requires
store-requires g c = (search rules, search rules, turns g.L.Law.group version_count g.L.Law.admits _ _ _ _ _ c.args.stripe _ c.requires.known c.requires.few refl (λ odd. refl))

pub returns-clause-view : goal.returns-clause-view
returns-clause-view g c = c.store.ensures.2 _ c.requires.known
