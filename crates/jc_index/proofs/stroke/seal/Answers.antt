use Rattle.std.proofs.Common.{rules, refl}
use Rattle.jc_index.specs.StripeLayout.{version_count}
use Rattle.jc_index.proofs.Keeps.{seals}
use Rattle.jc_index.proofs.stroke.seal.Goals as goal

pub store-requires : goal.store-requires
store-requires g c = (search rules, search rules, seals g.L.Law.group version_count g.L.Law.admits _ _ _ _ _ _ c.args.place _ c.requires.is_open.0 refl c.requires.is_open.1 c.requires.lawful.0 c.requires.lawful.1 c.requires.lawful.2)
