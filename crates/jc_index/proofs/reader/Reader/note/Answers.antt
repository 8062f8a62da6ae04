use Rattle.std.proofs.Common.{rules, refl}
use Rattle.jc_index.specs.StripeLayout.{version_count}
use Rattle.jc_index.specs.Stripes.{glance_of}
use Rattle.jc_index.proofs.Keeps.{notes}
use Rattle.jc_index.proofs.reader.Reader.note.Goals as goal

pub load-requires : goal.load-requires
load-requires g c = (search rules, search rules, notes g.L.Law.group version_count g.L.Law.admits _ _ _ _ (glance_of c.args.self.now.seat.me.0) _ c.args.place c.args.self.now.reads c.requires.young refl)
