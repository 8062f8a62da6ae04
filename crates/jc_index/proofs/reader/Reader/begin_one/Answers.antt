use Rattle.std.proofs.Common.{rules, ap, sym, ◌∙◌}
use Rattle.jc_index.specs.declared.board.Role.TheVariants.{Looking}
use Rattle.jc_index.specs.StripeLayout.{version_count}
use Rattle.jc_index.specs.Stripes.{glance_of}
use Rattle.jc_index.proofs.Keeps.{begins}
use Rattle.jc_index.proofs.reader.Reader.begin_one.Goals as goal

pub load-requires : goal.load-requires
load-requires g c = (search rules, search rules, begins g.L.Law.group version_count g.L.Law.admits _ _ _ _ (glance_of c.args.self.now.seat.me.0) _ c.args.self.now.reads c.requires)

pub invariant_of-self : goal.invariant_of-self
invariant_of-self g c = let k = c.load.ensures.2 _ c.args.self.now.reads in record {
  seated = search rules;
  sized = search rules;
  empty = ap (λ m. m.1) k ∙ c.args.self.now.empty;
  reads = ap (λ m. m.0.role) k ∙ ap (λ m. Looking (glance_of m.0)) (sym k);
}
