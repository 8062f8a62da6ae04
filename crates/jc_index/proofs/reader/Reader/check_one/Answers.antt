use Rattle.std.proofs.Common.{rules, ap, sym, ◌∙◌}
use Rattle.jc_index.specs.declared.board.Role.TheVariants.{Looking}
use Rattle.jc_index.specs.StripeLayout.{version_count}
use Rattle.jc_index.specs.Stripes.{glance_of}
use Rattle.jc_index.proofs.Keeps.{checks}
use Rattle.jc_index.proofs.reader.Reader.check_one.Goals as goal

pub load-requires : goal.load-requires
load-requires g c = (search rules, search rules, checks g.L.Law.group version_count g.L.Law.admits _ _ _ _ (glance_of c.args.self.now.seat.me.0) _ c.args.self.now.reads c.requires)

pub invariant_of-self : goal.invariant_of-self
invariant_of-self g c = let k = c.load.ensures.2 _ c.args.self.now.reads in record {
  seated = search rules;
  sized = search rules;
  empty = ap (λ m. m.1) k.1 ∙ c.args.self.now.empty;
  reads = ap (λ m. m.0.role) k.1 ∙ ap (λ m. Looking (glance_of m.0)) (sym k.1);
}

pub returns-clause-view : goal.returns-clause-view
returns-clause-view g c = let k = c.load.ensures.2 _ c.args.self.now.reads in ap (λ m. m.0) k.1

pub returns-clause-front : goal.returns-clause-front
returns-clause-front g c = let k = c.load.ensures.2 _ c.args.self.now.reads in k.0

pub returns-clause-later : goal.returns-clause-later
returns-clause-later g c = let k = c.load.ensures.2 _ c.args.self.now.reads in k.2

pub returns-clause-shows : goal.returns-clause-shows
returns-clause-shows g c = let k = c.load.ensures.2 _ c.args.self.now.reads in k.3

pub returns-clause-lawful : goal.returns-clause-lawful
returns-clause-lawful g c = let k = c.load.ensures.2 _ c.args.self.now.reads in k.4
