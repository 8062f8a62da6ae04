use Rattle.std.proofs.Common.{◌==◌, rules, refl, ap, ◌∙◌}
use prog.Atomic.{either}
use Rattle.jc_index.proofs.Rolling.{adds}
use Rattle.jc_index.proofs.keeper.Keeper.add.Goals as goal

pub compare_exchange_with-requires : goal.compare_exchange_with-requires
compare_exchange_with-requires g c = (search rules, search rules, adds _ _ _ (λ n. either (n == 0) 0 n) 0 0 _ c.args.self.now.keeps.1)

pub invariant_of-self : goal.invariant_of-self
invariant_of-self g c = let did = c.compare_exchange_with.ensures.2 c.args.self.now.keeps.1 _ refl in record {
  seated = search rules;
  keeps = (ap (λ m. m.1) did ∙ c.args.self.now.keeps.0, ap (λ m. m.0.keeps) did ∙ c.args.self.now.keeps.1);
}

pub returns-clause-items : goal.returns-clause-items
returns-clause-items g c = let did = c.compare_exchange_with.ensures.2 c.args.self.now.keeps.1 _ refl in ap (λ m. m.0.items) did
