use Rattle.std.proofs.Common.{List, sym, ◌∙◌, ap}
use Rattle.std.specs.Prelude.{slice_get}
use Rattle.jc_locked.specs.declared.hooks.SharedHooks.{SharedHooks}
use Rattle.jc_shared.proofs.Asked.{stated_at, count_at, some_at}
use Rattle.jc_shared.proofs.manager.Manager.opening_hooks.Goals as goal

pub returns-clause-stated : goal.returns-clause-stated
returns-clause-stated g c =
    let there = ap (λ (xs : List (SharedHooks _ _)). slice_get xs c.args.id) (sym c.as_slice.ensures.value) ∙ sym c.in_ok-shared.ensures in
    stated_at g.L.Loader.load_of g.P.Processor.verdict_of c.args.self.now.shared.items g.N.Name.stated c.args.self.now.stated_are c.args.id c.in_ok-shared.shared.now there

pub returns-clause-opened : goal.returns-clause-opened
returns-clause-opened g c =
    let there = ap (λ (xs : List (SharedHooks _ _)). slice_get xs c.args.id) (sym c.as_slice.ensures.value) ∙ sym c.in_ok-shared.ensures in
    some_at c.args.self.now.shared.items g.N.Name.configs c.args.self.now.counted c.args.id c.in_ok-shared.shared.now there

pub returns-clause-counted : goal.returns-clause-counted
returns-clause-counted g c = λ config at.
    let there = ap (λ (xs : List (SharedHooks _ _)). slice_get xs c.args.id) (sym c.as_slice.ensures.value) ∙ sym c.in_ok-shared.ensures in
    count_at c.args.self.now.shared.items g.N.Name.configs c.args.self.now.counted c.args.id c.in_ok-shared.shared.now config there at
