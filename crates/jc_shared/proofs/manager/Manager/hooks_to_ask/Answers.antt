use Rattle.std.proofs.Common.{List, sym, ◌∙◌, ap}
use Rattle.std.specs.Prelude.{slice_get}
use Rattle.jc_locked.specs.declared.hooks.SharedHooks.{SharedHooks}
use Rattle.jc_shared.proofs.Asked.{stated_at, unstated_at, count_at, none_at}
use Rattle.jc_shared.proofs.manager.Manager.hooks_to_ask.Goals as goal

pub returns-in-Some-clause-stated : goal.returns-in-Some-clause-stated
returns-in-Some-clause-stated g c =
    let there = ap (λ (xs : List (SharedHooks _ _)). slice_get xs c.args.id) (sym c.as_slice.ensures.value) ∙ sym c.in-Some.ensures in
    stated_at g.L.Loader.load_of g.P.Processor.verdict_of c.args.self.now.shared.items g.N.Name.stated c.args.self.now.stated_are c.args.id c.in-Some.shared.now there

pub returns-in-Some-clause-counted : goal.returns-in-Some-clause-counted
returns-in-Some-clause-counted g c = λ config at.
    let there = ap (λ (xs : List (SharedHooks _ _)). slice_get xs c.args.id) (sym c.as_slice.ensures.value) ∙ sym c.in-Some.ensures in
    count_at c.args.self.now.shared.items g.N.Name.configs c.args.self.now.counted c.args.id c.in-Some.shared.now config there at

pub returns-in-None-clause-stated : goal.returns-in-None-clause-stated
returns-in-None-clause-stated g c =
    let none = ap (λ (xs : List (SharedHooks _ _)). slice_get xs c.args.id) (sym c.as_slice.ensures.value) ∙ sym c.in-None.ensures in
    unstated_at g.L.Loader.load_of g.P.Processor.verdict_of c.args.self.now.shared.items g.N.Name.stated c.args.self.now.stated_are c.args.id c.args.own.now none

pub returns-in-None-clause-counted : goal.returns-in-None-clause-counted
returns-in-None-clause-counted g c = λ config at.
    let none = ap (λ (xs : List (SharedHooks _ _)). slice_get xs c.args.id) (sym c.as_slice.ensures.value) ∙ sym c.in-None.ensures in
    absurd (none_at c.args.self.now.shared.items g.N.Name.configs c.args.self.now.counted c.args.id config none at)
