use Rattle.std.proofs.Common.{List, Option, sym, ◌∙◌, ap}
use Rattle.std.specs.Prelude.{slice_get}
use Rattle.jc_locked.proofs.Opened.{lock_there, locked_at}
use Rattle.jc_shared.proofs.manager.Manager.opened_lock.Goals as goal

pub returns-in-Some : goal.returns-in-Some
returns-in-Some g c =
    let there = ap (λ (xs : List (Option _)). slice_get xs c.args.id) (sym c.as_slice.ensures.value) ∙ sym c.in-Some.ensures in
    c.held.ensures ∙ (ap lock_there (sym there) ∙ locked_at c.args.self.now.locks.items g.N.Name.configs c.args.self.now.locked_are c.args.id)

pub returns-in-None : goal.returns-in-None
returns-in-None g c =
    let none = ap (λ (xs : List (Option _)). slice_get xs c.args.id) (sym c.as_slice.ensures.value) ∙ sym c.in-None.ensures in
    ap lock_there (sym none) ∙ locked_at c.args.self.now.locks.items g.N.Name.configs c.args.self.now.locked_are c.args.id
