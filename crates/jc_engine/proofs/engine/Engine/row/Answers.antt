use Rattle.std.proofs.Common.{ap, sym, subst, ◌∙◌}
use Rattle.jc_engine.proofs.Names.{Housed, Slot}
use Rattle.jc_engine.proofs.Numbering.{row_here, numbers_here}
use Rattle.jc_engine.proofs.Places.{within, seen_is, stands}
use Rattle.jc_engine.specs.Caches.{row_in, NumbersRows}
use Rattle.jc_engine.proofs.engine.Engine.row.Goals as goal

pub returns-in-Some : goal.returns-in-Some
returns-in-Some g c =
    let w = within c.self.view_is c.self.invariant in
    let at = sym (rw c.number.ensures at c.in-Some.ensures.value) in
    let state = ap (λ (h : Housed). h.kept) c.deref.ensures ∙ ap (λ (s : Slot). s.state) c.cache.view_is in
    record {
      row = (rw state at c.row_at.ensures.row) ∙ row_here c.args.number c.in-Some.cache.now ∙ ap (row_in c.args.number) (sym (seen_is w c.args.id at));
      numbers = subst NumbersRows (sym (seen_is w c.args.id at)) (numbers_here c.in-Some.cache.now (stands w c.args.id at).kept.tied.distinct (rw state at c.row_at.ensures.below));
    }

pub returns-in-None : goal.returns-in-None
returns-in-None g c =
    let seen = seen_is (within c.self.view_is c.self.invariant) c.args.id (sym (rw c.number.ensures at c.in-None.ensures.value)) in
    record { row = ap (row_in c.args.number) (sym seen); numbers = subst NumbersRows (sym seen) tt }
