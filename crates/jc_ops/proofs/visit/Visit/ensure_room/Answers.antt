use Rattle.std.proofs.Common.{◌≡◌, ◌∙◌, sym, subst}
use Rattle.jc_ops.proofs.StateNames.{with_room, Visited, progress_in}
use Rattle.jc_ops.proofs.Going.{held_first, made-evicted, made-expired}
use Rattle.jc_ops.proofs.visit.Visit.ensure_room.Goals as goal

pub invariant_of-self : goal.invariant_of-self
invariant_of-self g c =
    let turn = rw c.deref_mut.ensures.value at c.turn_hand-row.ensures.hand in record {
      tied = turn.tied _ c.self.invariant.tied;
      within = rw (turn.many, turn.kept) c.self.invariant.within;
    }

pub returns-then-is_live-clause-progress : goal.returns-then-is_live-clause-progress
returns-then-is_live-clause-progress g c =
    let turn = rw c.deref_mut.ensures.value at c.turn_hand-row.ensures.hand in
    let was = c.take_row-gone.ensures.was in
    subst (λ (v : Visited). progress_in c.eviction.new.self ≡ with_room v.cache.config v.moment (progress_in v)) c.self.view_is
    (rw (c.eviction.ensures, c.take_row-gone.ensures.gone.kept, c.take_row-gone.ensures.noted)
    (made-evicted _ _ _ c.turn_hand-row.result _ (rw c.deref.ensures at (c.is_full.ensures.full c.if-is_full.true)) turn (turn.tied _ c.self.invariant.tied).distinct
    (rw was (sym (c.is_live.ensures _ was) ∙ c.if-is_live.true))))

pub returns-else-is_live-clause-progress : goal.returns-else-is_live-clause-progress
returns-else-is_live-clause-progress g c =
    let turn = rw c.deref_mut.ensures.value at c.turn_hand-row.ensures.hand in
    let h = held_first c.turn_hand-row.result c.turn_hand-row.new.self.kept.cells turn.at in
    subst (λ (v : Visited). progress_in c.remove_row.new.self ≡ with_room v.cache.config v.moment (progress_in v)) c.self.view_is
    (rw (c.remove_row.ensures.gone.kept, c.remove_row.ensures.told)
    (made-expired _ _ _ c.turn_hand-row.result _ (rw c.deref.ensures at (c.is_full.ensures.full c.if-is_full.true)) turn (turn.tied _ c.self.invariant.tied).distinct
    (rw h.1 (sym (c.is_live.ensures h.0 h.1) ∙ c.if-is_live.false))))
