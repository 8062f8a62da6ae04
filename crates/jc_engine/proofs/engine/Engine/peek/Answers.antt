use Rattle.std.proofs.Common.{ap, sym, ◌∙◌}
use Rattle.jc_engine.proofs.Names.{Housed, Slot}
use Rattle.jc_engine.proofs.Places.{within, seen_is, stands}
use Rattle.jc_engine.specs.Caches.{live_row_in}
use Rattle.jc_engine.proofs.engine.Engine.peek.Goals as goal

pub returns-in-Some : goal.returns-in-Some
returns-in-Some g c =
    let state = ap (λ (h : Housed). h.kept) c.deref.ensures ∙ ap (λ (s : Slot). s.state) c.cache.view_is in
    (rw state at c.peek.ensures) ∙ ap (live_row_in c.args.now c.args.key.now) (sym (seen_is (within c.self.view_is c.self.invariant) c.args.id (sym (rw c.number.ensures at c.in-Some.ensures.value))))

pub returns-in-None : goal.returns-in-None
returns-in-None g c = ap (live_row_in c.args.now c.args.key.now) (sym (seen_is (within c.self.view_is c.self.invariant) c.args.id (sym (rw c.number.ensures at c.in-None.ensures.value))))

pub peek-requires : goal.peek-requires
peek-requires g c = record { tied = rw (c.rows.ensures.table, ap (λ (h : Housed). h.kept) c.deref.ensures ∙ ap (λ (s : Slot). s.state) c.cache.view_is) (stands (within c.self.view_is c.self.invariant) c.args.id (sym (rw c.number.ensures at c.in-Some.ensures.value))).kept.tied }
