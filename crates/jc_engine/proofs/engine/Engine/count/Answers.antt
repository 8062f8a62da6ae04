use Rattle.std.proofs.Common.{Some, ap, sym, length, ◌∙◌}
use Rattle.jc_engine.proofs.Names.{Housed, Kept, Slot, item_of, length-map}
use Rattle.jc_engine.proofs.Places.{within, seen_is}
use Rattle.jc_engine.specs.Caches.{count_in}
use Rattle.jc_engine.proofs.engine.Engine.count.Goals as goal

pub returns-in-Some : goal.returns-in-Some
returns-in-Some g c =
    ap Some (c.len.ensures ∙ ap (λ (k : Kept). length k.cells) (ap (λ (h : Housed). h.kept) c.deref.ensures ∙ ap (λ (s : Slot). s.state) c.cache.view_is) ∙ sym (length-map c.in-Some.cache.now.state.cells item_of))
    ∙ ap count_in (sym (seen_is (within c.self.view_is c.self.invariant) c.args.id (sym (rw c.number.ensures at c.in-Some.ensures.value))))

pub returns-in-None : goal.returns-in-None
returns-in-None g c = ap count_in (sym (seen_is (within c.self.view_is c.self.invariant) c.args.id (sym (rw c.number.ensures at c.in-None.ensures.value))))
