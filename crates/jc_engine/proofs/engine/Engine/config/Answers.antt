use Rattle.std.proofs.Common.{Some, ap, sym, ◌∙◌}
use Rattle.jc_engine.proofs.Names.{Housed, Kept, Slot}
use Rattle.jc_engine.proofs.Places.{within, seen_is}
use Rattle.jc_engine.specs.Caches.{config_in}
use Rattle.jc_engine.proofs.engine.Engine.config.Goals as goal

pub returns-in-Some : goal.returns-in-Some
returns-in-Some g c =
    ap Some (c.config.ensures ∙ ap (λ (k : Kept). k.config) (ap (λ (h : Housed). h.kept) c.deref.ensures ∙ ap (λ (s : Slot). s.state) c.cache.view_is))
    ∙ ap config_in (sym (seen_is (within c.self.view_is c.self.invariant) c.args.id (sym (rw c.number.ensures at c.in-Some.ensures.value))))

pub returns-in-None : goal.returns-in-None
returns-in-None g c = ap config_in (sym (seen_is (within c.self.view_is c.self.invariant) c.args.id (sym (rw c.number.ensures at c.in-None.ensures.value))))
