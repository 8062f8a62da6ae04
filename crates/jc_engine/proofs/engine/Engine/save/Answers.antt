use Rattle.std.proofs.Common.{refl, sym, ap, subst, ◌∙◌}
use Rattle.jc_engine.proofs.Names.{Housed, Slot, cache_in}
use Rattle.jc_engine.proofs.Places.{within, seen_is}
use Rattle.jc_engine.proofs.Saved.{open_not_saved, idle_saved}
use Rattle.jc_engine.proofs.Watching.{sound_seen}
use Rattle.jc_engine.specs.Saving.{saved_length}
use Rattle.jc_engine.specs.Sound.{HasLimits}
use Rattle.jc_engine.proofs.engine.Engine.save.Goals as goal

pub returns-then-is_open-clause-exact : goal.returns-then-is_open-clause-exact
returns-then-is_open-clause-exact g c =
    let seen = seen_is (within c.self.view_is c.self.invariant) c.args.id (sym (rw c.number.ensures at c.in-Some.ensures.value)) in
    sym (ap saved_length seen ∙ open_not_saved (cache_in c.in-Some.cache.now) (sym c.is_open.ensures ∙ c.if-is_open.true))

pub returns-else-is_open-clause-exact : goal.returns-else-is_open-clause-exact
returns-else-is_open-clause-exact g c =
    let seen = seen_is (within c.self.view_is c.self.invariant) c.args.id (sym (rw c.number.ensures at c.in-Some.ensures.value)) in
    let state = ap (λ (h : Housed). h.kept) c.deref.ensures ∙ ap (λ (s : Slot). s.state) c.cache.view_is in
    let length_is = rw state at c.write.ensures.length in
    sym (ap saved_length seen ∙ idle_saved (cache_in c.in-Some.cache.now) (sym c.is_open.ensures ∙ c.if-is_open.false) ∙ rw length_is refl)

pub returns-else-is_open-clause-out : goal.returns-else-is_open-clause-out
returns-else-is_open-clause-out g c =
    let seen = seen_is (within c.self.view_is c.self.invariant) c.args.id (sym (rw c.number.ensures at c.in-Some.ensures.value)) in
    let state = ap (λ (h : Housed). h.kept) c.deref.ensures ∙ ap (λ (s : Slot). s.state) c.cache.view_is in
    rw seen (rw state at c.write.ensures.out)

pub returns-else-is_open-clause-savable : goal.returns-else-is_open-clause-savable
returns-else-is_open-clause-savable g c =
    let w = within c.self.view_is c.self.invariant in
    let at = sym (rw c.number.ensures at c.in-Some.ensures.value) in
    let seen = seen_is w c.args.id at in
    let state = ap (λ (h : Housed). h.kept) c.deref.ensures ∙ ap (λ (s : Slot). s.state) c.cache.view_is in
    λ short. rw seen record {
      limits = subst HasLimits at (w.is.limits c.args.id);
      duration = rw state at c.write.ensures.duration;
      counters = rw state at c.write.ensures.counters;
      rows = rw state at c.write.ensures.rows;
      sound = sound_seen w c.args.id (cache_in c.in-Some.cache.now) seen;
      short = rw (← (rw state at c.write.ensures.length)) short;
    }

pub returns-in-None-clause-exact : goal.returns-in-None-clause-exact
returns-in-None-clause-exact g c =
    sym (ap saved_length (seen_is (within c.self.view_is c.self.invariant) c.args.id (sym (rw c.number.ensures at c.in-None.ensures.value))))
