use Rattle.std.proofs.Common.{◌≡◌, Bool, None, ap, sym, ◌∙◌, length, option_map, slice_set, nat_eq, if◌then◌else◌}
use Rattle.jc_model.specs.declared.event.Cause.TheVariants.{Busy}
use Rattle.jc_engine.proofs.Names.{get, map-set, member_of, Destroyed, Refused, status_of, lives_of, caches_in}
use Rattle.jc_engine.proofs.Numbered.{puts_for}
use Rattle.jc_engine.proofs.Places.{within, seen_is, member_at, Changes, seen_after, manager_after, ready}
use Rattle.jc_engine.proofs.Moving.{destroyed_at}
use Rattle.jc_engine.proofs.engine.Engine.destroy.Given as given
use Rattle.jc_engine.proofs.engine.Engine.destroy.Goals as goal

pub unreachable-requires : goal.unreachable-requires
unreachable-requires g c =
    let none = seen_is (within c.self.view_is c.self.invariant) c.args.id (sym (rw c.number-number.ensures at c.in_default-remove.ensures.value)) in
    let some = c.in-Some.ensures in
    absurd cc

pub leave-requires : goal.leave-requires
leave-requires g c = ready (within c.self.view_is c.self.invariant) c.args.id c.self.inside.visit.moment (sym (rw c.number-number.ensures at c.in-Some-remove.ensures.value))

pub remove-requires-2 : goal.remove-requires-2
remove-requires-2 g c =
    let at = sym (rw c.number-number.ensures at c.in-Some-remove.ensures.value) in
    (member_of c.in-Some-remove.cache.state.config, rw c.number-number.ensures (member_at (within c.self.view_is c.self.invariant) c.args.id at))

module _ (g : given.Over) (c : goal.After-remove-2 g) where
  changes : Changes (within c.self.view_is c.self.invariant) c.args.id c.in-Some-remove.cache None (get nat_eq c.remove.new.self)
  changes = record { at = sym (rw c.number-number.ensures at c.in-Some-remove.ensures.value); puts = puts_for _ _ _ c.number-number.ensures c.remove.ensures.updates.0 }

  removed : c.remove-2.new.self ≡ slice_set c.self.inside.roster c.args.id None
  removed = rw c.number-number.ensures at c.remove-2.ensures

  gone : caches_in (get nat_eq c.remove.new.self) (length c.remove-2.new.self) ≡ slice_set c.args.self.now c.args.id None
  gone = rw removed (seen_after changes)

pub invariant_of-self : goal.invariant_of-self
invariant_of-self g c = rw (removed g c) (manager_after (changes g c) c.leave.new.visit tt c.leave.ensures.gone c.leave.ensures.elsewhere c.leave.ensures.rests)

pub returns-clause-outcome : goal.returns-clause-outcome
returns-clause-outcome g c =
    sym (destroyed_at c.args.self.now c.args.id c.in-Some.ensures ∙ ap (λ (b : Bool). if b then Refused Busy else Destroyed) (sym c.is_open.ensures ∙ c.if-is_open.false))

pub returns-clause-lives : goal.returns-clause-lives
returns-clause-lives g c = ap lives_of (gone g c) ∙ map-set (option_map status_of) c.args.self.now c.args.id None

pub returns-clause-gone : goal.returns-clause-gone
returns-clause-gone g c = gone g c
