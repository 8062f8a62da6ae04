use Rattle.std.proofs.Common.{Some, sym, ap, rules, nat_eq}
use Rattle.std.proofs.lemmas.Option.{IfSome_then}
use Rattle.jc_engine.proofs.Names.{get, cache_in}
use Rattle.jc_engine.proofs.Numbered.{puts_for}
use Rattle.jc_engine.proofs.Places.{within, Changes, manager_moved, ready}
use Rattle.jc_engine.proofs.Moving.{moved_on, one_after, new_here, unchanged, outcome_after, lives_later}
use Rattle.jc_engine.proofs.engine.Engine.get_at_once.Given as given
use Rattle.jc_engine.proofs.engine.Engine.get_at_once.Goals as goal

pub get_at_once-requires : goal.get_at_once-requires
get_at_once-requires g c = rw c.set_moment.ensures (ready (within c.self.view_is c.self.invariant) c.args.id c.args.now (sym (rw c.number.ensures at c.in-Some.ensures.value)))

module _ (g : given.Over) (c : goal.After-self-in-Some-1 g) where
  changes : Changes (within c.self.view_is c.self.invariant) c.args.id c.in-Some.cache.now (Some c.get_at_once.new.self) (get nat_eq (c.get_mut.follows.lender c.get_at_once.new.self))
  changes = record { at = sym (rw c.number.ensures at c.in-Some.ensures.value); puts = puts_for _ _ _ c.number.ensures ((c.get_mut.follows.holds c.get_at_once.new.self).3 (search rules)).0 }

pub invariant_of-self : goal.invariant_of-self
invariant_of-self g c = manager_moved (changes g c) c.args.now (rw c.set_moment.ensures at c.get_at_once.ensures.back)

pub returns-in-Some : goal.returns-in-Some
returns-in-Some g c =
    let moves = rw c.set_moment.ensures at c.get_at_once.ensures.at_once in
    record {
      outcome = IfSome_then c.get_at_once.result moves (λ found moves. outcome_after (changes g c) (moved_on moves));
      lives = IfSome_then c.get_at_once.result moves (λ found moves. lives_later (changes g c) (moved_on moves));
      one = IfSome_then c.get_at_once.result moves (λ found moves. one_after (changes g c));
      fits = IfSome_then c.get_at_once.result moves (λ found moves. rw (new_here (changes g c)) moves.fits);
      same = λ none. unchanged (changes g c) (ap cache_in (c.get_at_once.ensures.same none));
    }
