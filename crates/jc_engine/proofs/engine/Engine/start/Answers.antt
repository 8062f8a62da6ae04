use Rattle.std.proofs.Common.{Some, sym, rules, nat_eq, ◌∙◌}
use Rattle.jc_engine.proofs.Names.{get, begins}
use Rattle.jc_engine.specs.Managed.{HasHeard}
use Rattle.jc_engine.proofs.Numbered.{puts_for}
use Rattle.jc_engine.proofs.Places.{within, seen_is, Changes, manager_moved, ready}
use Rattle.jc_engine.proofs.Moving.{no_answer, reply_at, started, ok_then, one_after, fits_after, refused_after, outcome_after, lives_later}
use Rattle.jc_engine.proofs.engine.Engine.start.Given as given
use Rattle.jc_engine.proofs.engine.Engine.start.Goals as goal

pub start-requires : goal.start-requires
start-requires g c = rw c.set_moment.ensures (ready (within c.self.view_is c.self.invariant) c.args.id c.args.now (sym (rw c.number.ensures at c.in-Some.ensures.value)))

module _ (g : given.Over) (c : goal.After-self-in-Some-1 g) where
  changes : Changes (within c.self.view_is c.self.invariant) c.args.id c.in-Some.cache.now (Some c.start.new.self) (get nat_eq (c.get_mut.follows.lender c.start.new.self))
  changes = record { at = sym (rw c.number.ensures at c.in-Some.ensures.value); puts = puts_for _ _ _ c.number.ensures ((c.get_mut.follows.holds c.start.new.self).3 (search rules)).0 }

  heard : HasHeard c.in-Some.cache.now (record c.self.inside.visit { moment = c.args.now }) (begins c.args.now c.args.call.now) c.start.result c.start.new.self c.start.new.visit
  heard = rw c.set_moment.ensures at c.start.ensures.heard

pub invariant_of-self : goal.invariant_of-self
invariant_of-self g c = manager_moved (changes g c) c.args.now (heard g c).back

pub returns-in-Some : goal.returns-in-Some
returns-in-Some g c =
    let did = started c.start.result (heard g c) (rw c.set_moment.ensures at c.start.ensures.err) in
    record {
      outcome = outcome_after (changes g c) did;
      lives = lives_later (changes g c) did;
      one = ok_then c.start.result (one_after (changes g c));
      fits = fits_after (changes g c) c.start.result (heard g c);
      free = λ free. rw c.set_moment.ensures at (c.start.ensures.free free)
          ∙ sym (reply_at c.args.self.now c.args.id (begins c.args.now c.args.call.now) (seen_is (within c.self.view_is c.self.invariant) c.args.id (changes g c).at));
      refused = refused_after (changes g c) c.start.result (heard g c);
    }

pub returns-in-None-clause-outcome : goal.returns-in-None-clause-outcome
returns-in-None-clause-outcome g c =
    no_answer (within c.self.view_is c.self.invariant) c.args.id (begins c.args.now c.args.call.now) (sym (rw c.number.ensures at c.in-None.ensures.value))

pub returns-in-None-clause-free : goal.returns-in-None-clause-free
returns-in-None-clause-free g c = λ _. returns-in-None-clause-outcome g c
