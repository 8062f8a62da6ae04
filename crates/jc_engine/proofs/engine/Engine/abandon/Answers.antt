use Rattle.std.proofs.Common.{Some, sym, false, rules, nat_eq}
use Rattle.jc_engine.proofs.Names.{get, gives_up, cache_in, of_abandon, IfOk-weaker, on_ok_weaker, on_err_weaker}
use Rattle.jc_engine.proofs.Numbered.{puts_for}
use Rattle.jc_engine.proofs.Places.{within, seen_is, Changes, manager_moved, ready}
use Rattle.jc_engine.proofs.Moving.{abandoned, ends, put_back, no_answer, Did, one_after, new_here, unchanged, outcome_after, lives_later}
use Rattle.jc_engine.proofs.engine.Engine.abandon.Given as given
use Rattle.jc_engine.proofs.engine.Engine.abandon.Goals as goal

module _ (g : given.Over) (c : goal.After-self-2-1 g) where
  changes : Changes (within c.self.view_is c.self.invariant) c.args.id c.in-Some.cache.now (Some c.abandon.new.self) (get nat_eq (c.get_mut.follows.lender c.abandon.new.self))
  changes = record { at = sym (rw c.number.ensures at c.in-Some.ensures.value); puts = puts_for _ _ _ c.number.ensures ((c.get_mut.follows.holds c.abandon.new.self).3 (search rules)).0 }

  did : Did (cache_in c.in-Some.cache.now) (cache_in c.abandon.new.self) gives_up false (of_abandon c.abandon.result)
  did = abandoned c.in-Some.cache.now c.abandon.new.self c.abandon.result c.abandon.ensures

pub invariant_of-self-2 : goal.invariant_of-self-2
invariant_of-self-2 g c =
    manager_moved (changes g c) c.self.inside.visit.moment (put_back c.in-Some.cache.now c.abandon.new.self c.self.inside.visit c.abandon.result (ready (within c.self.view_is c.self.invariant) c.args.id _ (changes g c).at) c.abandon.ensures)

pub returns : goal.returns
returns g c =
    let e = ends c.in-Some.cache.now c.abandon.new.self c.abandon.result c.abandon.ensures in
    record {
      outcome = outcome_after (changes g c) (did g c);
      lives = lives_later (changes g c) (did g c);
      one = on_ok_weaker c.abandon.result (λ _. one_after (changes g c)) e.1;
      closed = on_ok_weaker c.abandon.result (λ closed. rw (new_here (changes g c)) closed) e.1;
      left = IfOk-weaker c.abandon.result _ _ (λ left leaves. rw (seen_is (within c.self.view_is c.self.invariant) c.args.id (changes g c).at) leaves) e.0;
      refused = on_err_weaker c.abandon.result (unchanged (changes g c)) e.2;
    }

pub returns-in_default-clause-outcome : goal.returns-in_default-clause-outcome
returns-in_default-clause-outcome g c = no_answer (within c.self.view_is c.self.invariant) c.args.id gives_up (sym (rw c.number.ensures at c.in_default.ensures.value))
