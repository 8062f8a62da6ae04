use Rattle.std.proofs.Common.{◌≡◌, ◌∷◌, arith}
use Rattle.std.specs.Vec.Iter.{into_iter_items}
use Rattle.jc_model.proofs.Leads.{leads_on}
use Rattle.jc_engine.proofs.Names.{common_steps, IsRunTo, leads_last, alone_in, lives_of}
use Rattle.jc_engine.proofs.Hearing.{heard_on, heard_last}
use Rattle.jc_engine.proofs.engine.Engine.run.Given as given
use Rattle.jc_engine.proofs.engine.Engine.run.Goals as goal

pub loop-event-preserved : goal.loop-event-preserved
loop-event-preserved g c =
    let next : into_iter_items c.loop-event.left ≡ c.in-Some.event ∷ into_iter_items c.next.new.self = grind (arith, common_steps) in
    let leads = leads_on (lives_of c.args.self.now) c.args.events.items c.loop-event.outcomes.items (lives_of c.loop-event.self) c.in-Some.event (into_iter_items c.next.new.self) c.take-outcome.result
    (rw next at c.loop-event.invariant.run) c.take-outcome.ensures.outcome in
    record {
      run = rw (c.push_reserved.ensures.items, c.take-outcome.ensures.lives) leads;
      heard =
          rw c.push_reserved.ensures.items
          (heard_on c.args.events.items c.loop-event.outcomes.items c.in-Some.event (into_iter_items c.next.new.self) c.take-outcome.result (rw next at c.loop-event.invariant.heard) c.take-outcome.ensures.free);
      counted = grind (arith, common_steps);
      room = grind (arith, common_steps);
    }

-- nothing is left, and the outcomes are those of the whole run
ran : (g : given.Over) (c : goal.After-drop-left g) → IsRunTo (lives_of c.args.self.now) c.args.events.items c.loop-event.outcomes.items (lives_of c.loop-event.self)
ran g c = grind (arith, common_steps, leads_last)

pub returns : goal.returns
returns g c = record {
  outcomes = (ran g c).run;
  lives = (ran g c).ends;
  alone = alone_in _ _ _ _ (ran g c);
  free = grind (arith, common_steps, heard_last);
  back = tt;
  refused = tt;
}
