use Rattle.jc_locked.proofs.guarded_state.GuardedState.is_open.Goals as goal

pub returns-in-Some-clause-open : goal.returns-in-Some-clause-open
returns-in-Some-clause-open g c = λ is.
    let found = c.in-Some.ensures.entry in
    record {
      place = found.0;
      here = record {
        tells = c.in-Some.ensures.told;
        opened = record { entry = c.in-Some.entry.now; there = found.1.there; own = found.1.own; waits = found.1.waits };
        own = c.is_of_call.ensures.0 is;
      };
    }
