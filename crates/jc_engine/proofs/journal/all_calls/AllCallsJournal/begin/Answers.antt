use Rattle.std.proofs.Common.{◌≡◌, ◌-◌, length, Some, slice_get}
use Rattle.jc_engine.proofs.Names.{with_outcome, step_of, Stepped}
use Rattle.jc_engine.proofs.Entries.{get_last, set_last}
use Rattle.jc_engine.proofs.Opens.{last_place}
use Rattle.jc_engine.proofs.journal.all_calls.AllCallsJournal.begin.Goals as goal

pub returns-then-not-replied-clause-noted : goal.returns-then-not-replied-clause-noted
returns-then-not-replied-clause-noted c = λ h e enters waits can.
    let entered = enters.0 in
    let place_is : length c.entries-entries.result.now - 1 ≡ length h.entries = last_place c.entries-entries.result.now c.args.self.now.transcript h e c.entries-entries.ensures entered in
    let there : slice_get c.args.self.now.transcript.entries (length c.entries-entries.result.now - 1) ≡ Some e = rw (place_is, entered) (get_last h.entries e) in
    rw (entered, place_is, set_last h.entries e (with_outcome (Stepped (step_of c.args.advance)) e)) at (c.note-shown.ensures.noted e there waits can)

pub returns-else-not-replied-clause-noted : goal.returns-else-not-replied-clause-noted
returns-else-not-replied-clause-noted c = λ h e enters waits can.
    let entered = enters.0 in
    let place_is : length c.entries-entries.result.now - 1 ≡ length h.entries = last_place c.entries-entries.result.now c.args.self.now.transcript h e c.entries-entries.ensures entered in
    let there : slice_get c.args.self.now.transcript.entries (length c.entries-entries.result.now - 1) ≡ Some e = rw (place_is, entered) (get_last h.entries e) in
    rw (entered, place_is, set_last h.entries e (with_outcome (Stepped (step_of c.args.advance)) e)) at (c.note-shown.ensures.noted e there waits can)
