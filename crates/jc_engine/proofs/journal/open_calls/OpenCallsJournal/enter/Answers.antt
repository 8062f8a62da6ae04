use Rattle.std.proofs.Common.{nat_eq}
use Rattle.jc_engine.proofs.Names.{get}
use Rattle.jc_engine.proofs.Opens.{same_open}
use Rattle.jc_engine.proofs.journal.open_calls.OpenCallsJournal.enter.Goals as goal

pub invariant_of-self : goal.invariant_of-self
invariant_of-self c = record { are_open = same_open c.args.self.now.past.history c.args.self.now.begun (get nat_eq c.args.self.now.waiting) c.args.self.now.are_open (get nat_eq c.reserve.new.self) c.reserve.ensures.entries.2 }
