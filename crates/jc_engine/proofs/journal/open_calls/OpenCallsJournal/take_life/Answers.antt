use Rattle.std.proofs.Common.{ap, nat_eq}
use Rattle.jc_engine.proofs.Names.{get, History}
use Rattle.jc_engine.proofs.Opens.{lives_open}
use Rattle.jc_engine.proofs.journal.open_calls.OpenCallsJournal.take_life.Goals as goal

pub invariant_of-self : goal.invariant_of-self
invariant_of-self c = record { are_open = lives_open c.args.self.now.past.history c.args.self.now.begun (get nat_eq c.args.self.now.waiting) c.args.self.now.are_open c.pop_life.new.self.history (ap (λ (h : History). h.entries) c.pop_life.ensures) }
