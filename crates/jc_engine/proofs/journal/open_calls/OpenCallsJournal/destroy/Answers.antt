use Rattle.std.proofs.Common.{nat_eq}
use Rattle.jc_engine.proofs.Names.{get}
use Rattle.jc_engine.proofs.Numbered.{puts_for}
use Rattle.jc_engine.proofs.Opens.{gone_open}
use Rattle.jc_engine.proofs.journal.open_calls.OpenCallsJournal.destroy.Goals as goal

pub invariant_of-self : goal.invariant_of-self
invariant_of-self c = record { are_open = gone_open c.args.self.now.past.history c.args.self.now.begun (get nat_eq c.args.self.now.waiting) c.args.self.now.are_open c.args.id (get nat_eq c.remove.new.self) (puts_for _ _ _ c.number-number.ensures c.remove.ensures.updates.0) }
