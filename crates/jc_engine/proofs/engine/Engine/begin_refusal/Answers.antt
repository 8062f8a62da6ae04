use Rattle.std.proofs.Common.{false}
use Rattle.jc_engine.proofs.Names.{begins}
use Rattle.jc_engine.proofs.Moving.{answer_at, reply_at}
use Rattle.jc_engine.proofs.engine.Engine.begin_refusal.Goals as goal

pub returns-in-Some : goal.returns-in-Some
returns-in-Some g c = λ now. rw (reply_at c.args.self.now c.args.id (begins now c.args.call.now) c.in-Some.ensures) (c.begin_refusal.ensures now)

pub returns-in-None : goal.returns-in-None
returns-in-None g c = λ now. answer_at c.args.self.now c.args.id c.in-None.ensures (begins now c.args.call.now) false
