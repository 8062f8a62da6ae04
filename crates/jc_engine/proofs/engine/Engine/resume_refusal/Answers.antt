use Rattle.std.proofs.Common.{false}
use Rattle.jc_engine.proofs.Names.{answers}
use Rattle.jc_engine.proofs.Moving.{answer_at, reply_at}
use Rattle.jc_engine.proofs.engine.Engine.resume_refusal.Goals as goal

pub returns-in-Some : goal.returns-in-Some
returns-in-Some g c = rw (reply_at c.args.self.now c.args.id (answers c.args.answer.now) c.in-Some.ensures) c.resume_refusal.ensures

pub returns-in-None : goal.returns-in-None
returns-in-None g c = answer_at c.args.self.now c.args.id c.in-None.ensures (answers c.args.answer.now) false
