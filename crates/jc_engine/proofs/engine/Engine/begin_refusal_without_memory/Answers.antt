use Rattle.jc_engine.proofs.Names.{Refused, at_place, begins, for_memory, lives_of}
use Rattle.jc_engine.proofs.Moving.{refused_anyway, memory_last}
use Rattle.jc_engine.proofs.engine.Engine.begin_refusal_without_memory.Goals as goal

pub returns-in-Some : goal.returns-in-Some
returns-in-Some g c = λ now. refused_anyway (at_place (lives_of c.args.self.now) c.args.id) (begins now c.args.call.now) c.in-Some.cause (for_memory (Refused c.in-Some.cause)) (c.in-Some.ensures now)

pub returns-in-None : goal.returns-in-None
returns-in-None g c = λ now. memory_last (at_place (lives_of c.args.self.now) c.args.id) (begins now c.args.call.now) (c.in-None.ensures now)
