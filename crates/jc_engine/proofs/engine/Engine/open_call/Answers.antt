use Rattle.std.proofs.Common.{arith}
use Rattle.jc_engine.proofs.Places.{within}
use Rattle.jc_engine.proofs.Listed.{first_open, none_open}
use Rattle.jc_engine.proofs.engine.Engine.open_call.Goals as goal

pub returns-clause-none : goal.returns-clause-none
returns-clause-none g c = λ _. none_open (within c.self.view_is c.self.invariant) c.numbers-numbers.result.now c.numbers-numbers.ensures (λ k below. c.loop-number.invariant k (omega arith))

pub returns-then-is_open-clause-first : goal.returns-then-is_open-clause-first
returns-then-is_open-clause-first g c = λ earlier less. first_open (within c.self.view_is c.self.invariant) c.numbers-numbers.result.now c.numbers-numbers.ensures c.loop-number.number-index c.loop-number-test.true c.loop-number.invariant earlier (omega arith)
