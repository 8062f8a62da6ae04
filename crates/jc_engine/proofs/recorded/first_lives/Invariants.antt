use Rattle.std.proofs.Common.{◌≡◌, take}
use Rattle.jc_engine.proofs.Names.{at_first}
use Rattle.jc_engine.proofs.recorded.first_lives.Given as goal

abbrev pub invariant-loop-place : goal.invariant-loop-place
invariant-loop-place g l = g.J.Journal.history l.journal ≡ at_first l.first (take l.place l.configs)
