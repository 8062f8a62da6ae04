use Rattle.std.proofs.Common.{false}
use Rattle.jc_ops.proofs.Moves.{on-last, touched-last}
use Rattle.jc_ops.proofs.places.push_with.Goals as goal

pub touch-requires : goal.touch-requires
touch-requires g c = rw c.push.ensures.pushed (on-last c.args.row false (g.G.Ring.list c.args.ring.now))

pub returns-then-used-clause-pushed : goal.returns-then-used-clause-pushed
returns-then-used-clause-pushed g c = rw (c.touch.ensures.touched, c.push.ensures.pushed, c.if-used.true) (touched-last c.args.row (g.G.Ring.list c.args.ring.now) c.requires.absent)
