use Rattle.jc_cli.specs.Program.{texts_lent}
use Rattle.jc_cli.proofs.Parts.{next_part, no_part, stops, is_done}
use Rattle.jc_cli.proofs.capacities.read_parts.Goals as goal

pub returns-in_default-clause-read : goal.returns-in_default-clause-read
returns-in_default-clause-read c =
    let next = next_part c.args.parts.now c.loop-part.part-index _ c.loop-part-test.true in
    stops (texts_lent c.args.parts.now) c.loop-part.capacities.items _ _ c.in_default.ensures (rw next at c.loop-part.invariant.so_far)

pub returns-clause-read : goal.returns-clause-read
returns-clause-read c =
    let past = no_part c.args.parts.now c.loop-part.part-index c.loop-part-test.false in
    is_done (texts_lent c.args.parts.now) c.loop-part.capacities.items (rw past at c.loop-part.invariant.so_far)
