use Rattle.jc_c.proofs.Walking.{written_thrice}
use Rattle.jc_c.proofs.walk.write_parts.Goals as goal

pub returns : goal.returns
returns c = rw (c.write-3.ensures, c.write-2.ensures, c.write.ensures) (written_thrice c.args.place c.args.head.now c.args.key.now c.args.value.now c.args.out.now c.requires)
