use Rattle.std.proofs.Common.{refl}
use Rattle.std.specs.Fmt.{digits}
use Rattle.jc_cli.proofs.number.limits_of.Goals as goal

pub returns-in-text : goal.returns-in-text
unfolding digits
returns-in-text c = rw c.in-text.is refl

pub returns-in-text-2 : goal.returns-in-text-2
unfolding digits
returns-in-text-2 c = rw c.in-text-2.is refl
