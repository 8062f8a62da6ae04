use Rattle.std.proofs.lemmas.List.{take_all}
use Rattle.std.proofs.lemmas.Simd.{map-map}
use Rattle.jc_bulk.proofs.steps.each_put.Goals as goal

pub returns-clause-apart : goal.returns-clause-apart
returns-clause-apart c = rw (c.loop-key.invariant, take_all _ _ c.loop-key-test.false) (simp map-map c.requires.apart)
