use Rattle.std.proofs.lemmas.List.{take_all, map-id}
use Rattle.std.proofs.lemmas.Simd.{map-map}
use Rattle.jc_bulk.proofs.steps.each_key.Goals as goal

pub returns-clause-apart : goal.returns-clause-apart
returns-clause-apart g c = rw (c.loop-key.invariant, take_all _ _ c.loop-key-test.false) (simp (map-map, map-id) c.requires.apart)
