use Rattle.std.proofs.Common.{◌<◌, ℕ}
use Rattle.std.specs.Prelude.{slice_get}
use Rattle.jc_hooks.specs.Suits.{SuitAt}
use Rattle.jc_hooks.proofs.suiting.first_unsuited.Given as goal

abbrev pub invariant-loop-place : goal.invariant-loop-place
invariant-loop-place g l = (earlier : ℕ) → earlier < l.place → SuitAt g.P.Processor.wants (slice_get l.configs earlier) (slice_get l.hooks earlier)
