use Rattle.std.proofs.Common.{◌≡◌, ◌<◌, ℕ, [], Some}
use Rattle.std.specs.Prelude.{slice_get}
use Rattle.jc_threads.specs.Dealing.{Share}
use Rattle.jc_threads.proofs.rounds.are_at_rest.Given as goal

abbrev pub invariant-loop-worker : goal.invariant-loop-worker
invariant-loop-worker g l = (place : ℕ) (share : Share) → place < l.worker-index → slice_get l.crew place ≡ Some share → share.lines ≡ []
