use Rattle.std.proofs.Common.{◌≡◌, ℕ, ◌<◌, false, get_or}
use Rattle.jc_engine.proofs.Names.{at_place, is_open_in}
use Rattle.jc_engine.proofs.engine.Engine.open_call.Given as goal

-- no call is open of the caches before this one
abbrev pub invariant-loop-number : goal.invariant-loop-number
invariant-loop-number g l = (k : ℕ) → k < l.number-index → is_open_in (at_place l.self (get_or l.numbers k 0)) ≡ false
