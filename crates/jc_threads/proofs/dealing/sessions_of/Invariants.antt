use Rattle.std.proofs.Common.{◌≡◌, take}
use Rattle.jc_threads.specs.Dealing.{sessions_in}
use Rattle.jc_threads.proofs.dealing.sessions_of.Given as goal

abbrev pub invariant-loop-line : goal.invariant-loop-line
invariant-loop-line l = l.count ≡ sessions_in (take l.line-index l.lines)
