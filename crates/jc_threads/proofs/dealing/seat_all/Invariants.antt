use Rattle.std.proofs.Common.{◌≡◌, length}
use Rattle.jc_threads.specs.Dealing.{HasSeats, AreWorkersIdle}
use Rattle.jc_threads.proofs.dealing.seat_all.Given as goal

abbrev pub invariant-loop-number : goal.invariant-loop-number
invariant-loop-number g l = record {
  counted : length l.crew ≡ length l.initial.crew;
  opened : HasSeats (length l.initial.crew) l.number l.crew;
  seated : AreWorkersIdle l.initial.crew → AreWorkersIdle l.crew;
}
