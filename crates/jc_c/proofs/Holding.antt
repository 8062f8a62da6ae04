-- A manager behind a handle does something and stays there.
use Rattle.std.proofs.Common.{◌≡◌, ℕ, Option, Some}
use Rattle.jc_c.specs.declared.status.Status.{Status}
use Rattle.jc_c.specs.Status.{status_number}
use Rattle.jc_c.specs.Seated.{Seated}
use Rattle.jc_c.specs.Held.{OnSeat}

pub on_seat : (does : Seated → Status → Seated → Type 0) (h h' : Option Seated) (old new : Seated) (status : Status) (number : ℕ)
    → h ≡ Some old → h' ≡ Some new → number ≡ status_number status → does old status new → OnSeat h does number h'
on_seat does h h' old new status number was is told done = rw (was, is) (record { status = status; is = told; done = done })
