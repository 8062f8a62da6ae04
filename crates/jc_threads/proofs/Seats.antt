-- The session of a seat is found by its number.
use Rattle.std.proofs.Common.{◌≡◌, ℕ, ◌/◌, ◌%◌, List, Some, ap, ◌∙◌, get_or}
use Rattle.std.specs.Prelude.{slice_get}
use Rattle.std.proofs.lemmas.Option.{get_or_from_slice_get}
use Rattle.jc_locked.specs.Sessions.{Sitting}
use Rattle.jc_threads.specs.Dealing.{Share, HasSeat}

-- a session with this number is at its place
pub record IsFound (number place : ℕ) (sessions : List Sitting) : Type 0 where
  pub session : Sitting
  pub there : slice_get sessions place ≡ Some session
  pub own : session.number ≡ number

pub found_by : (workers number : ℕ) (crew : List Share) (share : Share) (sessions : List Sitting) → share ≡ get_or crew (number % workers) share → sessions ≡ share.sessions → HasSeat workers number crew → IsFound number (number / workers) sessions
found_by workers number crew share sessions is are seat = record {
  session = seat.session;
  there = ap (λ (os : List Sitting). slice_get os (number / workers)) (are ∙ ap (λ (s : Share). s.sessions) (is ∙ get_or_from_slice_get crew (number % workers) seat.share share seat.at)) ∙ seat.there;
  own = seat.own;
}
