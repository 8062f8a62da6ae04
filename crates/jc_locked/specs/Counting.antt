-- How many events of a session were accepted.
use Rattle.std.specs.Prelude.{◌≡◌, ◌+◌, ℕ, List, length}
use Rattle.jc_model.specs.declared.call.Answer.{Answer}
use Rattle.jc_model.specs.declared.event.End.{End}
use Rattle.jc_model.specs.declared.event.End.TheVariants.{Waiting, Replied, GivenUp}
use Rattle.jc_model.specs.declared.event.Entry.{Entry}

-- the events of a call that was given these answers: its begin, the answers, and its give-up if it was given up
abbrev pub event_count : List Answer → End → ℕ
event_count answers Waiting = length answers + 1
event_count answers (Replied reply) = length answers + 1
event_count answers GivenUp = length answers + 2

-- as many events more were accepted as the call's entry tells of now
abbrev pub CountsOn : ℕ → ℕ → Entry → Entry → Type 0
CountsOn accepted accepted' e e' = accepted' + event_count e.answers e.end ≡ accepted + event_count e'.answers e'.end
