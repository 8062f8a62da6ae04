-- The calls of a life, made again on a manager of its cache alone. Memory sufficing, each event is answered as the model
-- says.
use Rattle.std.specs.Prelude.{false, if◌then◌else◌, List, [], ◌∷◌, Option, Some, None}
use Rattle.jc_model.specs.declared.call.Answer.{Answer}
use Rattle.jc_model.specs.declared.call.Call.TheVariants.{Stats}
use Rattle.jc_model.specs.declared.call.Counts.{Counts}
use Rattle.jc_model.specs.declared.call.Reply.TheVariants.{Counted}
use Rattle.jc_model.specs.declared.event.Entry.{Entry}
use Rattle.jc_model.specs.declared.event.Event.{Event}
use Rattle.jc_model.specs.declared.event.Event.TheVariants.{Begin, Answer as Answered, GiveUp}
use Rattle.jc_model.specs.declared.event.Outcome.{Outcome}
use Rattle.jc_model.specs.declared.event.Outcome.TheVariants.{Step}
use Rattle.jc_model.specs.declared.event.Step.TheVariants.{Done}
use Rattle.jc_model.specs.Legal.{was_given_up}
use Rattle.jc_model.specs.Runs.{Lives, answer_to, lives_after}

-- the caches after an event
unfoldable pub after_event : Lives → Event → Lives
after_event lives event = lives_after lives event (answer_to lives event false)

abbrev pub after_answers : Lives → List Answer → Lives
after_answers lives [] = lives
after_answers lives (a ∷ rest) = after_answers (after_event lives (Answered 0 a)) rest

-- after a call, its answers, and its give-up if there was one
abbrev pub after_entry : Lives → Entry → Lives
after_entry lives e =
    let answered : Lives = after_answers (after_event lives (Begin 0 e.at e.call)) e.answers in
    if was_given_up e.end then after_event answered (GiveUp 0) else answered

abbrev pub after_entries : Lives → List Entry → Lives
after_entries lives [] = lives
after_entries lives (e ∷ es) = after_entries (after_entry lives e) es

-- the counters that an outcome tells
abbrev pub counts_told : Outcome → Option Counts
counts_told (Step (Done (Counted counts))) = Some counts
counts_told _ = None

-- those of the one cache, where no call on it is open
abbrev pub counts_in : Lives → Option Counts
counts_in lives = counts_told (answer_to lives (Begin 0 0 Stats) false)
