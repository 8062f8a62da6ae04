-- The transcript of all lives and their calls: when it is legal, and how events write it.
use Rattle.std.specs.Prelude.{◌≡◌, ℕ, ◌+◌, ◌≤◌, ◌<◌, Bool, true, false, if◌then◌else◌, ◌==◌, ◌&&◌, IsTrue, List, [], ◌∷◌, ◌++◌, map, length, ⊤}
use Rattle.std.specs.Prelude.{Option, Some, None, is_some}
use Rattle.std.specs.List.{filter, All}
use Rattle.jc_model.specs.declared.call.Answer.{Answer}
use Rattle.jc_model.specs.declared.call.Notice.{Notice}
use Rattle.jc_model.specs.declared.config.CacheConfig.{CacheConfig}
use Rattle.jc_model.specs.declared.event.Event.{Event}
use Rattle.jc_model.specs.declared.event.Event.TheVariants as event
use Rattle.jc_model.specs.declared.event.Step.TheVariants as step
use Rattle.jc_model.specs.declared.event.Outcome.{Outcome}
use Rattle.jc_model.specs.declared.event.Outcome.TheVariants as outcome
use Rattle.jc_model.specs.declared.event.End.{End}
use Rattle.jc_model.specs.declared.event.End.TheVariants.{Waiting, Replied, GivenUp}
use Rattle.jc_model.specs.declared.event.Entry.{Entry}
use Rattle.jc_model.specs.declared.event.Life.{Life}
use Rattle.jc_model.specs.State.{State}
use Rattle.jc_model.specs.Run.{Run, ended, waiting, resume, answered, awaits, told_by}
use Rattle.jc_model.specs.Whole.{whole}
use Rattle.jc_model.specs.Runs.{Standing, idle, busy, Status, fresh, Lives, left, has_processor, is_refused}
use Rattle.jc_model.specs.Solo.{PlayedCall, after_call, standing_from}
use Rattle.jc_model.specs.Places.{at_place}

abbrev pub was_given_up : End → Bool
was_given_up GivenUp = true
was_given_up _ = false

abbrev pub is_waiting : End → Bool
is_waiting Waiting = true
is_waiting _ = false

abbrev pub played : Entry → PlayedCall
played e = record { now = e.at; call = e.call; answers = e.answers; given_up = was_given_up e.end }

-- each answer is of the kind that was awaited
abbrev pub Fits : Run → List Answer → Type 0
Fits run [] = ⊤
Fits run (a ∷ rest) = IsTrue (awaits run a) × Fits (resume run a) rest

-- how a call stands after its answers
abbrev pub Stands : Run → End → Type 0
Stands (ended p r) (Replied reply) = reply ≡ r
Stands (waiting q p resumed) Waiting = ⊤
Stands (waiting q p resumed) GivenUp = ⊤
Stands _ _ = ⊥

-- the notices that a call's requests have told, and those that a give-up handed out
abbrev pub told_now : Run → List Notice
told_now (ended p r) = []
told_now (waiting q p resumed) = told_by q

abbrev pub told_in : Run → List Answer → Bool → List Notice
told_in run [] given_up = if given_up then told_now run ++ left run else told_now run
told_in run (a ∷ rest) given_up = told_now run ++ told_in (resume run a) rest given_up

-- an entry is the whole call from this state, under its answers, of a processor that is there
abbrev pub IsLegalEntry : CacheConfig → State → Entry → Type 0
IsLegalEntry c s e =
    Fits (whole c e.at e.call s) e.answers × Stands (answered (whole c e.at e.call s) e.answers) e.end × (e.told ≡ told_in (whole c e.at e.call s) e.answers (was_given_up e.end)) × IsTrue (has_processor c e.call)

-- the entries of one cache; nothing follows a call that still waits
abbrev pub IsLegalFrom : CacheConfig → Standing → List Entry → Type 0
IsLegalFrom c standing [] = ⊤
IsLegalFrom c (idle s) (e ∷ es) = IsLegalEntry c s e × IsLegalFrom c (after_call c s (played e)) es
IsLegalFrom c (busy w p resumed) (e ∷ es) = ⊥

abbrev pub entries_of : ℕ → List Entry → List Entry
entries_of id transcript = filter (λ e. e.id == id) transcript

-- the lives that a manager has had, and the calls that have begun
pub record History : Type 0 where
  pub lives : List Life
  pub entries : List Entry

-- in order of id, from the least on
abbrev pub InOrder : ℕ → List Life → Type 0
InOrder least [] = ⊤
InOrder least (life ∷ lives) = (least ≤ life.id) × InOrder (life.id + 1) lives

abbrev pub config_of : ℕ → List Life → Option CacheConfig
config_of id [] = None
config_of id (life ∷ lives) = if life.id == id then Some life.config else config_of id lives

-- each life's entries are those of a cache alone, and there are no others
pub record IsLegal (h : History) : Type 0 where
  pub ordered : InOrder 0 h.lives
  pub known : All (λ e. is_some (config_of e.id h.lives) ≡ true) h.entries
  pub each : (id : ℕ) (c : CacheConfig) → config_of id h.lives ≡ Some c → IsLegalFrom c fresh (entries_of id h.entries)

-- a live cache stands where its entries leave it
abbrev pub IsTold : History → ℕ → Status → Type 0
IsTold h id k = (config_of id h.lives ≡ Some k.config) × (k.standing ≡ standing_from k.config fresh (map played (entries_of id h.entries)))

-- the transcript tells how the live caches have come to stand as they do
pub record Tells (h : History) (lives : Lives) : Type 0 where
  pub legal : IsLegal h
  pub given : All (λ life. life.id < length lives) h.lives
  pub each : (id : ℕ) (k : Status) → at_place lives id ≡ Some k → IsTold h id k

-- a manager's first lives, with ids from the first
abbrev pub numbered_lives : ℕ → List CacheConfig → List Life
numbered_lives first [] = []
numbered_lives first (c ∷ configs) = record { id = first; config = c } ∷ numbered_lives (first + 1) configs

abbrev pub at_first : ℕ → List CacheConfig → History
at_first first configs = record { lives = numbered_lives first configs; entries = [] }

-- How events write it.

abbrev pub told_with : List Notice → Outcome → List Notice
told_with told (outcome.Step (step.Done reply)) = told
told_with told (outcome.Step (step.Need request)) = told ++ told_by request
told_with told (outcome.GivenUp notices) = told ++ notices
told_with told _ = told

abbrev pub end_by : Outcome → End
end_by (outcome.Step (step.Done reply)) = Replied reply
end_by (outcome.Step (step.Need request)) = Waiting
end_by (outcome.GivenUp notices) = GivenUp
end_by _ = Waiting

-- an entry, and what its call has just been answered
abbrev pub with_outcome : Outcome → Entry → Entry
with_outcome o e = record e { told = told_with e.told o; end = end_by o }

abbrev pub with_answer : Answer → Entry → Entry
with_answer a e = record e { answers = e.answers ++ a ∷ [] }

-- the entry of the cache's open call
abbrev pub is_open : ℕ → Entry → Bool
is_open id e = (e.id == id) && is_waiting e.end

abbrev pub on_open : ℕ → (Entry → Entry) → List Entry → List Entry
on_open id f transcript = map (λ e. if is_open id e then f e else e) transcript

abbrev pub accepted_in : ℕ → Event → Outcome → List Entry → List Entry
accepted_in session (event.Begin id now call) o entries =
    entries ++ with_outcome o (record { session = session; id = id; at = now; call = call; answers = []; told = []; end = Waiting }) ∷ []
accepted_in session (event.Answer id a) o entries = on_open id (λ e. with_outcome o (with_answer a e)) entries
accepted_in session (event.GiveUp id) o entries = on_open id (with_outcome o) entries
accepted_in session (event.Create config) o entries = entries
accepted_in session (event.Destroy id) o entries = entries

-- a life more, where one was created
abbrev pub lives_with : Event → Outcome → List Life → List Life
lives_with (event.Create config) (outcome.Created id) lives = lives ++ record { id = id; config = config } ∷ []
lives_with _ _ lives = lives

-- the transcript after an event of this session
abbrev pub recorded : ℕ → Event → Outcome → History → History
recorded session event o h =
    if is_refused o then h else record { lives = lives_with event o h.lives; entries = accepted_in session event o h.entries }

-- and after all events of a run, each with its session
abbrev pub recorded_run : History → List (ℕ × Event) → List Outcome → History
recorded_run h [] _ = h
recorded_run h (event ∷ events) [] = h
recorded_run h (event ∷ events) (o ∷ outcomes) = recorded_run (recorded event.0 event.1 o h) events outcomes
