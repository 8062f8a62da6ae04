-- A session, and what its pass has seen of the table.
use Rattle.std.specs.Prelude.{◌≡◌, ℕ, List, length, take, true}
use Rattle.jc_model.specs.declared.config.CacheConfig.{CacheConfig}
use Rattle.jc_model.specs.declared.event.Entry.{Entry}
use Rattle.jc_model.specs.Runs.{Lives}
use Rattle.jc_model.specs.Legal.{History, IsLegal, Tells, numbered_lives}
use Rattle.jc_rows.specs.Images.{last_image}
use Rattle.jc_engine.specs.Caches.{lives_of}
use Rattle.jc_engine.specs.Recording.{Recording}
use Rattle.jc_engine.specs.Watching.{ShowsStates, states_of}
use Rattle.jc_index.specs.Indexes.{Passing}

-- what a session's pass has seen: the images, whether its last meeting succeeded, and its last lookup
abbrev pub Sight : Type 0
Sight = Passing ℕ

-- what a log shows: a session's number, and the entries of its calls in their order
pub record Own : Type 0 where
  pub number : ℕ
  pub calls : List Entry

-- a session: how many events of it the manager has accepted, and its pass
pub record Sitting : Type 0 where
  pub number : ℕ
  pub calls : List Entry
  pub accepted : ℕ
  pub pass : Sight

abbrev pub log_of : Sitting → Own
log_of s = record { number = s.number; calls = s.calls }

-- the first lives are these caches, each under its place
abbrev pub BeginsWith : List CacheConfig → History → Type 0
BeginsWith configs transcript = take (length configs) transcript.lives ≡ numbered_lives 0 configs

-- where the pass's last meeting succeeded, the last image that it has seen shows these live caches, as the transcript
-- leaves them
pub record Sees (transcript : History) (lives : Lives) (pass : Sight) : Type 0 where
  pub tells : Tells transcript lives
  pub shows : pass.met ≡ true → ShowsStates (states_of lives) (last_image pass.images)

-- it shows those of a recorded engine
abbrev pub SeesEngine : Recording → Sight → Type 0
SeesEngine r pass = Sees r.transcript (lives_of r.caches) pass

-- it shows those that are live at some moment, as a legal transcript leaves them, which begins with these caches
pub record SeesSome (configs : List CacheConfig) (pass : Sight) : Type 0 where
  pub transcript : History
  pub legal : IsLegal transcript
  pub begins : BeginsWith configs transcript
  pub lives : Lives
  pub sees : Sees transcript lives pass
