-- Each life of a cache alone, whoever made its calls.
use Rattle.std.specs.Prelude.{◌≡◌, ℕ, List, map, Some}
use Rattle.std.specs.List.{All}
use Rattle.jc_model.specs.declared.call.Answer.{Answer}
use Rattle.jc_model.specs.declared.config.CacheConfig.{CacheConfig}
use Rattle.jc_model.specs.declared.event.Entry.{Entry}
use Rattle.jc_model.specs.Legal.{config_of}
use Rattle.jc_script.specs.declared.line.Line.{Line}
use Rattle.jc_script.specs.Calls.{calls_on}
use Rattle.jc_script.specs.Managing.{lives_of_script}
use Rattle.jc_runner.specs.Alone.{IsAlone, alone}

-- one session makes all calls on this life
pub record HasOneCaller (all : List Line) (id : ℕ) : Type 0 where
  pub session : ℕ
  pub only : All (λ l. l.session ≡ session) (calls_on id all)

-- no two sessions call the same life
abbrev pub HaveOneCallerEach : List Line → Type 0
HaveOneCallerEach all = (id : ℕ) → HasOneCaller all id

-- a text that is the report of each life alone, by these entries, and of the manager's lines
pub record TellsAlone (caches : List CacheConfig) (all : List Line) (entries : ℕ → List Entry) (text : List ℕ) : Type 0 where
  pub each : (id : ℕ) (c : CacheConfig) → config_of id (lives_of_script caches all) ≡ Some c → IsAlone c (calls_on id all) (entries id)
  pub told : text ≡ alone entries caches all

abbrev pub answers_in : List Entry → List (List Answer)
answers_in entries = map (λ e. e.answers) entries

-- the callbacks of each life have answered the same
abbrev pub AnswerAlike : List CacheConfig → List Line → (ℕ → List Entry) → (ℕ → List Entry) → Type 0
AnswerAlike caches all entries entries' =
    (id : ℕ) (c : CacheConfig) → config_of id (lives_of_script caches all) ≡ Some c → answers_in (entries id) ≡ answers_in (entries' id)
