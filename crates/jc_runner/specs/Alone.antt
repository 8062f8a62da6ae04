-- Each life of a cache alone: the calls of its lines in their order, as its solo run takes them under the answers of
-- its callbacks.
use Rattle.std.specs.Prelude.{◌≡◌, ℕ, false, List, [], ◌∷◌, ◌++◌, map, ⊤}
use Rattle.std.specs.List.{flat_map}
use Rattle.jc_model.specs.declared.call.Answer.{Answer}
use Rattle.jc_model.specs.declared.call.Request.{Request}
use Rattle.jc_model.specs.declared.config.CacheConfig.{CacheConfig}
use Rattle.jc_model.specs.declared.event.End.{End}
use Rattle.jc_model.specs.declared.event.End.TheVariants.{Replied, Waiting}
use Rattle.jc_model.specs.declared.event.Entry.{Entry}
use Rattle.jc_model.specs.State.{State}
use Rattle.jc_model.specs.Run.{Run, ended, waiting, answered}
use Rattle.jc_model.specs.declared.event.Life.{Life}
use Rattle.jc_model.specs.Runs.{Standing, fresh}
use Rattle.jc_model.specs.Solo.{after_call, state_in}
use Rattle.jc_model.specs.Whole.{whole}
use Rattle.jc_model.specs.Legal.{IsLegalFrom, played, told_in}
use Rattle.jc_script.specs.declared.line.Line.{Line}
use Rattle.jc_script.specs.declared.line.LineCall.{LineCall}
pub use Rattle.jc_script.specs.Calls.{calls_on, line_of_entry, IsReply}
use Rattle.jc_script.specs.Managing.{lives_of_script, managed_of}
use Rattle.jc_report.specs.Report.{header, entry_text, managed_text}

abbrev pub AllReplied : List Entry → Type 0
AllReplied [] = ⊤
AllReplied (e ∷ es) = IsReply e.end × AllReplied es

-- the entries are those of a solo run of these calls, each once and in order, and every call replies
pub record IsAlone (c : CacheConfig) (own : List LineCall) (entries : List Entry) : Type 0 where
  pub calls : map line_of_entry entries ≡ own
  pub legal : IsLegalFrom c fresh entries
  pub replied : AllReplied entries

-- a call's requests, each with its answer
abbrev pub exchanges_of_call : Run → List Answer → List (Request × Answer)
exchanges_of_call (ended p r) answers = []
exchanges_of_call (waiting q p resumed) [] = []
exchanges_of_call (waiting q p resumed) (a ∷ rest) = (q, a) ∷ exchanges_of_call (resumed a) rest

-- those of all calls of a life
abbrev pub exchanges : CacheConfig → Standing → List Entry → List (Request × Answer)
exchanges c standing [] = []
exchanges c standing (e ∷ es) = exchanges_of_call (whole c e.at e.call (state_in standing)) e.answers ++ exchanges c (after_call c (state_in standing) (played e)) es

-- the report of these lives, by the entries of each
abbrev pub alone_from : (ℕ → List Entry) → List Life → List ℕ
alone_from entries [] = []
alone_from entries (life ∷ lives) = header life.config.name ++ flat_map entry_text (entries life.id) ++ alone_from entries lives

-- the whole report of a script on these caches: all lives, then the manager's lines
abbrev pub alone : (ℕ → List Entry) → List CacheConfig → List Line → List ℕ
alone entries caches lines = alone_from entries (lives_of_script caches lines) ++ managed_text (managed_of caches lines)

-- A call in its midst.

abbrev pub end_of : Run → End
end_of (ended p r) = Replied r
end_of (waiting q p resumed) = Waiting

abbrev pub run_alone : CacheConfig → State → LineCall → Run
run_alone c s l = whole c l.at l.call s

-- the entry of a line's call, as far as it was answered
abbrev pub entry_by : LineCall → Run → List Answer → Entry
entry_by l run answers =
    record { session = l.session; id = l.id; at = l.at; call = l.call; answers = answers; told = told_in run answers false; end = end_of (answered run answers) }
