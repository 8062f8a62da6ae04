-- The objects of a script's lines.
use Rattle.std.specs.Prelude.{ℕ, ◌+◌, ◌==◌, ◌&&◌, Bool, List, [], ◌∷◌, ◌++◌, drop, slice_get, Option, Some, None, if◌then◌else◌, codes, decimal}
use Rattle.std.specs.List.{find}
use Rattle.json.specs.Print.{quoted}
use Rattle.jc_model.specs.declared.event.CreateRefusal.{CreateRefusal}
use Rattle.jc_model.specs.declared.event.CreateRefusal.TheVariants as create
use Rattle.jc_model.specs.declared.event.Entry.{Entry}
use Rattle.jc_model.specs.declared.event.Life.{Life}
use Rattle.jc_script.specs.declared.managed.Managed.{Managed}
use Rattle.jc_script.specs.Operation.{call_name}
use Rattle.jc_report.specs.Report.{op_text}
use Rattle.jc_report.specs.declared.line_numbers.Asked.{Asked}
use Rattle.jc_report.specs.declared.line_numbers.Asked.TheVariants as asked
use Rattle.jc_report.specs.declared.line_numbers.NumberedLine.{NumberedLine}
use Rattle.jc_report.specs.Arguments.{arguments_json}
use Rattle.jc_report.specs.Replies.{end_json, event_json, kind_json, kind_member}
use Rattle.jc_report.specs.Values.{first_member, next_member, number_member, word_json, list_json}

-- the number of a line, and who asks what cache
unfoldable pub head_json : ℕ → ℕ → List ℕ → List ℕ
head_json number session cache = first_member (codes "line") ++ decimal number ++ number_member (codes "session") session ++ next_member (codes "cache") ++ quoted cache

-- a call's cache and moment, its op, and what it was made with
unfoldable pub asked_json : Entry → List ℕ
asked_json e = number_member (codes "id") e.id ++ number_member (codes "at") e.at ++ next_member (codes "op") ++ word_json (call_name e.call) ++ arguments_json e.call

-- what was told of it, and what it came to
unfoldable pub answered_json : Entry → List ℕ
answered_json e = next_member (codes "events") ++ list_json event_json e.told ++ next_member (codes "reply") ++ end_json e.end

unfoldable pub call_json : ℕ → List ℕ → Entry → List ℕ
call_json number cache e = head_json number e.session cache ++ asked_json e ++ answered_json e ++ codes "}\n"

-- Creating and destroying.

-- the id of the life that began or ended; no life begins where a cache is refused
abbrev pub id_json : Option CreateRefusal → ℕ → List ℕ
id_json None id = decimal id
id_json (Some refusal) id = codes "null"

abbrev pub refusal_text : CreateRefusal → List ℕ
refusal_text create.TooManyCaches = codes "too many caches"
refusal_text create.BadCapacity = codes "bad capacity"
refusal_text create.TooManyListeners = codes "too many listeners"
refusal_text create.TooManyProcessors = codes "too many processors"
refusal_text create.DuplicateName = codes "duplicate name"
refusal_text create.TotalCapacity = codes "total capacity"
refusal_text create.IdsSpent = codes "ids spent"
refusal_text create.OutOfMemory = codes "out of memory"

abbrev pub answer_json : Option CreateRefusal → List ℕ
answer_json None = kind_json (codes "done")
answer_json (Some refusal) = kind_member (codes "refused") ++ next_member (codes "why") ++ word_json (refusal_text refusal) ++ codes "}"

unfoldable pub managed_json : ℕ → ℕ → Managed → List ℕ
managed_json number id m =
    head_json number m.session m.name ++ next_member (codes "id") ++ id_json m.refusal id ++ next_member (codes "op") ++ word_json (op_text m.op)
    ++ next_member (codes "reply") ++ answer_json m.refusal ++ codes "}\n"

-- Which entry is a line's.

-- an entry is by this session on the cache with this id
abbrev pub is_by : ℕ → ℕ → Entry → Bool
is_by id session e = (e.id == id) && (e.session == session)

-- the items but for the first that passes
abbrev pub without_first : {A : Type 0} → (A → Bool) → List A → List A
without_first test [] = []
without_first test (x ∷ xs) = if test x then xs else x ∷ without_first test xs

-- the entries that a line leaves to those after it
abbrev pub entries_left_by : Asked → List Entry → List Entry
entries_left_by (asked.Call session id) entries = without_first (is_by id session) entries
entries_left_by asked.Create entries = entries
entries_left_by (asked.Destroy id) entries = entries

-- and of what became of the lines that create and destroy
abbrev pub managed_after : Asked → List Managed → List Managed
managed_after (asked.Call session id) managed = managed
managed_after asked.Create managed = drop 1 managed
managed_after (asked.Destroy id) managed = drop 1 managed

-- a refused cache gets no id
abbrev pub id_unless : Option CreateRefusal → ℕ → ℕ
id_unless None next = next + 1
id_unless (Some refusal) next = next

abbrev pub id_after : Option Managed → ℕ → ℕ
id_after None next = next
id_after (Some m) next = id_unless m.refusal next

-- the id that the next life gets
abbrev pub next_after : Asked → List Managed → ℕ → ℕ
next_after (asked.Call session id) managed next = next
next_after asked.Create managed next = id_after (slice_get managed 0) next
next_after (asked.Destroy id) managed next = next

abbrev pub name_of_life : Option Life → List ℕ
name_of_life None = []
name_of_life (Some life) = life.config.name

-- the name of the life at a place; ids are places
abbrev pub name_at : List Life → ℕ → List ℕ
name_at lives id = name_of_life (slice_get lives id)

abbrev pub call_line : ℕ → List Life → Option Entry → List ℕ
call_line number lives None = []
call_line number lives (Some e) = call_json number (name_at lives e.id) e

abbrev pub json_managed_line : ℕ → ℕ → Option Managed → List ℕ
json_managed_line number id None = []
json_managed_line number id (Some m) = managed_json number id m

module _ (lives : List Life) where
  abbrev pub line_json : ℕ → ℕ → Asked → List Entry → List Managed → List ℕ
  line_json number next (asked.Call session id) entries managed = call_line number lives (find (is_by id session) entries)
  line_json number next asked.Create entries managed = json_managed_line number next (slice_get managed 0)
  line_json number next (asked.Destroy id) entries managed = json_managed_line number id (slice_get managed 0)

  -- One line after the other. A call's entry is the first by its session on its cache that no line before it has.
  abbrev pub lines_json : ℕ → List NumberedLine → List Entry → List Managed → List ℕ
  lines_json next [] entries managed = []
  lines_json next (l ∷ ls) entries managed =
      line_json l.number next l.asked entries managed ++ lines_json (next_after l.asked managed next) ls (entries_left_by l.asked entries) (managed_after l.asked managed)
