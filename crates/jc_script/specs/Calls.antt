-- The calls that a script's lines make.
use Rattle.std.specs.Prelude.{ℕ, ◌==◌, if◌then◌else◌, List, [], ◌∷◌, ⊤}
use Rattle.std.specs.List.{flat_map}
use Rattle.jc_model.specs.declared.event.End.{End}
use Rattle.jc_model.specs.declared.event.End.TheVariants.{Replied}
use Rattle.jc_model.specs.declared.event.Entry.{Entry}
use Rattle.jc_script.specs.declared.line.Line.{Line}
use Rattle.jc_script.specs.declared.line.Line.TheVariants as line
use Rattle.jc_script.specs.declared.line.LineCall.{LineCall}

-- the call that a line makes, if it makes one
abbrev pub call_in : Line → List LineCall
call_in (line.Call l) = l ∷ []
call_in (line.Create session c) = []
call_in (line.Destroy session id) = []

-- those of all lines
abbrev pub calls_in_lines : List Line → List LineCall
calls_in_lines lines = flat_map call_in lines

-- the call that a line makes on the cache with this id
abbrev pub call_on : ℕ → Line → List LineCall
call_on id (line.Call l) = if l.id == id then l ∷ [] else []
call_on id (line.Create session c) = []
call_on id (line.Destroy session i) = []

-- those of all lines; an id is given once, so that they are all of one life
abbrev pub calls_on : ℕ → List Line → List LineCall
calls_on id lines = flat_map (call_on id) lines

-- the line's call that an entry is
abbrev pub line_of_entry : Entry → LineCall
line_of_entry e = record { session = e.session; id = e.id; at = e.at; call = e.call }

abbrev pub IsReply : End → Type 0
IsReply (Replied reply) = ⊤
IsReply _ = ⊥
