-- What a step asks and does by its line of the case table.
use Rattle.std.specs.Prelude.{◌+◌, ℕ, Bool, true, false, if◌then◌else◌, ◌||◌, slice_index_or, List, Option, Some, None, is_some}
use Rattle.std.specs.Str.{bytes_eq}
use Rattle.jc_model.specs.declared.call.Answer.{Answer}
use Rattle.jc_model.specs.declared.call.Answer.TheVariants.{Loaded}
use Rattle.jc_model.specs.declared.call.Op.{Op}
use Rattle.jc_model.specs.declared.call.Request.{Request}
use Rattle.jc_model.specs.declared.call.Request.TheVariants as request
use Rattle.jc_model.specs.declared.config.CacheConfig.{CacheConfig}
use Rattle.jc_model.specs.declared.table.Ask.{Ask}
use Rattle.jc_model.specs.declared.table.Ask.TheVariants as ask
use Rattle.jc_model.specs.declared.table.Change.{Change}
use Rattle.jc_model.specs.declared.table.Change.TheVariants.{Store, Put, Remove}
use Rattle.jc_model.specs.declared.table.Replied.{Replied}
use Rattle.jc_model.specs.declared.table.Replied.TheVariants.{Shown}
use Rattle.jc_model.specs.declared.table.TableLine.{TableLine}
use Rattle.jc_model.specs.Table.{live_line, absent_line, otherwise, expected_by, value_of, invoked_by}

abbrev pub is_shown : Replied → Bool
is_shown Shown = true
is_shown _ = false

-- whether a change stores a value
abbrev pub stores : Change → Bool
stores Store = true
stores Put = true
stores _ = false

-- The line of an operation, by the key's live value.

abbrev pub of_expected : Option (List ℕ) → List ℕ → TableLine → TableLine
of_expected None live l = l
of_expected (Some expected) live l = if bytes_eq live expected then l else otherwise

abbrev pub line_at : Op → Option (List ℕ) → TableLine
line_at o None = absent_line o
line_at o (Some live) = of_expected (expected_by o) live (live_line o)

abbrev pub is_invoke : Op → Bool
is_invoke o = is_some (invoked_by o)

-- whether it replies the live value
abbrev pub shows : Op → Bool
shows o = if is_invoke o then false else is_shown (live_line o).reply

-- whether its supply takes the value of the key's row: to reply it, or to hand it to a processor
abbrev pub takes_value : Op → Bool
takes_value o = is_invoke o || shows o

-- whether it replies the loaded value
abbrev pub shows_loaded : Op → Bool
shows_loaded o = is_shown (absent_line o).reply

-- whether it itself stores a key that is not there
abbrev pub creates_by : Ask → Change → Bool
creates_by ask.Load change = false
creates_by _ change = stores change

abbrev pub creates : Op → Bool
creates o = creates_by (absent_line o).asks (absent_line o).change

-- How many notices a change may tell: of a live row one, and of a new one its victim's too.
abbrev pub told_of : Bool → Change → ℕ
told_of there Store = if there then 1 else 2
told_of there Put = if there then 1 else 2
told_of there Remove = if there then 1 else 0
told_of there _ = 0

-- a processor may decide for any change
abbrev pub told_by : Bool → Ask → Change → ℕ
told_by there ask.Process change = told_of there Put
told_by there _ change = told_of there change

-- an operation's, where the key has a live row, and where it has none
abbrev pub told_on : Bool → Op → ℕ
told_on true o = told_by true (live_line o).asks (live_line o).change
told_on false o = told_by false (absent_line o).asks (absent_line o).change

-- and the most that its step may tell: first its key's expired row, if it has one
abbrev pub most_told : Bool → Op → ℕ
most_told true o = told_on true o
most_told false o = told_on false o + 1

-- what its first hook is given: a value for the writer, or the processor's argument
abbrev pub handed : Bool → Op → Option (List ℕ)
handed writer o = elim (invoked_by o) [ None ↦ if writer then value_of o else None | Some i ↦ Some i.1 ]

-- The first request of a step.

abbrev pub written_by : List ℕ → Ask → Option (List ℕ) → Option Request
written_by k ask.Write (Some v) = Some (request.Write k v)
written_by k ask.Write None = None
written_by k ask.Delete v = Some (request.Delete k)
written_by k _ v = None

abbrev pub asks_writer : CacheConfig → List ℕ → Ask → Option (List ℕ) → Option Request
asks_writer c k asks v = if c.writer then written_by k asks v else None

-- whether the loader is asked before this processor, where the key has no row
abbrev pub loads_for : CacheConfig → ℕ → Bool
loads_for c processor = if slice_index_or c.processors processor false then c.loader else false

-- and it is awaited: the key has no row, and it has not yet answered, so that the entry is not known
abbrev pub awaits_load : CacheConfig → ℕ → Bool → Bool
awaits_load c processor known = if known then false else loads_for c processor

abbrev pub asks_processor : CacheConfig → List ℕ → ℕ → List ℕ → Option (List ℕ) → Request
asks_processor c k processor argument live =
    if awaits_load c processor (is_some live) then request.Load k else request.Process k processor live argument

abbrev pub asks_hook : CacheConfig → List ℕ → Ask → Option (List ℕ) → Option Request
asks_hook c k ask.Load v = if c.loader then Some (request.Load k) else None
asks_hook c k asks v = asks_writer c k asks v

-- with the live value, if there is one
abbrev pub first_request : CacheConfig → List ℕ → Op → Ask → Option (List ℕ) → Option Request
first_request c k o asks live =
    elim (invoked_by o) [ None ↦ asks_hook c k asks (value_of o) | Some i ↦ Some (asks_processor c k i.0 i.1 live) ]

-- whether a step of this operation asks no one, whatever its line
abbrev pub asks_no_one : CacheConfig → Op → Bool
asks_no_one c o = if c.loader then false else (if c.writer then false else (if is_invoke o then false else true))

-- the value that the loader gave
abbrev pub loaded_value : Answer → Option (List ℕ)
loaded_value (Loaded v) = v
loaded_value _ = None
