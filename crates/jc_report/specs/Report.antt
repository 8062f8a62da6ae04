-- The text of a report.
use Rattle.std.specs.Prelude.{◌≡◌, ℕ, List, [], ◌∷◌, ◌++◌, map, true, false, Option, Some, None, Result, Ok, Err, Vec, if◌then◌else◌, codes, decimal, string_bytes, String}
use Rattle.std.specs.Borrow.{Bor}
use Rattle.std.specs.List.{flat_map}
use Rattle.std.specs.Str.{is_utf8}
use Rattle.std.specs.declared.alloc.Global.{Global}
use Rattle.hex.specs.Hex.{encode_lower}
use Rattle.json.specs.Print.{quoted}
use Rattle.jc_model.specs.declared.call.By.{By}
use Rattle.jc_model.specs.declared.call.By.TheVariants as by
use Rattle.jc_model.specs.declared.call.Counts.{Counts}
use Rattle.jc_model.specs.declared.call.Kind.{Kind}
use Rattle.jc_model.specs.declared.call.Kind.TheVariants as kind
use Rattle.jc_model.specs.declared.call.Notice.{Notice}
use Rattle.jc_model.specs.declared.call.ProcessorFault.{ProcessorFault}
use Rattle.jc_model.specs.declared.call.Reply.{Reply}
use Rattle.jc_model.specs.declared.call.Reply.TheVariants.{Done, Truth, Found, Listed, Results, Counted, Fault}
use Rattle.jc_model.specs.declared.event.End.{End}
use Rattle.jc_model.specs.declared.event.End.TheVariants.{Waiting, Replied, GivenUp}
use Rattle.jc_model.specs.declared.event.Entry.{Entry}
use Rattle.jc_model.specs.declared.event.CreateRefusal.{CreateRefusal}
use Rattle.jc_model.specs.declared.event.CreateRefusal.TheVariants as create
use Rattle.jc_model.specs.declared.event.Life.{Life}
use Rattle.jc_model.specs.Legal.{History, entries_of}
use Rattle.jc_script.specs.declared.managed.ManageOp.{ManageOp}
use Rattle.jc_script.specs.declared.managed.ManageOp.TheVariants as op
use Rattle.jc_script.specs.declared.managed.Managed.{Managed}
use Rattle.jc_script.specs.Operation.{call_name}

-- a text comes behind what was there
abbrev pub Appends : {Z : Type 0} → List ℕ → String Z → String Z → Type 0
Appends text old new = string_bytes new ≡ string_bytes old ++ text

-- a key or a value as a JSON string, and as hexadecimal digits where it is no text
unfoldable pub bytes_text : List ℕ → List ℕ
bytes_text bytes = if is_utf8 bytes then quoted bytes else codes "hex:" ++ encode_lower bytes

-- Replies.

abbrev pub found_text : Option (List ℕ) → List ℕ
found_text None = codes "none"
found_text (Some bytes) = codes "some " ++ bytes_text bytes

-- what stands before a key's value
abbrev pub key_label : List ℕ → List ℕ
key_label key = codes " " ++ bytes_text key ++ codes "="

abbrev pub pair_text : List ℕ × List ℕ → List ℕ
pair_text p = key_label p.0 ++ bytes_text p.1

abbrev pub answered_text : Result (List ℕ) ProcessorFault → List ℕ
answered_text (Ok bytes) = codes "some " ++ bytes_text bytes
answered_text (Err fault) = codes "fault"

abbrev pub result_text : List ℕ × Result (List ℕ) ProcessorFault → List ℕ
result_text r = key_label r.0 ++ answered_text r.1

abbrev pub spaced_number : ℕ → List ℕ
spaced_number n = decimal n ++ codes " "

abbrev pub counts_text : Counts → List ℕ
counts_text c = spaced_number c.hits ++ spaced_number c.misses ++ spaced_number c.puts ++ spaced_number c.removals ++ decimal c.evictions

abbrev pub by_text : By → List ℕ
by_text by.Loader = codes "loader"
by_text by.Writer = codes "writer"
by_text by.Processor = codes "processor"

abbrev pub done_text : Option ℕ → List ℕ
done_text None = []
done_text (Some keys) = codes " after " ++ decimal keys

abbrev pub reply_text : Reply → List ℕ
reply_text Done = codes "ok"
reply_text (Truth true) = codes "true"
reply_text (Truth false) = codes "false"
reply_text (Found found) = found_text found
reply_text (Listed pairs) = codes "pairs" ++ flat_map pair_text pairs
reply_text (Results results) = codes "results" ++ flat_map result_text results
reply_text (Counted counts) = counts_text counts
reply_text (Fault by done) = codes "fault " ++ by_text by ++ done_text done

-- Entries.

abbrev pub kind_text : Kind → List ℕ
kind_text kind.Created = codes "created"
kind_text kind.Updated = codes "updated"
kind_text kind.Removed = codes "removed"
kind_text kind.Expired = codes "expired"

abbrev pub event_text : ℕ → Notice → List ℕ
event_text session n = decimal session ++ codes " event " ++ kind_text n.kind ++ codes " " ++ bytes_text n.key ++ codes "\n"

abbrev pub end_text : End → List ℕ
end_text Waiting = codes "waiting"
end_text (Replied reply) = reply_text reply
end_text GivenUp = codes "gave up"

abbrev pub call_text : Entry → List ℕ
call_text e = spaced_number e.session ++ call_name e.call ++ codes " " ++ end_text e.end ++ codes "\n"

-- the notices that were told, then the call and its end
abbrev pub entry_text : Entry → List ℕ
entry_text e = flat_map (event_text e.session) e.told ++ call_text e

-- Lives.

-- the entries behind a group's references
abbrev pub group : Option (Vec (Bor Entry) Global) → List Entry
group None = []
group (Some entries) = map (λ e. e.now) entries.items

-- each cache has its own of these entries in its group
abbrev pub AreGrouped : List Entry → (ℕ → Option (Vec (Bor Entry) Global)) → Type 0
AreGrouped entries groups = (id : ℕ) → group (groups id) ≡ entries_of id entries

abbrev pub header : List ℕ → List ℕ
header name = codes "cache " ++ name ++ codes "\n"

-- a life of this name with its entries
abbrev pub life_text : List ℕ → List Entry → List ℕ
life_text name entries = header name ++ flat_map entry_text entries

-- each life with its entries
abbrev pub lives_text : List Life → List Entry → List ℕ
lives_text [] entries = []
lives_text (life ∷ lives) entries = header life.config.name ++ flat_map entry_text (entries_of life.id entries) ++ lives_text lives entries

-- Creating and destroying.

abbrev pub op_text : ManageOp → List ℕ
op_text op.Create = codes "create"
op_text op.Destroy = codes "destroy"

abbrev pub answer_text : Option CreateRefusal → List ℕ
answer_text None = codes "ok"
answer_text (Some create.TooManyCaches) = codes "fault too many caches"
answer_text (Some create.BadCapacity) = codes "fault bad capacity"
answer_text (Some create.TooManyListeners) = codes "fault too many listeners"
answer_text (Some create.TooManyProcessors) = codes "fault too many processors"
answer_text (Some create.DuplicateName) = codes "fault duplicate name"
answer_text (Some create.TotalCapacity) = codes "fault total capacity"
answer_text (Some create.IdsSpent) = codes "fault ids spent"
answer_text (Some create.OutOfMemory) = codes "fault out of memory"

abbrev pub managed_line : Managed → List ℕ
managed_line m = spaced_number m.session ++ op_text m.op ++ codes " " ++ m.name ++ codes " " ++ answer_text m.refusal ++ codes "\n"

-- the manager's lines, where there are some
abbrev pub managed_text : List Managed → List ℕ
managed_text [] = []
managed_text (m ∷ ms) = codes "manager\n" ++ flat_map managed_line (m ∷ ms)

abbrev pub text : History → List Managed → List ℕ
text h managed = lives_text h.lives h.entries ++ managed_text managed
