-- What a call came to, as JSON: each reply is an object that has its kind.
use Rattle.std.specs.Prelude.{ℕ, List, ◌++◌, Option, Some, None, codes, decimal}
use Rattle.jc_model.specs.declared.call.By.{By}
use Rattle.jc_model.specs.declared.call.Counts.{Counts}
use Rattle.jc_model.specs.declared.call.Notice.{Notice}
use Rattle.jc_model.specs.declared.call.Reply.{Reply}
use Rattle.jc_model.specs.declared.call.Reply.TheVariants.{Done, Truth, Found, Listed, Results, Counted, Fault}
use Rattle.jc_model.specs.declared.event.End.{End}
use Rattle.jc_model.specs.declared.event.End.TheVariants.{Waiting, Replied, GivenUp}
use Rattle.jc_report.specs.Report.{by_text, kind_text}
use Rattle.jc_report.specs.Values.{first_member, next_member, number_member, word_json, bytes_json, bytes_member, list_json, pair_json, result_json, truth_json}

-- an object up to its kind
unfoldable pub kind_member : List ℕ → List ℕ
kind_member kind = first_member (codes "kind") ++ word_json kind

-- an object that has a kind alone
unfoldable pub kind_json : List ℕ → List ℕ
kind_json kind = kind_member kind ++ codes "}"

-- one that has a value too
unfoldable pub valued_json : List ℕ → List ℕ → List ℕ
valued_json kind value = kind_member kind ++ next_member (codes "value") ++ value ++ codes "}"

abbrev pub found_json : Option (List ℕ) → List ℕ
found_json None = codes "null"
found_json (Some bytes) = bytes_json bytes

-- the counters behind the hits, each by its name
unfoldable pub other_counters : Counts → List ℕ
other_counters c = number_member (codes "misses") c.misses ++ number_member (codes "puts") c.puts ++ number_member (codes "removals") c.removals ++ number_member (codes "evictions") c.evictions

abbrev pub counters_json : Counts → List ℕ
counters_json c = first_member (codes "hits") ++ decimal c.hits ++ other_counters c ++ codes "}"

-- how many keys were done before
abbrev pub after_json : Option ℕ → List ℕ
after_json None = codes "null"
after_json (Some keys) = decimal keys

abbrev pub fault_json : By → Option ℕ → List ℕ
fault_json by done = kind_member (codes "fault") ++ next_member (codes "by") ++ word_json (by_text by) ++ next_member (codes "after") ++ after_json done ++ codes "}"

abbrev pub reply_json : Reply → List ℕ
reply_json Done = kind_json (codes "done")
reply_json (Truth truth) = valued_json (codes "truth") (truth_json truth)
reply_json (Found found) = valued_json (codes "found") (found_json found)
reply_json (Listed pairs) = valued_json (codes "listed") (list_json pair_json pairs)
reply_json (Results results) = valued_json (codes "results") (list_json result_json results)
reply_json (Counted counts) = valued_json (codes "counted") (counters_json counts)
reply_json (Fault by done) = fault_json by done

abbrev pub end_json : End → List ℕ
end_json Waiting = kind_json (codes "waiting")
end_json (Replied reply) = reply_json reply
end_json GivenUp = kind_json (codes "gave up")

-- Notices that were told.

abbrev pub event_json : Notice → List ℕ
event_json n = kind_member (kind_text n.kind) ++ bytes_member (codes "key") n.key ++ codes "}"
