-- What a line of a script says: a call, a cache more or one less, or the first fault.
use Rattle.std.specs.Prelude.{ℕ, List, Result, Ok, if◌then◌else◌, codes}
use Rattle.std.specs.Str.{bytes_eq}
use Rattle.serde_json.specs.Data.{Data}
use Rattle.serde_json.specs.Find.{as_str}
use Rattle.jc_model.specs.Limits.{sessions}
use Rattle.jc_model.specs.Runs.{Lives}
use Rattle.jc_config.specs.FirstFault.{◌>>=◌}
use Rattle.jc_script.specs.declared.fault.Member.TheVariants as members
use Rattle.jc_script.specs.declared.fault.ScriptFault.{ScriptFault}
use Rattle.jc_script.specs.declared.line.Line.{Line}
use Rattle.jc_script.specs.declared.line.Line.TheVariants.{Call, Destroy}
use Rattle.jc_script.specs.Creating.{asks_to_create, creating}
use Rattle.jc_script.specs.Live.{processors_at}
use Rattle.jc_script.specs.Member.{needed_line_member, whole_u64, whole_u64_below, cache}
use Rattle.jc_script.specs.Operation.{call_of}

-- a call on a cache, in which the op's name has its own members
unfoldable pub calling : Lives → ℕ → ℕ → ℕ → List ℕ → ℕ → Data → Result Line ScriptFault
calling lives s id moment name n d = do
  call ← call_of name (processors_at lives id) n d
  Ok (Call (record { session = s; id = id; at = moment; call = call }))

-- a line that names a live cache
unfoldable pub on_cache : Lives → ℕ → ℕ → Data → Result Line ScriptFault
on_cache lives s n d = do
  id ← needed_line_member (cache lives) n members.Cache d
  moment ← needed_line_member whole_u64 n members.At d
  name ← needed_line_member as_str n members.Op d
  if bytes_eq name (codes "destroy") then Ok (Destroy s id) else calling lives s id moment name n d

unfoldable pub line_of : Lives → ℕ → Data → Result Line ScriptFault
line_of lives n d = do
  s ← needed_line_member (whole_u64_below sessions) n members.Session d
  if asks_to_create d then creating s n d else on_cache lives s n d
