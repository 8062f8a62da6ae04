-- The members of a line that creates a cache.
use Rattle.std.specs.Prelude.{ℕ, Bool, false, List, Option, Some, None, option_and_then, option_map, Result, Ok, codes}
use Rattle.std.specs.Option.{ok_or}
use Rattle.std.specs.Str.{bytes_eq}
use Rattle.serde_json.specs.Data.{Data}
use Rattle.serde_json.specs.Find.{get, as_str}
use Rattle.jc_config.specs.FirstFault.{◌>>=◌, member_or}
use Rattle.jc_config.specs.declared.members.ExpiryKind.{ExpiryKind}
use Rattle.jc_config.specs.declared.members.ExpiryKind.TheVariants.{Eternal}
use Rattle.jc_config.specs.Kinds.{name_in, capacity_in, plain_cache, expiry_kind_of, policy_in}
use Rattle.jc_model.specs.declared.config.Policy.{Policy}
use Rattle.jc_script.specs.declared.fault.Member.TheVariants as members
use Rattle.jc_script.specs.declared.fault.ScriptFault.{ScriptFault}
use Rattle.jc_script.specs.declared.fault.ScriptFault.TheVariants.{Bad}
use Rattle.jc_script.specs.declared.line.Line.{Line}
use Rattle.jc_script.specs.declared.line.Line.TheVariants.{Create}
use Rattle.jc_script.specs.Member.{member_name, needed_line_member, whole_u64}

abbrev pub is_create : Option (List ℕ) → Bool
is_create None = false
is_create (Some op) = bytes_eq op (codes "create")

abbrev pub asks_to_create : Data → Bool
asks_to_create d = is_create (option_and_then as_str (get (member_name members.Op) d))

abbrev pub cache_name : Data → Option (List ℕ)
cache_name d = option_and_then name_in (as_str d)

abbrev pub capacity : Data → Option ℕ
capacity d = option_and_then capacity_in (whole_u64 d)

abbrev pub expiry : Data → Option ExpiryKind
expiry d = option_and_then expiry_kind_of (as_str d)

-- the expiry, which is eternal where it is missing
abbrev pub line_expiry_or_eternal : ℕ → Data → Result ExpiryKind ScriptFault
line_expiry_or_eternal n d = member_or Eternal expiry (Bad n members.Expiry) (get (member_name members.Expiry) d)

unfoldable pub line_policy : ℕ → Data → Result Policy ScriptFault
line_policy n d = do
  kind ← line_expiry_or_eternal n d
  ok_or (policy_in kind (option_map whole_u64 (get (member_name members.Duration) d))) (Bad n members.Duration)

-- such a cache has no callbacks
unfoldable pub creating : ℕ → ℕ → Data → Result Line ScriptFault
creating s n d = do
  name ← needed_line_member cache_name n members.Cache d
  moment ← needed_line_member whole_u64 n members.At d
  rows ← needed_line_member capacity n members.Capacity d
  policy ← line_policy n d
  Ok (Create s (plain_cache name rows policy))
