-- Names, expiry policies and kinds of callbacks, as a configuration spells them.
use Rattle.std.specs.Prelude.{ℕ, ◌==◌, ◌&&◌, ◌||◌, Bool, true, false, nat_le, if◌then◌else◌, List, [], length, Option, Some, None, option_map, codes}
use Rattle.std.specs.List.{list_all}
use Rattle.std.specs.Str.{bytes_eq}
use Rattle.jc_model.specs.Limits.{key_bytes, most_rows}
use Rattle.jc_model.specs.declared.config.CacheConfig.{CacheConfig}
use Rattle.jc_model.specs.declared.config.Policy.{Policy}
use Rattle.jc_model.specs.declared.config.Policy.TheVariants as policies
use Rattle.jc_config.specs.declared.members.ExpiryKind.{ExpiryKind}
use Rattle.jc_config.specs.declared.members.ExpiryKind.TheVariants.{Eternal, Created, Accessed, Modified, Touched}
use Rattle.jc_config.specs.declared.kinds.LoaderKind.{LoaderKind}
use Rattle.jc_config.specs.declared.kinds.LoaderKind.TheVariants.{Echo}
use Rattle.jc_config.specs.declared.kinds.WriterKind.{WriterKind}
use Rattle.jc_config.specs.declared.kinds.WriterKind.TheVariants.{Check}
use Rattle.jc_config.specs.declared.kinds.ProcessorKind.{ProcessorKind}
use Rattle.jc_config.specs.declared.kinds.ProcessorKind.TheVariants.{Append, Fail, Drop, Peek}

-- an ASCII letter, a digit, `-` or `_`
abbrev pub is_name_byte : ℕ → Bool
is_name_byte b = (nat_le 97 b && nat_le b 122) || (nat_le 65 b && nat_le b 90) || (nat_le 48 b && nat_le b 57) || (b == 45) || (b == 95)

abbrev pub is_name : List ℕ → Bool
is_name text = nat_le 1 (length text) && nat_le (length text) key_bytes && list_all is_name_byte text

-- the name that a text is, if it is one
abbrev pub name_in : List ℕ → Option (List ℕ)
name_in text = if is_name text then Some text else None

-- a cache's rows, if it may have so many
abbrev pub capacity_in : ℕ → Option ℕ
capacity_in rows = if nat_le 1 rows && nat_le rows most_rows then Some rows else None

-- a cache without callbacks
abbrev pub plain_cache : List ℕ → ℕ → Policy → CacheConfig
plain_cache name capacity policy =
    record { name = name; capacity = capacity; policy = policy; loader = false; writer = false; processors = []; listeners = 0 }

abbrev pub expiry_kind_of : List ℕ → Option ExpiryKind
expiry_kind_of text =
    if bytes_eq text (codes "eternal") then Some Eternal else
    (if bytes_eq text (codes "created") then Some Created else
    (if bytes_eq text (codes "accessed") then Some Accessed else
    (if bytes_eq text (codes "modified") then Some Modified else
    (if bytes_eq text (codes "touched") then Some Touched else None))))

abbrev pub with_duration : ExpiryKind → ℕ → Policy
with_duration Eternal d = policies.Eternal
with_duration Created d = policies.Created d
with_duration Accessed d = policies.Accessed d
with_duration Modified d = policies.Modified d
with_duration Touched d = policies.Touched d

-- the policy of a kind by the duration, where it is there: an eternal cache has none, and others need a whole number
abbrev pub policy_in : ExpiryKind → Option (Option ℕ) → Option Policy
policy_in Eternal None = Some policies.Eternal
policy_in Eternal (Some duration) = None
policy_in kind None = None
policy_in kind (Some duration) = option_map (with_duration kind) duration

abbrev pub loader_of : List ℕ → Option LoaderKind
loader_of text = if bytes_eq text (codes "echo") then Some Echo else None

abbrev pub writer_of : List ℕ → Option WriterKind
writer_of text = if bytes_eq text (codes "check") then Some Check else None

abbrev pub processor_of : List ℕ → Option ProcessorKind
processor_of text =
    if bytes_eq text (codes "append") then Some Append else
    (if bytes_eq text (codes "fail") then Some Fail else
    (if bytes_eq text (codes "drop") then Some Drop else
    (if bytes_eq text (codes "peek") then Some Peek else None)))

abbrev pub wants_value_of : ProcessorKind → Bool
wants_value_of Append = true
wants_value_of Fail = false
wants_value_of Drop = false
wants_value_of Peek = true
