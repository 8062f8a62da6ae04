-- The members of a cache's table.
use Rattle.std.specs.Prelude.{ℕ, ◌+◌, ◌&&◌, ◌||◌, ℤ, pos, negsuc, List, [], ◌∷◌, Bool, true, false, Option, Some, None, option_map, option_and_then, Result, Ok, Err, nat_le, if◌then◌else◌, codes}
use Rattle.std.specs.Option.{ok_or}
use Rattle.std.specs.Str.{bytes_eq}
use Rattle.toml.specs.Data.{Data, Items, no_items, item, Members, no_members, member, get, as_str, as_integer, as_array, as_table}
use Rattle.jc_model.specs.declared.config.Policy.{Policy}
use Rattle.jc_model.specs.Limits.{most_processors, most_listeners}
use Rattle.jc_config.specs.Faults.{config_member_name}
use Rattle.jc_config.specs.FirstFault as first
use Rattle.jc_config.specs.FirstFault.{◌>>=◌}
use Rattle.jc_config.specs.Kinds.{name_in, expiry_kind_of, policy_in, processor_of}
use Rattle.jc_config.specs.declared.fault.Member.{Member}
use Rattle.jc_config.specs.declared.fault.Member.TheVariants as members
use Rattle.jc_config.specs.declared.fault.ConfigFault.{ConfigFault}
use Rattle.jc_config.specs.declared.fault.ConfigFault.TheVariants.{Bad}
use Rattle.jc_config.specs.declared.members.ExpiryKind.{ExpiryKind}
use Rattle.jc_config.specs.declared.members.ExpiryKind.TheVariants.{Eternal}
use Rattle.jc_config.specs.declared.kinds.ProcessorKind.{ProcessorKind}

abbrev pub natural : ℤ → Option ℕ
natural (pos n) = Some n
natural (negsuc n) = None

-- a whole number from 0
abbrev pub whole_number : Data → Option ℕ
whole_number d = option_and_then natural (as_integer d)

-- a whole number between these, both included
abbrev pub number : ℕ → ℕ → Data → Option ℕ
number low high d = option_and_then (λ n. if nat_le low n && nat_le n high then Some n else None) (whole_number d)

abbrev pub name_text : Data → Option (List ℕ)
name_text d = option_and_then name_in (as_str d)

-- a text that names a kind
abbrev pub text_kind : {A : Type 0} → (List ℕ → Option A) → Data → Option A
text_kind kind d = option_and_then kind (as_str d)

-- the kinds in a list of texts
abbrev pub kinds_of : Items → Option (List ProcessorKind)
kinds_of no_items = Some []
kinds_of (item d ds) = option_and_then (λ kind. option_map (λ kinds. kind ∷ kinds) (kinds_of ds)) (text_kind processor_of d)

abbrev pub count_of : Items → ℕ
count_of no_items = 0
count_of (item d ds) = count_of ds + 1

-- at most 16 kinds
abbrev pub few_kinds : Items → Option (List ProcessorKind)
few_kinds items = if nat_le (count_of items) most_processors then kinds_of items else None

abbrev pub processor_list : Data → Option (List ProcessorKind)
processor_list d = option_and_then few_kinds (as_array d)

-- a member that must be there
abbrev pub needed_table_member : {A : Type 0} → (Data → Option A) → ℕ → Member → Data → Result A ConfigFault
needed_table_member f n m d = first.needed_member f (Bad n m) (get (config_member_name m) d)

-- a member that may be missing
abbrev pub table_member_or : {A : Type 0} → A → (Data → Option A) → ℕ → Member → Option Data → Result A ConfigFault
table_member_or a f n m found = first.member_or a f (Bad n m) found

abbrev pub optional : {A : Type 0} → (Data → Option A) → ℕ → Member → Data → Result (Option A) ConfigFault
optional f n m d = table_member_or None (λ x. option_map Some (f x)) n m (get (config_member_name m) d)

-- the expiry, which is eternal where it is missing
abbrev pub table_expiry_or_eternal : ℕ → Data → Result ExpiryKind ConfigFault
table_expiry_or_eternal n d = table_member_or Eternal (text_kind expiry_kind_of) n members.Expiry (get (config_member_name members.Expiry) d)

-- the kinds of processors
abbrev pub processors_or_none : ℕ → Data → Result (List ProcessorKind) ConfigFault
processors_or_none n d = table_member_or [] processor_list n members.Processors (get (config_member_name members.Processors) d)

-- how many listeners
abbrev pub listeners_or_none : ℕ → Data → Result ℕ ConfigFault
listeners_or_none n d = table_member_or 0 (number 0 most_listeners) n members.Listeners (get (config_member_name members.Listeners) d)

unfoldable pub table_policy : ℕ → Data → Result Policy ConfigFault
table_policy n d = do
  kind ← table_expiry_or_eternal n d
  ok_or (policy_in kind (option_map whole_number (get (config_member_name members.Duration) d))) (Bad n members.Duration)

-- Entries.

abbrev pub is_table_member : List ℕ → Bool
is_table_member key =
    bytes_eq key (codes "name") || bytes_eq key (codes "capacity") || bytes_eq key (codes "expiry") || bytes_eq key (codes "duration")
    || bytes_eq key (codes "loader") || bytes_eq key (codes "writer") || bytes_eq key (codes "processors") || bytes_eq key (codes "listeners")

abbrev pub table_members_are : (List ℕ → Bool) → Members → Bool
table_members_are known no_members = true
table_members_are known (member k d ms) = known k && table_members_are known ms

abbrev pub knows_table_by : Option Members → Bool
knows_table_by None = false
knows_table_by (Some ms) = table_members_are is_table_member ms

abbrev pub knows_table : Data → Bool
knows_table d = knows_table_by (as_table d)

abbrev pub no_other_entry : ℕ → Data → Result (Unit {0}) ConfigFault
no_other_entry n d = if knows_table d then Ok tt else Err (Bad n members.Entry)
