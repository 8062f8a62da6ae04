-- What a configuration says: its caches, or the first fault.
use Rattle.std.specs.Prelude.{ℕ, ◌+◌, ◌&&◌, List, [], ◌∷◌, length, map, Bool, true, Option, Some, None, is_some, Result, Ok, Err, nat_le, if◌then◌else◌, codes}
use Rattle.std.specs.Option.{ok_or}
use Rattle.std.specs.List.{list_any}
use Rattle.std.specs.Str.{is_utf8, bytes_eq}
use Rattle.toml.specs.Data.{Data, Items, no_items, item, Members, get_member, as_array, as_table}
use Rattle.toml.specs.Parse.{parse_document}
use Rattle.jc_model.specs.Limits.{most_rows, most_caches, most_rows_together, text_bytes}
use Rattle.jc_config.specs.FirstFault.{◌>>=◌}
use Rattle.jc_config.specs.Kinds.{loader_of, writer_of, wants_value_of}
use Rattle.jc_config.specs.Members.{number, name_text, text_kind, needed_table_member, optional, processors_or_none, listeners_or_none, table_policy, table_members_are, no_other_entry}
use Rattle.jc_config.specs.declared.fault.Member.TheVariants as members
use Rattle.jc_config.specs.declared.fault.ConfigFault.{ConfigFault}
use Rattle.jc_config.specs.declared.fault.ConfigFault.TheVariants.{TooLong, NotToml, UnknownEntry, TooManyCaches, DuplicateName, TotalCapacity}
use Rattle.jc_config.specs.declared.kinds.CacheSettings.{CacheSettings}
use Rattle.jc_config.specs.declared.kinds.Configuration.{Configuration}

unfoldable pub document_of : List ℕ → Option Members
document_of bytes = if is_utf8 bytes then parse_document bytes else None

-- The document's entries.

abbrev pub is_cache : List ℕ → Bool
is_cache key = bytes_eq key (codes "cache")

abbrev pub are_tables : Items → Bool
are_tables no_items = true
are_tables (item d ds) = is_some (as_table d) && are_tables ds

abbrev pub list_of_tables : Option Items → Result Items ConfigFault
list_of_tables None = Err UnknownEntry
list_of_tables (Some items) = if are_tables items then Ok items else Err UnknownEntry

abbrev pub tables_at : Option Data → Result Items ConfigFault
tables_at None = Ok no_items
tables_at (Some d) = list_of_tables (as_array d)

-- the list `cache`, empty where it is missing
abbrev pub tables_of : Members → Result Items ConfigFault
tables_of document = if table_members_are is_cache document then tables_at (get_member (codes "cache") document) else Err UnknownEntry

-- One table and all tables.

unfoldable pub cache_of : ℕ → Data → Result CacheSettings ConfigFault
cache_of n d = do
  name ← needed_table_member name_text n members.Name d
  capacity ← needed_table_member (number 1 most_rows) n members.Capacity d
  policy ← table_policy n d
  loader ← optional (text_kind loader_of) n members.Loader d
  writer ← optional (text_kind writer_of) n members.Writer d
  kinds ← processors_or_none n d
  listeners ← listeners_or_none n d
  none ← no_other_entry n d
  Ok (record {
    config = record { name = name; capacity = capacity; policy = policy; loader = is_some loader; writer = is_some writer; processors = map wants_value_of kinds; listeners = listeners };
    hooks = record { loader = loader; writer = writer; processors = kinds };
  })

-- the caches of the tables, of which the first has the number n
abbrev pub caches_of : ℕ → Items → Result (List CacheSettings) ConfigFault
caches_of n no_items = Ok []
caches_of n (item d ds) = do
  cache ← cache_of n d
  caches ← caches_of (n + 1) ds
  Ok (cache ∷ caches)

-- All caches together.

-- the number of the first of the names, from n on, that was seen or stands before it
abbrev pub duplicate_from : List (List ℕ) → ℕ → List (List ℕ) → Option ℕ
duplicate_from seen n [] = None
duplicate_from seen n (x ∷ xs) = if list_any (λ y. bytes_eq y x) seen then Some n else duplicate_from (x ∷ seen) (n + 1) xs

abbrev pub total_of : List CacheSettings → ℕ
total_of [] = 0
total_of (c ∷ cs) = c.config.capacity + total_of cs

abbrev pub check_names : Option ℕ → Result (Unit {0}) ConfigFault
check_names None = Ok tt
check_names (Some n) = Err (DuplicateName n)

abbrev pub fault_unless : Bool → ConfigFault → Result (Unit {0}) ConfigFault
fault_unless test fault = if test then Ok tt else Err fault

abbrev pub check_totals : List CacheSettings → Result (Unit {0}) ConfigFault
check_totals caches = do
  few ← fault_unless (nat_le (length caches) most_caches) TooManyCaches
  distinct ← check_names (duplicate_from [] 1 (map (λ c. c.config.name) caches))
  fault_unless (nat_le (total_of caches) most_rows_together) TotalCapacity

-- the settings of caches, and the kinds of their callbacks in the same order
abbrev pub configuration_with : List CacheSettings → Configuration
configuration_with caches = record { settings = map (λ c. c.config) caches; hooks = map (λ c. c.hooks) caches }

unfoldable pub configuration_in : List ℕ → Result Configuration ConfigFault
configuration_in bytes = do
  short ← fault_unless (nat_le (length bytes) text_bytes) TooLong
  document ← ok_or (document_of bytes) NotToml
  tables ← tables_of document
  caches ← caches_of 1 tables
  within ← check_totals caches
  Ok (configuration_with caches)
