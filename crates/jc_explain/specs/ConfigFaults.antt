-- All faults of a configuration: of each table the first; where no table has one, that of the whole, if it has one.
use Rattle.std.specs.Prelude.{ℕ, ◌+◌, nat_le, if◌then◌else◌, List, [], ◌∷◌, length, Option, Some, None, Result, Ok, Err}
use Rattle.toml.specs.Data.{Items, no_items, item, Members}
use Rattle.jc_model.specs.Limits.{text_bytes}
use Rattle.jc_config.specs.Config.{document_of, tables_of, cache_of, configuration_in}
use Rattle.jc_config.specs.declared.fault.ConfigFault.{ConfigFault}
use Rattle.jc_config.specs.declared.kinds.CacheSettings.{CacheSettings}
use Rattle.jc_config.specs.declared.kinds.Configuration.{Configuration}

-- the fault of a reading, if it has one, and what comes behind it
abbrev pub fault_before : Result CacheSettings ConfigFault → List ConfigFault → List ConfigFault
fault_before (Ok cache) behind = behind
fault_before (Err fault) behind = fault ∷ behind

-- of the tables, of which the first has the number n
abbrev pub faults_of_tables : ℕ → Items → List ConfigFault
faults_of_tables n no_items = []
faults_of_tables n (item d ds) = fault_before (cache_of n d) (faults_of_tables (n + 1) ds)

abbrev pub faults_in : Result Items ConfigFault → List ConfigFault
faults_in (Ok tables) = faults_of_tables 1 tables
faults_in (Err fault) = []

abbrev pub table_faults : Members → List ConfigFault
table_faults document = faults_in (tables_of document)

abbrev pub faults_of_document : Option Members → List ConfigFault
faults_of_document None = []
faults_of_document (Some document) = table_faults document

abbrev pub document_faults : List ℕ → List ConfigFault
document_faults bytes = if nat_le (length bytes) text_bytes then faults_of_document (document_of bytes) else []

-- the fault that the reading of the whole ends with, if it does
abbrev pub only_fault : Result Configuration ConfigFault → List ConfigFault
only_fault (Ok configuration) = []
only_fault (Err fault) = fault ∷ []

abbrev pub or_only : List ConfigFault → Result Configuration ConfigFault → List ConfigFault
or_only [] reading = only_fault reading
or_only (fault ∷ faults) reading = fault ∷ faults

unfoldable pub all_config_faults : List ℕ → List ConfigFault
all_config_faults bytes = or_only (document_faults bytes) (configuration_in bytes)
