-- The words that are known, and what each member has to be.
use Rattle.std.specs.Prelude.{ℕ, List, [], ◌∷◌, map, Option, option_map, codes}
use Rattle.std.specs.Borrow.{Bor}
use Rattle.jc_config.specs.declared.fault.Member.{Member as ConfigMember}
use Rattle.jc_config.specs.declared.fault.Member.TheVariants as config
use Rattle.jc_script.specs.declared.fault.Member.{Member as ScriptMember}
use Rattle.jc_script.specs.declared.fault.Member.TheVariants as script

-- the words that are lent, or one, if it is there
abbrev pub words_lent : List (Bor (List ℕ)) → List (List ℕ)
words_lent words = map (λ word. word.now) words

abbrev pub word_lent : Option (Bor (List ℕ)) → Option (List ℕ)
word_lent found = option_map (λ word. word.now) found

abbrev pub config_members : List (List ℕ)
config_members =
    codes "name" ∷ codes "capacity" ∷ codes "expiry" ∷ codes "duration" ∷ codes "loader" ∷ codes "writer" ∷
    codes "processors" ∷ codes "listeners" ∷ []

abbrev pub script_members : List (List ℕ)
script_members =
    codes "s" ∷ codes "c" ∷ codes "at" ∷ codes "op" ∷ codes "capacity" ∷ codes "expiry" ∷ codes "duration" ∷
    codes "k" ∷ codes "ks" ∷ codes "kvs" ∷ codes "expect" ∷ codes "v" ∷ codes "replace" ∷ codes "p" ∷
    codes "arg" ∷ []

abbrev pub policies : List (List ℕ)
policies =
    codes "eternal" ∷ codes "created" ∷ codes "accessed" ∷ codes "modified" ∷ codes "touched" ∷ []

abbrev pub ops : List (List ℕ)
ops =
    codes "get" ∷ codes "get_all" ∷ codes "contains" ∷ codes "put" ∷ codes "get_and_put" ∷
    codes "put_if_absent" ∷ codes "replace" ∷ codes "replace_if" ∷ codes "get_and_replace" ∷ codes "remove" ∷
    codes "remove_if" ∷ codes "get_and_remove" ∷ codes "invoke" ∷ codes "invoke_all" ∷ codes "put_all" ∷
    codes "remove_keys" ∷ codes "remove_all" ∷ codes "clear" ∷ codes "load_all" ∷ codes "entries" ∷
    codes "stats" ∷ codes "clear_stats" ∷ codes "create" ∷ codes "destroy" ∷ []

-- the words that a member may be, where they are few
abbrev pub config_words : ConfigMember → List (List ℕ)
config_words config.Expiry = policies
config_words config.Loader = codes "echo" ∷ []
config_words config.Writer = codes "check" ∷ []
config_words _ = []

-- of a script, with the names of the configuration's caches
abbrev pub script_words : List (List ℕ) → ScriptMember → List (List ℕ)
script_words names script.Cache = names
script_words names script.Op = ops
script_words names script.Expiry = policies
script_words names _ = []

-- what each member has to be
abbrev pub config_allowed : ConfigMember → List ℕ
config_allowed config.Name = codes "a string of 1 to 63 ASCII letters, digits, - and _"
config_allowed config.Capacity = codes "a whole number in 1..=65536"
config_allowed config.Expiry = codes "one of \"eternal\", \"created\", \"accessed\", \"modified\", \"touched\""
config_allowed config.Duration = codes "a whole number of milliseconds from 0, and left out where expiry is \"eternal\""
config_allowed config.Loader = codes "\"echo\""
config_allowed config.Writer = codes "\"check\""
config_allowed config.Processors = codes "a list of at most 16 of \"append\", \"peek\", \"drop\", \"fail\""
config_allowed config.Listeners = codes "a whole number in 0..=8"
config_allowed config.Entry = codes "one of a table's members"

abbrev pub script_allowed : ScriptMember → List ℕ
script_allowed script.Session = codes "a whole number in 0..=63"
script_allowed script.Cache = codes "the name of a cache that is live at this line, or of one to be created"
script_allowed script.At = codes "a whole number of milliseconds from 0"
script_allowed script.Op = codes "a string, the name of an op"
script_allowed script.Capacity = codes "a whole number in 1..=65536"
script_allowed script.Expiry = codes "one of \"eternal\", \"created\", \"accessed\", \"modified\", \"touched\""
script_allowed script.Duration = codes "a whole number of milliseconds from 0, and left out where expiry is \"eternal\""
script_allowed script.Key = codes "a string of 1 to 63 bytes"
script_allowed script.Keys = codes "a list of at most 64 keys, all different"
script_allowed script.Pairs = codes "a list of at most 64 lists of a key and a value, all keys different"
script_allowed script.Expect = codes "a string of at most 65535 bytes"
script_allowed script.Value = codes "a string of at most 65535 bytes"
script_allowed script.Replace = codes "true or false"
script_allowed script.Processor = codes "a whole number, the place of one of the cache's processors"
script_allowed script.Argument = codes "a string of at most 65535 bytes"
