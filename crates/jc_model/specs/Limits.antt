-- The limits, as contracts cite them.
use Rattle.std.specs.Prelude.{ℕ, ◌*◌, ◌-◌}

abbrev pub key_words : ℕ
key_words = 8

abbrev pub key_bytes : ℕ
key_bytes = 8 * key_words - 1

abbrev pub value_bytes : ℕ
value_bytes = 65535

abbrev pub most_keys : ℕ
most_keys = 64

abbrev pub most_caches : ℕ
most_caches = 1024

abbrev pub most_rows : ℕ
most_rows = 65536

abbrev pub most_rows_together : ℕ
most_rows_together = 262144

abbrev pub most_listeners : ℕ
most_listeners = 8

abbrev pub most_processors : ℕ
most_processors = 16

-- caches are numbered below this
abbrev pub most_ids : ℕ
most_ids = 4294967295

-- sessions are numbered below this
abbrev pub sessions : ℕ
sessions = 64

-- of a configuration or a script
abbrev pub text_bytes : ℕ
text_bytes = 8388608
