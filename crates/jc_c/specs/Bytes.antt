-- How many bytes rows have.
use Rattle.std.specs.Prelude.{ℕ, zero, suc, ◌+◌, sum_by, length, option_map}
use Rattle.std.specs.Prelude.{Option, Some, None}
use Rattle.jc_ops.specs.declared.slots.Record.{Record}
use Rattle.jc_model.specs.State.{Item}
use Rattle.jc_engine.specs.Caches.{Cache, row_in}

-- a row's key and value
abbrev pub item_size : Item → ℕ
item_size x = length x.key + length x.value

-- the rows of a cache, whether expired or not
abbrev pub bytes_in : Option Cache → Option ℕ
bytes_in cache = option_map (λ k. sum_by item_size k.progress.state.ring) cache

-- a row that may be there
abbrev pub row_size : Option Record → ℕ
row_size None = 0
row_size (Some row) = length row.key + length row.value

-- the rows of the first n numbers
abbrev pub bytes_numbered : ℕ → Option Cache → ℕ
bytes_numbered zero cache = 0
bytes_numbered (suc n) cache = bytes_numbered n cache + row_size (row_in n cache)
