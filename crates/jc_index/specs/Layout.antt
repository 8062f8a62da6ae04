-- How the words of a table are laid: the versions, the stash's count, and then the slots, bucket by bucket.
use Rattle.std.specs.Prelude.{ℕ, ◌+◌, ◌*◌, ◌%◌}
use Rattle.jc_model.specs.Limits.{key_words}
use Rattle.jc_index.specs.StripeLayout.{stripe_count, version_count}

-- a slot has the cache's number, the key's words, and the moment at which the row expires
abbrev pub slot_words : ℕ
slot_words = key_words + 2

-- where the moment stands in a slot
abbrev pub moment_place : ℕ
moment_place = key_words + 1

abbrev pub bucket_slots : ℕ
bucket_slots = 4

abbrev pub bucket_words : ℕ
bucket_words = bucket_slots * slot_words

-- before the first slot: the versions, and the stash's count
abbrev pub header_words : ℕ
header_words = version_count + 1

-- of so many buckets
abbrev pub table_words : ℕ → ℕ
table_words buckets = header_words + bucket_words * buckets

-- where a slot begins, behind the versions: the stash's count is before the slots
abbrev pub slot_place : ℕ → ℕ
slot_place slot = slot_words * slot + 1

-- the stripe of a bucket
abbrev pub stripe_of : ℕ → ℕ
stripe_of bucket = bucket % stripe_count

-- the most words that a commit sets: those of two slots, and the count
abbrev pub most_writes : ℕ
most_writes = 2 * slot_words + 1
