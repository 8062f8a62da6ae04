use Rattle.std.proofs.Common.{◌≡◌, ◌+◌, ◌-◌, ◌*◌, ◌≤◌, List, ℕ, drop, false}
use Rattle.jc_index.specs.Stripes.{IsOneOf, glance_of}
use Rattle.jc_index.specs.Layout.{bucket_slots, stripe_of}
use Rattle.jc_index.specs.Spelling.{key_of_words}
use Rattle.jc_index.specs.Found.{first_seen}
use Rattle.jc_index.specs.Passes.{IsNoted, IsSpeltIn, slots_in_bucket}
use Rattle.jc_index.proofs.look.look_bucket.Given as goal

-- the first slots do not hold the key
abbrev pub invariant-loop-slot : goal.invariant-loop-slot
invariant-loop-slot g l = record {
  same : l.reader.seat.table_id ≡ l.fn.reader.seat.table_id;
  young : (glance_of l.reader.seat.me.0).settled ≡ false;
  start : bucket_slots * l.bucket ≤ l.slot;
  few : l.slot ≤ bucket_slots * l.bucket + bucket_slots;
  noted : (js : List ℕ) → IsOneOf (stripe_of l.bucket) js
      → IsNoted js l.fn.reader.seat l.reader.seat (λ words. IsSpeltIn words l.bucket → first_seen l.sought.id (key_of_words l.sought.words) l.sought.moment (slots_in_bucket words l.bucket) ≡ first_seen l.sought.id (key_of_words l.sought.words) l.sought.moment (drop (l.slot - bucket_slots * l.bucket) (slots_in_bucket words l.bucket)));
}
