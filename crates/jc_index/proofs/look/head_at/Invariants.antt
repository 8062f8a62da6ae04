use Rattle.std.proofs.Common.{◌≡◌, ◌/◌, ◌≤◌, ℕ, suc, List, take, slice_index, false}
use Rattle.jc_index.specs.Stripes.{IsOneOf, glance_of}
use Rattle.jc_index.specs.Layout.{bucket_slots, slot_place, stripe_of}
use Rattle.jc_index.specs.Spelling.{words_at}
use Rattle.jc_index.specs.Passes.{IsNoted}
use Rattle.jc_index.proofs.look.head_at.Given as goal

-- the first words are those of the key
abbrev pub invariant-loop-k : goal.invariant-loop-k
invariant-loop-k g l = record {
  same : l.reader.seat.table_id ≡ l.fn.reader.seat.table_id;
  young : (glance_of l.reader.seat.me.0).settled ≡ false;
  few : l.k ≤ l.sought.count;
  noted : (js : List ℕ) → IsOneOf (stripe_of (l.slot / bucket_slots)) js → IsNoted js l.fn.reader.seat l.reader.seat (λ words. (l.head ≡ slice_index words (slot_place l.slot)) × (take l.k l.sought.words ≡ words_at words (suc (slot_place l.slot)) l.k));
}
