use Rattle.std.proofs.Common.{◌≡◌, ℕ, ◌*◌, ◌<◌, take, get_or, Option}
use Rattle.jc_cuckoo.specs.declared.held.Held.{Held}
use Rattle.jc_index.specs.Layout.{slot_words}
use Rattle.jc_index.specs.Spelling.{IsCoded}
use Rattle.jc_index.specs.Batches.{shown_by_write, slot_batch}
use Rattle.jc_index.proofs.change.batch_of.Given as goal

abbrev pub invariant-loop-i : goal.invariant-loop-i
invariant-loop-i l = (take l.batch.length l.batch.writes ≡ slot_batch (take l.i l.writes)) × (l.batch.length ≡ slot_words * l.i) × ((k : ℕ) (d : ℕ × Option Held) → k < l.i → IsCoded (shown_by_write (get_or l.writes k d)))
