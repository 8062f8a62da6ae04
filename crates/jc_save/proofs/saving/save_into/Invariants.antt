use Rattle.std.proofs.Common.{◌≡◌, ◌+◌, ◌*◌, ◌≤◌, ◌++◌, length, take}
use Rattle.std.specs.List.{flat_map}
use Rattle.jc_save.specs.Placing.{put_at, piece_bytes, row_bytes}
use Rattle.jc_save.specs.Restoring.{items}
use Rattle.jc_save.specs.Spelling.{head, row}
use Rattle.jc_save.proofs.saving.save_into.Given as goal

-- the head and the rows so far are written
abbrev pub invariant-loop-row : goal.invariant-loop-row
invariant-loop-row l =
    let done = head l.fn.cache.config l.fn.cache.counts (length l.fn.cache.rows) ++ flat_map row (items (take l.row-index l.rows)) in
    record {
      place : l.at ≡ length done;
      few : l.at ≤ piece_bytes + row_bytes * l.row-index;
      out : l.out ≡ put_at 0 done l.fn.out;
    }
