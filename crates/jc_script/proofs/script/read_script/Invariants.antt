use Rattle.std.proofs.Common.{◌≡◌, ◌≤◌, ◌+◌, length}
use Rattle.std.specs.List.{slice_split}
use Rattle.jc_script.specs.Script.{is_feed, lines_from, pieces_after}
use Rattle.jc_model.specs.Runs.{opened_from}
use Rattle.jc_script.specs.Live.{lives_in}
use Rattle.jc_script.proofs.Lines.{with_front, room}
use Rattle.jc_script.proofs.script.read_script.Given as goal

abbrev pub invariant-loop-left : goal.invariant-loop-left
invariant-loop-left l = record {
  few : l.number + room l.left ≤ length l.bytes + 1;
  exact : with_front l.lines.items (lines_from (lives_in l.live) (l.number + 1) (pieces_after l.left)) ≡ lines_from (opened_from 0 l.settings) 1 (slice_split is_feed l.bytes);
}

abbrev pub decreases-loop-left : goal.decreases-loop-left
decreases-loop-left l = room l.left
