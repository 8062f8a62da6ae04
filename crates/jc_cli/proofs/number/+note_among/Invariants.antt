use Rattle.std.proofs.Common.{length}
use Rattle.jc_cli.proofs.number.+note_among.Given as goal

abbrev pub decreases-note_among : goal.decreases-note_among
decreases-note_among l = length l.words.now
