use Rattle.std.proofs.Common.{◌≡◌, ◌+◌, drop}
use Rattle.jc_cli.specs.NoText.{no_text_from}
use Rattle.jc_cli.specs.Program.{texts_lent}
use Rattle.jc_cli.proofs.no_text.first_no_text.Given as goal

-- the first among those that are left is the first of all
abbrev pub invariant-loop-i : goal.invariant-loop-i
invariant-loop-i l = no_text_from 1 (texts_lent l.words) ≡ no_text_from (l.i + 1) (texts_lent (drop l.i l.words))
