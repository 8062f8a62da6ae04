use Rattle.std.proofs.Common.{◌≡◌, ◌++◌, drop}
use Rattle.jc_cli.specs.Program.{texts_lent, written_out}
use Rattle.jc_cli.proofs.explain.written_out.Given as goal

-- what was written, then what is left written out, is all
abbrev pub invariant-loop-i : goal.invariant-loop-i
invariant-loop-i l = texts_lent l.written.items ++ written_out (texts_lent (drop l.i l.words)) ≡ written_out (texts_lent l.words)
