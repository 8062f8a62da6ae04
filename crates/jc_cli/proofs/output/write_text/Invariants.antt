use Rattle.std.proofs.Common.{◌≡◌, List, ℕ, ◌++◌, length}
use Rattle.std.specs.Io.KnownBytes.{Appends}
use Rattle.jc_cli.proofs.output.write_text.Given as goal

abbrev pub invariant-loop-rest : goal.invariant-loop-rest
invariant-loop-rest g l = record {
  unfailed : l.writer.failures ≡ l.initial.writer.failures;
  written : (front : List ℕ) × (l.text ≡ front ++ l.rest) × Appends (g.W.Write.contents l.initial.writer.inner) (g.W.Write.contents l.writer.inner) front;
}

abbrev pub decreases-loop-rest : goal.decreases-loop-rest
decreases-loop-rest g l = length l.rest
