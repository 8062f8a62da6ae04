use Rattle.std.proofs.Common.{drop, All}
use Rattle.jc_cli.specs.Program.{IsRowCount, texts_lent}
use Rattle.jc_cli.proofs.Parts.{IsSoFar}
use Rattle.jc_cli.proofs.capacities.read_parts.Given as goal

abbrev pub invariant-loop-part : goal.invariant-loop-part
invariant-loop-part l = record {
  so_far : IsSoFar (texts_lent l.parts) l.capacities.items (texts_lent (drop l.part-index l.parts));
  limits : All IsRowCount l.capacities.items;
}
