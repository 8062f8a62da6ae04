use Rattle.std.proofs.Common.{◌≡◌, ◌++◌, [], length}
use Rattle.jc_script.specs.Calls.{calls_in_lines}
use Rattle.jc_threads.specs.Dealing.{AreUnderWay}
use Rattle.jc_threads.specs.Managing.{AreManaged}
use Rattle.jc_threads.proofs.rounds.take_all.Given as goal

abbrev pub invariant-loop-line : goal.invariant-loop-line
invariant-loop-line g l = record {
  all : l.yielded ++ l.line-iterator.rest.items ≡ l.fn.lines.items;
  counted : length l.crew.items ≡ length l.fn.crew.items;
  made : AreUnderWay g.N.Name.stated [] l.fn.crew.items → AreUnderWay g.N.Name.stated (calls_in_lines l.yielded) l.crew.items;
  managed : AreManaged g.N.Name.configs [] l.initial.refusals.items → AreManaged g.N.Name.configs l.yielded l.refusals.items;
}
