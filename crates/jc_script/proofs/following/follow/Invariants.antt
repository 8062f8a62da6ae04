use Rattle.std.proofs.Common.{◌≡◌, ◌++◌, drop}
use Rattle.jc_script.specs.Live.{lives_in}
use Rattle.jc_script.specs.Managing.{lives_begun_from, managed_from, lives_of_script, managed_of}
use Rattle.jc_script.specs.Named.{AllName}
use Rattle.jc_script.proofs.following.follow.Given as goal

abbrev pub invariant-loop-line : goal.invariant-loop-line
invariant-loop-line l = record {
  lives : l.lives.items ++ lives_begun_from (lives_in l.live) (drop l.line-index l.lines) ≡ lives_of_script l.settings l.lines;
  managed : l.managed.items ++ managed_from (lives_in l.live) (drop l.line-index l.lines) ≡ managed_of l.settings l.lines;
  named : AllName (lives_in l.live) (drop l.line-index l.lines);
}
