use Rattle.std.proofs.Common.{◌≡◌, ◌≤◌, ◌*◌, take, sum}
use Rattle.jc_engine.proofs.Names.{capacities}
use Rattle.jc_engine.proofs.open.total_capacity.Given as goal

abbrev pub invariant-loop-config : goal.invariant-loop-config
invariant-loop-config l = record {
  total : l.total ≡ sum (capacities (take l.config-index l.configs));
  bound : l.total ≤ 4294967296 * l.config-index;
}
