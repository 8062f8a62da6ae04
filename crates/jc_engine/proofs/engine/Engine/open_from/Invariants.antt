use Rattle.std.proofs.Common.{◌≡◌, ◌++◌}
use Rattle.jc_engine.proofs.Names.{fresh_from}
use Rattle.jc_engine.proofs.engine.Engine.open_from.Given as goal

abbrev pub invariant-loop-config : goal.invariant-loop-config
invariant-loop-config g l = record {
  made : l.engine ≡ fresh_from l.fn.first l.yielded;
  all : l.yielded ++ l.config-iterator.rest.items ≡ l.fn.configs.items;
}
