use Rattle.std.proofs.Common.{List, []}
use Rattle.std.specs.Vec.Iter.{into_iter_items}
use Rattle.jc_hooks.specs.declared.cache_hooks.CacheHooks.{CacheHooks}
use Rattle.jc_model.specs.declared.config.CacheConfig.{CacheConfig}
use Rattle.jc_script.specs.declared.line.Line.{Line}
use Rattle.jc_script.specs.Named.{AllName}
use Rattle.jc_runner.specs.Halfway.{lives_now, as_read, IsAtRest, Halfway}
use Rattle.jc_runner.specs.Hooks.{AreKept}
use Rattle.jc_runner.proofs.serial_run.lines.run_all.Given as goal

abbrev pub invariant-loop-line : goal.invariant-loop-line
invariant-loop-line g l = record {
  halfway : (caches : List CacheConfig) (handed : List (CacheHooks g.row.L.Denot g.row.W.Denot g.row.P.Denot g.row.K.Denot)) (all : List Line)
      → Halfway g.L.Loader.load_of g.W.Writer.may g.P.Processor.verdict_of g.K.FilteredListener.state_after caches handed all l.fn.lines.items l.initial.recorded l.initial.hooks []
      → Halfway g.L.Loader.load_of g.W.Writer.may g.P.Processor.verdict_of g.K.FilteredListener.state_after caches handed all (into_iter_items l.line-iterator) l.recorded l.hooks l.managed.items;
  rest : IsAtRest l.recorded;
  kept : AreKept l.initial.hooks l.hooks;
  named : AllName (as_read (lives_now l.recorded)) (into_iter_items l.line-iterator);
}
