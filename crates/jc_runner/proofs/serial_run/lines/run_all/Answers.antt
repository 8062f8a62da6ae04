use Rattle.std.proofs.Common.{subst, sym, ◌∙◌, List}
use Rattle.std.specs.Vec.Iter.{into_iter_items}
use Rattle.jc_script.specs.declared.line.Line.{Line}
use Rattle.jc_script.specs.Named.{AllName}
use Rattle.jc_runner.specs.Halfway.{lives_now, as_read, Halfway}
use Rattle.jc_runner.proofs.Lines.{line_follows, one_line_more, named_next, none_left}
use Rattle.jc_runner.proofs.serial_run.lines.run_all.Goals as goal

pub run_line-requires-clause-rest : goal.run_line-requires-clause-rest
run_line-requires-clause-rest g c = λ _ _. c.loop-line.invariant.rest

pub run_line-requires-clause-named : goal.run_line-requires-clause-named
run_line-requires-clause-named g c = λ _ _. (subst (AllName (as_read (lives_now c.loop-line.recorded))) c.in-Some.ensures.steps.0 c.loop-line.invariant.named).0

pub loop-line-preserved : goal.loop-line-preserved
loop-line-preserved g c =
    let named = subst (AllName (as_read (lives_now c.loop-line.recorded))) c.in-Some.ensures.steps.0 c.loop-line.invariant.named in
    let follows = line_follows g.L.Loader.load_of g.W.Writer.may g.P.Processor.verdict_of g.K.FilteredListener.state_after c.loop-line.recorded c.run_line.new.recorded c.loop-line.hooks c.run_line.new.hooks c.in-Some.line c.loop-line.invariant.rest named.0 c.in_ok-run_line.ensures.ran in
    record {
      halfway = λ caches handed all first.
          one_line_more g.L.Loader.load_of g.W.Writer.may g.P.Processor.verdict_of g.K.FilteredListener.state_after handed all _ c.loop-line.recorded c.run_line.new.recorded c.loop-line.hooks c.run_line.new.hooks c.loop-line.invariant.rest caches c.in-Some.line c.loop-line.managed.items
          c.run_line.new.managed.items c.in_ok-run_line.ensures.managed named.0 c.in_ok-run_line.ensures.ran
          (subst (λ (rest : List Line). Halfway g.L.Loader.load_of g.W.Writer.may g.P.Processor.verdict_of g.K.FilteredListener.state_after caches handed all rest c.loop-line.recorded c.loop-line.hooks c.loop-line.managed.items) c.in-Some.ensures.steps.0
          (c.loop-line.invariant.halfway caches handed all first));
      rest = follows.rest;
      kept = c.run_line.ensures.kept ∙ c.loop-line.invariant.kept;
      named = named_next c.loop-line.recorded c.run_line.new.recorded c.in-Some.line _ follows named;
    }

pub returns-clause-done : goal.returns-clause-done
returns-clause-done g c = λ caches handed all first.
    let left : List Line = into_iter_items c.loop-line.line-iterator in
    subst (λ (rest : List Line). Halfway g.L.Loader.load_of g.W.Writer.may g.P.Processor.verdict_of g.K.FilteredListener.state_after caches handed all rest c.loop-line.recorded c.loop-line.hooks c.loop-line.managed.items) (none_left left (sym c.loop-line.line-iterator.rest.ok.0 ∙ c.in-None.ensures.steps.0))
    (c.loop-line.invariant.halfway caches handed all first)
