use Rattle.std.proofs.Common.{◌∙◌, ◌++◌, ◌∷◌, [], List, sym, ap, subst, append_assoc}
use Rattle.jc_script.specs.declared.line.LineCall.{LineCall}
use Rattle.jc_threads.specs.Dealing.{IsAtWork}
use Rattle.jc_threads.proofs.Lists.{all_taken}
use Rattle.jc_threads.proofs.worker.make_batch.Goals as goal

pub loop-line-preserved : goal.loop-line-preserved
loop-line-preserved g c = record {
  all = append_assoc c.loop-line.yielded (c.in-Some.line ∷ []) c.next.new.self.rest.items ∙ (ap (λ (ls : List LineCall). c.loop-line.yielded ++ ls) (sym c.in-Some.ensures.steps.0) ∙ c.loop-line.invariant.all);
  made = λ worker done first.
      subst (λ (ls : List LineCall). IsAtWork g.N.Name.stated c.args.workers worker ls c.make_line.new.sessions) (append_assoc done c.loop-line.yielded (c.in-Some.line ∷ []))
      (c.in_ok-make_line.ensures.made worker (done ++ c.loop-line.yielded) (c.loop-line.invariant.made worker done first));
}

pub returns : goal.returns
returns g c =
    let all = all_taken c.loop-line.yielded c.loop-line.line-iterator.rest.items c.args.lines.items c.loop-line.invariant.all (sym c.loop-line.line-iterator.rest.ok.0 ∙ c.in-None.ensures.steps.0) in
    λ worker done first. subst (λ (ls : List LineCall). IsAtWork g.N.Name.stated c.args.workers worker (done ++ ls) c.loop-line.sessions) all (c.loop-line.invariant.made worker done first)
