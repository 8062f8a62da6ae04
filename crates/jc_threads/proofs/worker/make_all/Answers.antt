use Rattle.std.proofs.Common.{◌∙◌, ◌++◌, ◌∷◌, [], List, sym, ap, subst, append_assoc, append-nil}
use Rattle.std.proofs.lemmas.Result.{on_ok_weaker}
use Rattle.jc_script.specs.declared.line.LineCall.{LineCall}
use Rattle.jc_threads.specs.Batches.{calls_in_batches}
use Rattle.jc_threads.specs.Dealing.{IsAtWork}
use Rattle.jc_threads.proofs.Batched.{flat, batch_more, last_behind}
use Rattle.jc_threads.proofs.worker.make_all.Goals as goal

pub loop-batch-init : goal.loop-batch-init
loop-batch-init g c = record {
  all = ap (λ (bs : List (List LineCall)). calls_in_batches bs c.lines.inside.last.items) c.into_iter-batch-iterator.ensures.into_iter_gives.0 ∙ c.lines.view_is;
  made = λ worker done first. subst (λ (ls : List LineCall). IsAtWork g.N.Name.stated c.args.workers worker ls c.args.sessions.now) (sym (append-nil done)) first;
}

pub loop-batch-preserved : goal.loop-batch-preserved
loop-batch-preserved g c = record {
  all = ap (λ (bs : List (List LineCall)). calls_in_batches bs c.lines.inside.last.items)
      (append_assoc c.loop-batch.yielded (c.in-Some.batch ∷ []) c.next.new.self.rest.items ∙ ap (λ (bs : List (List LineCall)). c.loop-batch.yielded ++ bs) (sym c.in-Some.ensures.steps.0)) ∙ c.loop-batch.invariant.all;
  made = λ worker done first.
      subst (λ (ls : List LineCall). IsAtWork g.N.Name.stated c.args.workers worker ls c.make_batch.new.sessions) (batch_more done c.loop-batch.yielded c.in-Some.batch c.into_items.result.items c.into_items.ensures)
      (c.in_ok-make_batch.ensures worker (done ++ flat c.loop-batch.yielded) (c.loop-batch.invariant.made worker done first));
}

pub returns : goal.returns
returns g c =
    on_ok_weaker c.make_batch-2.result (λ made worker done first.
    subst (λ (ls : List LineCall). IsAtWork g.N.Name.stated c.args.workers worker ls c.make_batch-2.new.sessions)
    (last_behind done c.loop-batch.yielded c.loop-batch.batch-iterator.rest.items c.lines.inside.last.items c.args.lines (sym c.loop-batch.batch-iterator.rest.ok.0 ∙ c.in-None.ensures.steps.0) c.loop-batch.invariant.all)
    (made worker (done ++ flat c.loop-batch.yielded) (c.loop-batch.invariant.made worker done first))) c.make_batch-2.ensures
