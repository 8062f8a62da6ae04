use Rattle.std.proofs.Common.{◌∙◌, ◌++◌, ◌∷◌, [], List, sym, ap, subst, append_assoc, append-nil}
use Rattle.std.proofs.lemmas.Grind.{flat_map-append}
use Rattle.jc_script.specs.Calls.{call_in, calls_in_lines}
use Rattle.jc_script.specs.declared.line.Line.{Line}
use Rattle.jc_script.specs.declared.line.LineCall.{LineCall}
use Rattle.jc_threads.specs.Dealing.{AreUnderWay}
use Rattle.jc_threads.proofs.rounds.take_all.Goals as goal

pub loop-line-preserved : goal.loop-line-preserved
loop-line-preserved g c =
    let l = c.in-Some.line in
    let before = c.loop-line.yielded in
    record {
      all = append_assoc before (l ∷ []) c.next.new.self.rest.items ∙ (ap (λ (ls : List Line). before ++ ls) (sym c.in-Some.ensures.steps.0) ∙ c.loop-line.invariant.all);
      counted = c.in_ok-crew.ensures.counted ∙ c.loop-line.invariant.counted;
      made = λ first.
          subst (λ (ls : List LineCall). AreUnderWay g.N.Name.stated ls c.in_ok-crew.crew.items)
          (sym (flat_map-append call_in before (l ∷ []) ∙ ap (λ (ls : List LineCall). calls_in_lines before ++ ls) (append-nil (call_in l))))
          (c.in_ok-crew.ensures.made (calls_in_lines before) (c.loop-line.invariant.made first));
      managed = λ first. c.in_ok-crew.ensures.managed before (c.loop-line.invariant.managed first);
    }
