-- One answer more, where a call waits for it, and calls that have replied.
use Rattle.std.proofs.Common.{◌≡◌, false, IsTrue, List, [], ◌∷◌, ◌++◌, refl, sym, ap, ◌∙◌, subst, append-nil}
use Rattle.std.proofs.lemmas.Bool.{false≢true}
use Rattle.jc_model.specs.declared.call.Answer.{Answer}
use Rattle.jc_model.specs.declared.call.Notice.{Notice}
use Rattle.jc_model.specs.declared.call.Reply.{Reply}
use Rattle.jc_model.specs.declared.call.Request.{Request}
use Rattle.jc_model.specs.declared.event.End.{End}
use Rattle.jc_model.specs.declared.event.End.TheVariants.{Waiting}
use Rattle.jc_model.specs.declared.event.Entry.{Entry}
use Rattle.jc_model.specs.declared.event.Outcome.TheVariants.{Step}
use Rattle.jc_model.specs.declared.event.Step.TheVariants.{Done, Need}
use Rattle.jc_model.specs.Changes.{Progress}
use Rattle.jc_model.specs.Run.{Run, ended, waiting, resume, answered, awaits, is_answer_to}
use Rattle.jc_model.specs.Runs.{shown}
use Rattle.jc_model.specs.Legal.{Fits, told_now, told_in, told_with, end_by, with_outcome, with_answer}
use Rattle.jc_model.proofs.Resume.{answered-append, told-answer}
use Rattle.jc_runner.specs.Alone.{exchanges_of_call, end_of, entry_by}
use Rattle.jc_script.specs.declared.line.LineCall.{LineCall}

pub record Waits (run : Run) (q : Request) : Type 0 where
  pub meanwhile : Progress
  pub resumed : Answer → Run
  pub is : run ≡ waiting q meanwhile resumed

pub waits_for : (run : Run) (q : Request) → shown run ≡ Step (Need q) → Waits run q
waits_for (ended p r) q e = absurd cc
waits_for (waiting q' p resumed) q e = let same : q' ≡ q = cc in record { meanwhile = p; resumed = resumed; is = ap (λ (x : Request). waiting x p resumed) same }

pub awaits-need : (run : Run) (q : Request) (a : Answer) → shown run ≡ Step (Need q) → IsTrue (is_answer_to q a) → IsTrue (awaits run a)
awaits-need run q a e h = let w : Waits run q = waits_for run q e in subst (λ (x : Run). IsTrue (awaits x a)) (sym w.is) h

pub exchanged-nil : (run : Run) → exchanges_of_call run [] ≡ []
exchanged-nil (ended p r) = refl
exchanged-nil (waiting q p resumed) = refl

pub exchanged-push : (run : Run) (answers : List Answer) (a : Answer) (q : Request) → Fits run answers → shown (answered run answers) ≡ Step (Need q) → exchanges_of_call run (answers ++ a ∷ []) ≡ exchanges_of_call run answers ++ (q, a) ∷ []
exchanged-push (ended p r) [] a q fit e = absurd cc
exchanged-push (ended p r) (b ∷ rest) a q fit e = absurd (false≢true fit.0)
exchanged-push (waiting q' p resumed) [] a q fit e =
    let same : q' ≡ q = cc in
    ap (λ (xs : List (Request × Answer)). (q', a) ∷ xs) (exchanged-nil (resumed a)) ∙ ap (λ (x : Request). (x, a) ∷ []) same
exchanged-push (waiting q' p resumed) (b ∷ rest) a q fit e = ap (λ (xs : List (Request × Answer)). (q', b) ∷ xs) (exchanged-push (resumed b) rest a q fit.1 e)

end-shown : (run : Run) → end_by (shown run) ≡ end_of run
end-shown (ended p r) = refl
end-shown (waiting q p resumed) = refl

told-shown : (told : List Notice) (run : Run) → told_with told (shown run) ≡ told ++ told_now run
told-shown told (ended p r) = sym (append-nil told)
told-shown told (waiting q p resumed) = refl

pub entry-push : (l : LineCall) (run : Run) (answers : List Answer) (a : Answer)
    → with_outcome (shown (resume (answered run answers) a)) (with_answer a (entry_by l run answers)) ≡ entry_by l run (answers ++ a ∷ [])
entry-push l run answers a =
    let next : Run = resume (answered run answers) a in
    let made : List Notice → End → Entry = λ ns end. record { session = l.session; id = l.id; at = l.at; call = l.call; answers = answers ++ a ∷ []; told = ns; end = end } in
    ap (λ (ns : List Notice). made ns (end_by (shown next))) (told-shown (told_in run answers false) next ∙ sym (told-answer run answers a))
    ∙ ap (λ (end : End). made (told_in run (answers ++ a ∷ []) false) end) (end-shown next ∙ ap end_of (sym (answered-append run answers a)))

-- at first there are none
pub entry-first : (l : LineCall) (run : Run) → with_outcome (shown run) (record { session = l.session; id = l.id; at = l.at; call = l.call; answers = []; told = []; end = Waiting }) ≡ entry_by l run []
entry-first l (ended p r) = refl
entry-first l (waiting q p resumed) = refl

pub record Ends (run : Run) (reply : Reply) : Type 0 where
  pub finally : Progress
  pub is : run ≡ ended finally reply

pub ends_with : (run : Run) (reply : Reply) → shown run ≡ Step (Done reply) → Ends run reply
ends_with (ended p r) reply e = let same : r ≡ reply = cc in record { finally = p; is = ap (λ (x : Reply). ended p x) same }
ends_with (waiting q p resumed) reply e = absurd cc
