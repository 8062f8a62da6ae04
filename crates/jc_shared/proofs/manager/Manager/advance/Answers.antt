use Rattle.std.proofs.Common.{◌≡◌, List, [], ◌∷◌, ◌++◌, refl, sym, ◌∙◌, ap, subst}
use Rattle.jc_model.specs.declared.call.Notice.{Notice}
use Rattle.jc_model.specs.declared.event.Entry.{Entry}
use Rattle.jc_locked.specs.Calls.{IsSameCall}
use Rattle.jc_locked.specs.Serving.{told_behind, TellsListeners}
use Rattle.jc_engine.proofs.Recordings.{on_ok}
use Rattle.jc_shared.proofs.Carrying.{second_on_err, third_on_err, counts_none, counts_from, counts_since, counts_resumed, on_err, served_on, noted_waits, goes_stays, goes_untold, goes_unanswered}
use Rattle.jc_shared.proofs.manager.Manager.advance.Goals as goal

pub returns-in-Ok-resumed-clause-brought : goal.returns-in-Ok-resumed-clause-brought
returns-in-Ok-resumed-clause-brought g c =
    let noted = on_ok c.note_answer.result c.note_answer.ensures.ok (sym c.is_err.ensures.value ∙ c.if-is_err.false) in
    goes_stays g.N.Name.configs g.N.Name.stated c.note_answer.new.draft c.resume-resumed.new.draft c.resume-resumed.new.seat.pass c.in-Ok-resumed.step c.in-Ok-resumed.ensures.ok
    (noted_waits g.N.Name.stated c.args.draft.now c.keep_told.new.draft c.note_answer.new.draft (told_behind c.args.request c.args.draft.now.told) c.in-Ok.answer c.keep_told.ensures noted c.requires.asked.waits c.requires.asked.answered c.in-Ok.ensures.stated)

pub returns-then-is_err-clause-told : goal.returns-then-is_err-clause-told
returns-then-is_err-clause-told g c =
    let told = told_behind c.args.request c.args.draft.now.told in
    let same : c.note_answer.new.draft ≡ c.keep_told.new.draft = on_err c.note_answer.result c.note_answer.ensures.err (sym c.is_err.ensures.value ∙ c.if-is_err.true) in
    let kept : c.note_answer.new.draft.told ≡ told = ap (λ (e : Entry). e.told) same ∙ ap (λ (e : Entry). e.told) c.keep_told.ensures in
    let served = served_on g.K.FilteredListener.state_after g.W.Writer.may c.args.hooks.now c.answer.new.hooks c.args.request c.in-Ok.answer c.args.draft.now.told (c.tells_again.ensures c.if-tells_again.false) c.in-Ok.ensures.served in
    λ first h. c.give_up-then-is_err.ensures.told first (subst (λ (ns : List Notice). TellsListeners g.K.FilteredListener.state_after first c.answer.new.hooks ns) (sym kept) (served first h))

pub returns-in-Ok-resumed-clause-counted : goal.returns-in-Ok-resumed-clause-counted
returns-in-Ok-resumed-clause-counted g c =
    let noted = on_ok c.note_answer.result c.note_answer.ensures.ok (sym c.is_err.ensures.value ∙ c.if-is_err.false) in
    let kept = c.keep_told.new.draft in
    counts_resumed g.N.Name.configs c.args.seat.now.accepted c.resume-resumed.new.seat.accepted c.args.draft.now c.note_answer.new.draft c.resume-resumed.new.draft c.resume-resumed.new.seat.pass c.in-Ok.answer c.in-Ok-resumed.step
    c.in-Ok-resumed.ensures.ok (ap (λ (e : Entry). e.answers) noted ∙ ap (λ (e : Entry). e.answers ++ c.in-Ok.answer ∷ []) c.keep_told.ensures) (ap (λ (e : Entry). e.end) noted ∙ (ap (λ (e : Entry). e.end) c.keep_told.ensures ∙ c.requires.asked.waits)) c.requires.asked.waits c.in-Ok-resumed.ensures.accepted

pub returns-then-is_err-clause-counted : goal.returns-then-is_err-clause-counted
returns-then-is_err-clause-counted g c =
    let same : c.note_answer.new.draft ≡ c.keep_told.new.draft = on_err c.note_answer.result c.note_answer.ensures.err (sym c.is_err.ensures.value ∙ c.if-is_err.true) in
    let is : c.note_answer.new.draft ≡ record c.args.draft.now { told = told_behind c.args.request c.args.draft.now.told } = same ∙ c.keep_told.ensures in
    counts_from c.args.seat.now.accepted c.give_up-then-is_err.new.seat.accepted c.args.draft.now c.note_answer.new.draft c.give_up-then-is_err.new.draft (ap (λ (e : Entry). e.answers) is) (ap (λ (e : Entry). e.end) is) c.give_up-then-is_err.ensures.counted

pub returns-in-Err-OutOfMemory-clause-counted : goal.returns-in-Err-OutOfMemory-clause-counted
returns-in-Err-OutOfMemory-clause-counted g c =
    let noted = on_ok c.note_answer.result c.note_answer.ensures.ok (sym c.is_err.ensures.value ∙ c.if-is_err.false) in
    let same : c.resume-resumed.new.draft ≡ c.note_answer.new.draft = second_on_err _ _ _ c.resume-resumed.result _ c.in-Err-OutOfMemory.is c.resume-resumed.ensures.same in
    let back = c.take_back.ensures.taken c.keep_told.new.draft.answers c.in-Ok.answer (ap (λ (e : Entry). e.answers) (same ∙ noted)) in
    let is : c.take_back.new.draft ≡ record c.args.draft.now { told = told_behind c.args.request c.args.draft.now.told } =
    back ∙ (ap (λ (e : Entry). record e { answers = c.keep_told.new.draft.answers }) (same ∙ noted) ∙ c.keep_told.ensures) in
    let seat = third_on_err _ _ _ c.resume-resumed.result _ c.in-Err-OutOfMemory.is c.resume-resumed.ensures.same in
    counts_since c.args.seat.now.accepted c.resume-resumed.new.seat.accepted c.give_up-in-Err-OutOfMemory.new.seat.accepted c.args.draft.now c.take_back.new.draft c.give_up-in-Err-OutOfMemory.new.draft (ap (λ s. s.accepted) seat) (ap (λ (e : Entry). e.answers) is) (ap (λ (e : Entry). e.end) is) c.give_up-in-Err-OutOfMemory.ensures.counted

pub returns-in-Err-OutOfMemory-clause-told : goal.returns-in-Err-OutOfMemory-clause-told
returns-in-Err-OutOfMemory-clause-told g c =
    let told = told_behind c.args.request c.args.draft.now.told in
    let noted = on_ok c.note_answer.result c.note_answer.ensures.ok (sym c.is_err.ensures.value ∙ c.if-is_err.false) in
    let same : c.resume-resumed.new.draft ≡ c.note_answer.new.draft = second_on_err _ _ _ c.resume-resumed.result _ c.in-Err-OutOfMemory.is c.resume-resumed.ensures.same in
    let back = c.take_back.ensures.taken c.keep_told.new.draft.answers c.in-Ok.answer (ap (λ (e : Entry). e.answers) (same ∙ noted)) in
    let kept : c.take_back.new.draft.told ≡ told = ap (λ (e : Entry). e.told) back ∙ ap (λ (e : Entry). e.told) (same ∙ noted) ∙ ap (λ (e : Entry). e.told) c.keep_told.ensures in
    let served = served_on g.K.FilteredListener.state_after g.W.Writer.may c.args.hooks.now c.answer.new.hooks c.args.request c.in-Ok.answer c.args.draft.now.told (c.tells_again.ensures c.if-tells_again.false) c.in-Ok.ensures.served in
    λ first h. c.give_up-in-Err-OutOfMemory.ensures.told first (subst (λ (ns : List Notice). TellsListeners g.K.FilteredListener.state_after first c.answer.new.hooks ns) (sym kept) (served first h))

pub returns-in-Err : goal.returns-in-Err
returns-in-Err g c =
    let draft = c.args.draft.now in
    let told = told_behind c.args.request draft.told in
    let held = c.keep_told.new.draft in
    let new = c.take_back-in-Err.new.draft in
    let noted = on_ok c.note_answer.result c.note_answer.ensures.ok (sym c.is_err.ensures.value ∙ c.if-is_err.false) in
    let same : c.resume-resumed.new.draft ≡ record held { answers = held.answers ++ c.in-Ok.answer ∷ [] } = c.in-Err.ensures.same.1 ∙ noted in
    let back : new ≡ record draft { told = told } =
    c.take_back-in-Err.ensures.taken held.answers c.in-Ok.answer (ap (λ (e : Entry). e.answers) same) ∙ (ap (λ (e : Entry). record e { answers = held.answers }) same ∙ c.keep_told.ensures) in
    let served = served_on g.K.FilteredListener.state_after g.W.Writer.may c.args.hooks.now c.answer.new.hooks c.args.request c.in-Ok.answer draft.told (c.tells_again.ensures c.if-tells_again.false) c.in-Ok.ensures.served in
    record {
      same = subst (IsSameCall draft) (sym back) refl;
      served = tt;
      stated = tt;
      kept = ap (λ (e : Entry). e.answers) back;
      brought = ap (λ (e : Entry). e.end) back ∙ c.requires.asked.waits;
      number = c.resume-resumed.ensures.number;
      counted = counts_none c.args.seat.now.accepted c.resume-resumed.new.seat.accepted draft new told (ap (λ s. s.accepted) c.in-Err.ensures.same.2) back;
      front = c.resume-resumed.ensures.front;
      told = λ first h. subst (λ (ns : List Notice). TellsListeners g.K.FilteredListener.state_after first c.answer.new.hooks ns) (sym (ap (λ (e : Entry). e.told) back)) (served first h);
    }

pub returns-in-Ok-resumed-clause-told : goal.returns-in-Ok-resumed-clause-told
returns-in-Ok-resumed-clause-told g c =
    let told = told_behind c.args.request c.args.draft.now.told in
    let noted = on_ok c.note_answer.result c.note_answer.ensures.ok (sym c.is_err.ensures.value ∙ c.if-is_err.false) in
    let kept : c.resume-resumed.new.draft.told ≡ told =
    goes_untold g.N.Name.configs c.note_answer.new.draft c.resume-resumed.new.draft c.resume-resumed.new.seat.pass c.in-Ok-resumed.step c.in-Ok-resumed.ensures.ok ∙ ap (λ (e : Entry). e.told) noted ∙ ap (λ (e : Entry). e.told) c.keep_told.ensures in
    let served = served_on g.K.FilteredListener.state_after g.W.Writer.may c.args.hooks.now c.answer.new.hooks c.args.request c.in-Ok.answer c.args.draft.now.told (c.tells_again.ensures c.if-tells_again.false) c.in-Ok.ensures.served in
    λ first h. subst (λ (ns : List Notice). TellsListeners g.K.FilteredListener.state_after first c.answer.new.hooks ns) (sym kept) (served first h)

pub returns-in-Ok-resumed-clause-stated : goal.returns-in-Ok-resumed-clause-stated
returns-in-Ok-resumed-clause-stated g c =
    let noted = on_ok c.note_answer.result c.note_answer.ensures.ok (sym c.is_err.ensures.value ∙ c.if-is_err.false) in
    record {
      answer = c.in-Ok.answer;
      stated = c.in-Ok.ensures.exact;
      added = goes_unanswered g.N.Name.configs c.note_answer.new.draft c.resume-resumed.new.draft c.resume-resumed.new.seat.pass c.in-Ok-resumed.step c.in-Ok-resumed.ensures.ok ∙ ap (λ (e : Entry). e.answers) noted
          ∙ ap (λ (e : Entry). e.answers ++ c.in-Ok.answer ∷ []) c.keep_told.ensures;
    }

pub returns-in-Ok-resumed-clause-served : goal.returns-in-Ok-resumed-clause-served
returns-in-Ok-resumed-clause-served g c =
    let noted = on_ok c.note_answer.result c.note_answer.ensures.ok (sym c.is_err.ensures.value ∙ c.if-is_err.false) in
    record {
      answer = c.in-Ok.answer;
      fits = c.in-Ok.ensures.fits;
      serves = c.in-Ok.ensures.served;
      added = goes_unanswered g.N.Name.configs c.note_answer.new.draft c.resume-resumed.new.draft c.resume-resumed.new.seat.pass c.in-Ok-resumed.step c.in-Ok-resumed.ensures.ok ∙ ap (λ (e : Entry). e.answers) noted
          ∙ ap (λ (e : Entry). e.answers ++ c.in-Ok.answer ∷ []) c.keep_told.ensures;
    }
