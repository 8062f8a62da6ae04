use Rattle.std.proofs.Common.{◌≡◌, ◌+◌, ◌++◌, ◌∷◌, [], List, take, refl, sym, ◌∙◌, ap, subst, arith}
use Rattle.std.proofs.lemmas.List.{take_more}
use Rattle.jc_model.specs.declared.event.Entry.{Entry}
use Rattle.jc_locked.specs.Accounts.{IsLeastFrom}
use Rattle.jc_locked.proofs.auditing.least_from.Goals as goal

pub loop-entry-preserved : goal.loop-entry-preserved
loop-entry-preserved c =
    let e = c.entry-item.result in
    let done = take c.loop-entry.entry-index c.args.entries.now in
    let more : take (c.loop-entry.entry-index + 1) c.args.entries.now ≡ done ++ e ∷ [] =
    take_more c.args.entries.now c.loop-entry.entry-index e (omega (arith, c.loop-entry-test.true)) ∙ ap (λ (x : Entry). done ++ x ∷ []) (sym c.entry-item.is) in
    subst (λ (es : List Entry). IsLeastFrom c.args.given es c.lesser_session-least.result) (sym more) (c.lesser_session-least.ensures done e refl c.loop-entry.invariant)
