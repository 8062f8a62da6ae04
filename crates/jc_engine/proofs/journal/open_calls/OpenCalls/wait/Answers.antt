use Rattle.std.proofs.Common.{◌≡◌, ◌∙◌, ap, sym, subst, rules, Some, nat_eq}
use Rattle.jc_engine.proofs.Names.{get, Entry, with_outcome, step_of, Stepped}
use Rattle.jc_engine.specs.Recording.{CanTell}
use Rattle.jc_engine.specs.declared.journal.open_call.OpenCall.{OpenCall}
use Rattle.jc_engine.proofs.Numbered.{puts_for}
use Rattle.jc_engine.proofs.Opens.{kept_call, stays_open, waits_on}
use Rattle.jc_engine.proofs.journal.open_calls.OpenCalls.wait.Goals as goal

pub invariant_of-self : goal.invariant_of-self
invariant_of-self c =
    let old = c.args.self.now in
    let at : get nat_eq old.waiting c.args.id ≡ Some c.in-Some.call.now = sym (rw c.number-number.ensures at c.in-Some.ensures.value) in
    let stands = old.are_open.each c.args.id c.in-Some.call.now at in
    let same = kept_call old.past.history (get nat_eq old.waiting) c.args.id c.requires.kept.0 c.requires.kept.1 c.in-Some.call.now at stands c.requires.kept.2 in
    let can : CanTell c.args.advance c.in-Some.call.now.entry = subst (CanTell c.args.advance) (sym same.1) c.requires.kept.3 in
    let written : c.write_outcome-shown.new.entry ≡ with_outcome (Stepped (step_of c.args.advance)) c.in-Some.call.now.entry = c.write_outcome-shown.ensures.written stands.waits can in
    let after : OpenCall = record { place = c.in-Some.call.now.place; entry = c.write_outcome-shown.new.entry } in
    record {
      are_open = stays_open old.past.history old.begun (get nat_eq old.waiting) old.are_open c.set.new.self.history c.args.id c.in-Some.call.now c.write_outcome-shown.new.entry at c.set.ensures
          (ap (λ (e : Entry). e.id) written ∙ stands.own) (get nat_eq (c.get_mut.follows.lender after)) (puts_for _ _ _ c.number-number.ensures ((c.get_mut.follows.holds after).3 (search rules)).0)
          (ap (λ (e : Entry). e.end) written ∙ waits_on c.args.advance c.requires.waits);
    }
