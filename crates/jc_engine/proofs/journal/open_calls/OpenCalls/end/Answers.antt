use Rattle.std.proofs.Common.{◌≡◌, ◌∙◌, ap, sym, subst, Some, nat_eq}
use Rattle.jc_engine.proofs.Names.{get, Entry, with_outcome, step_of, Stepped}
use Rattle.jc_engine.specs.Recording.{CanTell}
use Rattle.jc_engine.proofs.Numbered.{puts_for}
use Rattle.jc_engine.proofs.Opens.{kept_call, goes_open}
use Rattle.jc_engine.proofs.journal.open_calls.OpenCalls.end.Goals as goal

pub invariant_of-self : goal.invariant_of-self
invariant_of-self c =
    let old = c.args.self.now in
    let at : get nat_eq old.waiting c.args.id ≡ Some c.in-Some.call = sym (rw c.number-number.ensures at c.in-Some.ensures.value) in
    let stands = old.are_open.each c.args.id c.in-Some.call at in
    let same = kept_call old.past.history (get nat_eq old.waiting) c.args.id c.requires.kept.0 c.requires.kept.1 c.in-Some.call at stands c.requires.kept.2 in
    let can : CanTell c.args.advance c.in-Some.call.entry = subst (CanTell c.args.advance) (sym same.1) c.requires.kept.3 in
    let written : c.write_outcome-shown.new.entry ≡ with_outcome (Stepped (step_of c.args.advance)) c.in-Some.call.entry = c.write_outcome-shown.ensures.written stands.waits can in
    record {
      are_open = goes_open old.past.history old.begun (get nat_eq old.waiting) old.are_open c.set.new.self.history c.args.id c.in-Some.call c.write_outcome-shown.new.entry at c.set.ensures
          (ap (λ (e : Entry). e.id) written ∙ stands.own) (get nat_eq c.remove.new.self) (puts_for _ _ _ c.number-number.ensures c.remove.ensures.updates.0);
    }
