use Rattle.std.proofs.Common.{◌≡◌, ◌∙◌, ap, sym, rules, Some, nat_eq}
use Rattle.jc_engine.proofs.Names.{get, Entry}
use Rattle.jc_engine.specs.declared.journal.open_call.OpenCall.{OpenCall}
use Rattle.jc_engine.proofs.Numbered.{puts_for}
use Rattle.jc_engine.proofs.Opens.{stays_open}
use Rattle.jc_engine.proofs.journal.open_calls.OpenCallsJournal.take_answer.Goals as goal

pub invariant_of-self : goal.invariant_of-self
invariant_of-self c =
    let old = c.args.self.now in
    let at : get nat_eq old.waiting c.args.id ≡ Some c.in-Some.call.now = sym (rw c.number-number.ensures at c.in-Some.ensures.value) in
    let stands = old.are_open.each c.args.id c.in-Some.call.now at in
    let after : OpenCall = record { place = c.in-Some.call.now.place; entry = c.take_answer.new.entry } in
    let fewer = c.take_answer.ensures.kept in
    record {
      are_open = stays_open old.past.history old.begun (get nat_eq old.waiting) old.are_open c.set.new.self.history c.args.id c.in-Some.call.now c.take_answer.new.entry at c.set.ensures
          (ap (λ (e : Entry). e.id) fewer ∙ stands.own) (get nat_eq (c.get_mut.follows.lender after)) (puts_for _ _ _ c.number-number.ensures ((c.get_mut.follows.holds after).3 (search rules)).0)
          (ap (λ (e : Entry). e.end) fewer ∙ stands.waits);
    }
