use Rattle.std.proofs.Common.{◌≡◌, ◌∙◌, ap, sym, Some, nat_eq}
use Rattle.jc_engine.proofs.Names.{get, Entry, with_outcome, GivenUp}
use Rattle.jc_engine.specs.Recording.{left_in}
use Rattle.jc_engine.proofs.Numbered.{puts_for}
use Rattle.jc_engine.proofs.Opens.{kept_call, goes_open}
use Rattle.jc_engine.proofs.journal.open_calls.OpenCallsJournal.give_up.Goals as goal

pub invariant_of-self : goal.invariant_of-self
invariant_of-self c =
    let old = c.args.self.now in
    let at : get nat_eq old.waiting c.args.id ≡ Some c.in-Some.call = sym (rw c.number-number.ensures at c.in-Some.ensures.value) in
    let stands = old.are_open.each c.args.id c.in-Some.call at in
    let same = kept_call old.past.history (get nat_eq old.waiting) c.args.id c.requires.0 c.requires.1 c.in-Some.call at stands c.requires.2 in
    let written : c.write_given_up-left.new.entry ≡ with_outcome (GivenUp (left_in c.args.left)) c.in-Some.call.entry = c.write_given_up-left.ensures.written (λ some. ap (λ (e : Entry). e.told) same.1 ∙ c.requires.3 some) in
    record {
      are_open = goes_open old.past.history old.begun (get nat_eq old.waiting) old.are_open c.set.new.self.history c.args.id c.in-Some.call c.write_given_up-left.new.entry at c.set.ensures
          (ap (λ (e : Entry). e.id) written ∙ stands.own) (get nat_eq c.remove.new.self) (puts_for _ _ _ c.number-number.ensures c.remove.ensures.updates.0);
    }
