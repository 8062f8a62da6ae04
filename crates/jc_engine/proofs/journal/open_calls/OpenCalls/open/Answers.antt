use Rattle.std.proofs.Common.{◌≡◌, ◌∙◌, ap, sym, subst, nat_eq}
use Rattle.jc_engine.proofs.Names.{get, Entry, with_outcome, step_of, Stepped}
use Rattle.jc_engine.specs.Recording.{CanTell}
use Rattle.jc_model.specs.declared.event.End.TheVariants.{Waiting}
use Rattle.jc_engine.proofs.Opens.{begun_open, waits_on}
use Rattle.jc_engine.proofs.journal.open_calls.OpenCalls.open.Goals as goal

pub invariant_of-self : goal.invariant_of-self
invariant_of-self c =
    let entered = c.blank-entry.ensures in
    let waits : c.blank-entry.result.end ≡ Waiting = ap (λ (e : Entry). e.end) entered in
    let can : CanTell c.args.advance c.blank-entry.result = subst (CanTell c.args.advance) (sym entered) c.requires.tells in
    let written : c.write_outcome-shown.new.entry ≡ with_outcome (Stepped (step_of c.args.advance)) c.blank-entry.result = c.write_outcome-shown.ensures.written waits can in
    record {
      are_open = begun_open c.args.self.now.past.history c.args.self.now.begun (get nat_eq c.args.self.now.waiting) c.args.self.now.are_open c.push.new.self.history c.write_outcome-shown.new.entry c.push.ensures
          c.args.held.origin.id (get nat_eq c.put_of.new.map) c.put_of.ensures
          (ap (λ (e : Entry). e.id) written ∙ ap (λ (e : Entry). e.id) entered)
          (ap (λ (e : Entry). e.end) written ∙ waits_on c.args.advance c.requires.waits);
    }
