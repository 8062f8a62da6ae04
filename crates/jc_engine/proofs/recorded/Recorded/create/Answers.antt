use Rattle.jc_engine.proofs.Names.{Create, answer_to, lives_of, status_of, Created}
use Rattle.jc_engine.specs.Recording.{with_life}
use Rattle.std.proofs.Common.{◌≡◌, false, refl, sym, ◌∙◌, option_map}
use Rattle.jc_engine.proofs.Places.{length_map}
use Rattle.jc_engine.proofs.Recordings.{created, restored, on_ok}
use Rattle.jc_engine.proofs.recorded.Recorded.create.Goals as goal

pub invariant_of-self-in-Ok : goal.invariant_of-self-in-Ok
invariant_of-self-in-Ok g c =
    let entered : g.J.Journal.history c.create.new.self ≡ with_life c.next_id-id.result c.args.config (g.J.Journal.history c.self.inside.journal) = on_ok c.create.result c.create.ensures.ok (sym c.is_err.ensures.value ∙ c.if-is_err.false) in
    let answer : Created c.next_id-id.result ≡ answer_to (lives_of c.self.inside.engine) (Create c.args.config) false =
    rw (← c.create_refusal.ensures, c.in_default.is, c.next_id-id.ensures, length_map (option_map status_of) c.self.inside.engine) refl in
    rw entered (created c.self.invariant c.args.config c.next_id-id.result (g.J.Journal.places c.create.new.self) c.create.ensures.places c.in-Ok.ensures.added answer c.in-Ok.ensures.lives)

pub returns-in-Ok-clause-told : goal.returns-in-Ok-clause-told
returns-in-Ok-clause-told g c = (rw (← c.self.view_is) c.self.invariant.told, (invariant_of-self-in-Ok g c).told)

pub invariant_of-self-in-Err : goal.invariant_of-self-in-Err
invariant_of-self-in-Err g c =
    let entered : g.J.Journal.history c.create.new.self ≡ with_life c.next_id-id.result c.args.config (g.J.Journal.history c.self.inside.journal) = on_ok c.create.result c.create.ensures.ok (sym c.is_err.ensures.value ∙ c.if-is_err.false) in
    restored c.self.invariant c.in-Err.ensures.refused (c.take_life.ensures.back (g.J.Journal.history c.self.inside.journal) c.next_id-id.result c.args.config entered) (λ q. c.take_life.ensures.places q ∙ c.create.ensures.places q)
