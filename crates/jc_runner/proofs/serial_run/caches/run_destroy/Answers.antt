use Rattle.std.proofs.Common.{◌≡◌, ◌∙◌, sym, ap, ℕ, List, None, ◌++◌, ◌∷◌, []}
use Rattle.std.specs.Prelude.{slice_get}
use Rattle.std.specs.Option.{option_map}
use Rattle.jc_engine.specs.Results.{of_destroy}
use Rattle.jc_model.specs.declared.config.CacheConfig.{CacheConfig}
use Rattle.jc_model.specs.declared.event.Event.TheVariants.{Destroy}
use Rattle.jc_model.specs.declared.event.Life.{Life}
use Rattle.jc_model.specs.declared.event.Outcome.{Outcome}
use Rattle.jc_model.specs.declared.event.Outcome.TheVariants.{Destroyed}
use Rattle.jc_model.specs.Legal.{History, recorded}
use Rattle.jc_model.specs.Runs.{lives_after}
use Rattle.jc_script.specs.declared.managed.ManageOp.TheVariants as op
use Rattle.jc_script.specs.Managing.{name_of_live}
use Rattle.jc_runner.specs.Halfway.{lives_now, as_read}
use Rattle.jc_runner.proofs.Lives.{lives_on, live_read, read_one, destroys_so, destroyed_well}
use Rattle.jc_runner.proofs.Placed.{its_life}
use Rattle.jc_model.specs.Places.{at_place}
use Rattle.jc_runner.proofs.serial_run.caches.run_destroy.Goals as goal

pub unreachable-requires : goal.unreachable-requires
unreachable-requires g c =
    let lived = lives_on (lives_now c.args.recorded.now) c.args.id c.requires.live in
    destroyed_well c.destroy.result (c.destroy.ensures.outcome ∙ destroys_so (lives_now c.args.recorded.now) c.args.id lived.status lived.there (c.requires.rest.resting c.args.id lived.status lived.there))
    (sym c.is_err.ensures.value ∙ c.if-is_err.true)

pub returns-clause-moves : goal.returns-clause-moves
returns-clause-moves g c =
    let r = c.args.recorded.now in
    let lived = lives_on (lives_now r) c.args.id c.requires.live in
    let so = destroys_so (lives_now r) c.args.id lived.status lived.there (c.requires.rest.resting c.args.id lived.status lived.there) in
    let done : of_destroy c.destroy.result ≡ Destroyed = c.destroy.ensures.outcome ∙ so in
    record {
      answers = sym so;
      lives = c.destroy.ensures.lives ∙ ap (λ (o : Outcome). lives_after (lives_now r) (Destroy c.args.id) o) done;
      transcript = c.destroy.ensures.transcript c.args.session ∙ ap (λ (o : Outcome). recorded c.args.session (Destroy c.args.id) o r.transcript) done;
    }

pub returns-clause-managed : goal.returns-clause-managed
returns-clause-managed g c =
    let r = c.args.recorded.now in
    let lived = lives_on (lives_now r) c.args.id c.requires.live in
    let its = its_life r c.args.id lived.status c.requires.rest lived.there in
    let named : c.name_of-name.result ≡ name_of_live (at_place (as_read (lives_now r)) c.args.id) =
    c.name_of-name.ensures its.life (ap (λ (ls : List Life). slice_get ls c.args.id) (c.lives.ensures ∙ ap (λ (h : History). h.lives) c.transcript.ensures.value) ∙ its.there)
    ∙ ap (λ (config : CacheConfig). config.name) its.config ∙ sym (ap name_of_live (live_read (lives_now r) c.args.id ∙ ap (option_map read_one) lived.there)) in
    c.in_ok-push.ensures.items ∙ ap (λ (name : List ℕ). c.args.managed.now.items ++ record { session = c.args.session; op = op.Destroy; name = name; refusal = None } ∷ []) named
