use Rattle.std.proofs.Common.{Some, sym, rules, nat_eq}
use Rattle.jc_engine.proofs.Names.{get, answers}
use Rattle.jc_engine.proofs.Numbered.{puts_for}
use Rattle.jc_engine.proofs.Places.{within, seen_is, Changes, manager_moved, ready}
use Rattle.jc_engine.proofs.Moving.{no_answer, reply_at, advanced, one_after, fits_after, refused_after, outcome_after, lives_later}
use Rattle.jc_engine.proofs.engine.Engine.go_on.Given as given
use Rattle.jc_engine.proofs.engine.Engine.go_on.Goals as goal

pub unreachable-requires : goal.unreachable-requires
unreachable-requires g c =
    let no = rw (← no_answer (within c.self.view_is c.self.invariant) c.args.id (answers c.args.answer) (sym (rw c.number.ensures at c.in-None.ensures.value))) at c.requires in
    cc

pub go_on-requires : goal.go_on-requires
go_on-requires g c =
    let at = sym (rw c.number.ensures at c.in-Some.ensures.value) in
    record {
      ready = ready (within c.self.view_is c.self.invariant) c.args.id c.self.inside.visit.moment at;
      allowed = rw (reply_at c.args.self.now c.args.id (answers c.args.answer) (seen_is (within c.self.view_is c.self.invariant) c.args.id at)) at c.requires;
    }

module _ (g : given.Over) (c : goal.After-self-in-Some-1 g) where
  changes : Changes (within c.self.view_is c.self.invariant) c.args.id c.in-Some.cache.now (Some c.go_on.new.self) (get nat_eq (c.get_mut.follows.lender c.go_on.new.self))
  changes = record { at = sym (rw c.number.ensures at c.in-Some.ensures.value); puts = puts_for _ _ _ c.number.ensures ((c.get_mut.follows.holds c.go_on.new.self).3 (search rules)).0 }

pub invariant_of-self : goal.invariant_of-self
invariant_of-self g c = manager_moved (changes g c) c.self.inside.visit.moment c.go_on.ensures.heard.back

pub returns : goal.returns
returns g c =
    let allowed = rw (reply_at c.args.self.now c.args.id (answers c.args.answer) (seen_is (within c.self.view_is c.self.invariant) c.args.id (changes g c).at)) at c.requires in
    let did = advanced c.go_on.result allowed c.go_on.ensures.heard in
    record {
      outcome = outcome_after (changes g c) did;
      lives = lives_later (changes g c) did;
      one = one_after (changes g c);
      fits = fits_after (changes g c) c.go_on.result c.go_on.ensures.heard;
      back = c.go_on.ensures.back;
      told = c.go_on.ensures.told;
      refused = refused_after (changes g c) c.go_on.result c.go_on.ensures.heard;
    }
