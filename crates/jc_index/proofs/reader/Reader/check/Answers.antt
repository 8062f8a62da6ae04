use Rattle.std.proofs.Common.{◌≡◌, ◌≢◌, ◌⊎◌, ◌&&◌, ℕ, Bool, true, false, List, [], ◌∷◌, length, take, get_or, ◌+◌, arith, refl, ap, sym, subst, ◌∙◌, inl, inr, ⊎_elim}
use Rattle.jc_index.specs.declared.board.View.{View}
use Rattle.jc_index.specs.Stripes.{CheckTells, SomeOdd, AreReadAtRest, glance_of, last_of, stack_of}
use Rattle.jc_index.proofs.Comparing.{Compared, compared_none, compared_next, take_whole, notes_kept, begun_kept, front_kept, is_settled, checked_next, view_next, whole}
use Rattle.jc_index.proofs.reader.Reader.check.Goals as goal

both_true : (a b : Bool) → a && b ≡ true → (a ≡ true) × (b ≡ true)
both_true true b e = (refl, e)
both_true false b e = absurd cc

one_false : (a b : Bool) → a && b ≡ false → (a ≡ false) ⊎ (b ≡ false)
one_false true b e = inr e
one_false false b e = inl refl

pub loop-i-init : goal.loop-i-init
loop-i-init g c =
    let js = c.args.stripes.now in
    let vs = c.args.versions.now in
    let it = c.check_one-again in
    let old = c.args.self.now.seat.me.0 in
    let new = it.new.self.seat.me.0 in
    let words = last_of new.front in
    let notes_is : (glance_of new).notes ≡ (glance_of old).notes = ap (λ (v : View g.row.L.Denot). (glance_of v).notes) it.ensures.view in
    let checked_is : (glance_of new).checked ≡ (get_or js 0 0, it.result) ∷ [] = ap (λ (v : View g.row.L.Denot). (glance_of v).checked) it.ensures.view ∙ ap (λ (l : List (ℕ × ℕ)). (get_or js 0 0, it.result) ∷ l) c.requires.fresh in
    let shows = subst (λ (b : List (ℕ × ℕ)). CheckTells g.L.Law.group (get_or js 0 0) it.result words (glance_of old).notes b) c.requires.begun it.ensures.shows in (
      refl,
      whole new _ _ _ (ap (λ (v : View g.row.L.Denot). v.role) it.ensures.view),
      subst (λ (z : List (ℕ × ℕ) × List (ℕ × ℕ)). Compared g.L.Law.group js vs 1 words z.0 z.1 c.was_at_rest-same.result) (λ i. (sym notes_is i, sym checked_is i))
          (compared_next g.L.Law.group js vs 0 words (glance_of old).notes [] it.result true c.was_at_rest-same.result c.was_at_rest-same.result c.requires.alike c.requires.some (compared_none g.L.Law.group js vs words (glance_of old).notes) shows
          c.was_at_rest-same.ensures.yes c.was_at_rest-same.ensures.no (λ e. (refl, e)) (λ e. inr e)),
    )

pub loop-i-preserved : goal.loop-i-preserved
loop-i-preserved g c =
    let js = c.args.stripes.now in
    let vs = c.args.versions.now in
    let i = c.loop-i.i in
    let old = c.args.self.now.seat.me.0 in
    let first = c.check_one-again.new.self.seat.me.0 in
    let now = c.loop-i.self.seat.me.0 in
    let it = c.check_one-again-in-loop-i in
    let new = it.new.self.seat.me.0 in
    let words = last_of first.front in
    let same = it.ensures.later (is_settled first now new (get_or js i 0) it.result c.loop-i.invariant.1 it.ensures.view) in
    let notes_is : (glance_of now).notes ≡ (glance_of first).notes = notes_kept first now new (get_or js i 0) it.result c.loop-i.invariant.1 it.ensures.view in
    let begun_is : (glance_of now).begun ≡ stack_of js vs [] = begun_kept first now new (get_or js i 0) it.result c.loop-i.invariant.1 it.ensures.view ∙ (ap (λ (v : View g.row.L.Denot). (glance_of v).begun) c.check_one-again.ensures.view ∙ c.requires.begun) in
    let front_is : new.front ≡ first.front = same ∙ front_kept first now new (get_or js i 0) it.result c.loop-i.invariant.1 it.ensures.view in
    let shows = subst (λ (z : List (List ℕ) × List (ℕ × ℕ) × List (ℕ × ℕ)). CheckTells g.L.Law.group (get_or js i 0) it.result (last_of z.0) z.1 z.2) (λ k. (front_is k, notes_is k, begun_is k)) it.ensures.shows in (
      it.ensures.same ∙ c.loop-i.invariant.0,
      view_next first now new (get_or js i 0) it.result c.loop-i.invariant.1 it.ensures.view same,
      subst (λ (z : List (ℕ × ℕ)). Compared g.L.Law.group js vs (i + 1) words (glance_of first).notes z (c.loop-i.same && c.was_at_rest-same-in-loop-i.result)) (sym (checked_next first now new (get_or js i 0) it.result c.loop-i.invariant.1 it.ensures.view))
          (compared_next g.L.Law.group js vs i words (glance_of first).notes (glance_of now).checked it.result c.loop-i.same c.was_at_rest-same-in-loop-i.result (c.loop-i.same && c.was_at_rest-same-in-loop-i.result) c.requires.alike c.loop-i-test.true c.loop-i.invariant.2 shows
          c.was_at_rest-same-in-loop-i.ensures.yes c.was_at_rest-same-in-loop-i.ensures.no (both_true c.loop-i.same c.was_at_rest-same-in-loop-i.result) (one_false c.loop-i.same c.was_at_rest-same-in-loop-i.result)),
    )

pub returns-clause-stays : goal.returns-clause-stays
returns-clause-stays g c e =
    let js = c.args.stripes.now in
    let vs = c.args.versions.now in
    let end : c.loop-i.i ≡ length js = omega (arith, c.loop-i.auto.i-end c.requires.some, c.loop-i-test.false) in
    let all_of : stack_of (take c.loop-i.i js) (take c.loop-i.i vs) [] ≡ (glance_of c.args.self.now.seat.me.0).begun = (λ k. stack_of (take_whole c.loop-i.i js end k) (take_whole c.loop-i.i vs (end ∙ sym c.requires.alike) k) []) ∙ sym c.requires.begun in
    subst (λ (l : List (ℕ × ℕ)). AreReadAtRest l (glance_of c.loop-i.self.seat.me.0).checked) all_of (c.loop-i.invariant.2.stays e)

pub returns-clause-differ : goal.returns-clause-differ
returns-clause-differ g c e =
    let js = c.args.stripes.now in
    let vs = c.args.versions.now in
    let end : c.loop-i.i ≡ length js = omega (arith, c.loop-i.auto.i-end c.requires.some, c.loop-i-test.false) in
    let all_of : stack_of (take c.loop-i.i js) (take c.loop-i.i vs) [] ≡ (glance_of c.args.self.now.seat.me.0).begun = (λ k. stack_of (take_whole c.loop-i.i js end k) (take_whole c.loop-i.i vs (end ∙ sym c.requires.alike) k) []) ∙ sym c.requires.begun in
    ⊎_elim (λ (o : SomeOdd (stack_of js vs [])). inl (subst SomeOdd (sym c.requires.begun) o))
    (λ (d : stack_of (take c.loop-i.i js) (take c.loop-i.i vs) [] ≢ (glance_of c.loop-i.self.seat.me.0).checked). inr (λ (is : (glance_of c.args.self.now.seat.me.0).begun ≡ (glance_of c.loop-i.self.seat.me.0).checked). d (all_of ∙ is)))
    (c.loop-i.invariant.2.differs e)
