use Rattle.std.proofs.Common.{◌≡◌, ◌+◌, ◌<◌, ◌^◌, ◌%◌, ℕ, List, [], ◌∷◌, ◌++◌, length, replicate, get_or, zero, suc, rules, arith, ap, sym, subst, refl, ◌∙◌}
use Rattle.jc_index.specs.StripeLayout.{content_of, version_count, versions_at}
use Rattle.jc_index.specs.Stripes.{BoardRule, last_of, front_before, opening_view, desk}
use Rattle.jc_index.proofs.Lists.{last-append}
use Rattle.jc_index.proofs.Keeps.{opens_kept}
use Rattle.jc_index.proofs.writer.StripeWriter.over.Goals as goal

-- what holds of the start and of 0 holds of each version
each : (P : ℕ → Type 0) (start n j : ℕ) → P start → P 0 → P (get_or (replicate n start) j 0)
each P start zero j here out = out
each P start (suc n) zero here out = here
each P start (suc n) (suc j) here out = each P start n j here out

pub of_words-requires : goal.of_words-requires
of_words-requires g c =
    let origin = c.args.origin in
    let content = content_of origin.words.value.items in
    let is : c.as_slice.result.now ≡ versions_at origin.start ++ content = c.as_slice.ensures.value ∙ (c.requires.versions ∙ ap (λ w. versions_at origin.start ++ content_of w.items) (sym c.requires.words)) in
    subst (λ (ws : List ℕ). BoardRule g.L.Law.group version_count g.L.Law.admits origin.law.value record { words = ws; homes = []; views = opening_view origin ∷ [] }) (sym is)
    (opens_kept g.L.Law.group version_count g.L.Law.admits origin.law.value (versions_at origin.start) content (front_before origin) refl (subst (λ w. g.L.Law.admits origin.law.value (content_of w.items)) (sym c.requires.words) c.requires.lawful))

pub invariant_of-result : goal.invariant_of-result
invariant_of-result g c =
    let origin = c.args.origin in
    let made = c.in_ok-table.ensures in
    let content = content_of origin.words.value.items in
    let me : c.in_ok-table.seat.me ≡ (opening_view origin, []) = made.4 in
    let last : last_of c.in_ok-table.seat.me.0.front ≡ content = ap (λ m. last_of m.0.front) me ∙ last-append [] (front_before origin) content in
    let is : c.as_slice.result.now ≡ versions_at origin.start ++ content = c.as_slice.ensures.value ∙ (c.requires.versions ∙ ap (λ w. versions_at origin.start ++ content_of w.items) (sym c.requires.words)) in
    let count : length c.as_slice.result.now ≡ version_count + length content = ap length is ∙ omega arith in
    let fits : length c.as_slice.result.now < 2 ^ 63 = omega (arith, ap length c.as_slice.ensures.value) in
    record {
      seated = search rules;
      sized = (ap (λ z. z.words) made.2 ∙ made.0 ∙ count ∙ ap (λ l. version_count + length l) (sym last), omega (arith, made.0, ap (λ z. z.words) made.2));
      empty = ap (λ m. m.1) me;
      fits = λ j. subst (λ (l : List ℕ). get_or l j 0 < 2 ^ 64) (sym c.versions_at-versions.ensures) (each (λ x. x < 2 ^ 64) origin.start version_count j (omega arith) (omega arith));
      settled = λ j. subst (λ (l : List ℕ). get_or l j 0 % 2 ≡ 1 → get_or l j 0 + 1 ≡ 2 ^ 64) (sym c.versions_at-versions.ensures) (each (λ x. x % 2 ≡ 1 → x + 1 ≡ 2 ^ 64) origin.start version_count j (λ odd. absurd (omega (arith, odd, c.requires.even))) (λ odd. absurd (omega (arith, odd))));
      at_rest = ap (λ m. m.0.role) me ∙ (λ i. desk (sym c.versions_at-versions.ensures i) (sym last i));
    }
