use Rattle.std.proofs.Common.{◌≡◌, ◌++◌, ◌∷◌, [], ◌+◌, ◌<◌, ℕ, List, Option, None, take, length, get_or, map, option_map, rules, arith, ap, sym, subst, ◌∙◌, append_assoc}
use mathlib.Core.Logic.{dite}
use native.Mathlib.Decide.{ℕ_discrete}
use Rattle.jc_cuckoo.specs.declared.held.Held.{Held}
use Rattle.jc_cuckoo.specs.Images.{shown_row}
use Rattle.jc_index.specs.StripeLayout.{versions_at}
use Rattle.jc_index.specs.Spelling.{IsCoded, words_of_slot, words_of_slots}
use Rattle.jc_index.proofs.Changing.{any_default}
use Rattle.jc_index.proofs.Blank.{words_more}
use Rattle.jc_index.proofs.fill.fill_words.Goals as goal

pub loop-i-init : goal.loop-i-init
loop-i-init c =
    let zeros : c.reserve.new.self.items ≡ versions_at 0 = search rules in
    (c.in_ok-push.ensures.items ∙ (λ j. zeros j ++ c.from.ensures j ∷ []), λ k d few. absurd (omega arith))

pub loop-i-preserved : goal.loop-i-preserved
loop-i-preserved c =
    let ss = c.args.slots.now in
    let i = c.loop-i.i in
    let d : Option Held = None in
    let inside : i < length ss = c.loop-i-test.true in
    let rest : List ℕ = versions_at 0 in
    let so_far : List ℕ = c.args.stash ∷ words_of_slots (map (option_map shown_row) (take i ss)) in
    let own : c.words_of_slot-own.result ≡ words_of_slot (option_map shown_row (get_or ss i d)) = c.words_of_slot-own.ensures.same ∙ ap (λ (x : Option Held). words_of_slot (option_map shown_row x)) (c.index-slots-i.is ∙ any_default ss i c.index-slots-i.result d inside) in
    let more : so_far ++ words_of_slot (option_map shown_row (get_or ss i d)) ≡ c.args.stash ∷ words_of_slots (map (option_map shown_row) (take (i + 1) ss)) = ap (λ (l : List ℕ). c.args.stash ∷ l) (sym (words_more ss i d inside)) in (
      c.in_ok-extend_from_slice.ensures.items ∙ ((λ j. c.loop-i.invariant.0 j ++ own j) ∙ (append_assoc rest so_far (words_of_slot (option_map shown_row (get_or ss i d))) ∙ ap (λ (l : List ℕ). rest ++ l) more)),
      λ k e few. dite (ℕ_discrete k i)
          (λ is. subst (λ (n : ℕ). IsCoded (option_map shown_row (get_or ss n e))) (sym is) (subst (λ (x : Option Held). IsCoded (option_map shown_row x)) (c.index-slots-i.is ∙ any_default ss i c.index-slots-i.result e inside) c.words_of_slot-own.ensures.coded))
          (λ not. c.loop-i.invariant.1 k e (omega arith)),
    )
