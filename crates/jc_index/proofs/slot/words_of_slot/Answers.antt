use Rattle.std.proofs.Common.{arith, Option, option_map, ap, sym, subst, ◌∙◌}
use Rattle.jc_cuckoo.specs.declared.held.Held.{Held}
use Rattle.jc_cuckoo.specs.Images.{shown_row}
use Rattle.jc_index.specs.Spelling.{IsCoded, key_of_words}
use Rattle.jc_index.proofs.Coding.{coded_held}
use Rattle.jc_index.proofs.slot.words_of_slot.Goals as goal

pub returns-in-Never-clause-coded : goal.returns-in-Never-clause-coded
returns-in-Never-clause-coded c =
    subst (λ (x : Option Held). IsCoded (option_map shown_row x)) (sym c.in-Some.is) (coded_held (shown_row c.in-Some.held) (omega (arith, c.number.type_inv, c.number.ensures)) (ap key_of_words (sym c.words_of_key-key.ensures.same) ∙ c.words_of_key-key.ensures.exact))

pub returns-in-At-clause-coded : goal.returns-in-At-clause-coded
returns-in-At-clause-coded c =
    subst (λ (x : Option Held). IsCoded (option_map shown_row x)) (sym c.in-Some.is) (coded_held (shown_row c.in-Some.held) (omega (arith, c.number.type_inv, c.number.ensures)) (ap key_of_words (sym c.words_of_key-key.ensures.same) ∙ c.words_of_key-key.ensures.exact))
