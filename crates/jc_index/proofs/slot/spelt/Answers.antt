use Rattle.std.proofs.Common.{arith, ℕ, ◌<◌, get_or, ap, ◌∙◌, List}
use Rattle.jc_index.specs.Spelling.{bytes_in, key_of_words}
use Rattle.jc_index.proofs.Coding.{key_back, length_back}
use Rattle.jc_index.proofs.slot.spelt.Goals as goal

pub returns-clause-exact : goal.returns-clause-exact
returns-clause-exact c =
    let small : (i : ℕ) → get_or c.args.text.now i 0 < 256 = λ i. omega (arith, c.type_inv.text i) in
    ap key_of_words c.requires.same ∙ key_back c.args.text.now c.requires.few small

pub returns-clause-first : goal.returns-clause-first
returns-clause-first c =
    let small : (i : ℕ) → get_or c.args.text.now i 0 < 256 = λ i. omega (arith, c.type_inv.text i) in
    ap (λ (l : List ℕ). get_or (bytes_in l) 0 0) c.requires.same ∙ length_back c.args.text.now c.requires.few small
