use Rattle.jc_model.proofs.Names.{◌≡◌, ℕ, List, take, length, key_words, bytes_of, first_words}
use Rattle.jc_model.proofs.key.Key.words.Given as goal

pub record Made (text words : List ℕ) (n : ℕ) : Type 0 where
  pub long : length words ≡ key_words
  pub made : take n words ≡ first_words n (bytes_of text)

abbrev pub invariant-loop-n : goal.invariant-loop-n
invariant-loop-n l = Made l.self l.words l.n
