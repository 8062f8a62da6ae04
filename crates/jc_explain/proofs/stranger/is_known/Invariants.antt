use Rattle.std.proofs.Common.{◌≡◌, drop}
use Rattle.jc_explain.specs.Stranger.{is_known}
use Rattle.jc_explain.specs.Words.{words_lent}
use Rattle.jc_explain.proofs.stranger.is_known.Given as goal

-- the word is among all exactly if it is among those that are left
abbrev pub invariant-loop-name : goal.invariant-loop-name
invariant-loop-name l = is_known (words_lent l.known) l.word ≡ is_known (words_lent (drop l.name-index l.known)) l.word
