use Rattle.std.proofs.Common.{◌≡◌, drop}
use Rattle.jc_explain.specs.Spelling.{close}
use Rattle.jc_explain.specs.Words.{words_lent}
use Rattle.jc_explain.proofs.spelling.close.Given as goal

-- the first of the words that are left is the first of all
abbrev pub invariant-loop-name : goal.invariant-loop-name
invariant-loop-name l =
    close l.edits l.word (words_lent l.known)
    ≡ close l.edits l.word (words_lent (drop l.name-index l.known))
