use Rattle.std.proofs.Common.{◌≡◌, ◌++◌, drop, string_bytes}
use Rattle.jc_explain.specs.Script.{names_text}
use Rattle.jc_explain.specs.Words.{words_lent}
use Rattle.jc_explain.proofs.script.join_names.Given as goal

-- what was joined, then the names that are left, is all
abbrev pub invariant-loop-name : goal.invariant-loop-name
invariant-loop-name l = string_bytes l.text ++ names_text (words_lent (drop l.name-index l.names)) ≡ names_text (words_lent l.names)
