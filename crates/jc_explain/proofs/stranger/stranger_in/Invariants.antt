use Rattle.std.proofs.Common.{◌≡◌, map, string_bytes}
use Rattle.toml.specs.View.{table_view}
use Rattle.jc_explain.specs.Stranger.{stranger_in, stranger_among}
use Rattle.jc_explain.specs.Words.{words_lent}
use Rattle.jc_explain.proofs.stranger.stranger_in.Given as goal

-- the first of the names that are left is the first of all
abbrev pub invariant-loop-name : goal.invariant-loop-name
invariant-loop-name l =
    stranger_among (words_lent l.known) (map string_bytes l.name-iterator) ≡ stranger_in (words_lent l.known) (table_view l.table)
