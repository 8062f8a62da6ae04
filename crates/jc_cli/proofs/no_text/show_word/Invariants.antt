use Rattle.std.proofs.Common.{◌≡◌, ◌++◌, string_bytes}
use Rattle.std.specs.Str.Chunks.{utf8_chunks_rest}
use Rattle.jc_cli.specs.NoText.{word_shown}
use Rattle.jc_cli.proofs.no_text.show_word.Given as goal

-- what was shown, then the bytes that are left, is the whole word
abbrev pub invariant-loop-chunk : goal.invariant-loop-chunk
invariant-loop-chunk l = string_bytes l.text ++ word_shown (utf8_chunks_rest l.chunk-iterator) ≡ word_shown l.word
