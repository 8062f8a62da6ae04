-- What a script says: its lines, or the first fault.
use Rattle.std.specs.Prelude.{ℕ, ◌+◌, ◌==◌, ◌||◌, List, [], ◌∷◌, length, Bool, Option, Some, None, Result, Ok, Err, nat_lt, if◌then◌else◌}
use Rattle.std.specs.Borrow.{Bor}
use Rattle.std.specs.List.{slice_split, list_all}
use Rattle.jc_model.specs.declared.config.CacheConfig.{CacheConfig}
use Rattle.jc_model.specs.Limits.{text_bytes}
use Rattle.jc_model.specs.Runs.{Lives, opened_from}
use Rattle.jc_config.specs.FirstFault.{◌>>=◌}
use Rattle.jc_script.specs.declared.fault.ScriptFault.{ScriptFault}
use Rattle.jc_script.specs.declared.fault.ScriptFault.TheVariants.{TooLong}
use Rattle.jc_script.specs.declared.line.Line.{Line}
use Rattle.jc_script.specs.Line.{line_of}
use Rattle.jc_script.specs.Live.{after_line}
use Rattle.jc_script.specs.Member.{object_of}

unfoldable pub piece_of : Lives → ℕ → List ℕ → Result Line ScriptFault
piece_of lives n piece = do
  d ← object_of n piece
  line_of lives n d

abbrev pub is_feed : ℕ → Bool
is_feed b = b == 10

-- spaces, tabs and carriage returns alone
abbrev pub is_blank : List ℕ → Bool
is_blank = list_all (λ b. (b == 32) || (b == 9) || (b == 13))

-- the pieces of what is left
abbrev pub pieces_after : Option (Bor (List ℕ)) → List (List ℕ)
pieces_after None = []
pieces_after (Some rest) = slice_split is_feed rest.now

-- the pieces from line n on, where these caches are live; a blank one is passed over and counted
unfoldable pub lines_from : Lives → ℕ → List (List ℕ) → Result (List Line) ScriptFault
lines_from lives n [] = Ok []
lines_from lives n (piece ∷ pieces) = if is_blank piece then lines_from lives (n + 1) pieces else (do
  first ← piece_of lives n piece
  others ← lines_from (after_line lives first) (n + 1) pieces
  Ok (first ∷ others))

-- the bytes are cut at each line feed
unfoldable pub lines : List CacheConfig → List ℕ → Result (List Line) ScriptFault
lines caches bytes = if nat_lt text_bytes (length bytes) then Err TooLong else lines_from (opened_from 0 caches) 1 (slice_split is_feed bytes)
