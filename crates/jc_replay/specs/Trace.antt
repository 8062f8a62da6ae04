-- The keys of a trace, or its first fault.
use Rattle.std.specs.Prelude.{◌≡◌, ℕ, ◌+◌, ◌==◌, ◌&&◌, not, ltb, Bool, if◌then◌else◌, List, [], ◌∷◌, ◌++◌, length, Option, Some, None, Result, Ok, Err}
use Rattle.std.specs.List.{slice_split}
use Rattle.std.specs.Str.{is_utf8}
use Rattle.jc_model.specs.Limits.{key_bytes, text_bytes}
use Rattle.jc_replay.specs.declared.fault.ReplayFault.{ReplayFault}
use Rattle.jc_replay.specs.declared.fault.ReplayFault.TheVariants.{TooLong, BadKey, OutOfMemory}

abbrev pub ends_trace_line : ℕ → Bool
ends_trace_line b = b == 10

-- a text of 1 to 63 bytes
abbrev pub is_key : List ℕ → Bool
is_key bytes = is_utf8 bytes && ltb 0 (length bytes) && not (ltb key_bytes (length bytes))

abbrev pub key_or_none : List ℕ → Option (List ℕ)
key_or_none bytes = if is_key bytes then Some bytes else None

-- keys, and behind them others, if these are keys
abbrev pub with_front : List (List ℕ) → Result (List (List ℕ)) ReplayFault → Result (List (List ℕ)) ReplayFault
with_front front (Ok keys) = Ok (front ++ keys)
with_front front (Err fault) = Err fault

-- the keys in lines, of which the first has this number; an empty line is passed over and counted
unfoldable pub keys_from : ℕ → List (List ℕ) → Result (List (List ℕ)) ReplayFault
keys_from n [] = Ok []
keys_from n (line ∷ lines) =
    if length line == 0 then keys_from (n + 1) lines
    else (if is_key line then with_front (line ∷ []) (keys_from (n + 1) lines) else Err (BadKey n))

-- the bytes are cut at each line feed
unfoldable pub trace_keys : List ℕ → Result (List (List ℕ)) ReplayFault
trace_keys trace = if ltb text_bytes (length trace) then Err TooLong else keys_from 1 (slice_split ends_trace_line trace)

-- a fault is the one that reading ends with; want of memory may come at any point
abbrev pub FailsReplay : {Y : Type 0} → ReplayFault → Result Y ReplayFault → Type 0
FailsReplay OutOfMemory read = Unit {0}
FailsReplay TooLong read = read ≡ Err TooLong
FailsReplay (BadKey n) read = read ≡ Err (BadKey n)

-- what a function returned is what reading gives, unless memory ran out
abbrev pub GivesReplay : {X Y : Type 0} → (X → Y) → Result X ReplayFault → Result Y ReplayFault → Type 0
GivesReplay seen (Ok x) read = read ≡ Ok (seen x)
GivesReplay seen (Err fault) read = FailsReplay fault read
