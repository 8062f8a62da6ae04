-- All faults of a script: of each line the first, as the line is read on the caches that are live there.
use Rattle.std.specs.Prelude.{ℕ, ◌+◌, if◌then◌else◌, List, [], ◌∷◌, ◌++◌, take, drop, Result, Ok, Err, is_some}
use Rattle.std.specs.List.{slice_split}
use Rattle.jc_config.specs.Limits.{within_limits}
use Rattle.jc_model.specs.declared.config.CacheConfig.{CacheConfig}
use Rattle.jc_script.specs.Script.{is_feed, lines}
use Rattle.jc_script.specs.Stray.{stray_line}
use Rattle.jc_script.specs.declared.fault.ScriptFault.{ScriptFault}
use Rattle.jc_script.specs.declared.fault.ScriptFault.TheVariants.{NotJson, NotObject, Bad}
use Rattle.jc_script.specs.declared.line.Line.{Line}
use Rattle.jc_script.specs.declared.line.Line.TheVariants.{Call, Create, Destroy}

-- the fault of a line that was read alone, as that of line n
abbrev pub at_line : ℕ → ScriptFault → ScriptFault
at_line n (NotJson one) = NotJson n
at_line n (NotObject one) = NotObject n
at_line n (Bad one member) = Bad n member
at_line n fault = fault

-- other caches, where these may be live together
abbrev pub live_or : List CacheConfig → List CacheConfig → List CacheConfig
live_or caches others = if within_limits others then others else caches

-- the caches that are live after a line; an id is a place among those that were live before
abbrev pub live_after : List CacheConfig → Line → List CacheConfig
live_after caches (Call l) = caches
live_after caches (Create session c) = live_or caches (caches ++ c ∷ [])
live_after caches (Destroy session id) = live_or caches (take id caches ++ drop (id + 1) caches)

-- a line that is read alone is one at most
abbrev pub live_after_one : List CacheConfig → List Line → List CacheConfig
live_after_one caches [] = caches
live_after_one caches (line ∷ others) = live_after caches line

-- a line that can be read, or its fault, and what comes behind it; a faulty line leaves the caches as they are
abbrev pub fault_then : ℕ → (List Line → List ScriptFault) → List ScriptFault → Result (List Line) ScriptFault → List ScriptFault
fault_then n behind skipped (Ok read) = behind read
fault_then n behind skipped (Err fault) = at_line n fault ∷ skipped

-- of the pieces from line n on, where these caches are live
abbrev pub faults_from : List CacheConfig → ℕ → List (List ℕ) → List ScriptFault
faults_from caches n [] = []
faults_from caches n (piece ∷ pieces) =
    fault_then n (λ read. faults_from (live_after_one caches read) (n + 1) pieces) (faults_from caches (n + 1) pieces) (lines caches piece)

unfoldable pub all_faults : List CacheConfig → List ℕ → List ScriptFault
all_faults caches bytes = faults_from caches 1 (slice_split is_feed bytes)

-- all lines with a member that their ops do not need
abbrev pub strays_from : ℕ → List (List ℕ) → List ℕ
strays_from n [] = []
strays_from n (piece ∷ pieces) = if is_some (stray_line piece) then n ∷ strays_from (n + 1) pieces else strays_from (n + 1) pieces

unfoldable pub all_strays : List ℕ → List ℕ
all_strays bytes = strays_from 1 (slice_split is_feed bytes)
