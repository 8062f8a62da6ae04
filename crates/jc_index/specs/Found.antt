-- Whether an image holds a key, live: yes, no or open.
use Rattle.std.specs.Prelude.{ℕ, ◌==◌, ◌&&◌, Bool, false, List, [], ◌∷◌, if◌then◌else◌, Option, Some, None}
use Rattle.std.specs.Str.{bytes_eq}
use Rattle.jc_model.specs.State.{live}
use Rattle.jc_rows.specs.Images.{Image, Shown}

-- whether a slot holds the key, and whether it is live there
abbrev pub seen_in_slot : ℕ → List ℕ → ℕ → Option Shown → Option Bool
seen_in_slot id key now None = None
seen_in_slot id key now (Some s) = if s.0.0 == id && bytes_eq s.0.1 key then Some (live now s.1) else None

abbrev pub first_answer : Option Bool → Option Bool → Option Bool
first_answer (Some b) y = Some b
first_answer None y = y

abbrev pub first_seen : ℕ → List ℕ → ℕ → List (Option Shown) → Option Bool
first_seen id key now [] = None
first_seen id key now (x ∷ xs) = first_answer (seen_in_slot id key now x) (first_seen id key now xs)

-- a key in no slot may lie in the stash
abbrev pub answer_with_stash : Option Bool → ℕ → Option Bool
answer_with_stash (Some b) count = Some b
answer_with_stash None count = if count == 0 then Some false else None

abbrev pub found_in_image : Image → ℕ → List ℕ → ℕ → Option Bool
found_in_image image id key now = answer_with_stash (first_seen id key now image.slots) image.stash
