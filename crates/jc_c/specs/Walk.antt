-- The rows of a cache in order of their numbers, and the bytes in which a walk gives them.
use Rattle.std.specs.Prelude.{◌≡◌, ℕ, zero, suc, true, ◌+◌, ◌-◌, ◌<◌, ◌≤◌, eqb, ltb, cond, if◌then◌else◌, is_some, count_by, List, [], ◌∷◌, ◌++◌, length, take, drop, Result, Ok, Err}
use Rattle.std.specs.Prelude.{Option, Some, None}
use Rattle.std.specs.Int.{to_le_bytes, w16, w64}
use Rattle.jc_ops.specs.declared.slots.Record.{Record}
use Rattle.jc_engine.specs.Caches.{Cache, row_in}
use Rattle.jc_c.specs.declared.status.Status.{Status}
use Rattle.jc_c.specs.declared.status.Status.TheVariants.{Listed, NoSuchCache, Nothing, ShortBuffer}
use Rattle.jc_c.specs.declared.walk.Way.{Way}
use Rattle.jc_c.specs.Looks.{moment_of}
use Rattle.jc_c.specs.Parts.{or_before}

-- a row in bytes: when it expires, how many bytes its key and its value have, its key, its value
abbrev pub head_bytes : Record → List ℕ
head_bytes row = to_le_bytes w64 (moment_of row.expiry) ++ (length row.key ∷ to_le_bytes w16 (length row.value))

abbrev pub row_bytes : Record → List ℕ
row_bytes row = head_bytes row ++ (row.key ++ row.value)

-- how many they are
abbrev pub row_length : Record → ℕ
row_length row = 11 + (length row.key + length row.value)

-- a row and its number
abbrev pub Numbered : Type 0
Numbered = ℕ × Record

abbrev pub with_row : ℕ → Option Record → List Numbered → List Numbered
with_row number None rows = rows
with_row number (Some row) rows = (number, row) ∷ rows

-- the rows that have one of n numbers, the first of which is this one
abbrev pub rows_from : Option Cache → ℕ → ℕ → List Numbered
rows_from cache number zero = []
rows_from cache number (suc n) = with_row number (row_in number cache) (rows_from cache (number + 1) n)

-- the first rows, as many whole ones as there is room for
abbrev pub fitting : ℕ → List Numbered → List Numbered
fitting room [] = []
fitting room (p ∷ ps) = if ltb room (row_length p.1) then [] else p ∷ fitting (room - row_length p.1) ps

abbrev pub bytes_of : List Numbered → List ℕ
bytes_of [] = []
bytes_of (p ∷ ps) = row_bytes p.1 ++ bytes_of ps

-- the number behind the last one
abbrev pub number_behind : ℕ → List Numbered → ℕ
number_behind from [] = from
number_behind from (p ∷ ps) = number_behind (p.0 + 1) ps

-- What a step comes to: there is no such cache, it has no more rows, its next row takes so many bytes and does not fit,
-- or these rows are given.
pub data Walked : Type 0 where
  missing : Walked
  ended : Walked
  short : ℕ → Walked
  given : List Numbered → Walked

abbrev pub walked_by : ℕ → List Numbered → Walked
walked_by room [] = ended
walked_by room (p ∷ ps) = if ltb room (row_length p.1) then short (row_length p.1) else given (fitting room (p ∷ ps))

-- a step from a number on, with so much room
abbrev pub walked : ℕ → Option Cache → ℕ → Walked
walked room None from = missing
walked room (Some k) from = walked_by room (rows_from (Some k) from (k.config.capacity - from))

abbrev pub walk_status : Walked → Status
walk_status missing = NoSuchCache
walk_status ended = Nothing
walk_status (short n) = ShortBuffer
walk_status (given rows) = Listed

abbrev pub bytes_walked : Walked → List ℕ
bytes_walked (given rows) = bytes_of rows
bytes_walked _ = []

abbrev pub length_walked : Walked → ℕ → ℕ
length_walked (short n) before = n
length_walked (given rows) before = length (bytes_of rows)
length_walked _ before = before

abbrev pub number_walked : Walked → ℕ → ℕ → ℕ
number_walked (given rows) from before = number_behind from rows
number_walked _ from before = before

-- of the numbers from one on up to the one behind the last, each row is given once, and no other is
pub record Covers (cache : Option Cache) (from : ℕ) (rows : List Numbered) : Type 0 where
  pub each : (n : ℕ) → from ≤ n → n < number_behind from rows → count_by (λ p. eqb p.0 n) rows ≡ cond (is_some (row_in n cache)) 1 0
  pub none_before : (n : ℕ) → n < from → count_by (λ p. eqb p.0 n) rows ≡ 0
  pub none_behind : (n : ℕ) → number_behind from rows ≤ n → count_by (λ p. eqb p.0 n) rows ≡ 0

-- and a walk is over where no number below the capacity has a row
abbrev pub WalkCovers : Option Cache → ℕ → Walked → Type 0
WalkCovers cache from (given rows) = Covers cache from rows
WalkCovers (Some k) from ended = (n : ℕ) → from ≤ n → n < k.config.capacity → row_in n (Some k) ≡ None
WalkCovers cache from w = Unit {0}

-- A walk from a number on: each step has so much room, and finds the cache as it is then. It gives these rows, until it
-- is over.
abbrev pub IsWalk : ℕ → List (ℕ × Cache) → List (List Numbered) → Type 0
IsWalk from [] lists = ⊥
IsWalk from (step ∷ []) [] = walked step.0 (Some step.1) from ≡ ended
IsWalk from (step ∷ next ∷ steps) [] = ⊥
IsWalk from (step ∷ steps) (rows ∷ lists) = (walked step.0 (Some step.1) from ≡ given rows) × IsWalk (number_behind from rows) steps lists

-- each step finds a row of this number, below the capacity
abbrev pub AlwaysThere : ℕ → List (ℕ × Cache) → Type 0
AlwaysThere n [] = Unit {0}
AlwaysThere n (step ∷ steps) = (n < step.1.config.capacity) × (is_some (row_in n (Some step.1)) ≡ true) × AlwaysThere n steps

-- how often a walk gives a row of this number
abbrev pub times_given : ℕ → List (List Numbered) → ℕ
times_given n [] = 0
times_given n (rows ∷ lists) = count_by (λ p. eqb p.0 n) rows + times_given n lists

-- bytes in the place of the first ones
abbrev pub laid_over : List ℕ → List ℕ → List ℕ
laid_over bytes out = bytes ++ drop (length bytes) out

-- what a step tells: its status, its bytes over those of a buffer, how many they are, and the number to go on from
pub record WalkTells (w : Walked) (from : ℕ) (out : List ℕ) (len next : ℕ) (got : Status) (out' : List ℕ) (len' next' : ℕ) : Type 0 where
  pub status : got ≡ walk_status w
  pub bytes : out' ≡ laid_over (bytes_walked w) out
  pub many : len' ≡ length_walked w len
  pub onward : next' ≡ number_walked w from next

-- bytes in the place of those that stood there
abbrev pub written_at : ℕ → List ℕ → List ℕ → List ℕ
written_at place bytes out = take place out ++ (bytes ++ drop (place + length bytes) out)

-- The row of a number, if there is one, is given behind others, or does not fit there and takes so many bytes.
abbrev pub Gives : Option Record → ℕ → Way → List ℕ → Result Way ℕ → List ℕ → Type 0
Gives None number way out (Ok further) out' = (further ≡ way) × (out' ≡ out)
Gives None number way out (Err wanted) out' = ⊥
Gives (Some row) number way out (Ok further) out' =
    (row_length row ≤ length out - way.place) × (further ≡ record { place = way.place + row_length row; next = number + 1 }) × (out' ≡ written_at way.place (row_bytes row) out)
Gives (Some row) number way out (Err wanted) out' = (length out - way.place < row_length row) × (wanted ≡ row_length row) × (out' ≡ out)

-- What a step tells where it stops: rows were given, or there is none, or the first takes so many bytes.

abbrev pub first_status : Option ℕ → Status
first_status None = Nothing
first_status (Some wanted) = ShortBuffer

abbrev pub status_at_end : Way → Option ℕ → Status
status_at_end way wanted = if eqb way.place 0 then first_status wanted else Listed

abbrev pub length_at_end : Way → Option ℕ → ℕ → ℕ
length_at_end way wanted before = if eqb way.place 0 then or_before before wanted else way.place

abbrev pub number_at_end : Way → ℕ → ℕ
number_at_end way before = if eqb way.place 0 then before else way.next
