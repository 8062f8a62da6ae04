-- The object of a life: its counters at the end of the run, and its hit ratio.
use Rattle.std.specs.Prelude.{◌≡◌, ℕ, ◌+◌, ◌*◌, ◌/◌, ◌%◌, ◌==◌, List, [], ◌∷◌, ◌++◌, map, None, if◌then◌else◌, codes, decimal, ⊤}
use Rattle.std.specs.Borrow.{Bor}
use Rattle.json.specs.Print.{quoted}
use Rattle.jc_engine.specs.Opening.{open_refusal}
use Rattle.jc_model.specs.declared.call.Counts.{Counts}
use Rattle.jc_model.specs.declared.config.CacheConfig.{CacheConfig}
use Rattle.jc_model.specs.declared.event.Entry.{Entry}
use Rattle.jc_model.specs.declared.event.Life.{Life}
use Rattle.jc_model.specs.Legal.{IsLegalFrom, entries_of, played}
use Rattle.jc_model.specs.Runs.{fresh}
use Rattle.jc_model.specs.Solo.{state_in, standing_from}
use Rattle.jc_report.specs.Replies.{other_counters}
use Rattle.jc_report.specs.Values.{first_member, next_member, number_member}

-- the entries that are lent
abbrev pub entries_lent : List (Bor Entry) → List Entry
entries_lent entries = map (λ e. e.now) entries

-- the counters of a cache alone, of which these are the calls
abbrev pub counts_after : CacheConfig → List Entry → Counts
counts_after c entries = (state_in (standing_from c fresh (map played entries))).counts

-- the last four digits
abbrev pub four_digits : ℕ → List ℕ
four_digits n = decimal (n / 1000 % 10) ++ decimal (n / 100 % 10) ++ decimal (n / 10 % 10) ++ decimal (n % 10)

-- so many ten-thousandths as a number
abbrev pub fraction_json : ℕ → List ℕ
fraction_json n = decimal (n / 10000) ++ codes "." ++ four_digits n

-- the hits in what was looked up, with four decimals, rounded down; null where nothing was looked up
unfoldable pub ratio_json : ℕ → ℕ → List ℕ
ratio_json hits misses = if hits + misses == 0 then codes "null" else fraction_json (hits * 10000 / (hits + misses))

unfoldable pub life_json : Life → Counts → List ℕ
life_json life c =
    first_member (codes "cache") ++ quoted life.config.name ++ number_member (codes "id") life.id ++ number_member (codes "hits") c.hits ++ other_counters c
    ++ next_member (codes "hit_ratio") ++ ratio_json c.hits c.misses ++ codes "}\n"

-- the object of a life with these calls
abbrev pub total_json : Life → List Entry → List ℕ
total_json life entries = life_json life (counts_after life.config entries)

-- each life by its own calls
abbrev pub lives_json : List Life → List Entry → List ℕ
lives_json [] entries = []
lives_json (life ∷ lives) entries = total_json life (entries_of life.id entries) ++ lives_json lives entries

-- a manager opens with the cache of each life alone
abbrev pub CanOpenEach : List Life → Type 0
CanOpenEach [] = ⊤
CanOpenEach (life ∷ lives) = (open_refusal (life.config ∷ []) ≡ None) × CanOpenEach lives

-- the calls of each life can be made again
abbrev pub CanBeMadeAgain : List Life → List Entry → Type 0
CanBeMadeAgain [] entries = ⊤
CanBeMadeAgain (life ∷ lives) entries =
    (open_refusal (life.config ∷ []) ≡ None) × IsLegalFrom life.config fresh (entries_of life.id entries) × CanBeMadeAgain lives entries
