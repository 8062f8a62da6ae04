-- The one spelling of each cache: its configuration but for the name, and its state. Numbers have their low byte first.
use Rattle.std.specs.Prelude.{ℕ, ◌+◌, Bool, if◌then◌else◌, List, [], ◌∷◌, ◌++◌, length, map}
use Rattle.std.specs.List.{flat_map}
use Rattle.std.specs.Int.{w16, w32, w64, to_le_bytes}
use Rattle.jc_model.specs.declared.call.Counts.{Counts}
use Rattle.jc_model.specs.declared.config.CacheConfig.{CacheConfig}
use Rattle.jc_model.specs.declared.config.Expiry.{Expiry}
use Rattle.jc_model.specs.declared.config.Expiry.TheVariants.{Never, At}
use Rattle.jc_model.specs.declared.config.Policy.{Policy}
use Rattle.jc_model.specs.declared.config.Policy.TheVariants.{Eternal, Created, Accessed, Modified, Touched}
use Rattle.jc_model.specs.State.{Item, State}
use Rattle.jc_save.specs.Limits.{magic, version}

abbrev pub flag : Bool → ℕ
flag b = if b then 1 else 0

-- a number, and the duration where there is one
unfoldable pub policy : Policy → List ℕ
policy Eternal = 0 ∷ []
policy (Created d) = 1 ∷ to_le_bytes w64 d
policy (Accessed d) = 2 ∷ to_le_bytes w64 d
policy (Modified d) = 3 ∷ to_le_bytes w64 d
policy (Touched d) = 4 ∷ to_le_bytes w64 d

-- how many, and of each whether it wants the value
abbrev pub processors : List Bool → List ℕ
processors wants = length wants ∷ map flag wants

unfoldable pub settings : CacheConfig → List ℕ
settings c =
    to_le_bytes w32 c.capacity ++ policy c.policy ++ flag c.loader ∷ flag c.writer ∷ c.listeners ∷ processors c.processors

unfoldable pub counters : Counts → List ℕ
counters n =
    to_le_bytes w64 n.hits ++ to_le_bytes w64 n.misses ++ to_le_bytes w64 n.puts ++ to_le_bytes w64 n.removals ++ to_le_bytes w64 n.evictions

-- whether the row was used since CLOCK's hand last passed it, and 2 more where it expires; then the moment at which it does
unfoldable pub mark : Expiry → Bool → List ℕ
mark Never used = flag used ∷ []
mark (At moment) used = (2 + flag used) ∷ to_le_bytes w64 moment

-- how many bytes, then these
abbrev pub key : List ℕ → List ℕ
key text = length text ∷ text

abbrev pub value : List ℕ → List ℕ
value bytes = to_le_bytes w16 (length bytes) ++ bytes

unfoldable pub row : Item → List ℕ
row x = mark x.expiry x.used ++ (key x.key ++ value x.value)

-- all of a row but its value's bytes, of which there are so many
unfoldable pub row_front : Expiry → Bool → List ℕ → ℕ → List ℕ
row_front expiry used text count = mark expiry used ++ (key text ++ to_le_bytes w16 count)

-- all that stands before the rows, of which there are so many
unfoldable pub head : CacheConfig → Counts → ℕ → List ℕ
head c counts rows = magic ++ version ∷ settings c ++ counters counts ++ to_le_bytes w32 rows

-- the rows stand from CLOCK's hand on
unfoldable pub saved : CacheConfig → State → List ℕ
saved c s = head c s.counts (length s.ring) ++ flat_map row s.ring
