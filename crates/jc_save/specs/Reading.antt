-- Reading fields from left to right, with the first flaw that is met. A field is a value and the bytes behind it.
use Rattle.std.specs.Prelude.{ℕ, zero, suc, Bool, true, false, if◌then◌else◌, ◌||◌, ltb, List, [], ◌∷◌, ◌++◌, length, take, drop, Result, Ok, Err}
use Rattle.std.specs.Int.{Width, w16, w32, w64, byte_len, from_le_bytes}
use Rattle.std.specs.List.{list_any}
use Rattle.std.specs.Str.{is_utf8, bytes_eq}
use Rattle.jc_model.specs.declared.call.Counts.{Counts}
use Rattle.jc_model.specs.declared.config.CacheConfig.{CacheConfig}
use Rattle.jc_model.specs.declared.config.Expiry.{Expiry}
use Rattle.jc_model.specs.declared.config.Expiry.TheVariants.{Never, At}
use Rattle.jc_model.specs.declared.config.Policy.{Policy}
use Rattle.jc_model.specs.declared.config.Policy.TheVariants.{Eternal, Created, Accessed, Modified, Touched}
use Rattle.jc_model.specs.Limits.{key_bytes, most_rows, most_listeners, most_processors}
use Rattle.jc_model.specs.State.{Item}
use Rattle.jc_save.specs.declared.fault.Flaw.{Flaw}
use Rattle.jc_save.specs.declared.fault.Flaw.TheVariants as flaw
use Rattle.jc_save.specs.declared.fault.Found.{Found}

infixl 10 ◌>>=◌
abbrev pub ◌>>=◌ : {A B : Type 0} → Result A Found → (A → Result B Found) → Result B Found
(Ok x) >>= f = f x
(Err found) >>= f = Err found

-- what is wrong with the field that begins here
abbrev pub flaw_at : Flaw → List ℕ → Found
flaw_at flaw bytes = record { flaw = flaw; left = length bytes }

abbrev pub refused : {A : Type 0} → Flaw → List ℕ → Result A Found
refused flaw bytes = Err (flaw_at flaw bytes)

-- one field, and then another
abbrev pub both : {A B : Type 0} → (List ℕ → Result (A × List ℕ) Found) → (List ℕ → Result (B × List ℕ) Found) → List ℕ → Result ((A × B) × List ℕ) Found
both first second bytes = do
  x ← first bytes
  y ← second x.1
  Ok ((x.0, y.0), y.1)

-- what is made of a field
abbrev pub mapped : {A B : Type 0} → (A → B) → (List ℕ → Result (A × List ℕ) Found) → List ℕ → Result (B × List ℕ) Found
mapped made field bytes = do
  x ← field bytes
  Ok (made x.0, x.1)

unfoldable pub byte_at : List ℕ → Result (ℕ × List ℕ) Found
byte_at [] = refused flaw.Cut []
byte_at (b ∷ rest) = Ok (b, rest)

unfoldable pub number_at : Width → List ℕ → Result (ℕ × List ℕ) Found
number_at w bytes =
    if ltb (length bytes) (byte_len w) then refused flaw.Cut bytes
    else Ok (from_le_bytes w (take (byte_len w) bytes), drop (byte_len w) bytes)

-- so many bytes
unfoldable pub text_at : ℕ → List ℕ → Result (List ℕ × List ℕ) Found
text_at n bytes = if ltb (length bytes) n then refused flaw.Cut bytes else Ok (take n bytes, drop n bytes)

unfoldable pub flag_at : List ℕ → Result (Bool × List ℕ) Found
flag_at [] = refused flaw.Cut []
flag_at (zero ∷ rest) = Ok (false, rest)
flag_at (suc zero ∷ rest) = Ok (true, rest)
flag_at (suc (suc b) ∷ rest) = refused flaw.Flag (suc (suc b) ∷ rest)

unfoldable pub policy_at : List ℕ → Result (Policy × List ℕ) Found
policy_at [] = refused flaw.Cut []
policy_at (zero ∷ rest) = Ok (Eternal, rest)
policy_at (suc zero ∷ rest) = mapped Created (number_at w64) rest
policy_at (suc (suc zero) ∷ rest) = mapped Accessed (number_at w64) rest
policy_at (suc (suc (suc zero)) ∷ rest) = mapped Modified (number_at w64) rest
policy_at (suc (suc (suc (suc zero))) ∷ rest) = mapped Touched (number_at w64) rest
policy_at (suc (suc (suc (suc (suc b)))) ∷ rest) = refused flaw.Policy (suc (suc (suc (suc (suc b)))) ∷ rest)

-- so many processors behind those that were read before
unfoldable pub flags_at : List Bool → ℕ → List ℕ → Result (List Bool × List ℕ) Found
flags_at before zero bytes = Ok (before, bytes)
flags_at before (suc n) bytes = do
  wants ← flag_at bytes
  flags_at (before ++ wants.0 ∷ []) n wants.1

unfoldable pub capacity_at : List ℕ → Result (ℕ × List ℕ) Found
capacity_at bytes = do
  n ← number_at w32 bytes
  if ltb n.0 1 || ltb most_rows n.0 then refused flaw.Capacity bytes else Ok n

unfoldable pub listeners_at : List ℕ → Result (ℕ × List ℕ) Found
listeners_at bytes = do
  n ← byte_at bytes
  if ltb most_listeners n.0 then refused flaw.Listeners bytes else Ok n

unfoldable pub processors_at : List ℕ → Result (List Bool × List ℕ) Found
processors_at bytes = do
  n ← byte_at bytes
  if ltb most_processors n.0 then refused flaw.Processors bytes else flags_at [] n.0 n.1

abbrev pub config_with : List ℕ → ℕ × (Policy × (Bool × (Bool × (ℕ × List Bool)))) → CacheConfig
config_with name (capacity, (policy, (loader, (writer, (listeners, processors))))) = record {
  name = name;
  capacity = capacity;
  policy = policy;
  loader = loader;
  writer = writer;
  processors = processors;
  listeners = listeners;
}

unfoldable pub settings_at : List ℕ → List ℕ → Result (CacheConfig × List ℕ) Found
settings_at name =
    mapped (config_with name) (both capacity_at (both policy_at (both flag_at (both flag_at (both listeners_at processors_at)))))

abbrev pub counts_with : ℕ × (ℕ × (ℕ × (ℕ × ℕ))) → Counts
counts_with (hits, (misses, (puts, (removals, evictions)))) =
    record { hits = hits; misses = misses; puts = puts; removals = removals; evictions = evictions }

unfoldable pub counters_at : List ℕ → Result (Counts × List ℕ) Found
counters_at =
    mapped counts_with (both (number_at w64) (both (number_at w64) (both (number_at w64) (both (number_at w64) (number_at w64)))))

unfoldable pub mark_at : List ℕ → Result ((Expiry × Bool) × List ℕ) Found
mark_at [] = refused flaw.Cut []
mark_at (zero ∷ rest) = Ok ((Never, false), rest)
mark_at (suc zero ∷ rest) = Ok ((Never, true), rest)
mark_at (suc (suc zero) ∷ rest) = mapped (λ m. (At m, false)) (number_at w64) rest
mark_at (suc (suc (suc zero)) ∷ rest) = mapped (λ m. (At m, true)) (number_at w64) rest
mark_at (suc (suc (suc (suc b))) ∷ rest) = refused flaw.Mark (suc (suc (suc (suc b))) ∷ rest)

unfoldable pub key_at : List ℕ → Result (List ℕ × List ℕ) Found
key_at bytes = do
  n ← byte_at bytes
  text ← (if ltb n.0 1 || ltb key_bytes n.0 then refused flaw.KeyLength bytes else text_at n.0 n.1)
  if is_utf8 text.0 then Ok text else refused flaw.KeyText n.1

unfoldable pub value_at : List ℕ → Result (List ℕ × List ℕ) Found
value_at bytes = do
  n ← number_at w16 bytes
  text_at n.0 n.1

abbrev pub item_with : (Expiry × Bool) × (List ℕ × List ℕ) → Item
item_with ((expiry, used), (key, value)) = record { key = key; value = value; expiry = expiry; used = used }

unfoldable pub row_at : List ℕ → Result (Item × List ℕ) Found
row_at = mapped item_with (both mark_at (both key_at value_at))

abbrev pub has_key : List ℕ → List Item → Bool
has_key key rows = list_any (λ x. bytes_eq x.key key) rows

-- so many rows behind those that were read before, of which none has the key of an earlier one
unfoldable pub rows_at : List Item → ℕ → List ℕ → Result (List Item × List ℕ) Found
rows_at before zero bytes = Ok (before, bytes)
rows_at before (suc n) bytes = do
  x ← row_at bytes
  if has_key x.0.key before then refused flaw.DuplicateKey bytes else rows_at (before ++ x.0 ∷ []) n x.1
