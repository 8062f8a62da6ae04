-- What bytes say.
use Rattle.std.specs.Prelude.{◌≡◌, ℕ, ◌+◌, ◌&&◌, not, ltb, nat_eq, if◌then◌else◌, ◌⊎◌, Result, Ok, Err, MatchResult, List, [], ◌∷◌, map, length, take, drop, Bool, Vec}
use Rattle.std.specs.Str.{is_utf8}
use Rattle.std.specs.declared.alloc.Global.{Global}
use Rattle.jc_model.specs.Limits.{key_bytes, value_bytes, most_keys}
use Rattle.jc_model.specs.Lists.{distinct}
use Rattle.jc_model.specs.declared.config.CacheConfig.{CacheConfig}
use Rattle.jc_model.specs.declared.config.Policy.{Policy}
use Rattle.jc_model.specs.declared.config.Policy.TheVariants as policy
use Rattle.jc_model.specs.declared.keys.ListFault.{ListFault}
use Rattle.jc_model.specs.declared.keys.ListFault.TheVariants as list
use Rattle.jc_c.specs.declared.reading.PairLengths.{PairLengths}
use Rattle.jc_c.specs.declared.ffi_settings.FfiSettings.{FfiSettings}
use Rattle.jc_c.specs.declared.ffi_settings.NewCache.{NewCache}
use Rattle.jc_c.specs.declared.status.Fault.{Fault}
use Rattle.jc_c.specs.declared.status.Fault.TheVariants.{BadKey, BadValue, BadLengths, BadChoice, OutOfMemory, TooManyKeys, DuplicateKey}

-- the first fault, or what is made of both
abbrev pub read_then : {A B : Type 0} → Result A Fault → (A → Result B Fault) → Result B Fault
read_then (Ok x) next = next x
read_then (Err fault) next = Err fault

-- memory was wanting, or this is wrong with the bytes
abbrev pub IsReadFault : {A : Type 0} → Result A Fault → Fault → Type 0
IsReadFault what fault = (fault ≡ OutOfMemory) ⊎ (what ≡ Err fault)

-- what the bytes say was read, or memory was wanting for it
abbrev pub IsRead : {A : Type 0} → Result A Fault → Result A Fault → Type 0
IsRead what (Ok x) = what ≡ Ok x
IsRead what (Err fault) = IsReadFault what fault

-- the same of a list
abbrev pub IsListRead : {A : Type 0} → Result (List A) Fault → Result (Vec A Global) Fault → Type 0
IsListRead what read = MatchResult read (λ xs. what ≡ Ok xs.items) (IsReadFault what)

abbrev pub key_said : List ℕ → Result (List ℕ) Fault
key_said bytes = if is_utf8 bytes && ltb 0 (length bytes) && not (ltb key_bytes (length bytes)) then Ok bytes else Err BadKey

abbrev pub value_said : List ℕ → Result (List ℕ) Fault
value_said bytes = if ltb value_bytes (length bytes) then Err BadValue else Ok bytes

-- a list, and one item before it
abbrev pub with_item_before : {A : Type 0} → A → Result (List A) Fault → Result (List A) Fault
with_item_before x (Ok xs) = Ok (x ∷ xs)
with_item_before x (Err fault) = Err fault

-- items one after the other, each of so many bytes, with nothing before, between or behind
abbrev pub list_in : {W A : Type 0} → (W → ℕ) → (W → List ℕ → Result A Fault) → List W → List ℕ → Result (List A) Fault
list_in width item [] [] = Ok []
list_in width item [] (b ∷ bytes) = Err BadLengths
list_in width item (w ∷ lengths) bytes =
    if ltb (length bytes) (width w) then Err BadLengths
    else read_then (item w bytes) (λ x. with_item_before x (list_in width item lengths (drop (width w) bytes)))

abbrev pub pair_said : ℕ → ℕ → List ℕ → Result (List ℕ × List ℕ) Fault
pair_said n m bytes = read_then (key_said (take n bytes)) (λ k. read_then (value_said (take m (drop n bytes))) (λ v. Ok (k, v)))

abbrev pub key_list_said : List ℕ → List ℕ → Result (List (List ℕ)) Fault
key_list_said lengths bytes = list_in (λ n. n) (λ n left. key_said (take n left)) lengths bytes

abbrev pub pair_list_said : List PairLengths → List ℕ → Result (List (List ℕ × List ℕ)) Fault
pair_list_said lengths bytes = list_in (λ w. w.key + w.value) (λ w left. pair_said w.key w.value left) lengths bytes

abbrev pub list_fault : ListFault → Fault
list_fault list.TooManyKeys = TooManyKeys
list_fault list.DuplicateKey = DuplicateKey

-- at most 64 items with different keys
abbrev pub few_distinct_by : {A : Type 0} → (A → List ℕ) → List A → Result (List A) Fault
few_distinct_by key items = if ltb most_keys (length items) then Err TooManyKeys else (if distinct (map key items) then Ok items else Err DuplicateKey)

abbrev pub keys_said : List ℕ → List ℕ → Result (List (List ℕ)) Fault
keys_said lengths bytes = read_then (key_list_said lengths bytes) (few_distinct_by (λ k. k))

abbrev pub pairs_said : List PairLengths → List ℕ → Result (List (List ℕ × List ℕ)) Fault
pairs_said lengths bytes = read_then (pair_list_said lengths bytes) (few_distinct_by (λ p. p.0))

-- Configurations.

abbrev pub is_set : ℕ → Bool
is_set n = not (nat_eq n 0)

abbrev pub policy_said : ℕ → ℕ → Result Policy Fault
policy_said choice duration =
    if nat_eq choice 0 then Ok policy.Eternal
    else (if nat_eq choice 1 then Ok (policy.Created duration)
    else (if nat_eq choice 2 then Ok (policy.Accessed duration)
    else (if nat_eq choice 3 then Ok (policy.Modified duration)
    else (if nat_eq choice 4 then Ok (policy.Touched duration) else Err BadChoice))))

-- the most bytes of a value; 0 stands for no bound of the cache's own
abbrev pub bound_said : ℕ → ℕ
bound_said n = if nat_eq n 0 then value_bytes else n

abbrev pub config_by : List ℕ → Policy → FfiSettings → List ℕ → CacheConfig
config_by name p s wants = record { name = name; capacity = s.capacity; policy = p; loader = is_set s.loader; writer = is_set s.writer; processors = map is_set wants; listeners = s.listeners }

-- a number that is reserved is 0
abbrev pub cache_by : List ℕ → Policy → FfiSettings → List ℕ → Result NewCache Fault
cache_by name p s wants = if nat_eq s.reserved 0 then Ok (record { config = config_by name p s wants; max_value = bound_said s.max_value }) else Err BadChoice

abbrev pub cache_said : List ℕ → FfiSettings → List ℕ → Result NewCache Fault
cache_said name s wants = read_then (key_said name) (λ n. read_then (policy_said s.policy s.duration) (λ p. cache_by n p s wants))
