-- The lines of a script name caches and processors that are there.
use Rattle.std.proofs.Common.{◌≡◌, ℕ, suc, ◌+◌, List, [], ◌∷◌, ◌++◌, length, Bool, true, false, ltb, Option, Some, None, Result, Ok, Err, refl, sym, ap, ◌∙◌, subst, arith}
use Rattle.std.specs.Prelude.{IfSome, IfOk, nat_lt, option_and_then, if◌then◌else◌, codes, ⊤}
use Rattle.std.specs.List.{slice_split}
use Rattle.std.specs.Option.{ok_or}
use Rattle.std.specs.Str.{bytes_eq}
use Rattle.serde_json.specs.Data.{Data}
use Rattle.serde_json.specs.Find.{get, as_bool, as_str}
use Rattle.jc_model.specs.declared.call.Call.{Call}
use Rattle.jc_model.specs.declared.call.Call.TheVariants as calls
use Rattle.jc_model.specs.declared.config.CacheConfig.{CacheConfig}
use Rattle.jc_model.specs.Limits.{sessions, text_bytes}
use Rattle.jc_model.specs.Places.{named_from, at_place}
use Rattle.jc_model.specs.Runs.{Status, Lives, opened_from, has_processor}
use Rattle.jc_script.specs.declared.fault.Member.TheVariants as members
use Rattle.jc_script.specs.declared.fault.ScriptFault.{ScriptFault}
use Rattle.jc_script.specs.declared.fault.ScriptFault.TheVariants.{TooLong, Bad}
use Rattle.jc_script.specs.declared.line.Line.{Line}
use Rattle.jc_config.specs.FirstFault.{◌>>=◌}
use Rattle.jc_script.specs.declared.line.Line.TheVariants as line
use Rattle.jc_script.specs.Creating.{asks_to_create, cache_name, capacity, line_policy, creating}
use Rattle.jc_script.specs.Line.{calling, on_cache, line_of}
use Rattle.jc_script.specs.Live.{after_line, id_of_live, processors_of, processors_at}
use Rattle.jc_script.specs.Member.{member_name, needed_line_member, whole_u64, whole_u64_below, cache, key, keys, pairs, value, object_of}
use Rattle.jc_script.specs.Operation.{Reading, of_key, of_key_value, of_key_expected, of_key_expected_value, of_key_processor, of_keys, of_keys_replace, of_keys_processor, of_pairs, on_one, on_many, chosen, call_of}
use Rattle.jc_script.specs.Script.{piece_of, lines_from, lines, is_blank, is_feed}
use Rattle.jc_script.specs.Named.{IsLive, Names, AllName}

-- Of what is read one after the other, where all of it can be read.

knowing : {A B : Type 0} (Q : A → Type 0) (P : B → Type 0) (r : Result A ScriptFault) (f : A → Result B ScriptFault) → IfOk r Q → ((x : A) → Q x → IfOk (f x) P) → IfOk (r >>= f) P
knowing Q P (Ok x) f known next = next x known
knowing Q P (Err e) f known next = tt

behind : {A B : Type 0} (P : B → Type 0) (r : Result A ScriptFault) (f : A → Result B ScriptFault) → ((x : A) → IfOk (f x) P) → IfOk (r >>= f) P
behind P (Ok x) f next = next x
behind P (Err e) f next = tt

found_in : {A B : Type 0} (P : B → Type 0) (f : A → Option B) (o : Option A) → ((x : A) → IfSome (f x) P) → IfSome (option_and_then f o) P
found_in P f None next = tt
found_in P f (Some x) next = next x

needed_ok : {A : Type 0} (P : A → Type 0) (o : Option A) (e : ScriptFault) → IfSome o P → IfOk (ok_or o e) P
needed_ok P None e h = tt
needed_ok P (Some x) e h = h

-- Caches.

record IsPlace (lives : Lives) (first id : ℕ) : Type 0 where
  offset : ℕ
  status : Status
  is : id ≡ first + offset
  there : at_place lives offset ≡ Some status

one_further : (l : Option Status) (lives : Lives) (first : ℕ) (o : Option ℕ) → IfSome o (IsPlace lives (first + 1)) → IfSome o (IsPlace (l ∷ lives) first)
one_further l lives first None h = tt
one_further l lives first (Some id) h = record { offset = suc h.offset; status = h.status; is = omega (arith, h.is); there = h.there }

place_there : (name : List ℕ) (first : ℕ) (lives : Lives) → IfSome (named_from (λ k. k.config.name) name first lives) (IsPlace lives first)
place_there name first [] = tt
place_there name first (None ∷ lives) = one_further None lives first (named_from (λ k. k.config.name) name (first + 1) lives) (place_there name (first + 1) lives)
place_there name first (Some k ∷ lives) = go (bytes_eq k.config.name name) (place_there name (first + 1) lives)
  where
    go : (b : Bool) → IfSome (named_from (λ k. k.config.name) name (first + 1) lives) (IsPlace lives (first + 1)) → IfSome (if b then Some first else named_from (λ k. k.config.name) name (first + 1) lives) (IsPlace (Some k ∷ lives) first)
    go true rest = record { offset = 0; status = k; is = omega arith; there = refl }
    go false rest = one_further (Some k) lives first (named_from (λ k. k.config.name) name (first + 1) lives) rest

from_first : (lives : Lives) (o : Option ℕ) → IfSome o (IsPlace lives 0) → IfSome o (IsLive lives)
from_first lives None h = tt
from_first lives (Some id) h =
    let same : h.offset ≡ id = omega (arith, h.is) in
    record { status = h.status; there = ap (at_place lives) (sym same) ∙ h.there }

cache_stands : (lives : Lives) (n : ℕ) (d : Data) → IfOk (needed_line_member (cache lives) n members.Cache d) (IsLive lives)
cache_stands lives n d =
    needed_ok (IsLive lives) (option_and_then (cache lives) (get (member_name members.Cache) d)) (Bad n members.Cache)
    (found_in (IsLive lives) (cache lives) (get (member_name members.Cache) d) (λ m. found_in (IsLive lives) (id_of_live lives) (key m) (λ name. from_first lives (id_of_live lives name) (place_there name 0 lives))))

-- Calls.

-- a call on a cache with so many processors names one of them, if it names any
abbrev IsWithin : ℕ → Call → Type 0
IsWithin processors call = (c : CacheConfig) → processors ≡ length c.processors → has_processor c call ≡ true

below : (limit : ℕ) (d : Data) → IfSome (whole_u64_below limit d) (λ n. nat_lt n limit ≡ true)
below limit d = found_in (λ n. nat_lt n limit ≡ true) (λ n. if nat_lt n limit then Some n else None) (whole_u64 d) (λ n. go n (nat_lt n limit) refl)
  where
    go : (n : ℕ) (b : Bool) → nat_lt n limit ≡ b → IfSome (if b then Some n else None) (λ i. nat_lt i limit ≡ true)
    go n true e = e
    go n false e = tt

processor_below : (processors n : ℕ) (d : Data) → IfOk (needed_line_member (whole_u64_below processors) n members.Processor d) (λ p. nat_lt p processors ≡ true)
processor_below processors n d =
    needed_ok (λ p. nat_lt p processors ≡ true) (option_and_then (whole_u64_below processors) (get (member_name members.Processor) d)) (Bad n members.Processor)
    (found_in (λ p. nat_lt p processors ≡ true) (whole_u64_below processors) (get (member_name members.Processor) d) (below processors))

-- a call that names no processor is within any number of them
abbrev IsWithinAll : Call → Type 0
IsWithinAll call = (processors : ℕ) → IsWithin processors call

abbrev ReadsWithin : Reading → Type 0
ReadsWithin reading = (processors n : ℕ) (d : Data) → IfOk (reading processors n d) (IsWithin processors)

key_within : (call : List ℕ → Call) → ((k : List ℕ) → IsWithinAll (call k)) → ReadsWithin (of_key call)
key_within call all m n d = behind (IsWithin m) (needed_line_member key n members.Key d) _ (λ k. all k m)

value_within : (call : List ℕ → List ℕ → Call) → ((k v : List ℕ) → IsWithinAll (call k v)) → ReadsWithin (of_key_value call)
value_within call all m n d = behind (IsWithin m) (needed_line_member key n members.Key d) _ (λ k. behind (IsWithin m) (needed_line_member value n members.Value d) _ (λ v. all k v m))

expected_within : (call : List ℕ → List ℕ → Call) → ((k x : List ℕ) → IsWithinAll (call k x)) → ReadsWithin (of_key_expected call)
expected_within call all m n d = behind (IsWithin m) (needed_line_member key n members.Key d) _ (λ k. behind (IsWithin m) (needed_line_member value n members.Expect d) _ (λ x. all k x m))

both_within : (call : List ℕ → List ℕ → List ℕ → Call) → ((k x v : List ℕ) → IsWithinAll (call k x v)) → ReadsWithin (of_key_expected_value call)
both_within call all m n d =
    behind (IsWithin m) (needed_line_member key n members.Key d) _ (λ k. behind (IsWithin m) (needed_line_member value n members.Expect d) _ (λ x. behind (IsWithin m) (needed_line_member value n members.Value d) _ (λ v. all k x v m)))

keys_within : (call : List (List ℕ) → Call) → ((ks : List (List ℕ)) → IsWithinAll (call ks)) → ReadsWithin (of_keys call)
keys_within call all m n d = behind (IsWithin m) (needed_line_member keys n members.Keys d) _ (λ ks. all ks m)

replace_within : (call : List (List ℕ) → Bool → Call) → ((ks : List (List ℕ)) (replace : Bool) → IsWithinAll (call ks replace)) → ReadsWithin (of_keys_replace call)
replace_within call all m n d = behind (IsWithin m) (needed_line_member keys n members.Keys d) _ (λ ks. behind (IsWithin m) (needed_line_member as_bool n members.Replace d) _ (λ replace. all ks replace m))

pairs_within : (call : List (List ℕ × List ℕ) → Call) → ((ps : List (List ℕ × List ℕ)) → IsWithinAll (call ps)) → ReadsWithin (of_pairs call)
pairs_within call all m n d = behind (IsWithin m) (needed_line_member pairs n members.Pairs d) _ (λ ps. all ps m)

-- a processor that was read is among those that there are
processor_within : (m n : ℕ) (d : Data) (call : ℕ → List ℕ → Call) → ((p : ℕ) (a : List ℕ) → nat_lt p m ≡ true → IsWithin m (call p a))
    → IfOk (needed_line_member (whole_u64_below m) n members.Processor d >>= λ p. needed_line_member value n members.Argument d >>= λ a. Ok (call p a)) (IsWithin m)
processor_within m n d call all =
    knowing (λ p. nat_lt p m ≡ true) (IsWithin m) (needed_line_member (whole_u64_below m) n members.Processor d) _ (processor_below m n d)
    (λ p lt. behind (IsWithin m) (needed_line_member value n members.Argument d) _ (λ a. all p a lt))

invoke_within : ReadsWithin (of_key_processor calls.Invoke)
invoke_within m n d = behind (IsWithin m) (needed_line_member key n members.Key d) _ (λ k. processor_within m n d (calls.Invoke k) (λ p a lt c e. subst (λ (i : ℕ). ltb p i ≡ true) e lt))

invoke_all_within : ReadsWithin (of_keys_processor calls.InvokeAll)
invoke_all_within m n d = behind (IsWithin m) (needed_line_member keys n members.Keys d) _ (λ ks. processor_within m n d (calls.InvokeAll ks) (λ p a lt c e. subst (λ (i : ℕ). ltb p i ≡ true) e lt))

abbrev AllWithin : List (List ℕ × Reading) → Type 0
AllWithin [] = ⊤
AllWithin (op ∷ ops) = ReadsWithin op.1 × AllWithin ops

infixr 5 ◌then◌
◌then◌ : {A B : Type 0} → A → B → A × B
first then rest = (first, rest)

operations_within : AllWithin (on_one ++ on_many)
operations_within =
    key_within _ (λ k m c e. refl) then
    key_within _ (λ k m c e. refl) then
    value_within _ (λ k v m c e. refl) then
    value_within _ (λ k v m c e. refl) then
    value_within _ (λ k v m c e. refl) then
    value_within _ (λ k v m c e. refl) then
    both_within _ (λ k x v m c e. refl) then
    value_within _ (λ k v m c e. refl) then
    key_within _ (λ k m c e. refl) then
    expected_within _ (λ k x m c e. refl) then
    key_within _ (λ k m c e. refl) then
    invoke_within then
    keys_within _ (λ ks m c e. refl) then
    invoke_all_within then
    pairs_within _ (λ ps m c e. refl) then
    keys_within _ (λ ks m c e. refl) then
    replace_within _ (λ ks replace m c e. refl) then
    (λ m n d c e. refl) then
    (λ m n d c e. refl) then
    (λ m n d c e. refl) then
    (λ m n d c e. refl) then
    (λ m n d c e. refl) then
    tt

chosen_within : (ops : List (List ℕ × Reading)) → AllWithin ops → (name : List ℕ) → ReadsWithin (chosen ops name)
unfolding chosen
chosen_within [] all name m n d = tt
chosen_within (op ∷ ops) all name m n d = go (bytes_eq name op.0) (chosen_within ops all.1 name m n d)
  where
    go : (b : Bool) → IfOk (chosen ops name m n d) (IsWithin m) → IfOk (if b then op.1 m n d else chosen ops name m n d) (IsWithin m)
    go true others = all.0 m n d
    go false others = others

call_within : (name : List ℕ) → ReadsWithin (call_of name)
unfolding call_of
call_within name m n d = chosen_within (on_one ++ on_many) operations_within name m n d

-- Lines.

calling_named : (lives : Lives) (s id moment : ℕ) (name : List ℕ) (n : ℕ) (d : Data) → IsLive lives id → IfOk (calling lives s id moment name n d) (Names lives)
unfolding calling
calling_named lives s id moment name n d at =
    knowing (IsWithin (processors_at lives id)) (Names lives) (call_of name (processors_at lives id) n d) _ (call_within name (processors_at lives id) n d)
    (λ call within. record { status = at.status; there = at.there; processor = within at.status.config (ap processors_of at.there) })

on_cache_named : (lives : Lives) (s n : ℕ) (d : Data) → IfOk (on_cache lives s n d) (Names lives)
unfolding on_cache
on_cache_named lives s n d =
    knowing (IsLive lives) (Names lives) (needed_line_member (cache lives) n members.Cache d) _ (cache_stands lives n d)
    (λ id at. behind (Names lives) (needed_line_member whole_u64 n members.At d) _ (λ moment. behind (Names lives) (needed_line_member as_str n members.Op d) _ (λ name. go id moment name at (bytes_eq name (codes "destroy")))))
  where
    go : (id moment : ℕ) (name : List ℕ) → IsLive lives id → (b : Bool) → IfOk (if b then Ok (line.Destroy s id) else calling lives s id moment name n d) (Names lives)
    go id moment name at true = at
    go id moment name at false = calling_named lives s id moment name n d at

creating_named : (lives : Lives) (s n : ℕ) (d : Data) → IfOk (creating s n d) (Names lives)
unfolding creating
creating_named lives s n d =
    behind (Names lives) (needed_line_member cache_name n members.Cache d) _ (λ name. behind (Names lives) (needed_line_member whole_u64 n members.At d) _ (λ moment. behind (Names lives) (needed_line_member capacity n members.Capacity d) _
    (λ rows. behind (Names lives) (line_policy n d) _ (λ policy. tt))))

line_named : (lives : Lives) (n : ℕ) (d : Data) → IfOk (line_of lives n d) (Names lives)
unfolding line_of
line_named lives n d = behind (Names lives) (needed_line_member (whole_u64_below sessions) n members.Session d) _ (λ s. go s (asks_to_create d))
  where
    go : (s : ℕ) (b : Bool) → IfOk (if b then creating s n d else on_cache lives s n d) (Names lives)
    go s true = creating_named lives s n d
    go s false = on_cache_named lives s n d

piece_named : (lives : Lives) (n : ℕ) (piece : List ℕ) → IfOk (piece_of lives n piece) (Names lives)
unfolding piece_of
piece_named lives n piece = behind (Names lives) (object_of n piece) (line_of lives n) (line_named lives n)

all_named : (lives : Lives) (n : ℕ) (pieces : List (List ℕ)) → IfOk (lines_from lives n pieces) (AllName lives)
unfolding lines_from
all_named lives n [] = tt
all_named lives n (piece ∷ pieces) = go (is_blank piece) (λ after. all_named after (n + 1) pieces)
  where
    go : (b : Bool) → ((after : Lives) → IfOk (lines_from after (n + 1) pieces) (AllName after))
        → IfOk (if b then lines_from lives (n + 1) pieces else (piece_of lives n piece >>= λ first. lines_from (after_line lives first) (n + 1) pieces >>= λ others. Ok (first ∷ others))) (AllName lives)
    go true rest = rest lives
    go false rest =
        knowing (Names lives) (AllName lives) (piece_of lives n piece) _ (piece_named lives n piece)
        (λ first named. knowing (AllName (after_line lives first)) (AllName lives) (lines_from (after_line lives first) (n + 1) pieces) _ (rest (after_line lives first)) (λ others more. (named, more)))

script_named : (caches : List CacheConfig) (bytes : List ℕ) → IfOk (lines caches bytes) (AllName (opened_from 0 caches))
unfolding lines
script_named caches bytes = go (nat_lt text_bytes (length bytes))
  where
    go : (b : Bool) → IfOk (if b then Err TooLong else lines_from (opened_from 0 caches) 1 (slice_split is_feed bytes)) (AllName (opened_from 0 caches))
    go true = tt
    go false = all_named (opened_from 0 caches) 1 (slice_split is_feed bytes)

pub lines_named : (caches : List CacheConfig) (bytes : List ℕ) (ls : List Line) → lines caches bytes ≡ Ok ls → AllName (opened_from 0 caches) ls
lines_named caches bytes ls e = subst (λ (read : Result (List Line) ScriptFault). IfOk read (AllName (opened_from 0 caches))) e (script_named caches bytes)
