-- A configuration that was read opens a manager, and the callbacks that it names are those that its caches are to have.
use Rattle.std.proofs.Common.{◌≡◌, ℕ, zero, suc, ◌+◌, ◌≤◌, Bool, true, false, List, [], ◌∷◌, ◌++◌, length, map, Option, Some, None, Ok, refl, sym, ap, ◌∙◌, subst, arith, nat_le}
use Rattle.std.specs.Prelude.{◌||◌, ltb, if◌then◌else◌, is_some, sum}
use Rattle.std.specs.Option.{ok_or}
use Rattle.std.specs.List.{list_any, fold}
use Rattle.std.specs.Str.{bytes_eq}
use Rattle.std.proofs.lemmas.Bool.Decides.{nat_tests}
use Rattle.std.proofs.lemmas.List.{length-map, length-replicate}
use Rattle.jc_config.specs.Config.{document_of, tables_of, caches_of, check_totals, check_names, duplicate_from, total_of, fault_unless, configuration_in}
use Rattle.jc_config.specs.Kinds.{wants_value_of}
use Rattle.jc_config.specs.declared.fault.ConfigFault.TheVariants.{NotToml}
use Rattle.jc_config.specs.declared.kinds.CacheSettings.{CacheSettings}
use Rattle.jc_config.specs.declared.kinds.Configuration.{Configuration}
use Rattle.jc_config.specs.declared.kinds.HookKinds.{HookKinds}
use Rattle.jc_config.specs.declared.kinds.LoaderKind.{LoaderKind}
use Rattle.jc_config.specs.declared.kinds.LoaderKind.TheVariants.{Echo}
use Rattle.jc_config.specs.declared.kinds.WriterKind.{WriterKind}
use Rattle.jc_config.specs.declared.kinds.WriterKind.TheVariants.{Check}
use Rattle.jc_config.specs.declared.kinds.ProcessorKind.{ProcessorKind}
use Rattle.jc_config.specs.declared.kinds.ProcessorKind.TheVariants as kind
use Rattle.jc_config.proofs.Caches.{Sound, AllSound, sound_caches}
use Rattle.jc_config.proofs.Readings.{bind_ok, ok_same, provided_ok}
use Rattle.jc_engine.specs.Opening.{is_taken, refusal_from, capacities, open_refusal}
use Rattle.jc_model.specs.Refusals.{broken_limit}
use Rattle.jc_hooks.specs.Processors.{wants_of}
use Rattle.jc_model.specs.Limits.{most_rows, most_listeners, most_processors, most_caches, most_rows_together, text_bytes}
use Rattle.jc_model.specs.declared.config.CacheConfig.{CacheConfig}
use Rattle.jc_hooks.specs.Suits.{Suits, AllSuit}
use Rattle.jc_runner.specs.Naming.{ProgramHooks, loader_named, writer_named, processor_named, fresh_listener, AreHooksNamed, AllHooksNamed}
use Rattle.jc_runner.specs.Opens.{HasKinds, AllHaveKinds, CanOpenConfiguration}

not_above : (m n : ℕ) → nat_le m n ≡ true → ltb n m ≡ false
not_above m n e = grind (arith, nat_tests)

-- The manager refuses none of them.

limits_none : (c : CacheSettings) → Sound c → broken_limit c.config ≡ None
limits_none c s =
    rw (not_above 1 c.config.capacity s.some, not_above c.config.capacity most_rows s.most, not_above c.config.listeners most_listeners s.listeners, not_above (length c.config.processors) most_processors s.processors) refl

or_swap : (a b c : Bool) → (a || (b || c)) ≡ (b || (a || c))
or_swap true true c = refl
or_swap true false c = refl
or_swap false b c = refl

any_push : {A : Type 0} (test : A → Bool) (xs : List A) (x : A) → list_any test (xs ++ x ∷ []) ≡ (test x || list_any test xs)
any_push test [] x = refl
any_push test (y ∷ ys) x = ap (λ (b : Bool). test y || b) (any_push test ys x) ∙ or_swap (test y) (test x) (list_any test ys)

if_none : {A : Type 0} (b : Bool) (x : A) (o : Option A) → (if b then Some x else o) ≡ None → (b ≡ false) × (o ≡ None)
if_none true x o e = absurd cc
if_none false x o e = (refl, e)

refused_none : (seen names : List (List ℕ)) (n place : ℕ) (cs : List CacheSettings) → ((x : List ℕ) → list_any (λ y. bytes_eq y x) seen ≡ is_taken x names) → AllSound cs
    → duplicate_from seen n (map (λ c. c.config.name) cs) ≡ None → refusal_from names place (map (λ c. c.config) cs) ≡ None
refused_none seen names n place [] same sound e = refl
refused_none seen names n place (c ∷ cs) same sound e =
    let name : List ℕ = c.config.name in
    let (new, more) = if_none (list_any (λ y. bytes_eq y name) seen) n (duplicate_from (name ∷ seen) (n + 1) (map (λ c. c.config.name) cs)) e in
    let free : is_taken name names ≡ false = sym (same name) ∙ new in
    let rest : refusal_from (names ++ name ∷ []) (place + 1) (map (λ c. c.config) cs) ≡ None =
    refused_none (name ∷ seen) (names ++ name ∷ []) (n + 1) (place + 1) cs (λ x. ap (λ (b : Bool). bytes_eq name x || b) (same x) ∙ sym (any_push (λ y. bytes_eq y x) names name)) sound.1 more in
    rw (limits_none c sound.0, free, rest) refl

names_none : (o : Option ℕ) (u : Unit {0}) → check_names o ≡ Ok u → o ≡ None
names_none None u e = refl
names_none (Some n) u e = cc

sum_from : (n : ℕ) (cs : List CacheSettings) → fold ◌+◌ n (capacities (map (λ c. c.config) cs)) ≡ n + total_of cs
sum_from n [] = omega arith
sum_from n (c ∷ cs) = sum_from (n + c.config.capacity) cs ∙ omega arith

total_is_sum : (cs : List CacheSettings) → total_of cs ≡ sum (capacities (map (λ c. c.config) cs))
total_is_sum cs = omega (arith, sum_from 0 cs)

all_kinds : (cs : List CacheSettings) → AllSound cs → AllHaveKinds (map (λ c. c.config) cs) (map (λ c. c.hooks) cs)
all_kinds [] s = tt
all_kinds (c ∷ cs) s = (record { loads = s.0.loads; writes = s.0.writes; processes = s.0.processes }, all_kinds cs s.1)

opens_none : (cs : List CacheSettings) (u : Unit {0}) → AllSound cs → check_totals cs ≡ Ok u → open_refusal (map (λ c. c.config) cs) ≡ None
opens_none cs u sound e =
    let (counted, e1, k1) = bind_ok (fault_unless (nat_le (length cs) most_caches) _) _ u e in
    let (distinct, e2, k2) = bind_ok (check_names (duplicate_from [] 1 (map (λ c. c.config.name) cs))) _ u k1 in
    let fits : nat_le (length cs) most_caches ≡ true = provided_ok (nat_le (length cs) most_caches) _ counted e1 in
    let total : nat_le (sum (capacities (map (λ c. c.config) cs))) most_rows_together ≡ true = rw (← total_is_sum cs) (provided_ok (nat_le (total_of cs) most_rows_together) _ u k2) in
    let none : refusal_from [] 0 (map (λ c. c.config) cs) ≡ None = refused_none [] [] 1 0 cs (λ x. refl) sound (names_none _ distinct e2) in
    rw (length-map cs (λ (c : CacheSettings). c.config), not_above (length cs) most_caches fits, none, not_above (sum (capacities (map (λ c. c.config) cs))) most_rows_together total) refl

pub configuration_opens : (bytes : List ℕ) (c : Configuration) → configuration_in bytes ≡ Ok c → CanOpenConfiguration c
unfolding configuration_in
configuration_opens bytes c e =
    let (short, e1, k1) = bind_ok (fault_unless (nat_le (length bytes) text_bytes) _) _ c e in
    let (document, e2, k2) = bind_ok (ok_or (document_of bytes) NotToml) _ c k1 in
    let (tables, e3, k3) = bind_ok (tables_of document) _ c k2 in
    let (cs, e4, k4) = bind_ok (caches_of 1 tables) _ c k3 in
    let (within, e5, k5) = bind_ok (check_totals cs) _ c k4 in
    let sound : AllSound cs = sound_caches 1 tables cs e4 in
    subst CanOpenConfiguration (ok_same _ c k5) (record { kinds = all_kinds cs sound; refuses_nothing = opens_none cs within sound e5 })

-- The callbacks that are named are those that the caches are to have.

same_loader : (o : Option LoaderKind) → is_some (loader_named o) ≡ is_some o
same_loader None = refl
same_loader (Some Echo) = refl

same_writer : (o : Option WriterKind) → is_some (writer_named o) ≡ is_some o
same_writer None = refl
same_writer (Some Check) = refl

same_wants : (ks : List ProcessorKind) → map wants_of (map processor_named ks) ≡ map wants_value_of ks
same_wants [] = refl
same_wants (kind.Append ∷ ks) = ap (λ (bs : List Bool). true ∷ bs) (same_wants ks)
same_wants (kind.Fail ∷ ks) = ap (λ (bs : List Bool). false ∷ bs) (same_wants ks)
same_wants (kind.Drop ∷ ks) = ap (λ (bs : List Bool). false ∷ bs) (same_wants ks)
same_wants (kind.Peek ∷ ks) = ap (λ (bs : List Bool). true ∷ bs) (same_wants ks)

named_suits : (c : CacheConfig) (k : HookKinds) (h : ProgramHooks) → HasKinds c k → AreHooksNamed c k h → Suits wants_of c h
named_suits c k h has named = record {
  loads = has.loads ∙ sym (same_loader k.loader) ∙ ap is_some (sym named.loader);
  writes = has.writes ∙ sym (same_writer k.writer) ∙ ap is_some (sym named.writer);
  processes = has.processes ∙ sym (same_wants k.processors) ∙ ap (map wants_of) (sym named.processors);
  listens = sym (length-replicate c.listeners fresh_listener) ∙ ap length (sym named.listeners);
}

pub all_named_suit : (caches : List CacheConfig) (kinds : List HookKinds) (hooks : List ProgramHooks) → AllHaveKinds caches kinds → AllHooksNamed caches kinds hooks → AllSuit wants_of caches hooks
all_named_suit [] [] [] has named place = tt
all_named_suit [] [] (h ∷ hooks) has named place = absurd named
all_named_suit [] (k ∷ kinds) hooks has named place = absurd has
all_named_suit (c ∷ caches) [] hooks has named place = absurd has
all_named_suit (c ∷ caches) (k ∷ kinds) [] has named place = absurd named
all_named_suit (c ∷ caches) (k ∷ kinds) (h ∷ hooks) has named zero = named_suits c k h has.0 named.0
all_named_suit (c ∷ caches) (k ∷ kinds) (h ∷ hooks) has named (suc place) = all_named_suit caches kinds hooks has.1 named.1 place

pub as_many_kinds : (caches : List CacheConfig) (kinds : List HookKinds) → AllHaveKinds caches kinds → length caches ≤ length kinds
as_many_kinds [] kinds has = omega arith
as_many_kinds (c ∷ caches) [] has = absurd has
as_many_kinds (c ∷ caches) (k ∷ kinds) has = let more : length caches ≤ length kinds = as_many_kinds caches kinds has.1 in omega (arith, more)
