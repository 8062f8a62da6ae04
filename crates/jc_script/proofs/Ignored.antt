-- A line is read by the members that its op needs or may have, and by no other.
use Rattle.std.proofs.Common.{◌≡◌, ℕ, List, [], ◌∷◌, ◌++◌, Bool, true, false, Option, Some, Result, Ok, Err, refl, sym, ap, ◌∙◌, subst, codes}
use Rattle.std.specs.Prelude.{option_and_then, option_map, if◌then◌else◌, ⊤}
use Rattle.std.specs.Option.{ok_or}
use Rattle.std.specs.Str.{bytes_eq}
use Rattle.std.proofs.lemmas.Slice.Eq.{bytes_eq-Decides}
use Rattle.serde_json.specs.Data.{Data}
use Rattle.serde_json.specs.Find.{get, as_bool, as_str}
use Rattle.jc_model.specs.Limits.{sessions}
use Rattle.jc_model.specs.Runs.{Lives}
use Rattle.jc_model.specs.declared.call.Call.{Call}
use Rattle.jc_model.specs.declared.call.Call.TheVariants as calls
use Rattle.jc_config.specs.declared.members.ExpiryKind.TheVariants.{Eternal}
use Rattle.jc_config.specs.FirstFault.{◌>>=◌, member_or}
use Rattle.jc_config.specs.Kinds.{policy_in}
use Rattle.jc_script.specs.declared.fault.Member.{Member}
use Rattle.jc_script.specs.declared.fault.Member.TheVariants as members
use Rattle.jc_script.specs.declared.fault.ScriptFault.{ScriptFault}
use Rattle.jc_script.specs.declared.fault.ScriptFault.TheVariants.{Bad}
use Rattle.jc_script.specs.declared.line.Line.TheVariants.{Destroy}
use Rattle.jc_script.specs.Creating.{is_create, asks_to_create, cache_name, capacity, expiry, line_policy, creating}
use Rattle.jc_script.specs.Line.{calling, on_cache, line_of}
use Rattle.jc_script.specs.Live.{processors_at}
use Rattle.jc_script.specs.Member.{member_name, needed_line_member, whole_u64, whole_u64_below, cache, key, keys, pairs, value}
use Rattle.jc_script.specs.Operation.{Reading, of_key, of_key_value, of_key_expected, of_key_expected_value, of_key_processor, of_keys, of_keys_replace, of_keys_processor, of_pairs, on_one, on_many, chosen, call_of}
use Rattle.jc_script.specs.Members.{has_member}
use Rattle.jc_script.specs.Stray.{op_of, AgreeOn}

then_alike : {A B : Type 0} (r : Result A ScriptFault) (k k' : A → Result B ScriptFault) → ((x : A) → k x ≡ k' x) → (r >>= k) ≡ (r >>= k')
then_alike (Ok x) k k' next = next x
then_alike (Err e) k k' next = refl

then_same : {A B : Type 0} (r r' : Result A ScriptFault) (k k' : A → Result B ScriptFault) → r ≡ r' → ((x : A) → k x ≡ k' x) → (r >>= k) ≡ (r' >>= k')
then_same {A} {B} r r' k k' e next = then_alike r k k' next ∙ ap (λ (s : Result A ScriptFault). s >>= k') e

module _ (n : ℕ) (d d' : Data) where
  abbrev Same : Member → Type 0
  Same m = get (member_name m) d ≡ get (member_name m) d'

  same : {A : Type 0} (f : Data → Option A) (m : Member) → Same m → needed_line_member f n m d ≡ needed_line_member f n m d'
  same f m e = ap (λ (o : Option Data). ok_or (option_and_then f o) (Bad n m)) e

  -- Calls.

  abbrev SameCall : Reading → Type 0
  SameCall reading = (p : ℕ) → reading p n d ≡ reading p n d'

  by_key : (call : List ℕ → Call) → Same members.Key → SameCall (of_key call)
  by_key call k p = then_same _ _ _ _ (same key members.Key k) (λ x. refl)

  by_key_value : (call : List ℕ → List ℕ → Call) → Same members.Key → Same members.Value → SameCall (of_key_value call)
  by_key_value call k v p = then_same _ _ _ _ (same key members.Key k) (λ x. then_same _ _ _ _ (same value members.Value v) (λ y. refl))

  by_key_expected : (call : List ℕ → List ℕ → Call) → Same members.Key → Same members.Expect → SameCall (of_key_expected call)
  by_key_expected call k v p = then_same _ _ _ _ (same key members.Key k) (λ x. then_same _ _ _ _ (same value members.Expect v) (λ y. refl))

  by_key_expected_value : (call : List ℕ → List ℕ → List ℕ → Call) → Same members.Key → Same members.Expect → Same members.Value → SameCall (of_key_expected_value call)
  by_key_expected_value call k w v p =
      then_same _ _ _ _ (same key members.Key k) (λ x. then_same _ _ _ _ (same value members.Expect w) (λ y. then_same _ _ _ _ (same value members.Value v) (λ z. refl)))

  by_key_processor : (call : List ℕ → ℕ → List ℕ → Call) → Same members.Key → Same members.Processor → Same members.Argument → SameCall (of_key_processor call)
  by_key_processor call k w v p =
      then_same _ _ _ _ (same key members.Key k) (λ x. then_same _ _ _ _ (same (whole_u64_below p) members.Processor w) (λ y. then_same _ _ _ _ (same value members.Argument v) (λ z. refl)))

  by_keys : (call : List (List ℕ) → Call) → Same members.Keys → SameCall (of_keys call)
  by_keys call k p = then_same _ _ _ _ (same keys members.Keys k) (λ x. refl)

  by_keys_replace : (call : List (List ℕ) → Bool → Call) → Same members.Keys → Same members.Replace → SameCall (of_keys_replace call)
  by_keys_replace call k v p = then_same _ _ _ _ (same keys members.Keys k) (λ x. then_same _ _ _ _ (same as_bool members.Replace v) (λ y. refl))

  by_keys_processor : (call : List (List ℕ) → ℕ → List ℕ → Call) → Same members.Keys → Same members.Processor → Same members.Argument → SameCall (of_keys_processor call)
  by_keys_processor call k w v p =
      then_same _ _ _ _ (same keys members.Keys k) (λ x. then_same _ _ _ _ (same (whole_u64_below p) members.Processor w) (λ y. then_same _ _ _ _ (same value members.Argument v) (λ z. refl)))

  by_pairs : (call : List (List ℕ × List ℕ) → Call) → Same members.Pairs → SameCall (of_pairs call)
  by_pairs call k p = then_same _ _ _ _ (same pairs members.Pairs k) (λ x. refl)

  -- By name.

  abbrev EachSame : List ℕ → List (List ℕ × Reading) → Type 0
  EachSame name [] = ⊤
  EachSame name (op ∷ ops) = (bytes_eq name op.0 ≡ true → SameCall op.1) × EachSame name ops

  chosen_same : (ops : List (List ℕ × Reading)) (name : List ℕ) (p : ℕ) → EachSame name ops → chosen ops name p n d ≡ chosen ops name p n d'
  unfolding chosen
  chosen_same [] name p each = refl
  chosen_same (op ∷ ops) name p each = go (bytes_eq name op.0) refl (chosen_same ops name p each.1)
    where
      go : (b : Bool) → bytes_eq name op.0 ≡ b → chosen ops name p n d ≡ chosen ops name p n d' → (if b then op.1 p n d else chosen ops name p n d) ≡ (if b then op.1 p n d' else chosen ops name p n d')
      go true e rest = each.0 e p
      go false e rest = rest

  module _ (op : List ℕ) (agree : AgreeOn op d d') where
    -- of an op whose name is known, the member that it has
    own : (name : List ℕ) (m : Member) → bytes_eq op name ≡ true → has_member name (member_name m) ≡ true → Same m
    own name m e has = agree (member_name m) (subst (λ (o : List ℕ). has_member o (member_name m) ≡ true) (sym ((bytes_eq-Decides op name).0 e)) has)

    each_same : EachSame op (on_one ++ on_many)
    unfolding has_member
    each_same = (
      λ e. by_key calls.Get (own (codes "get") members.Key e refl),
      (
        λ e. by_key calls.Contains (own (codes "contains") members.Key e refl),
        (
          λ e. by_key_value calls.Put (own (codes "put") members.Key e refl) (own (codes "put") members.Value e refl),
          (
            λ e. by_key_value calls.GetAndPut (own (codes "get_and_put") members.Key e refl) (own (codes "get_and_put") members.Value e refl),
            (
              λ e. by_key_value calls.PutIfAbsent (own (codes "put_if_absent") members.Key e refl) (own (codes "put_if_absent") members.Value e refl),
              (
                λ e. by_key_value calls.Replace (own (codes "replace") members.Key e refl) (own (codes "replace") members.Value e refl),
                (
                  λ e. by_key_expected_value calls.ReplaceIf (own (codes "replace_if") members.Key e refl) (own (codes "replace_if") members.Expect e refl) (own (codes "replace_if") members.Value e refl),
                  (
                    λ e. by_key_value calls.GetAndReplace (own (codes "get_and_replace") members.Key e refl) (own (codes "get_and_replace") members.Value e refl),
                    (
                      λ e. by_key calls.Remove (own (codes "remove") members.Key e refl),
                      (
                        λ e. by_key_expected calls.RemoveIf (own (codes "remove_if") members.Key e refl) (own (codes "remove_if") members.Expect e refl),
                        (
                          λ e. by_key calls.GetAndRemove (own (codes "get_and_remove") members.Key e refl),
                          (
                            λ e. by_key_processor calls.Invoke (own (codes "invoke") members.Key e refl) (own (codes "invoke") members.Processor e refl) (own (codes "invoke") members.Argument e refl),
                            (
                              λ e. by_keys calls.GetAll (own (codes "get_all") members.Keys e refl),
                              (
                                λ e. by_keys_processor calls.InvokeAll (own (codes "invoke_all") members.Keys e refl) (own (codes "invoke_all") members.Processor e refl) (own (codes "invoke_all") members.Argument e refl),
                                (
                                  λ e. by_pairs calls.PutAll (own (codes "put_all") members.Pairs e refl),
                                  (
                                    λ e. by_keys calls.RemoveKeys (own (codes "remove_keys") members.Keys e refl),
                                    (
                                      λ e. by_keys_replace calls.LoadAll (own (codes "load_all") members.Keys e refl) (own (codes "load_all") members.Replace e refl),
                                      (
                                        λ e p. refl,
                                        (
                                          λ e p. refl,
                                          (
                                            λ e p. refl,
                                            (
                                              λ e p. refl,
                                              (
                                                λ e p. refl,
                                                tt,
                                              ),
                                            ),
                                          ),
                                        ),
                                      ),
                                    ),
                                  ),
                                ),
                              ),
                            ),
                          ),
                        ),
                      ),
                    ),
                  ),
                ),
              ),
            ),
          ),
        ),
      ),
    )

    call_same : (p : ℕ) → call_of op p n d ≡ call_of op p n d'
    unfolding call_of
    call_same p = chosen_same (on_one ++ on_many) op p each_same

    -- the members of each line
    session : Same members.Session
    unfolding has_member
    session = agree (codes "s") refl

    cache_named : Same members.Cache
    unfolding has_member
    cache_named = agree (codes "c") refl

    at : Same members.At
    unfolding has_member
    at = agree (codes "at") refl

    op_named : Same members.Op
    unfolding has_member
    op_named = agree (codes "op") refl

    -- Creating.

    policy_same : Same members.Expiry → Same members.Duration → line_policy n d ≡ line_policy n d'
    unfolding line_policy
    policy_same kind duration =
        then_same _ _ _ _ (ap (λ (o : Option Data). member_or Eternal expiry (Bad n members.Expiry) o) kind) (λ k.
        ap (λ (o : Option Data). ok_or (policy_in k (option_map whole_u64 o)) (Bad n members.Duration)) duration)

    creating_same : (s : ℕ) → bytes_eq op (codes "create") ≡ true → creating s n d ≡ creating s n d'
    unfolding creating has_member
    creating_same s e =
        then_same _ _ _ _ (same cache_name members.Cache cache_named) (λ name.
        then_same _ _ _ _ (same whole_u64 members.At at) (λ moment.
        then_same _ _ _ _ (same capacity members.Capacity (own (codes "create") members.Capacity e refl)) (λ rows.
        then_same _ _ _ _ (policy_same (own (codes "create") members.Expiry e refl) (own (codes "create") members.Duration e refl)) (λ policy. refl))))

    module _ (named : op_of d ≡ Some op) where
      op_same : needed_line_member as_str n members.Op d ≡ Ok op
      op_same = ap (λ (o : Option (List ℕ)). ok_or o (Bad n members.Op)) named

      op_same' : needed_line_member as_str n members.Op d' ≡ Ok op
      op_same' = sym (same as_str members.Op op_named) ∙ op_same

      named' : op_of d' ≡ Some op
      named' = ap (λ (o : Option Data). option_and_then as_str o) (sym op_named) ∙ named

      calling_same : (lives : Lives) (s id moment : ℕ) → calling lives s id moment op n d ≡ calling lives s id moment op n d'
      unfolding calling
      calling_same lives s id moment = then_same _ _ _ _ (call_same (processors_at lives id)) (λ call. refl)

      by_name : (lives : Lives) (s id moment : ℕ) (b : Bool) → (if b then Ok (Destroy s id) else calling lives s id moment op n d) ≡ (if b then Ok (Destroy s id) else calling lives s id moment op n d')
      by_name lives s id moment true = refl
      by_name lives s id moment false = calling_same lives s id moment

      on_cache_same : (lives : Lives) (s : ℕ) → on_cache lives s n d ≡ on_cache lives s n d'
      unfolding on_cache
      on_cache_same lives s =
          then_same _ _ _ _ (same (cache lives) members.Cache cache_named) (λ id.
          then_same _ _ _ _ (same whole_u64 members.At at) (λ moment. rw (op_same, op_same') (by_name lives s id moment (bytes_eq op (codes "destroy")))))

      by_kind_of_line : (lives : Lives) (s : ℕ) (b : Bool) → bytes_eq op (codes "create") ≡ b → (if b then creating s n d else on_cache lives s n d) ≡ (if b then creating s n d' else on_cache lives s n d')
      by_kind_of_line lives s true e = creating_same s e
      by_kind_of_line lives s false e = on_cache_same lives s

      pub line_same : (lives : Lives) → line_of lives n d ≡ line_of lives n d'
      unfolding line_of
      line_same lives = then_same _ _ _ _ (same (whole_u64_below sessions) members.Session session) (λ s.
          let asks : asks_to_create d ≡ bytes_eq op (codes "create") = ap is_create named in
          let asks' : asks_to_create d' ≡ bytes_eq op (codes "create") = ap is_create named' in
          rw (asks, asks') (by_kind_of_line lives s (bytes_eq op (codes "create")) refl))
