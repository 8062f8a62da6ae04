-- A cache that was read keeps to the limits of its members, and its callbacks are those that it names.
use Rattle.std.proofs.Common.{◌≡◌, ℕ, ◌+◌, Bool, true, false, List, [], ◌∷◌, length, map, Option, Some, None, Ok, refl, subst, nat_le}
use Rattle.std.specs.Prelude.{◌&&◌, if◌then◌else◌, is_some, ⊤}
use Rattle.std.proofs.lemmas.List.{length-map}
use Rattle.toml.specs.Data.{Data, Items, no_items, item, get}
use Rattle.jc_model.specs.Limits.{most_rows, most_listeners, most_processors}
use Rattle.jc_config.specs.Config.{cache_of, caches_of}
use Rattle.jc_config.specs.Faults.{config_member_name}
use Rattle.jc_config.specs.Kinds.{loader_of, writer_of, wants_value_of}
use Rattle.jc_config.specs.Members.{whole_number, number, name_text, text_kind, processor_list, needed_table_member, table_member_or, optional, table_policy, no_other_entry}
use Rattle.jc_config.specs.declared.fault.Member.TheVariants as members
use Rattle.jc_config.specs.declared.kinds.CacheSettings.{CacheSettings}
use Rattle.jc_config.proofs.Readings.{bind_ok, ok_same, ok_or_some, then_some, some_same, if_some, short_or}

-- The members of a table.

both : (a b : Bool) → (a && b) ≡ true → (a ≡ true) × (b ≡ true)
both true b e = (refl, e)
both false b e = absurd cc

number_within : (low high : ℕ) (d : Data) (v : ℕ) → number low high d ≡ Some v → (nat_le low v ≡ true) × (nat_le v high ≡ true)
number_within low high d v e =
    let (n, found) = then_some (λ n. if nat_le low n && nat_le n high then Some n else None) (whole_number d) v e in
    let (test, same) = if_some (nat_le low n && nat_le n high) (Some n) v found in
    both (nat_le low v) (nat_le v high) (subst (λ m. (nat_le low m && nat_le m high) ≡ true) (some_same n v same) test)

capacity_within : (n : ℕ) (d : Data) (v : ℕ) → needed_table_member (number 1 most_rows) n members.Capacity d ≡ Ok v → (nat_le 1 v ≡ true) × (nat_le v most_rows ≡ true)
capacity_within n d v e =
    let (x, found) = then_some (number 1 most_rows) (get (config_member_name members.Capacity) d) v (ok_or_some _ _ v e) in
    number_within 1 most_rows x v found

listeners_within : (n : ℕ) (o : Option Data) (v : ℕ) → table_member_or 0 (number 0 most_listeners) n members.Listeners o ≡ Ok v → nat_le v most_listeners ≡ true
listeners_within n None v e = rw (← ok_same 0 v e) refl
listeners_within n (Some d) v e = (number_within 0 most_listeners d v (ok_or_some _ _ v e)).1

-- One cache, and all.

pub record Sound (c : CacheSettings) : Type 0 where
  pub some : nat_le 1 c.config.capacity ≡ true
  pub most : nat_le c.config.capacity most_rows ≡ true
  pub listeners : nat_le c.config.listeners most_listeners ≡ true
  pub processors : nat_le (length c.config.processors) most_processors ≡ true
  pub loads : c.config.loader ≡ is_some c.hooks.loader
  pub writes : c.config.writer ≡ is_some c.hooks.writer
  pub processes : c.config.processors ≡ map wants_value_of c.hooks.processors

sound_cache : (n : ℕ) (d : Data) (c : CacheSettings) → cache_of n d ≡ Ok c → Sound c
unfolding cache_of
sound_cache n d c e =
    let (name, e1, k1) = bind_ok (needed_table_member name_text n members.Name d) _ c e in
    let (capacity, e2, k2) = bind_ok (needed_table_member (number 1 most_rows) n members.Capacity d) _ c k1 in
    let (policy, e3, k3) = bind_ok (table_policy n d) _ c k2 in
    let (loader, e4, k4) = bind_ok (optional (text_kind loader_of) n members.Loader d) _ c k3 in
    let (writer, e5, k5) = bind_ok (optional (text_kind writer_of) n members.Writer d) _ c k4 in
    let (kinds, e6, k6) = bind_ok (table_member_or [] processor_list n members.Processors (get (config_member_name members.Processors) d)) _ c k5 in
    let (listeners, e7, k7) = bind_ok (table_member_or 0 (number 0 most_listeners) n members.Listeners (get (config_member_name members.Listeners) d)) _ c k6 in
    let (none, e8, k8) = bind_ok (no_other_entry n d) _ c k7 in
    subst Sound (ok_same _ c k8) (record {
      some = (capacity_within n d capacity e2).0;
      most = (capacity_within n d capacity e2).1;
      listeners = listeners_within n (get (config_member_name members.Listeners) d) listeners e7;
      processors = rw (length-map kinds wants_value_of) (short_or n (get (config_member_name members.Processors) d) kinds e6);
      loads = refl;
      writes = refl;
      processes = refl;
    })

abbrev pub AllSound : List CacheSettings → Type 0
AllSound [] = ⊤
AllSound (c ∷ cs) = Sound c × AllSound cs

pub sound_caches : (n : ℕ) (ds : Items) (cs : List CacheSettings) → caches_of n ds ≡ Ok cs → AllSound cs
sound_caches n no_items cs e = subst AllSound (ok_same [] cs e) tt
sound_caches n (item d ds) cs e =
    let (c, one, k) = bind_ok (cache_of n d) _ cs e in
    let (rest, more, last) = bind_ok (caches_of (n + 1) ds) _ cs k in
    subst AllSound (ok_same (c ∷ rest) cs last) (sound_cache n d c one, sound_caches (n + 1) ds rest more)
