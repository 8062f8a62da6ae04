-- What the parts of a reading gave, where it succeeded.
use Rattle.std.proofs.Common.{◌≡◌, ℕ, Bool, true, false, List, [], ◌∷◌, length, Option, Some, None, option_map, Result, Ok, Err, refl, ap, nat_le, add-one}
use Rattle.std.specs.Prelude.{if◌then◌else◌, option_and_then}
use Rattle.std.specs.Option.{ok_or}
use Rattle.toml.specs.Data.{Data, Items, no_items, item, as_array}
use Rattle.jc_model.specs.Limits.{most_processors}
use Rattle.jc_config.specs.Config.{fault_unless}
use Rattle.jc_config.specs.Faults.{◌>>=◌}
use Rattle.jc_config.specs.Kinds.{processor_of}
use Rattle.jc_config.specs.Members.{text_kind, kinds_of, count_of, few_kinds, processor_list, table_member_or}
use Rattle.jc_config.specs.declared.fault.Member.TheVariants as members
use Rattle.jc_config.specs.declared.fault.ConfigFault.{ConfigFault}
use Rattle.jc_config.specs.declared.kinds.ProcessorKind.{ProcessorKind}

pub bind_ok : {A B : Type 0} (r : Result A ConfigFault) (f : A → Result B ConfigFault) (y : B) → (r >>= f) ≡ Ok y → (x : A) × (r ≡ Ok x) × (f x ≡ Ok y)
bind_ok (Ok x) f y e = (x, refl, e)
bind_ok (Err w) f y e = cc

pub ok_same : {A : Type 0} (x y : A) → ◌≡◌ {A = Result A ConfigFault} (Ok x) (Ok y) → x ≡ y
ok_same x y e = cc

pub provided_ok : (b : Bool) (w : ConfigFault) (u : Unit {0}) → fault_unless b w ≡ Ok u → b ≡ true
provided_ok true w u e = refl
provided_ok false w u e = cc

pub ok_or_some : {A : Type 0} (o : Option A) (w : ConfigFault) (x : A) → ok_or o w ≡ Ok x → o ≡ Some x
ok_or_some (Some y) w x e = ap Some (ok_same y x e)
ok_or_some None w x e = cc

pub then_some : {A B : Type 0} (f : A → Option B) (o : Option A) (y : B) → option_and_then f o ≡ Some y → (x : A) × (f x ≡ Some y)
then_some f (Some x) y e = (x, e)
then_some f None y e = cc

pub some_same : {A : Type 0} (x y : A) → Some x ≡ Some y → x ≡ y
some_same x y e = cc

map_some : {A B : Type 0} (f : A → B) (o : Option A) (y : B) → option_map f o ≡ Some y → (x : A) × (o ≡ Some x) × (f x ≡ y)
map_some f (Some x) y e = (x, refl, some_same (f x) y e)
map_some f None y e = cc

pub if_some : {A : Type 0} (b : Bool) (o : Option A) (y : A) → (if b then o else None) ≡ Some y → (b ≡ true) × (o ≡ Some y)
if_some true o y e = (refl, e)
if_some false o y e = cc

kinds_count : (ds : Items) (ks : List ProcessorKind) → kinds_of ds ≡ Some ks → count_of ds ≡ length ks
kinds_count no_items [] e = refl
kinds_count no_items (k ∷ ks) e = cc
kinds_count (item d ds) ks e =
    let (kind, one) = then_some (λ (kind : ProcessorKind). option_map (λ kinds. kind ∷ kinds) (kinds_of ds)) (text_kind processor_of d) ks e in
    let (rest, more, same) = map_some (λ (kinds : List ProcessorKind). kind ∷ kinds) (kinds_of ds) ks one in
    rw (← same, kinds_count ds rest more) (add-one (length rest))

short_kinds : (v : Data) (ks : List ProcessorKind) → processor_list v ≡ Some ks → nat_le (length ks) most_processors ≡ true
short_kinds v ks e =
    let (items, found) = then_some few_kinds (as_array v) ks e in
    let (few, read) = if_some (nat_le (count_of items) most_processors) (kinds_of items) ks found in
    rw (kinds_count items ks read) at few

pub short_or : (n : ℕ) (o : Option Data) (ks : List ProcessorKind) → table_member_or [] processor_list n members.Processors o ≡ Ok ks → nat_le (length ks) most_processors ≡ true
short_or n None ks e = rw (← ok_same [] ks e) refl
short_or n (Some v) ks e = short_kinds v ks (ok_or_some _ _ ks e)
