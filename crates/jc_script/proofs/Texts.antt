-- What bytes are as JSON, where they are a text and where they are none.
use Rattle.std.proofs.Common.{◌≡◌, ℕ, List, Bool, true, false, Option, Some, None, option_map, refl, sym, ap, ◌∙◌}
use Rattle.std.specs.declared.alloc.Global.{Global}
use Rattle.std.specs.Prelude.{IsUtf8, if◌then◌else◌, IfOk, Result, Ok, Err}
use Rattle.std.proofs.lemmas.Str.{IsUtf8-from_is_utf8, is_utf8-from_IsUtf8}
use Rattle.std.specs.Str.{is_utf8}
use Rattle.json.specs.Json.{Json}
use Rattle.json.specs.Value.{value_view}
use Rattle.json.specs.declared.value.Value.{Value}
use Rattle.serde_json.specs.Read.{read}
use Rattle.jc_script.specs.Member.{json_of}
use Rattle.jc_script.specs.Tree.{data_of, data_in, tree_of_text, tree_of}
use Rattle.jc_script.proofs.Trees.{data_read}

pub json_read : (bs : List ℕ) → IsUtf8 bs → read bs ≡ json_of bs
unfolding json_of
json_read bs utf8 = rw (is_utf8-from_IsUtf8 bs utf8) refl

pub json_refused : (bs : List ℕ) → (IsUtf8 bs → read bs ≡ None) → None ≡ json_of bs
unfolding json_of
json_refused bs none =
    elim (is_utf8 bs) as (λ b. is_utf8 bs ≡ b → None ≡ (if b then read bs else None)) [ true ↦ λ e. sym (none (IsUtf8-from_is_utf8 bs e)) | false ↦ λ e. refl ] refl

-- The tree of bytes.

pub tree_read : (bs : List ℕ) → IsUtf8 bs → tree_of_text bs ≡ tree_of bs
unfolding tree_of
tree_read bs utf8 = rw (is_utf8-from_IsUtf8 bs utf8) refl

pub tree_refused : (bs : List ℕ) → (IsUtf8 bs → ⊥) → None ≡ tree_of bs
unfolding tree_of
tree_refused bs none =
    elim (is_utf8 bs) as (λ b. is_utf8 bs ≡ b → None ≡ (if b then tree_of_text bs else None)) [ true ↦ λ e. absurd (none (IsUtf8-from_is_utf8 bs e)) | false ↦ λ e. refl ] refl

data_if : (bs : List ℕ) (b : Bool) → option_map data_of (if b then tree_of_text bs else None) ≡ (if b then read bs else None)
data_if bs true = data_read bs
data_if bs false = refl

pub data_of_tree : (bs : List ℕ) → option_map data_of (tree_of bs) ≡ json_of bs
unfolding tree_of json_of
data_of_tree bs = data_if bs (is_utf8 bs)

seen : (o : Option (Value Global)) → option_map data_in o ≡ option_map data_of (option_map value_view o)
seen None = refl
seen (Some v) = refl

-- what a reader returned that gives the tree
pub data_seen : {E : Type 0} (bs : List ℕ) (r : Result (Option (Value Global)) E) {text : Option Json} → text ≡ tree_of bs → IfOk r (λ o. option_map value_view o ≡ text) → IfOk r (λ o. option_map data_in o ≡ json_of bs)
data_seen bs (Ok o) same e = seen o ∙ ap (option_map data_of) (e ∙ same) ∙ data_of_tree bs
data_seen bs (Err f) same e = tt

pub no_data : (bs : List ℕ) → (IsUtf8 bs → ⊥) → None ≡ json_of bs
no_data bs none = json_refused bs (λ utf8. absurd (none utf8))
