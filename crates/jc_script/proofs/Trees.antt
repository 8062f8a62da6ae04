-- A tree of `json` beside the data that it stands for.
use Rattle.std.proofs.Common.{◌≡◌, ℕ, negsuc, List, [], Bool, true, false, true≢false, cond, ◌&&◌, bytes_eq, Option, Some, None, option_map, refl, sym, ap, ◌∙◌}
use Rattle.std.specs.Prelude.{if◌then◌else◌, option_and_then, unwrap_or, is_some}
use Rattle.std.proofs.lemmas.Slice.Eq.{bytes_eq-Decides}
use Rattle.json.specs.Json as json
use Rattle.json.specs.Find as found
use Rattle.json.specs.Lex.{tokens}
use Rattle.serde_json.specs.Data.{Num, negative, Data, number, array, object, Items, item, Members, no_members, put}
use Rattle.serde_json.specs.Find.{get_member, get, as_str, as_bool}
use Rattle.serde_json.specs.Read.{read, number_of, of_json, of_items, of_members}
use Rattle.serde_json.proofs.Views.{get_member-put, get_member-put_other}
use Rattle.jc_script.specs.Tree.{num_of, data_of, data_of_items, data_of_members, has_numbers, items_have_numbers, members_have_numbers, if_in_range, tree_of_text}

-- What serde_json makes of a tree.

one_number : (o : Option Num) (other : Num) → option_map number o ≡ (if is_some o then Some (number (unwrap_or o other)) else None)
one_number None other = refl
one_number (Some n) other = refl

number_read : (s : List ℕ) → option_map number (number_of s) ≡ (if is_some (number_of s) then Some (number (num_of s)) else None)
unfolding num_of
number_read s = one_number (number_of s) (negative (negsuc 0))

under : {A B : Type 0} (f : A → B) (o : Option A) (b : Bool) (x : A) → o ≡ (if b then Some x else None) → option_map f o ≡ (if b then Some (f x) else None)
under f o true x e = rw e refl
under f o false x e = rw e refl

after_item : (j : Option Data) (js : Option Items) (b c : Bool) (d : Data) (ds : Items) → j ≡ (if b then Some d else None) → js ≡ (if c then Some ds else None)
    → option_and_then (λ x. option_map (item x) js) j ≡ (if b && c then Some (item d ds) else None)
after_item j js true true d ds e f = rw (e, f) refl
after_item j js true false d ds e f = rw (e, f) refl
after_item j js false c d ds e f = rw e refl

after_member : (j : Option Data) (more : Data → Option Members) (b c : Bool) (d : Data) (ms : Members) → j ≡ (if b then Some d else None) → more d ≡ (if c then Some ms else None)
    → option_and_then more j ≡ (if b && c then Some ms else None)
after_member j more true c d ms e f = rw e f
after_member j more false c d ms e f = rw e refl

mutual
  pub converts : (j : json.Json) → of_json j ≡ (if has_numbers j then Some (data_of j) else None)
  converts json.null = refl
  converts (json.boolean b) = refl
  converts (json.number s) = number_read s
  converts (json.string s) = refl
  converts (json.array js) = under array (of_items js) (items_have_numbers js) (data_of_items js) (converts_items js)
  converts (json.object ms) = under object (of_members ms no_members) (members_have_numbers ms) (data_of_members ms no_members) (converts_members ms no_members)

  converts_items : (js : json.Items) → of_items js ≡ (if items_have_numbers js then Some (data_of_items js) else None)
  converts_items json.no_items = refl
  converts_items (json.item j js) = after_item (of_json j) (of_items js) (has_numbers j) (items_have_numbers js) (data_of j) (data_of_items js) (converts j) (converts_items js)

  converts_members : (ms : json.Members) (before : Members) → of_members ms before ≡ (if members_have_numbers ms then Some (data_of_members ms before) else None)
  converts_members json.no_members before = refl
  converts_members (json.member k j ms) before =
      after_member (of_json j) (λ d. of_members ms (put k d before)) (has_numbers j) (members_have_numbers ms) (data_of j) (data_of_members ms (put k (data_of j) before)) (converts j)
      (converts_members ms (put k (data_of j) before))

-- What is found under a name.

abbrev later : Option json.Json → Option Data → Option Data
later None earlier = earlier
later (Some j) earlier = Some (data_of j)

put_before : (name k : List ℕ) (j : json.Json) (before : Members) (b : Bool) → bytes_eq k name ≡ b
    → get_member name (put k (data_of j) before) ≡ later (cond b (Some j) None) (get_member name before)
put_before name k j before true e =
    let same : k ≡ name = (bytes_eq-Decides k name).0 e in
    ap (λ n. get_member n (put k (data_of j) before)) (sym same) ∙ get_member-put k (data_of j) before
put_before name k j before false e = get_member-put_other name k (data_of j) before (λ (same : name ≡ k). true≢false (sym ((bytes_eq-Decides k name).1 (sym same)) ∙ e))

one_member : (name k : List ℕ) (j : json.Json) (before : Members) (o : Option json.Json)
    → later o (get_member name (put k (data_of j) before)) ≡ later (found.later_or o (cond (bytes_eq k name) (Some j) None)) (get_member name before)
one_member name k j before None = put_before name k j before (bytes_eq k name) refl
one_member name k j before (Some i) = refl

last_found : (name : List ℕ) (ms : json.Members) (before : Members) → get_member name (data_of_members ms before) ≡ later (found.get_member name ms) (get_member name before)
last_found name json.no_members before = refl
last_found name (json.member k j ms) before = last_found name ms (put k (data_of j) before) ∙ one_member name k j before (found.get_member name ms)

alone : (o : Option json.Json) → later o None ≡ option_map data_of o
alone None = refl
alone (Some j) = refl

pub found_by_name : (name : List ℕ) (j : json.Json) → option_map data_of (found.get name j) ≡ get name (data_of j)
found_by_name name json.null = refl
found_by_name name (json.boolean b) = refl
found_by_name name (json.number s) = refl
found_by_name name (json.string s) = refl
found_by_name name (json.array js) = refl
found_by_name name (json.object ms) = sym (last_found name ms no_members ∙ alone (found.get_member name ms))

-- What a value is.

pub same_text : (j : json.Json) → found.as_str j ≡ as_str (data_of j)
same_text json.null = refl
same_text (json.boolean b) = refl
same_text (json.number s) = refl
same_text (json.string s) = refl
same_text (json.array js) = refl
same_text (json.object ms) = refl

pub same_truth : (j : json.Json) → found.as_bool j ≡ as_bool (data_of j)
same_truth json.null = refl
same_truth (json.boolean b) = refl
same_truth (json.number s) = refl
same_truth (json.string s) = refl
same_truth (json.array js) = refl
same_truth (json.object ms) = refl

-- The whole text.

through : (b : Bool) (j : json.Json) → option_map data_of (if b then Some j else None) ≡ (if b then Some (data_of j) else None)
through true j = refl
through false j = refl

in_range : (o : Option json.Json) → option_map data_of (option_and_then if_in_range o) ≡ option_and_then of_json o
in_range None = refl
in_range (Some j) = through (has_numbers j) j ∙ sym (converts j)

pub data_read : (text : List ℕ) → option_map data_of (tree_of_text text) ≡ read text
data_read text = in_range (option_and_then (λ p. json.if_last p.0 p.1) (json.value 127 (tokens text)))

pub all_read : (text : List ℕ) (j : json.Json) → json.value 127 (tokens text) ≡ Some (j, []) → has_numbers j ≡ true → Some j ≡ tree_of_text text
all_read text j e fit = rw (e, fit) refl

pub number_refused : (text : List ℕ) (j : json.Json) → json.value 127 (tokens text) ≡ Some (j, []) → has_numbers j ≡ false → None ≡ tree_of_text text
number_refused text j e unfit = rw (e, unfit) refl
