-- The data of serde_json that a tree of `json` stands for.
use Rattle.std.specs.Prelude.{ℕ, negsuc, List, Bool, true, ◌&&◌, if◌then◌else◌, Option, Some, None, option_and_then, unwrap_or, is_some}
use Rattle.std.specs.Str.{is_utf8}
use Rattle.std.specs.declared.alloc.Global.{Global}
use Rattle.json.specs.Json as json
use Rattle.json.specs.Lex.{tokens}
use Rattle.json.specs.Value.{value_view, items_view}
use Rattle.json.specs.declared.value.Value.{Value}
use Rattle.serde_json.specs.Data.{Num, negative, Data, null, boolean, number, string, array, object, Items, no_items, item, Members, no_members, put}
use Rattle.serde_json.specs.Read.{number_of}

-- a number's text; one that serde_json refuses is no whole number
unfoldable pub num_of : List ℕ → Num
num_of s = unwrap_or (number_of s) (negative (negsuc 0))

-- The members go in one after another, so the last value of a key stays.
abbrev mutual
  pub data_of : json.Json → Data
  data_of json.null = null
  data_of (json.boolean b) = boolean b
  data_of (json.number s) = number (num_of s)
  data_of (json.string s) = string s
  data_of (json.array js) = array (data_of_items js)
  data_of (json.object ms) = object (data_of_members ms no_members)

  pub data_of_items : json.Items → Items
  data_of_items json.no_items = no_items
  data_of_items (json.item j js) = item (data_of j) (data_of_items js)

  pub data_of_members : json.Members → Members → Members
  data_of_members json.no_members found = found
  data_of_members (json.member k j ms) found = data_of_members ms (put k (data_of j) found)

-- serde_json takes each of the numbers
abbrev mutual
  pub has_numbers : json.Json → Bool
  has_numbers json.null = true
  has_numbers (json.boolean b) = true
  has_numbers (json.number s) = is_some (number_of s)
  has_numbers (json.string s) = true
  has_numbers (json.array js) = items_have_numbers js
  has_numbers (json.object ms) = members_have_numbers ms

  pub items_have_numbers : json.Items → Bool
  items_have_numbers json.no_items = true
  items_have_numbers (json.item j js) = has_numbers j && items_have_numbers js

  pub members_have_numbers : json.Members → Bool
  members_have_numbers json.no_members = true
  members_have_numbers (json.member k j ms) = has_numbers j && members_have_numbers ms

-- the tree of a text that is JSON, as far as serde_json takes its numbers
abbrev pub if_in_range : json.Json → Option json.Json
if_in_range j = if has_numbers j then Some j else None

abbrev pub tree_of_text : List ℕ → Option json.Json
tree_of_text text = option_and_then if_in_range (option_and_then (λ p. json.if_last p.0 p.1) (json.value 127 (tokens text)))

-- the same of bytes
unfoldable pub tree_of : List ℕ → Option json.Json
tree_of bytes = if is_utf8 bytes then tree_of_text bytes else None

-- as a reader of lines sees a value
abbrev pub data_in : Value Global → Data
data_in v = data_of (value_view v)

abbrev pub items_in : List (Value Global) → Items
items_in vs = data_of_items (items_view vs)
