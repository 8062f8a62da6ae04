-- How many items a list has.
use Rattle.std.proofs.Common.{◌≡◌, List, [], ◌∷◌, length, refl, add-one}
use Rattle.serde_json.specs.View.{items_view}
use Rattle.serde_json.specs.declared.value.Value.{Value}
use Rattle.jc_explain.specs.Twice.{count_of}

pub count_of_view : (vs : List Value) → count_of (items_view vs) ≡ length vs
count_of_view [] = refl
count_of_view (v ∷ vs) = rw (count_of_view vs) (add-one (length vs))
