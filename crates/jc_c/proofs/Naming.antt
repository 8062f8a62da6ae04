-- The live caches by id and name.
use Rattle.std.proofs.Common.{◌≡◌, ◌≤◌, ◌+◌, ℕ, List, [], ◌∷◌, ◌++◌, length, Option, Some, None, ap, ◌∙◌, append_assoc, arith}
use Rattle.std.proofs.lemmas.List.{length-map}
use Rattle.std.specs.Int.{to_le_bytes, w32}
use Rattle.jc_model.specs.Places.{all_there}
use Rattle.jc_engine.specs.Caches.{Cache, names_of}
use Rattle.jc_save.specs.Placing.{put_at}
use Rattle.jc_save.proofs.Placing.{put_then}
use Rattle.jc_c.specs.Names.{name_bytes}

few_there : {A : Type 0} (xs : List (Option A)) → length (all_there xs) ≤ length xs
few_there [] = omega arith
few_there (None ∷ xs) = let rest = few_there xs in omega (arith, rest)
few_there (Some x ∷ xs) = let rest = few_there xs in omega (arith, rest)

-- they are no more than ids were given
pub few_names : (caches : List (Option Cache)) → length (names_of caches) ≤ length caches
few_names caches = omega (arith, length-map (all_there caches) (λ (k : Cache). k.config.name), few_there caches)

abbrev pub name_head : List ℕ → ℕ → List ℕ
name_head name id = to_le_bytes w32 id ++ (length name ∷ [])

-- a name behind its head
pub name_put : (at id : ℕ) (name out : List ℕ) → put_at (at + length (name_head name id)) name (put_at at (name_head name id) out) ≡ put_at at (name_bytes name (Some id)) out
name_put at id name out = put_then at (name_head name id) name out ∙ ap (λ (t : List ℕ). put_at at t out) (append_assoc (to_le_bytes w32 id) (length name ∷ []) name)
