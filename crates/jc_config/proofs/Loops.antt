-- What is left of a list after one more turn of a loop.
use Rattle.std.proofs.Common.{◌≡◌, ℕ, ◌+◌, ◌<◌, List, [], ◌∷◌, ◌++◌, length, get_or, drop, Result, Ok, Err, refl, add-one, append_assoc, sym, ◌∙◌, ap}
use Rattle.toml.specs.View.{view, items_view}
use Rattle.toml.proofs.Views.{items_view-drop}
use Rattle.toml.specs.declared.value.Value.{Value}
use Rattle.jc_config.specs.Config.{caches_of, cache_of}
use Rattle.jc_config.specs.Faults.{◌>>=◌}
use Rattle.jc_config.specs.Members.{count_of}
use Rattle.jc_config.specs.declared.fault.ConfigFault.{ConfigFault}
use Rattle.jc_config.specs.declared.kinds.CacheSettings.{CacheSettings}

-- the caches before those of a reading
abbrev pub behind : List CacheSettings → Result (List CacheSettings) ConfigFault → Result (List CacheSettings) ConfigFault
behind done (Ok caches) = Ok (done ++ caches)
behind done (Err e) = Err e

pub count_of_view : (vs : List Value) → count_of (items_view vs) ≡ length vs
count_of_view [] = refl
count_of_view (v ∷ vs) = rw (count_of_view vs) (add-one (length vs))

-- the next cache, behind those so far
after_one : (done : List CacheSettings) (c : CacheSettings) (r : Result (List CacheSettings) ConfigFault) → behind done (r >>= (λ cs. Ok (c ∷ cs))) ≡ behind (done ++ c ∷ []) r
after_one done c (Ok cs) = ap Ok (sym (append_assoc done (c ∷ []) cs))
after_one done c (Err e) = refl

pub behind_more : (ts : List Value) (i : ℕ) (t : Value) (done : List CacheSettings) (c : CacheSettings) (all : Result (List CacheSettings) ConfigFault) → i < length ts → t ≡ get_or ts i t
    → cache_of (i + 1) (view t) ≡ Ok c → all ≡ behind done (caches_of (i + 1) (items_view (drop i ts)))
    → all ≡ behind (done ++ c ∷ []) (caches_of (i + 1 + 1) (items_view (drop (i + 1) ts)))
behind_more ts i t done c all h at read so_far =
    let here : cache_of (i + 1) (view (get_or ts i t)) ≡ Ok c = rw at at read in
    so_far ∙ rw (items_view-drop ts i t h, here) (after_one done c (caches_of (i + 1 + 1) (items_view (drop (i + 1) ts))))
