-- Callbacks that suit the configurations so far, and those of one more.
use Rattle.std.proofs.Common.{◌≡◌, ◌<◌, ◌+◌, ℕ, suc, zero, Bool, List, [], ◌∷◌, ◌++◌, take, length, get_or, sym, ◌∙◌, ap, subst}
use Rattle.std.proofs.lemmas.List.{take_more}
use Rattle.jc_hooks.specs.declared.cache_hooks.CacheHooks.{CacheHooks}
use Rattle.jc_hooks.specs.Suits.{AllSuit, Suits}
use Rattle.jc_model.specs.declared.config.CacheConfig.{CacheConfig}

module _ {L W P K : Type 0} (wants : P → Bool) where
  pub one_more : (configs : List CacheConfig) (hooks : List (CacheHooks L W P K)) (c : CacheConfig) (h : CacheHooks L W P K) → AllSuit wants configs hooks → Suits wants c h → AllSuit wants (configs ++ c ∷ []) (hooks ++ h ∷ [])
  one_more [] [] c h s here zero = here
  one_more [] [] c h s here (suc place) = tt
  one_more [] (other ∷ hooks) c h s here place = absurd (s 0)
  one_more (other ∷ configs) [] c h s here place = absurd (s 0)
  one_more (other ∷ configs) (its ∷ hooks) c h s here zero = s 0
  one_more (other ∷ configs) (its ∷ hooks) c h s here (suc place) = one_more configs hooks c h (λ at. s (suc at)) here place

  -- the configurations are taken from a list, one behind the other
  pub one_more_taken : (configs : List CacheConfig) (n : ℕ) (c : CacheConfig) (hooks : List (CacheHooks L W P K)) (h : CacheHooks L W P K) → n < length configs → c ≡ get_or configs n c → AllSuit wants (take n configs) hooks → Suits wants c h → AllSuit wants (take (n + 1) configs) (hooks ++ h ∷ [])
  one_more_taken configs n c hooks h below here so_far suits =
      let cut : take (n + 1) configs ≡ take n configs ++ c ∷ [] = take_more configs n c below ∙ ap (λ (x : CacheConfig). take n configs ++ x ∷ []) (sym here) in
      subst (λ (cs : List CacheConfig). AllSuit wants cs (hooks ++ h ∷ [])) (sym cut) (one_more (take n configs) hooks c h so_far suits)
