-- Lists that are made by one push after the other.
use Rattle.std.proofs.Common.{◌≡◌, ℕ, ◌+◌, ◌<◌, ◌≤◌, List, [], ◌∷◌, ◌++◌, length, map, take, drop, get_or, replicate, sym, ap, ◌∙◌, subst, refl, append_assoc, append-nil, Option, Some, Result, Ok, Err}
use Rattle.std.specs.Prelude.{IfSome, IfOk, IfErr}
use Rattle.std.proofs.lemmas.List.{take_all, take_more, drop_all, drop_more, map_push, replicate_more}
use Rattle.jc_config.specs.declared.kinds.HookKinds.{HookKinds}
use Rattle.jc_model.specs.declared.config.CacheConfig.{CacheConfig}
use Rattle.jc_runner.specs.Naming.{ProgramHooks, AreHooksNamed, AllHooksNamed}

pub more_mapped : {A B : Type 0} (f : A → B) (xs : List A) (i : ℕ) (d : A) (old new : List B) (y : B) → i < length xs → old ≡ map f (take i xs) → y ≡ f (get_or xs i d) → new ≡ old ++ y ∷ [] → new ≡ map f (take (i + 1) xs)
more_mapped f xs i d old new y lt so_far is pushed =
    pushed ∙ ap (λ ys. ys ++ y ∷ []) so_far ∙ ap (λ z. map f (take i xs) ++ z ∷ []) is ∙ sym (map_push f (take i xs) (get_or xs i d)) ∙ ap (map f) (sym (take_more xs i d lt))

pub all_mapped : {A B : Type 0} (f : A → B) (xs : List A) (i : ℕ) (ys : List B) → length xs ≤ i → ys ≡ map f (take i xs) → ys ≡ map f xs
all_mapped f xs i ys le so_far = so_far ∙ ap (map f) (take_all i xs le)

pub more_copies : {A : Type 0} (n : ℕ) (x : A) (old new : List A) → old ≡ replicate n x → new ≡ old ++ x ∷ [] → new ≡ replicate (n + 1) x
more_copies n x old new so_far pushed = pushed ∙ ap (λ ys. ys ++ x ∷ []) so_far ∙ replicate_more n x

-- the callbacks of the caches from i on complete those before
abbrev pub Completes : List CacheConfig → List HookKinds → ℕ → List ProgramHooks → Type 0
Completes caches kinds i hooks = (rest : List ProgramHooks) → AllHooksNamed (drop i caches) (drop i kinds) rest → AllHooksNamed caches kinds (hooks ++ rest)

pub more_named : (caches : List CacheConfig) (kinds : List HookKinds) (i : ℕ) (c : CacheConfig) (k : HookKinds) (h : ProgramHooks) (old new : List ProgramHooks) → i < length caches → i < length kinds → c ≡ get_or caches i c → k ≡ get_or kinds i k
    → AreHooksNamed c k h → Completes caches kinds i old → new ≡ old ++ h ∷ [] → Completes caches kinds (i + 1) new
more_named caches kinds i c k h old new lt lt' is is' named so_far pushed rest left =
    let here : AllHooksNamed (c ∷ drop (i + 1) caches) (k ∷ drop (i + 1) kinds) (h ∷ rest) = (named, left) in
    let at_c : c ∷ drop (i + 1) caches ≡ drop i caches = ap (λ x. x ∷ drop (i + 1) caches) is ∙ sym (drop_more caches i c lt) in
    let at_k : k ∷ drop (i + 1) kinds ≡ drop i kinds = ap (λ x. x ∷ drop (i + 1) kinds) is' ∙ sym (drop_more kinds i k lt') in
    let all : AllHooksNamed (drop i caches) (drop i kinds) (h ∷ rest) = subst (λ (ks : List HookKinds). AllHooksNamed (drop i caches) ks (h ∷ rest)) at_k (subst (λ (cs : List CacheConfig). AllHooksNamed cs (k ∷ drop (i + 1) kinds) (h ∷ rest)) at_c here) in
    subst (AllHooksNamed caches kinds) (sym (append_assoc old (h ∷ []) rest) ∙ ap (λ (hs : List ProgramHooks). hs ++ rest) (sym pushed)) (so_far (h ∷ rest) all)

pub all_named : (caches : List CacheConfig) (kinds : List HookKinds) (i : ℕ) (hooks : List ProgramHooks) → length caches ≤ i → Completes caches kinds i hooks → AllHooksNamed caches kinds hooks
all_named caches kinds i hooks le so_far =
    subst (AllHooksNamed caches kinds) (append-nil hooks) (so_far [] (subst (λ (cs : List CacheConfig). AllHooksNamed cs (drop i kinds) []) (sym (drop_all i caches le)) tt))

pub none_of : {A B : Type 0} (f : A → B) (xs : List A) → map f xs ≡ [] → xs ≡ []
none_of f [] none = refl
none_of f (x ∷ xs) none = cc

-- What is known of an option or a result.

pub of_some : {A : Type 0} (o : Option A) (x : A) (P : A → Type 0) → o ≡ Some x → IfSome o P → P x
of_some {A} o x P is p = subst (λ (y : Option A). IfSome y P) is p

pub if_ok_weaker : {A E : Type 0} (r : Result A E) (P Q : A → Type 0) → ((a : A) → P a → Q a) → IfOk r P → IfOk r Q
if_ok_weaker (Ok a) P Q f p = f a p
if_ok_weaker (Err e) P Q f p = tt

pub if_err_weaker : {A E : Type 0} (r : Result A E) (P Q : E → Type 0) → ((e : E) → P e → Q e) → IfErr r P → IfErr r Q
if_err_weaker (Ok a) P Q f p = tt
if_err_weaker (Err e) P Q f p = f e p

pub not_both : {A E : Type 0} (e : E) (a : A) → Err e ≡ Ok a → ⊥
not_both e a is = cc
