-- Lives are equal by their test only where they are the same.
use Rattle.std.proofs.Common.{◌≡◌, ℕ, Bool, true, false, eqb, List, [], ◌∷◌, refl, ap, ap₂}
use Rattle.std.specs.Prelude.{◌&&◌}
use Rattle.std.specs.Bool.{Decides}
use Rattle.std.specs.Str.{bytes_eq}
use Rattle.std.specs.Cmp.Lexicographic.{pointwise}
use Rattle.std.proofs.lemmas.Slice.Eq.{bytes_eq-Decides}
use Rattle.std.proofs.lemmas.Bool.{eqb-true, false≢true}
use Rattle.jc_model.proofs.Tests.{IsExact, decides}
use Rattle.jc_model.specs.declared.call.Reply.TheVariants.{Truth}
use Rattle.jc_model.specs.declared.config.CacheConfig.{CacheConfig}
use Rattle.jc_model.specs.declared.config.Policy.{Policy}
use Rattle.jc_model.specs.declared.config.Policy.TheVariants.{Eternal, Created, Accessed, Modified, Touched}
use Rattle.jc_model.specs.declared.event.Life.{Life}
use Rattle.jc_model.specs.contracts.call.ReplyPartialEq.TheImpl as reply_eq
use Rattle.jc_model.specs.contracts.config.PolicyPartialEq.TheImpl as policy_eq
use Rattle.jc_model.specs.contracts.config.CacheConfigPartialEq.TheImpl as config_eq
use Rattle.jc_model.specs.contracts.event.LifePartialEq.TheImpl as life_eq
use Rattle.jc_model.specs.contracts.event.LifeEq.TheImpl.Laws.{laws-law}

both : (p q : Bool) → (p && q) ≡ true → (p ≡ true) × (q ≡ true)
both true true h = (refl, refl)
both true false h = absurd (false≢true h)
both false q h = absurd (false≢true h)

lists : {X : Type 0} (test : X → X → Bool) → IsExact test → IsExact (pointwise test)
lists test exact [] [] h = refl
lists test exact [] (y ∷ ys) h = absurd (false≢true h)
lists test exact (x ∷ xs) [] h = absurd (false≢true h)
lists test exact (x ∷ xs) (y ∷ ys) h =
    let b = both (test x y) (pointwise test xs ys) h in ap₂ (λ z zs. z ∷ zs) (exact x y b.0) (lists test exact xs ys b.1)

list_itself : {X : Type 0} (test : X → X → Bool) → ((x : X) → test x x ≡ true) → (xs : List X) → pointwise test xs xs ≡ true
list_itself test itself [] = refl
list_itself test itself (x ∷ xs) = let first : test x x ≡ true = itself x in let rest : pointwise test xs xs ≡ true = list_itself test itself xs in rw (first, rest) refl

abbrev flag : Bool → Bool → Bool
flag b d = reply_eq.eq-value.it (Truth b) (Truth d)

flags : IsExact flag
flags true true h = refl
flags false false h = refl
flags true false h = absurd (false≢true h)
flags false true h = absurd (false≢true h)

policies : IsExact policy_eq.eq-value.it
policies Eternal Eternal h = refl
policies (Created t) (Created u) h = ap Created (eqb-true t u h)
policies (Accessed t) (Accessed u) h = ap Accessed (eqb-true t u h)
policies (Modified t) (Modified u) h = ap Modified (eqb-true t u h)
policies (Touched t) (Touched u) h = ap Touched (eqb-true t u h)
policies _ _ h = absurd (false≢true h)

abbrev config_with : List ℕ → ℕ → Policy → Bool → Bool → List Bool → ℕ → CacheConfig
config_with name capacity policy loader writer processors listeners =
    record { name = name; capacity = capacity; policy = policy; loader = loader; writer = writer; processors = processors; listeners = listeners }

then_same : {X Y : Type 0} {f g : X → Y} {x y : X} → f ≡ g → x ≡ y → f x ≡ g y
then_same f_same x_same = ap₂ (λ h z. h z) f_same x_same

configs_same : (x y : CacheConfig) → x.name ≡ y.name → x.capacity ≡ y.capacity → x.policy ≡ y.policy → x.loader ≡ y.loader → x.writer ≡ y.writer → x.processors ≡ y.processors → x.listeners ≡ y.listeners → x ≡ y
configs_same x y name capacity policy loader writer processors listeners =
    then_same (then_same (then_same (then_same (then_same (then_same (ap config_with name) capacity) policy) loader) writer) processors) listeners

configs : IsExact config_eq.eq-value.it
configs x y h =
    let a = both (bytes_eq x.name y.name) (eqb x.capacity y.capacity && (policy_eq.eq-value.it x.policy y.policy && (flag x.loader y.loader && (flag x.writer y.writer && (pointwise flag x.processors y.processors && eqb x.listeners y.listeners))))) h in
    let b = both (eqb x.capacity y.capacity) (policy_eq.eq-value.it x.policy y.policy && (flag x.loader y.loader && (flag x.writer y.writer && (pointwise flag x.processors y.processors && eqb x.listeners y.listeners)))) a.1 in
    let d = both (policy_eq.eq-value.it x.policy y.policy) (flag x.loader y.loader && (flag x.writer y.writer && (pointwise flag x.processors y.processors && eqb x.listeners y.listeners))) b.1 in
    let e = both (flag x.loader y.loader) (flag x.writer y.writer && (pointwise flag x.processors y.processors && eqb x.listeners y.listeners)) d.1 in
    let f = both (flag x.writer y.writer) (pointwise flag x.processors y.processors && eqb x.listeners y.listeners) e.1 in
    let g = both (pointwise flag x.processors y.processors) (eqb x.listeners y.listeners) f.1 in
    let name : x.name ≡ y.name = (bytes_eq-Decides x.name y.name).0 a.0 in
    let capacity : x.capacity ≡ y.capacity = eqb-true x.capacity y.capacity b.0 in
    let policy : x.policy ≡ y.policy = policies x.policy y.policy d.0 in
    let loader : x.loader ≡ y.loader = flags x.loader y.loader e.0 in
    let writer : x.writer ≡ y.writer = flags x.writer y.writer f.0 in
    let processors : x.processors ≡ y.processors = lists flag flags x.processors y.processors g.0 in
    let listeners : x.listeners ≡ y.listeners = eqb-true x.listeners y.listeners g.1 in
    configs_same x y name capacity policy loader writer processors listeners

lives_same : (x y : Life) → x.id ≡ y.id → x.config ≡ y.config → x ≡ y
lives_same x y id config = ap₂ (λ (i : ℕ) (c : CacheConfig). (let l : Life = record { id = i; config = c } in l)) id config

lives : IsExact life_eq.eq-value.it
lives x y h =
    let a = both (eqb x.id y.id) (config_eq.eq-value.it x.config y.config) h in
    lives_same x y (eqb-true x.id y.id a.0) (configs x.config y.config a.1)

pub same_where_equal : (xs ys : List Life) (r : Bool) → r ≡ pointwise life_eq.eq-value.it xs ys → Decides r (xs ≡ ys)
same_where_equal xs ys r e = decides (pointwise life_eq.eq-value.it) (lists life_eq.eq-value.it lives) (list_itself life_eq.eq-value.it (λ x. laws-law.refl x)) xs ys r e
