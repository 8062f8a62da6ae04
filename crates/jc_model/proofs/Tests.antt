-- Values are equal by their tests only where they are the same.
use Rattle.jc_model.proofs.Names.{Bool, List, Result, [], ap, ap₂, arith, eqb, refl, rules, subst, sym, true, ℕ, ◌∙◌, ◌∷◌, ◌≡◌, common_steps, bytes_eq-Decides, option_eq, ◌&&◌, bytes_eq}
use Rattle.jc_model.proofs.Names.{Answer, Clear, ClearStats, Entries, GetAll, InvokeAll, LoadAll, PutAll, RemoveAll, RemoveKeys, Stats, Notice, Counted, Done, Fault, Found, Listed, Results, Truth}
use Rattle.jc_model.proofs.Names.{End, Replied, Waiting, same_pair}
use Rattle.std.specs.Bool.{Decides}
use Rattle.std.specs.Cmp.Lexicographic.{pointwise}
use Rattle.std.proofs.lemmas.Bool.{eqb-true, false≢true}
use Rattle.jc_model.specs.declared.call.Call.TheVariants as c
use Rattle.jc_model.specs.declared.call.ProcessorFault.{ProcessorFault}
use Rattle.jc_model.specs.declared.event.End.TheVariants.{GivenUp}
use Rattle.jc_model.specs.contracts.key.KeyPartialEq.TheImpl as key_eq
use Rattle.jc_model.specs.contracts.value.ValuePartialEq.TheImpl as value_eq
use Rattle.jc_model.specs.contracts.call.CallPartialEq.TheImpl as call_eq
use Rattle.jc_model.specs.contracts.call.AnswerPartialEq.TheImpl as answer_eq
use Rattle.jc_model.specs.contracts.call.ReplyPartialEq.TheImpl as reply_eq
use Rattle.jc_model.specs.contracts.call.ByPartialEq.TheImpl as by_eq
use Rattle.jc_model.specs.contracts.call.CountsPartialEq.TheImpl as counts_eq
use Rattle.jc_model.specs.contracts.call.NoticePartialEq.TheImpl as notice_eq
use Rattle.jc_model.specs.contracts.event.EndPartialEq.TheImpl as end_eq
use Rattle.jc_model.specs.contracts.event.EntryPartialEq.TheImpl as entry_eq

-- a test that holds only of the same
abbrev pub IsExact : {X : Type 0} → (X → X → Bool) → Type 0
IsExact {X} test = (x y : X) → test x y ≡ true → x ≡ y

both : (p q : Bool) → (p && q) ≡ true → (p ≡ true) × (q ≡ true)
both p q h = grind (arith, common_steps)

bytes : IsExact bytes_eq
bytes k j h = (bytes_eq-Decides k j).0 h

-- the same, as `grind` finds it: at each test
told : {X : Type 0} (test : X → X → Bool) → IsExact test → (x y : X) → (test x y ≡ test x y) × (test x y ≡ true → x ≡ y)
told test exact x y = (refl, exact x y)

lists : {X : Type 0} (test : X → X → Bool) → IsExact test → IsExact (pointwise test)
lists test exact [] [] h = refl
lists test exact [] (y ∷ ys) h = absurd (false≢true h)
lists test exact (x ∷ xs) [] h = absurd (false≢true h)
lists test exact (x ∷ xs) (y ∷ ys) h =
    let b = both (test x y) (pointwise test xs ys) h in ap₂ (λ z zs. z ∷ zs) (exact x y b.0) (lists test exact xs ys b.1)

options : {X : Type 0} (test : X → X → Bool) → IsExact test → IsExact (option_eq test)
options test h = grind (arith, common_steps)

pairs : IsExact same_pair
pairs p q h = search rules

-- tests of two parts and of three
two : {X Y Z : Type 0} (make : X → Y → Z) (p : X → X → Bool) (q : Y → Y → Bool) → IsExact p → IsExact q → (x x' : X) (y y' : Y) → (p x x' && q y y') ≡ true → make x y ≡ make x' y'
two make p q f g x x' y y' h = let b = both (p x x') (q y y') h in ap₂ make (f x x' b.0) (g y y' b.1)

three : {X Y Z V : Type 0} (make : X → Y → Z → V) (p : X → X → Bool) (q : Y → Y → Bool) (r : Z → Z → Bool) → IsExact p → IsExact q → IsExact r → (x x' : X) (y y' : Y) (z z' : Z) → (p x x' && (q y y' && r z z')) ≡ true → make x y z ≡ make x' y' z'
three make p q r f g k x x' y y' z z' h = grind (arith, common_steps)

flags : IsExact (λ b d. reply_eq.eq-value.it (Truth b) (Truth d))
flags = grind (arith, common_steps)

pub calls : IsExact call_eq.eq-value.it
calls (c.Get k) (c.Get j) h = ap c.Get (bytes k j h)
calls (c.Contains k) (c.Contains j) h = ap c.Contains (bytes k j h)
calls (c.Remove k) (c.Remove j) h = ap c.Remove (bytes k j h)
calls (c.GetAndRemove k) (c.GetAndRemove j) h = ap c.GetAndRemove (bytes k j h)
calls (c.Put k v) (c.Put j w) h = two c.Put bytes_eq bytes_eq bytes bytes k j v w h
calls (c.GetAndPut k v) (c.GetAndPut j w) h = two c.GetAndPut bytes_eq bytes_eq bytes bytes k j v w h
calls (c.PutIfAbsent k v) (c.PutIfAbsent j w) h = two c.PutIfAbsent bytes_eq bytes_eq bytes bytes k j v w h
calls (c.Replace k v) (c.Replace j w) h = two c.Replace bytes_eq bytes_eq bytes bytes k j v w h
calls (c.GetAndReplace k v) (c.GetAndReplace j w) h = two c.GetAndReplace bytes_eq bytes_eq bytes bytes k j v w h
calls (c.RemoveIf k v) (c.RemoveIf j w) h = two c.RemoveIf bytes_eq bytes_eq bytes bytes k j v w h
calls (c.GetAll k) (c.GetAll j) h = ap c.GetAll (lists bytes_eq bytes k j h)
calls (c.RemoveKeys k) (c.RemoveKeys j) h = ap c.RemoveKeys (lists bytes_eq bytes k j h)
calls (c.PutAll k) (c.PutAll j) h = ap c.PutAll (lists same_pair pairs k j h)
calls (c.ReplaceIf k e v) (c.ReplaceIf j f w) h = three c.ReplaceIf bytes_eq bytes_eq bytes_eq bytes bytes bytes k j e f v w h
calls (c.Invoke k n v) (c.Invoke j m w) h = three c.Invoke bytes_eq eqb bytes_eq bytes eqb-true bytes k j n m v w h
calls (c.InvokeAll k n v) (c.InvokeAll j m w) h = three c.InvokeAll (pointwise bytes_eq) eqb bytes_eq (lists bytes_eq bytes) eqb-true bytes k j n m v w h
calls (c.LoadAll k r) (c.LoadAll j s) h = two c.LoadAll (pointwise bytes_eq) (λ b d. reply_eq.eq-value.it (Truth b) (Truth d)) (lists bytes_eq bytes) flags k j r s h
calls c.RemoveAll c.RemoveAll h = refl
calls c.Clear c.Clear h = refl
calls c.Entries c.Entries h = refl
calls c.Stats c.Stats h = refl
calls c.ClearStats c.ClearStats h = refl
calls _ _ h = absurd (false≢true h)

hooks : IsExact by_eq.eq-value.it
hooks x y h = search rules

pub notices : IsExact notice_eq.eq-value.it
notices x y h = search rules

pub answers : IsExact answer_eq.eq-value.it
answers x y h = search rules

counts : IsExact counts_eq.eq-value.it
counts x y h = grind (arith, common_steps)

-- what processors answered, by key
results : (v w : List (List ℕ × Result (List ℕ) ProcessorFault)) → reply_eq.eq-value.it (Results v) (Results w) ≡ true → v ≡ w
results v w h = lists _ (λ x y e. grind (arith, common_steps, told key_eq.ghosts.eq bytes, told value_eq.ghosts.eq bytes)) v w h

pub replies : IsExact reply_eq.eq-value.it
replies Done Done h = refl
replies (Truth b) (Truth d) h = ap Truth (flags b d h)
replies (Found v) (Found w) h = ap Found (options bytes_eq bytes v w h)
replies (Listed v) (Listed w) h = ap Listed (lists same_pair pairs v w h)
replies (Results v) (Results w) h = ap Results (results v w h)
replies (Counted v) (Counted w) h = ap Counted (counts v w h)
replies (Fault v n) (Fault w m) h = two Fault by_eq.eq-value.it (option_eq eqb) hooks (options eqb eqb-true) v w n m h
replies _ _ h = absurd (false≢true h)

ends : IsExact end_eq.eq-value.it
ends Waiting Waiting h = refl
ends (Replied r) (Replied s) h = ap Replied (replies r s h)
ends GivenUp GivenUp h = refl
ends _ _ h = absurd (false≢true h)

abbrev last : List Answer × List Notice × End → List Answer × List Notice × End → Bool
last a b = pointwise answer_eq.eq-value.it a.0 b.0 && (pointwise notice_eq.eq-value.it a.1 b.1 && end_eq.eq-value.it a.2 b.2)

pub entries : IsExact entry_eq.eq-value.it
entries x y h =
    let call = told call_eq.eq-value.it calls in
    let given = told (pointwise answer_eq.eq-value.it) (lists answer_eq.eq-value.it answers) in
    let heard = told (pointwise notice_eq.eq-value.it) (lists notice_eq.eq-value.it notices) in
    let end = told end_eq.eq-value.it ends in
    grind (arith, common_steps)

-- such a test decides whether both are the same
pub decides : {X : Type 0} (test : X → X → Bool) → IsExact test → ((x : X) → test x x ≡ true) → (x y : X) (r : Bool) → r ≡ test x y → Decides r (x ≡ y)
decides test exact itself x y r e = ((λ h. exact x y (sym e ∙ h)), (λ same. e ∙ subst (λ z. test x z ≡ true) same (itself x)))
