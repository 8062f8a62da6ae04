-- What the getters of matches read, in the words of their rows.
use Rattle.std.proofs.Common.{◌≡◌, ◌≢◌, ◌<◌, ◌^◌, ℕ, Bool, true, false, List, [], ◌∷◌, Option, Some, None, Result, Ok, Err, option_map, refl, sym, ap, ap₂, subst, inl, inr, IfSome, ◌∙◌, codes}
use Rattle.std.specs.Bool.{MatchBool}
use Rattle.std.specs.Prelude.{MatchOption}
use Rattle.std.specs.Str.Parse.{ParsesUnsigned}
use Rattle.std.specs.Prelude.{find, option_and_then}
use Rattle.std.specs.Str.{bytes_eq}
use Rattle.clap.specs.Facts.{Entry}
use Rattle.clap.specs.Matches.{matched_of, first_value}
use Rattle.clap.specs.Walk.{row_of, rows_of, first_of}
use Rattle.clap.specs.Words.{Text, Row, ReadsOne, is_simple, kind_of}
use Rattle.clap.specs.Kinds.{Kinds, HasKind}
use Rattle.clap.specs.Faults.{fault_of, is_simple_and_free}
use Rattle.clap.specs.Simple.{App}
use Rattle.clap.specs.declared.parser.matches.Found.{Found}
use Rattle.clap.specs.declared.parser.matches.MatchedArg.{MatchedArg}
use Rattle.clap.specs.declared.parser.matches.ValueSource.{ValueSource}
use Rattle.clap.specs.declared.error.Error.{Error}
use Rattle.clap.specs.declared.error.kind.ErrorKind.TheVariants.{ArgumentConflict, InvalidSubcommand}
use Rattle.jc_cli.specs.Program.{IsNumber, truth, source_of, is_of_words, is_in_words, may_be_input, clash_of, AsksBy, AsksForNone, KeepsLimits, MayRefuseInFull, format_text, explain_text, SaysNoExplain, program}
use Rattle.clap.proofs.OnLiterals.{clap_on_literals}
use Rattle.clap.proofs.WalkLemmas.{find_row, first_value-rows}
use Rattle.jc_cli.specs.declared.asked.Asked.{Asked}
use Rattle.jc_cli.specs.declared.run.Explain.{Explain}
use Rattle.jc_cli.specs.declared.run.Format.{Format}
use Rattle.jc_cli.specs.declared.clash.Clash.{Clash}
use Rattle.std.specs.Borrow.{Bor}

same_text : (t u : Text) → Some t ≡ Some u → t ≡ u
same_text t u e = cc

same_rows : (r s : List Row) → Some r ≡ Some s → r ≡ s
same_rows r s e = cc

same_pair : (p q : Text × List Row) → Some p ≡ Some q → p ≡ q
same_pair p q e = cc

-- the name alone, of a name that is read with its rows
pub name_read : {B : Type 0} (o : Option B) (f : B → Text) (g : B → List Row) → option_map f o ≡ option_map (λ (p : Text × List Row). p.0) (option_map (λ b. (f b, g b)) o)
name_read None f g = refl
name_read (Some b) f g = refl

pub number_read : {E : Type 0} (G : List ℕ → Result ℕ E → Type 0) (k : ℕ) (o : Option Text) (n : ℕ) → ((t : Text) (r : Result ℕ E) → G t r → ParsesUnsigned k 10 t r) → (o ≡ None → Some n ≡ None) → ((t : Text) → o ≡ Some t → ReadsOne G t (Some n)) → IsNumber o n
number_read G k None n is none value = let h : Some n ≡ None = none refl in cc
number_read G k (Some t) n is none value =
    let parsed = is t (Ok n) (value t refl) in
    (parsed.0.0, sym parsed.1)

pub truth_read : (o : Option Text) (b : Bool) → (o ≡ None → Some b ≡ None) → ((t : Text) → o ≡ Some t → MatchBool b (t ≡ codes "true") (t ≡ codes "false")) → o ≡ Some (truth b)
truth_read None b none value = let h : Some b ≡ None = none refl in cc
truth_read (Some t) true none value = ap (λ (text : Text). Some text) (value t refl)
truth_read (Some t) false none value = ap (λ (text : Text). Some text) (value t refl)

-- where a value came from, by its row
pub source-rows : (f : Found) (id : Text) → option_and_then (λ a. a.source) (matched_of f id) ≡ source_of id (rows_of f)
source-rows f id = go (find (λ e. bytes_eq e.0.now id) f.entries.items) ∙ ap (option_and_then (λ (r : Row). r.source)) (sym (find_row f.entries.items id))
  where
    go : (o : Option Entry) → option_and_then (λ (a : MatchedArg). a.source) (option_map (λ e. e.1) o) ≡ option_and_then (λ (r : Row). r.source) (option_map row_of o)
    go None = refl
    go (Some e) = refl

-- the name and the rows of the subcommand that was met, each read by itself
pub named : (o : Option (Text × List Row)) (name : Text) (rows : List Row) (a : Asked) → Some name ≡ option_map (λ p. p.0) o → Some rows ≡ option_map (λ p. p.1) o → clash_of rows ≡ None → AsksBy (name, rows) a → (p : Text × List Row) × (o ≡ Some p) × (clash_of p.1 ≡ None) × AsksBy p a
named None name rows a is has apart asks = cc
named (Some p) name rows a is has apart asks =
    let same : (name, rows) ≡ p = ap₂ (λ (n : Text) (r : List Row). (n, r)) (same_text name p.0 is) (same_rows rows p.1 has) in
    (p, refl, subst (λ (q : Text × List Row). clash_of q.1 ≡ None) same apart, subst (λ (q : Text × List Row). AsksBy q a) same asks)

pub some_clash : (o : Option Clash) (clash : Clash) (rows : List Row) → o ≡ clash_of rows → o ≡ Some clash → clash_of rows ≢ None
some_clash o clash rows e is none = cc

-- the rows of the subcommand that was met clash
pub clashing : (o : Option (Text × List Row)) (rows : List Row) → Some rows ≡ option_map (λ p. p.1) o → clash_of rows ≢ None → (p : Text × List Row) × (o ≡ Some p) × (clash_of p.1 ≢ None)
clashing None rows has apart = cc
clashing (Some p) rows has apart = (p, refl, subst (λ (r : List Row). clash_of r ≢ None) (same_rows rows p.1 has) apart)

-- the rows of the subcommand that was met stand together
pub standing : (o : Option (Text × List Row)) (rows : List Row) → Some rows ≡ option_map (λ p. p.1) o → clash_of rows ≡ None → (p : Text × List Row) → o ≡ Some p → clash_of p.1 ≡ None
standing None rows has apart p is = absurd cc
standing (Some q) rows has apart p is =
    let same : q ≡ p = same_pair q p is in
    subst (λ (r : Text × List Row). clash_of r.1 ≡ None) same (subst (λ (r : List Row). clash_of r ≡ None) (same_rows rows q.1 has) apart)

-- none was met
pub none_standing : (o : Option (Text × List Row)) → ◌≡◌ {A = Option (List Row)} None (option_map (λ p. p.1) o) → (p : Text × List Row) → o ≡ Some p → clash_of p.1 ≡ None
none_standing None has p is = absurd cc
none_standing (Some q) has p is = absurd cc

pub is_simple_program : is_simple program ≡ true
unfolding clap_on_literals
is_simple_program = refl

pub text_read : (o : Option (Bor (List ℕ))) (v : Bor (List ℕ)) (t : Option Text) (bytes : Text) → option_map (λ s. s.now) o ≡ t → o ≡ Some v → bytes ≡ v.now → t ≡ Some bytes
text_read o v t bytes e is same = sym e ∙ (ap (λ (x : Option (Bor (List ℕ))). option_map (λ s. s.now) x) is ∙ ap (λ (text : Text). Some text) (sym same))

-- the text of an id, by its row
pub text_of_rows : (f : Found) (id : Text) (o : Option (Bor (List ℕ))) (v : Bor (List ℕ)) → option_map (λ s. s.now) o ≡ first_value f id → o ≡ Some v → first_of id (rows_of f) ≡ Some v.now
text_of_rows f id o v reads is = sym (first_value-rows f id) ∙ text_read o v _ _ reads is refl

pub some_asks : (o : Option Asked) (p : Text × List Row) (a : Asked) → IfSome o (AsksBy p) → o ≡ Some a → AsksBy p a
some_asks o p a asks is = let Q : Option Asked → Type 0 = λ x. IfSome x (AsksBy p) in subst Q is asks

is_free_program : is_simple_and_free program ≡ true
unfolding clap_on_literals
is_free_program = refl

pub refused : (app : App) (words : List Text) (e : Error) → app ≡ program → (is_simple_and_free app ≡ true → HasKind (fault_of app words) e) → MayRefuseInFull words e
refused app words e is fails =
    let Q : App → Type 0 = λ a. HasKind (fault_of a words) e in
    inl (subst Q is (fails (ap is_simple_and_free is ∙ is_free_program)))

-- the form that a text names, by its row
pub format_read : (o : Option Format) (first : Option Text) (t : Text) → first ≡ Some t → MatchOption o ((form : Format) → t ≢ format_text form) (λ form. t ≡ format_text form) → MatchOption o ((form : Format) → first ≢ Some (format_text form)) (λ form. first ≡ Some (format_text form))
format_read None first t is never = λ form named. never form (same_text t (format_text form) (sym is ∙ named))
format_read (Some form) first t is same = is ∙ ap (λ (text : Text). Some text) same

-- when explanations are asked for, by its row
pub explain_read : (o : Option Explain) (first : Option Text) (t : Text) → first ≡ Some t → MatchOption o (SaysNoExplain t) (λ explain. t ≡ explain_text explain) → MatchOption o ((explain : Explain) → first ≢ Some (explain_text explain)) (λ explain. first ≡ Some (explain_text explain))
explain_read None first t is never = λ explain named. never explain (same_text t (explain_text explain) (sym is ∙ named))
explain_read (Some explain) first t is same = is ∙ ap (λ (text : Text). Some text) same

-- What is not read was not asked for.

pub no_number : {E : Type 0} (G : List ℕ → Result ℕ E → Type 0) (k : ℕ) (o : Option Text) (n : ℕ) → ((t : Text) (r : Result ℕ E) → G t r → ParsesUnsigned k 10 t r) → ((t : Text) → o ≡ Some t → ReadsOne G t None) → n < 2 ^ k → IsNumber o n → ⊥
no_number G k None n is value below asked = asked
no_number G k (Some t) n is value below asked =
    let (e, gives) = value t refl in
    is t (Err e) gives (asked.0, rw asked.1 below)

pub no_truth : {E : Type 0} (o : Option Text) (b : Bool) → ((t : Text) → o ≡ Some t → (e : E) × ((t ≢ codes "true") × (t ≢ codes "false"))) → o ≡ Some (truth b) → ⊥
no_truth None b value asked = cc
no_truth (Some t) true value asked = (value t refl).1.0 (same_text t (codes "true") asked)
no_truth (Some t) false value asked = (value t refl).1.1 (same_text t (codes "false") asked)

pub same_number : (o : Option Text) (m n : ℕ) → IsNumber o m → IsNumber o n → m ≡ n
same_number None m n x y = absurd x
same_number (Some t) m n x y = sym x.1 ∙ y.1

pub no_text : (o : Option (Bor (List ℕ))) (t : Option Text) (bytes : Text) → option_map (λ s. s.now) o ≡ t → o ≡ None → t ≡ Some bytes → ⊥
no_text o t bytes e is asked = cc

-- the subcommand that was met asks for nothing
pub no_asked : (o : Option (Text × List Row)) (name : Text) (rows : List Row) (a : Asked) → Some name ≡ option_map (λ p. p.0) o → Some rows ≡ option_map (λ p. p.1) o → AsksForNone (name, rows) → (p : Text × List Row) × (o ≡ Some p) × (clash_of p.1 ≡ None) × AsksBy p a → KeepsLimits a → ⊥
no_asked None name rows a is has none asked within = absurd cc
no_asked (Some p) name rows a is has none asked within =
    let (q, same, apart, asks) = asked in
    let at_p : p ≡ (name, rows) = ap₂ (λ (n : Text) (r : List Row). (n, r)) (sym (same_text name p.0 is)) (sym (same_rows rows p.1 has)) in
    none a (subst (λ (r : Text × List Row). AsksBy r a) (sym (same_pair p q same) ∙ at_p) asks) within

-- none was met
pub none_met : (o : Option (Text × List Row)) (a : Asked) → ◌≡◌ {A = Option (List Row)} None (option_map (λ p. p.1) o) → (p : Text × List Row) × (o ≡ Some p) × (clash_of p.1 ≡ None) × AsksBy p a → ⊥
none_met None a e asked = absurd cc
none_met (Some p) a e asked = absurd cc

-- whether the words have a value, by where it came from
pub worded : (f : Found) (id : Text) (o s : Option ValueSource) → o ≡ option_and_then (λ a. a.source) (matched_of f id) → o ≡ s → is_of_words s ≡ is_in_words id (rows_of f)
worded f id o s comes is = ap is_of_words (sym is ∙ comes ∙ source-rows f id)

-- whether a path stands for standard input
pub input_read : (f : Found) (id : Text) (o p : Option (Bor (List ℕ))) → option_map (λ s. s.now) o ≡ first_value f id → o ≡ p → may_be_input (option_map (λ s. s.now) p) ≡ may_be_input (first_of id (rows_of f))
input_read f id o p reads is = ap may_be_input (ap (λ (x : Option (Bor (List ℕ))). option_map (λ s. s.now) x) (sym is) ∙ reads ∙ first_value-rows f id)

-- A refusal of the same kind.

like : (kinds : Kinds) (e e' : Error) → kind_of e' ≡ kind_of e → HasKind kinds e → HasKind kinds e'
like kinds e e' same has = rw same has

pub same_kind : (words : List Text) (e e' : Error) → kind_of e' ≡ kind_of e → MayRefuseInFull words e → MayRefuseInFull words e'
same_kind words e e' same (inl has) = inl (like (fault_of program words) e e' same has)
same_kind words e e' same (inr (inl (has, apart))) = inr (inl (like (ArgumentConflict ∷ []) e e' same has, apart))
same_kind words e e' same (inr (inr (has, together, none))) = inr (inr (like (InvalidSubcommand ∷ []) e e' same has, together, none))
