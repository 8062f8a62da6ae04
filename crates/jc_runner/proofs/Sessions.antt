-- Calls by session and by cache: those of a cache that one session calls are known by those of each session.
use Rattle.std.proofs.Common.{◌≡◌, ℕ, Bool, true, false, cond, if◌then◌else◌, List, [], ◌∷◌, ◌++◌, map, refl, sym, ap, ◌∙◌, subst, arith}
use Rattle.std.specs.Prelude.{◌==◌}
use Rattle.std.specs.List.{All, filter}
use Rattle.std.proofs.lemmas.List.Elements.{All-nil, All-head, All-tail, All-cons, All-filter}
use Rattle.std.proofs.lemmas.Bool.{false≢true}
use Rattle.std.proofs.lemmas.Bool.Decides.{nat_tests}
use Rattle.jc_model.specs.declared.event.Entry.{Entry}
use Rattle.jc_model.specs.Legal.{entries_of}
use Rattle.jc_script.specs.declared.line.Line.{Line}
use Rattle.jc_script.specs.declared.line.Line.TheVariants as line
use Rattle.jc_script.specs.declared.line.LineCall.{LineCall}
use Rattle.jc_script.specs.Calls.{line_of_entry, calls_in_lines, calls_on}
use Rattle.jc_locked.specs.Accounts.{calls_of}
use Rattle.jc_threads.specs.Lines.{lines_by}
use Rattle.jc_threads.proofs.Lists.{all_by_class}

-- Lists and tests.

mapped : {X Y : Type 0} (f : X → Y) (test : Y → Bool) (xs : List X) → map f (filter (λ x. test (f x)) xs) ≡ filter test (map f xs)
mapped f test [] = refl
mapped {X} {Y} f test (x ∷ xs) = go (test (f x)) (mapped f test xs)
  where
    go : (b : Bool) → map f (filter (λ y. test (f y)) xs) ≡ filter test (map f xs) → map f (cond b (x ∷ filter (λ y. test (f y)) xs) (filter (λ y. test (f y)) xs)) ≡ cond b (f x ∷ filter test (map f xs)) (filter test (map f xs))
    go true rest = ap (λ ys. f x ∷ ys) rest
    go false rest = rest

turned : {X : Type 0} (p q : X → Bool) (xs : List X) → filter p (filter q xs) ≡ filter q (filter p xs)
turned p q [] = refl
turned {X} p q (x ∷ xs) = go (p x) (q x) refl refl (turned p q xs)
  where
    go : (a b : Bool) → p x ≡ a → q x ≡ b → filter p (filter q xs) ≡ filter q (filter p xs) → filter p (cond b (x ∷ filter q xs) (filter q xs)) ≡ filter q (cond a (x ∷ filter p xs) (filter p xs))
    go true true is is' rest = rw (is, is') (ap (λ ys. x ∷ ys) rest)
    go true false is is' rest = rw is' rest
    go false true is is' rest = rw is rest
    go false false is is' rest = rest

kept_all : {X : Type 0} (test : X → Bool) (xs : List X) → All (λ x. test x ≡ true) xs → filter test xs ≡ xs
kept_all test [] all = refl
kept_all test (x ∷ xs) all = rw (All-head (λ y. test y ≡ true) x xs all) (ap (λ ys. x ∷ ys) (kept_all test xs (All-tail (λ y. test y ≡ true) x xs all)))

-- what is true of all that pass is true of each, if it passes
if_passed : {X : Type 0} (test : X → Bool) (P : X → Type 0) (xs : List X) → All P (filter test xs) → All (λ x. test x ≡ true → P x) xs
if_passed test P [] all = All-nil (λ x. test x ≡ true → P x)
if_passed {X} test P (x ∷ xs) all = go (test x) refl (if_passed test P xs) all
  where
    go : (b : Bool) → test x ≡ b → (All P (filter test xs) → All (λ y. test y ≡ true → P y) xs) → All P (cond b (x ∷ filter test xs) (filter test xs)) → All (λ y. test y ≡ true → P y) (x ∷ xs)
    go true is rest here = All-cons (λ y. test y ≡ true → P y) x xs (λ passed. All-head P x (filter test xs) here) (rest (All-tail P x (filter test xs) here))
    go false is rest here = All-cons (λ y. test y ≡ true → P y) x xs (λ passed. absurd (false≢true (sym is ∙ passed))) (rest here)

passed_only : {X : Type 0} (test : X → Bool) (P : X → Type 0) (xs : List X) → All (λ x. test x ≡ true → P x) xs → All P (filter test xs)
passed_only test P [] all = All-nil P
passed_only {X} test P (x ∷ xs) all = go (test x) refl (passed_only test P xs (All-tail (λ y. test y ≡ true → P y) x xs all))
  where
    go : (b : Bool) → test x ≡ b → All P (filter test xs) → All P (cond b (x ∷ filter test xs) (filter test xs))
    go true is rest = All-cons P x (filter test xs) (All-head (λ y. test y ≡ true → P y) x xs all is) rest
    go false is rest = rest

all_as : {X : Type 0} (P Q : X → Type 0) (xs : List X) → ((x : X) → P x → Q x) → All P xs → All Q xs
all_as P Q [] to all = All-nil Q
all_as P Q (x ∷ xs) to all = All-cons Q x xs (to x (All-head P x xs all)) (all_as P Q xs to (All-tail P x xs all))

-- Lines.

abbrev on : ℕ → LineCall → Bool
on id l = l.id == id

abbrev by : ℕ → LineCall → Bool
by session l = l.session == session

one_on : (id : ℕ) (l : LineCall) (b : Bool) (calls lines : List LineCall) → calls ≡ filter (on id) lines → (if b then l ∷ [] else []) ++ calls ≡ cond b (l ∷ filter (on id) lines) (filter (on id) lines)
one_on id l true calls lines rest = ap (λ (xs : List LineCall). l ∷ xs) rest
one_on id l false calls lines rest = rest

calls_by_id : (id : ℕ) (all : List Line) → calls_on id all ≡ filter (on id) (calls_in_lines all)
calls_by_id id [] = refl
calls_by_id id (line.Call l ∷ ls) = one_on id l (l.id == id) (calls_on id ls) (calls_in_lines ls) (calls_by_id id ls)
calls_by_id id (line.Create session c ∷ ls) = calls_by_id id ls
calls_by_id id (line.Destroy session i ∷ ls) = calls_by_id id ls

is_by : (l : LineCall) (session : ℕ) → l.session ≡ session → by session l ≡ true
is_by l session is = grind (arith, nat_tests, is)

module _ (made lines : List LineCall) (each : (session : ℕ) → filter (by session) made ≡ filter (by session) lines) (id session : ℕ) (one : All (λ l. l.session ≡ session) (filter (on id) lines)) where
  abbrev OnlyHere : LineCall → Type 0
  OnlyHere l = on id l ≡ true → l.session ≡ session

  only_lines : All OnlyHere lines
  only_lines = if_passed (on id) (λ l. l.session ≡ session) lines one

  only_made : All OnlyHere made
  only_made = all_by_class (λ l. l.session) OnlyHere made (λ l. subst (All OnlyHere) (sym (each l.session)) (All-filter (by l.session) OnlyHere lines only_lines))

  kept_by : (xs : List LineCall) → All OnlyHere xs → filter (by session) (filter (on id) xs) ≡ filter (on id) xs
  kept_by xs only = kept_all (by session) (filter (on id) xs) (all_as (λ l. l.session ≡ session) (λ l. by session l ≡ true) (filter (on id) xs) (λ l is. is_by l session is) (passed_only (on id) (λ l. l.session ≡ session) xs only))

  same_on : filter (on id) made ≡ filter (on id) lines
  same_on =
      sym (kept_by made only_made) ∙ turned (by session) (on id) made ∙ ap (filter (on id)) (each session) ∙ turned (on id) (by session) lines ∙ kept_by lines only_lines

-- the calls of a cache that one session calls are those of its lines
pub calls_alone : (entries : List Entry) (all : List Line) (id session : ℕ) → ((s : ℕ) → map line_of_entry (calls_of s entries) ≡ lines_by s (calls_in_lines all)) → All (λ l. l.session ≡ session) (calls_on id all)
    → map line_of_entry (entries_of id entries) ≡ calls_on id all
calls_alone entries all id session each one =
    mapped line_of_entry (on id) entries
    ∙ same_on (map line_of_entry entries) (calls_in_lines all) (λ s. sym (mapped line_of_entry (by s) entries) ∙ each s) id session (subst (All (λ l. l.session ≡ session)) (calls_by_id id all) one)
    ∙ sym (calls_by_id id all)
