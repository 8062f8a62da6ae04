-- Versions opened and shut one after another.
use Rattle.std.proofs.Common.{◌≡◌, ◌≢◌, ◌⊎◌, ℕ, suc, ◌+◌, ◌%◌, ◌^◌, ◌<◌, length, take, get_or, set, List, [], ◌∷◌, ◌++◌, refl, ap, sym, subst, ◌∙◌, inl, inr, ⊎_elim, zero, arith, add-one, le_refl, length-set}
use mathlib.Core.Logic.{dite}
use native.Mathlib.Decide.{ℕ_discrete}
use Rattle.std.proofs.Math.Seq.{take-suc}
use Rattle.std.proofs.lemmas.List.{take_all}
use Rattle.jc_index.specs.Stripes.{IsOneOf, Changes, IsVersionOpened, IsVersionShut, IsVersionCommitted, AreUnderVersions, set_all}

pub among_end : (js : List ℕ) (x : ℕ) → IsOneOf x (js ++ x ∷ [])
among_end [] x = inl refl
among_end (y ∷ js) x = inr (among_end js x)

pub among_more : (j : ℕ) (js : List ℕ) (x : ℕ) → IsOneOf j js → IsOneOf j (js ++ x ∷ [])
among_more j [] x a = absurd a
among_more j (y ∷ js) x a = ⊎_elim (λ (e : j ≡ y). inl e) (λ (b : IsOneOf j js). inr (among_more j js x b)) a

pub among_less : (j : ℕ) (js : List ℕ) (x : ℕ) → IsOneOf j (js ++ x ∷ []) → IsOneOf j js ⊎ (j ≡ x)
among_less j [] x a = ⊎_elim (λ (e : j ≡ x). inr e) (λ (b : ⊥). absurd b) a
among_less j (y ∷ js) x a = ⊎_elim (λ (e : j ≡ y). inl (inl e)) (λ (b : IsOneOf j (js ++ x ∷ [])). ⊎_elim (λ (k : IsOneOf j js). inl (inr k)) (λ (e : j ≡ x). inr e) (among_less j js x b)) a

pub taken_more : {A : Type 0} (xs : List A) (i : ℕ) (d : A) → i < length xs → take (i + 1) xs ≡ take i xs ++ get_or xs i d ∷ []
taken_more xs i d inside = rw (add-one) (take-suc xs i d inside)

-- one more stripe is changed
module _ (How : ℕ → ℕ → Type 0) (again : (v w u : ℕ) → How v w → How w u → How v u) where
  pub changes_more : (js vs ws us : List ℕ) (x : ℕ) → Changes How js vs ws → How (get_or ws x 0) (get_or us x 0) → ((j : ℕ) → j ≢ x → get_or us j 0 ≡ get_or ws j 0) → Changes How (js ++ x ∷ []) vs us
  changes_more js vs ws us x k one others =
      let at_x : How (get_or vs x 0) (get_or us x 0) = ⊎_elim (λ (e : get_or ws x 0 ≡ get_or vs x 0). subst (λ (z : ℕ). How z (get_or us x 0)) e one)
      (λ (a : IsOneOf x js). again (get_or vs x 0) (get_or ws x 0) (get_or us x 0) (k.there x a) one) (k.elsewhere x) in record {
        there = λ j a. dite (ℕ_discrete j x)
            (λ e. subst (λ (z : ℕ). How (get_or vs z 0) (get_or us z 0)) (sym e) at_x)
            (λ ne. subst (λ (z : ℕ). How (get_or vs j 0) z) (sym (others j ne)) (⊎_elim (λ (b : IsOneOf j js). k.there j b) (λ (e : j ≡ x). absurd (ne e)) (among_less j js x a)));
        elsewhere = λ j. dite (ℕ_discrete j x) (λ e. inr (subst (λ (z : ℕ). IsOneOf z (js ++ x ∷ [])) (sym e) (among_end js x)))
            (λ ne. ⊎_elim (λ (e : get_or ws j 0 ≡ get_or vs j 0). inl (others j ne ∙ e)) (λ (b : IsOneOf j js). inr (among_more j js x b)) (k.elsewhere j));
      }

  pub changes_next : (js vs ws us : List ℕ) (i : ℕ) → i < length js → Changes How (take i js) vs ws → How (get_or ws (get_or js i 0) 0) (get_or us (get_or js i 0) 0) → ((j : ℕ) → j ≢ get_or js i 0 → get_or us j 0 ≡ get_or ws j 0) → Changes How (take (i + 1) js) vs us
  changes_next js vs ws us i inside k one others = subst (λ (l : List ℕ). Changes How l vs us) (sym (taken_more js i 0 inside)) (changes_more (take i js) vs ws us (get_or js i 0) k one others)

pub opened_again : (v w u : ℕ) → IsVersionOpened v w → IsVersionOpened w u → IsVersionOpened v u
opened_again v w u a b = let p = a.odd in let q = b.odd in let r = a.grows in let s = b.grows in let t = a.little in let z = b.little in record { odd = q; grows = omega arith; little = omega arith }

pub shut_again : (v w u : ℕ) → IsVersionShut v w → IsVersionShut w u → IsVersionShut v u
shut_again v w u a b = record {
  next = λ odd few. let e : w ≡ v + 1 = a.next odd few in let f : u ≡ w = b.even (omega arith) in omega arith;
  greatest = λ full. let e : w ≡ v = a.greatest full in let f : u ≡ w = b.greatest (omega arith) in omega arith;
  even = λ even. let e : w ≡ v = a.even even in let f : u ≡ w = b.even (omega arith) in omega arith;
}

-- opened and shut
pub committed : (v w u : ℕ) → v < 2 ^ 64 → (v % 2 ≡ 1 → v + 1 ≡ 2 ^ 64) → IsVersionOpened v w → w < 2 ^ 64 → IsVersionShut w u → IsVersionCommitted v u
committed v w u fits settled o fits' s = let p = o.odd in let q = o.grows in let r = o.little in record {
  next = λ few. dite (ℕ_discrete (v % 2) 1) (λ odd. let full : v + 1 ≡ 2 ^ 64 = settled odd in absurd (omega arith)) (λ even. let e : u ≡ w + 1 = s.next p (omega arith) in omega arith);
  exhausted = λ full. let e : u ≡ w = s.greatest (omega arith) in omega arith;
}

opened_fit : (v w : ℕ) → v < 2 ^ 64 → IsVersionOpened v w → w < 2 ^ 64
opened_fit v w fits o = let p = o.odd in let q = o.grows in let r = o.little in omega arith

shut_fit : (v w : ℕ) → v < 2 ^ 64 → IsVersionShut v w → w < 2 ^ 64
shut_fit v w fits s = dite (ℕ_discrete (v % 2) 1)
    (λ odd. dite (ℕ_discrete (v + 1) (2 ^ 64)) (λ full. let e : w ≡ v = s.greatest full in omega arith) (λ not. let few : v + 1 < 2 ^ 64 = omega arith in let e : w ≡ v + 1 = s.next odd few in omega arith))
    (λ not. let e : w ≡ v = s.even (omega arith) in omega arith)

pub opened_fits : (js vs ws : List ℕ) → ((j : ℕ) → get_or vs j 0 < 2 ^ 64) → Changes IsVersionOpened js vs ws → (j : ℕ) → get_or ws j 0 < 2 ^ 64
opened_fits js vs ws fits k j = ⊎_elim (λ (e : get_or ws j 0 ≡ get_or vs j 0). omega (arith, e, fits j)) (λ (a : IsOneOf j js). opened_fit (get_or vs j 0) (get_or ws j 0) (fits j) (k.there j a)) (k.elsewhere j)

pub shut_fits : (js vs ws : List ℕ) → ((j : ℕ) → get_or vs j 0 < 2 ^ 64) → Changes IsVersionShut js vs ws → (j : ℕ) → get_or ws j 0 < 2 ^ 64
shut_fits js vs ws fits k j = ⊎_elim (λ (e : get_or ws j 0 ≡ get_or vs j 0). omega (arith, e, fits j)) (λ (a : IsOneOf j js). shut_fit (get_or vs j 0) (get_or ws j 0) (fits j) (k.there j a)) (k.elsewhere j)

pub both : (js vs ws us : List ℕ) → ((j : ℕ) → get_or vs j 0 < 2 ^ 64) → ((j : ℕ) → get_or ws j 0 < 2 ^ 64) → ((j : ℕ) → get_or vs j 0 % 2 ≡ 1 → get_or vs j 0 + 1 ≡ 2 ^ 64) → Changes IsVersionOpened js vs ws → Changes IsVersionShut js ws us → Changes IsVersionCommitted js vs us
both js vs ws us fits fits' settled a b = record {
  there = λ j k. committed (get_or vs j 0) (get_or ws j 0) (get_or us j 0) (fits j) (settled j) (a.there j k) (fits' j) (b.there j k);
  elsewhere = λ j. ⊎_elim (λ (e : get_or ws j 0 ≡ get_or vs j 0). ⊎_elim (λ (f : get_or us j 0 ≡ get_or ws j 0). inl (f ∙ e)) (λ (k : IsOneOf j js). inr k) (b.elsewhere j)) (λ (k : IsOneOf j js). inr k) (a.elsewhere j);
}

-- after that, odd versions are exhausted
settled_one : (v u : ℕ) → v < 2 ^ 64 → u < 2 ^ 64 → (v % 2 ≡ 1 → v + 1 ≡ 2 ^ 64) → IsVersionCommitted v u → u % 2 ≡ 1 → u + 1 ≡ 2 ^ 64
settled_one v u fits fits' settled k odd = dite (ℕ_discrete (v % 2) 1)
    (λ was. let full : v + 1 ≡ 2 ^ 64 = settled was in k.exhausted (omega arith))
    (λ not. dite (ℕ_discrete (v + 2) (2 ^ 64)) (λ e. k.exhausted (omega arith)) (λ ne. let e : u ≡ v + 2 = k.next (omega arith) in absurd (omega arith)))

pub settled_after : (js vs us : List ℕ) → ((j : ℕ) → get_or vs j 0 < 2 ^ 64) → ((j : ℕ) → get_or us j 0 < 2 ^ 64) → ((j : ℕ) → get_or vs j 0 % 2 ≡ 1 → get_or vs j 0 + 1 ≡ 2 ^ 64) → Changes IsVersionCommitted js vs us
    → (j : ℕ) → get_or us j 0 % 2 ≡ 1 → get_or us j 0 + 1 ≡ 2 ^ 64
settled_after js vs us fits fits' settled k j odd = ⊎_elim (λ (e : get_or us j 0 ≡ get_or vs j 0). let was : get_or vs j 0 % 2 ≡ 1 = ap (λ (z : ℕ). z % 2) (sym e) ∙ odd in omega (arith, settled j was))
    (λ (a : IsOneOf j js). settled_one (get_or vs j 0) (get_or us j 0) (fits j) (fits' j) (settled j) (k.there j a) odd) (k.elsewhere j)

pub set_all-snoc : (words : List ℕ) (xs : List (ℕ × ℕ)) (x : ℕ × ℕ) → set_all words (xs ++ x ∷ []) ≡ set (set_all words xs) x.0 x.1
set_all-snoc words [] x = refl
set_all-snoc words (y ∷ ys) x = set_all-snoc (set words y.0 y.1) ys x

pub set_all-more : (words : List ℕ) (xs : List (ℕ × ℕ)) (i : ℕ) (d : ℕ × ℕ) → i < length xs → set_all words (take (i + 1) xs) ≡ set (set_all words (take i xs)) (get_or xs i d).0 (get_or xs i d).1
set_all-more words xs i d inside = rw (add-one, take-suc xs i d inside) (set_all-snoc words (take i xs) (get_or xs i d))

-- all but the last, and then the last
pub set_all-last : (words : List ℕ) (xs : List (ℕ × ℕ)) (i : ℕ) (d : ℕ × ℕ) → i + 1 ≡ length xs → set (set_all words (take i xs)) (get_or xs i d).0 (get_or xs i d).1 ≡ set_all words xs
set_all-last words xs i d is = sym (set_all-more words xs i d (omega arith)) ∙ ap (set_all words) (ap (λ n. take n xs) is ∙ take_all (length xs) xs (le_refl (length xs)))

pub length-set_all : (words : List ℕ) (xs : List (ℕ × ℕ)) → length (set_all words xs) ≡ length words
length-set_all words [] = refl
length-set_all words (x ∷ xs) = length-set_all (set words x.0 x.1) xs ∙ length-set words x.0 x.1

-- what is set_all is under an open version
module _ (group : ℕ → ℕ) where
  pub covered_at : (js : List ℕ) (ws : List (ℕ × ℕ)) (i : ℕ) (d : ℕ × ℕ) → i < length ws → AreUnderVersions group js ws → IsOneOf (group (get_or ws i d).0) js
  covered_at js [] i d inside k = absurd (omega arith)
  covered_at js (w ∷ ws) zero d inside k = k.0
  covered_at js (w ∷ ws) (suc i) d inside k = covered_at js ws i d (omega arith) k.1

  pub covered_take : (js : List ℕ) (n : ℕ) (ws : List (ℕ × ℕ)) → AreUnderVersions group js ws → AreUnderVersions group js (take n ws)
  covered_take js zero ws k = tt
  covered_take js (suc n) [] k = tt
  covered_take js (suc n) (w ∷ ws) k = (k.0, covered_take js n ws k.1)
