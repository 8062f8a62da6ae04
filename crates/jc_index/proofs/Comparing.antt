-- Versions read and read again.
use Rattle.std.proofs.Common.{◌≡◌, ◌≢◌, ◌⊎◌, ℕ, zero, suc, ◌+◌, ◌%◌, ◌<◌, Bool, if◌then◌else◌, true, false, length, take, get_or, set, List, [], ◌∷◌, ◌++◌, refl, ap, sym, subst, ◌∙◌, inl, inr, ⊎_elim, arith}
use Rattle.jc_index.specs.declared.board.View.{View}
use Rattle.jc_index.specs.declared.board.Role.{Role}
use Rattle.jc_index.specs.Stripes.{begun_view, glance, glance_in, glance_of, IsOneOf, ReadsUnder, ReadsIn, CheckTells, SomeOdd, AreReadAtRest, stack_of, stripes_in}
use Rattle.jc_index.proofs.Opening.{taken_more, among_less}

-- one more stripe and its version
pub stacked_snoc : (js vs : List ℕ) (j v : ℕ) (done : List (ℕ × ℕ)) → length vs ≡ length js → stack_of (js ++ j ∷ []) (vs ++ v ∷ []) done ≡ (j, v) ∷ stack_of js vs done
stacked_snoc [] [] j v done e = refl
stacked_snoc [] (w ∷ vs) j v done e = absurd (omega (arith, e))
stacked_snoc (k ∷ js) [] j v done e = absurd (omega (arith, e))
stacked_snoc (k ∷ js) (w ∷ vs) j v done e = stacked_snoc js vs j v ((k, w) ∷ done) (omega (arith, e))

length_taken : (i : ℕ) (xs ys : List ℕ) → length xs ≡ length ys → length (take i xs) ≡ length (take i ys)
length_taken zero xs ys e = refl
length_taken (suc i) [] [] e = refl
length_taken (suc i) [] (y ∷ ys) e = absurd (omega (arith, e))
length_taken (suc i) (x ∷ xs) [] e = absurd (omega (arith, e))
length_taken (suc i) (x ∷ xs) (y ∷ ys) e = ap suc (length_taken i xs ys (omega (arith, e)))

pub stacked_more : (js vs : List ℕ) (i : ℕ) → length vs ≡ length js → i < length js → stack_of (take (i + 1) js) (take (i + 1) vs) [] ≡ (get_or js i 0, get_or vs i 0) ∷ stack_of (take i js) (take i vs) []
stacked_more js vs i same inside =
    (λ k. stack_of (taken_more js i 0 inside k) (taken_more vs i 0 (omega (arith, same)) k) []) ∙ stacked_snoc (take i js) (take i vs) (get_or js i 0) (get_or vs i 0) [] (length_taken i vs js same)

taken_set : (vs : List ℕ) (i v : ℕ) → take i (set vs i v) ≡ take i vs
taken_set vs zero v = refl
taken_set [] (suc i) v = refl
taken_set (x ∷ vs) (suc i) v = ap (λ l. x ∷ l) (taken_set vs i v)

get_set : (vs : List ℕ) (i v : ℕ) → i < length vs → get_or (set vs i v) i 0 ≡ v
get_set [] i v inside = absurd (omega arith)
get_set (x ∷ vs) zero v inside = refl
get_set (x ∷ vs) (suc i) v inside = get_set vs i v (omega arith)

pub long_set : (vs : List ℕ) (i v : ℕ) → length (set vs i v) ≡ length vs
long_set [] i v = refl
long_set (x ∷ vs) zero v = refl
long_set (x ∷ vs) (suc i) v = ap suc (long_set vs i v)

-- the version just read goes to its place
pub stacked_next : (js vs : List ℕ) (i v : ℕ) → length vs ≡ length js → i < length js → stack_of (take (i + 1) js) (take (i + 1) (set vs i v)) [] ≡ (get_or js i 0, v) ∷ stack_of (take i js) (take i vs) []
stacked_next js vs i v same inside = stacked_more js (set vs i v) i (long_set vs i v ∙ same) inside
    ∙ (λ k. (get_or js i 0, get_set vs i v (omega (arith, same)) k) ∷ stack_of (take i js) (taken_set vs i v k) [])

pub take_whole : {A : Type 0} (n : ℕ) (xs : List A) → n ≡ length xs → take n xs ≡ xs
take_whole zero [] e = refl
take_whole zero (x ∷ xs) e = absurd (omega (arith, e))
take_whole (suc n) [] e = refl
take_whole (suc n) (x ∷ xs) e = ap (λ l. x ∷ l) (take_whole n xs (omega (arith, e)))

-- one odd version is one of all
odd_done : (js vs : List ℕ) (done : List (ℕ × ℕ)) → SomeOdd done → SomeOdd (stack_of js vs done)
odd_done [] vs done o = o
odd_done (j ∷ js) [] done o = o
odd_done (j ∷ js) (v ∷ vs) done o = odd_done js vs ((j, v) ∷ done) (inr o)

pub odd_at : (js vs : List ℕ) (i : ℕ) (done : List (ℕ × ℕ)) → length vs ≡ length js → i < length js → get_or vs i 0 % 2 ≡ 1 → SomeOdd (stack_of js vs done)
odd_at [] vs i done same inside o = absurd (omega arith)
odd_at (j ∷ js) [] i done same inside o = absurd (omega (arith, same))
odd_at (j ∷ js) (v ∷ vs) zero done same inside o = odd_done js vs ((j, v) ∷ done) (inl o)
odd_at (j ∷ js) (v ∷ vs) (suc i) done same inside o = odd_at js vs i ((j, v) ∷ done) (omega (arith, same)) (omega arith) o

module _ (group : ℕ → ℕ) where
  shows_done : (j n : ℕ) (base : List ℕ) (notes : List (ℕ × ℕ)) (js vs : List ℕ) (done : List (ℕ × ℕ)) → CheckTells group j n base notes (stack_of js vs done) → CheckTells group j n base notes done
  shows_done j n base notes [] vs done s = s
  shows_done j n base notes (k ∷ js) [] done s = s
  shows_done j n base notes (k ∷ js) (v ∷ vs) done s = (shows_done j n base notes js vs ((k, v) ∷ done) s).1

  pub shows_at : (js vs : List ℕ) (i n : ℕ) (base : List ℕ) (notes done : List (ℕ × ℕ)) → length vs ≡ length js → i < length js → CheckTells group (get_or js i 0) n base notes (stack_of js vs done)
      → get_or vs i 0 % 2 ≡ 0 → get_or vs i 0 ≡ n → ReadsUnder group (get_or js i 0) base notes
  shows_at [] vs i n base notes done same inside s = absurd (omega arith)
  shows_at (j ∷ js) [] i n base notes done same inside s = absurd (omega (arith, same))
  shows_at (j ∷ js) (v ∷ vs) zero n base notes done same inside s = (shows_done j n base notes js vs ((j, v) ∷ done) s).0 refl
  shows_at (j ∷ js) (v ∷ vs) (suc i) n base notes done same inside s = shows_at js vs i n base notes ((j, v) ∷ done) (omega (arith, same)) (omega arith) s

  reads_none : (words : List ℕ) (notes : List (ℕ × ℕ)) → ReadsIn group [] words notes
  reads_none words [] = tt
  reads_none words (n ∷ ns) = (λ a. absurd a, reads_none words ns)

  reads_snoc : (js : List ℕ) (j : ℕ) (words : List ℕ) (notes : List (ℕ × ℕ)) → ReadsIn group js words notes → ReadsUnder group j words notes → ReadsIn group (js ++ j ∷ []) words notes
  reads_snoc js j words [] a b = tt
  reads_snoc js j words (n ∷ ns) a b = (λ k. ⊎_elim (λ (t : IsOneOf (group n.0) js). a.0 t) (λ (e : group n.0 ≡ j). b.0 e) (among_less (group n.0) js j k), reads_snoc js j words ns a.1 b.1)

  -- the first i versions were read again, and were compared
  pub record Compared (js vs : List ℕ) (i : ℕ) (words : List ℕ) (notes checked : List (ℕ × ℕ)) (same : Bool) : Type 0 where
    pub again : stripes_in checked ≡ stripes_in (stack_of (take i js) (take i vs) [])
    pub reads : same ≡ true → ReadsIn group (take i js) words notes
    pub stays : same ≡ true → AreReadAtRest (stack_of (take i js) (take i vs) []) checked
    pub differs : same ≡ false → SomeOdd (stack_of js vs []) ⊎ (stack_of (take i js) (take i vs) [] ≢ checked)

  pub compared_none : (js vs words : List ℕ) (notes : List (ℕ × ℕ)) → Compared js vs 0 words notes [] true
  compared_none js vs words notes = record { again = refl; reads = λ _. reads_none words notes; stays = λ _. (λ o. o, refl); differs = λ e. absurd cc }

  pub compared_next : (js vs : List ℕ) (i : ℕ) (words : List ℕ) (notes checked : List (ℕ × ℕ)) (n : ℕ) (same now more : Bool) → length vs ≡ length js → i < length js → Compared js vs i words notes checked same
      → CheckTells group (get_or js i 0) n words notes (stack_of js vs []) → (now ≡ true → (get_or vs i 0 ≡ n) × (get_or vs i 0 % 2 ≡ 0)) → (now ≡ false → (get_or vs i 0 ≢ n) ⊎ (get_or vs i 0 % 2 ≡ 1))
      → (more ≡ true → (same ≡ true) × (now ≡ true)) → (more ≡ false → (same ≡ false) ⊎ (now ≡ false)) → Compared js vs (i + 1) words notes ((get_or js i 0, n) ∷ checked) more
  compared_next js vs i words notes checked n same now more alike inside k shows held broke all some =
      let next = stacked_more js vs i alike inside in record {
        again = ap (λ l. get_or js i 0 ∷ l) k.again ∙ ap stripes_in (sym next);
        reads = λ e. let t = all e in let y = held t.1 in
            subst (λ (l : List ℕ). ReadsIn group l words notes) (sym (taken_more js i 0 inside)) (reads_snoc (take i js) (get_or js i 0) words notes (k.reads t.0) (shows_at js vs i n words notes [] alike inside shows y.1 y.0));
        stays = λ e. let t = all e in let y = held t.1 in let before = k.stays t.0 in
            subst (λ (l : List (ℕ × ℕ)). AreReadAtRest l ((get_or js i 0, n) ∷ checked)) (sym next)
            (λ o. ⊎_elim (λ (odd : get_or vs i 0 % 2 ≡ 1). absurd (omega (arith, odd, y.1))) before.0 o, λ z. (get_or js i 0, y.0 z) ∷ before.1 z);
        differs = λ e. ⊎_elim
            (λ (was : same ≡ false). ⊎_elim (λ (o : SomeOdd (stack_of js vs [])). inl o)
            (λ (d : stack_of (take i js) (take i vs) [] ≢ checked). inr (λ (is : stack_of (take (i + 1) js) (take (i + 1) vs) [] ≡ (get_or js i 0, n) ∷ checked). let both = sym next ∙ is in d (cc both))) (k.differs was))
            (λ (not : now ≡ false). ⊎_elim (λ (d : get_or vs i 0 ≢ n). inr (λ (is : stack_of (take (i + 1) js) (take (i + 1) vs) [] ≡ (get_or js i 0, n) ∷ checked). let both = sym next ∙ is in let pair : (get_or js i 0, get_or vs i 0) ≡ (get_or js i 0, n) = cc both in d (ap (λ (p : ℕ × ℕ). p.1) pair)))
            (λ (o : get_or vs i 0 % 2 ≡ 1). inl (odd_at js vs i [] alike inside o)) (broke not)) (some e);
      }

-- the first version of a lookup, and one more
pub begun_first : {L : Type 0} (j r : ℕ) (n v : View L) → n ≡ begun_view j r v (glance_of v) → (glance_of v).settled ≡ true → n ≡ record v { role = glance ((j, r) ∷ []) [] [] false; lookups = suc v.lookups }
begun_first j r n v is rests = is ∙ (λ i. record v { role = glance ((j, r) ∷ (if rests i then [] else (glance_of v).begun)) [] [] false; lookups = if rests i then suc v.lookups else v.lookups })

pub begun_next : {L : Type 0} (j r : ℕ) (n l f : View L) (so_far : List (ℕ × ℕ)) → n ≡ begun_view j r l (glance_of l) → l ≡ record f { role = glance so_far [] [] false; lookups = suc f.lookups }
    → n ≡ record f { role = glance ((j, r) ∷ so_far) [] [] false; lookups = suc f.lookups }
begun_next j r n l f so_far two one = two ∙ ap (λ (v : View _). begun_view j r v (glance_of v)) one

pub begun_as : {L : Type 0} (n f : View L) (these those : List (ℕ × ℕ)) → n ≡ record f { role = glance these [] [] false; lookups = suc f.lookups } → those ≡ these → n ≡ record f { role = glance those [] [] false; lookups = suc f.lookups }
begun_as n f these those is same = is ∙ (λ i. record f { role = glance (sym same i) [] [] false; lookups = suc f.lookups })

-- one more check
module _ {L : Type 0} (f l n : View L) (j r : ℕ) (one : l ≡ record f { role = glance (glance_of f).begun (glance_of l).checked (glance_of f).notes true })
    (two : n ≡ record l { role = glance (glance_of l).begun ((j, r) ∷ (glance_of l).checked) (glance_of l).notes true; front = n.front }) where
  pub notes_kept : (glance_of l).notes ≡ (glance_of f).notes
  notes_kept = ap (λ (v : View L). (glance_of v).notes) one

  pub begun_kept : (glance_of l).begun ≡ (glance_of f).begun
  begun_kept = ap (λ (v : View L). (glance_of v).begun) one

  pub front_kept : l.front ≡ f.front
  front_kept = ap (λ (v : View L). v.front) one

  pub is_settled : (glance_of l).settled ≡ true
  is_settled = ap (λ (v : View L). (glance_of v).settled) one

  pub checked_next : (glance_of n).checked ≡ (j, r) ∷ (glance_of l).checked
  checked_next = ap (λ (v : View L). (glance_of v).checked) two

  pub view_next : n.front ≡ l.front → n ≡ record f { role = glance (glance_of f).begun (glance_of n).checked (glance_of f).notes true }
  view_next same = two ∙ (ap (λ (v : View L). record v { role = glance (glance_of v).begun ((j, r) ∷ (glance_of l).checked) (glance_of v).notes true; front = n.front }) one
      ∙ (λ i. record f { role = glance (glance_of f).begun (sym checked_next i) (glance_of f).notes true; front = (same ∙ front_kept) i }))

whole_role : (r : Role) (b c t : List (ℕ × ℕ)) → r ≡ glance b c t true → r ≡ glance (glance_in r).begun (glance_in r).checked (glance_in r).notes true
whole_role r b c t e = e ∙ sym (ap (λ (r : Role). glance (glance_in r).begun (glance_in r).checked (glance_in r).notes true) e)

pub whole : {L : Type 0} (n : View L) (b c t : List (ℕ × ℕ)) → n.role ≡ glance b c t true → n ≡ record n { role = glance (glance_of n).begun (glance_of n).checked (glance_of n).notes true }
whole n b c t e = λ i. record n { role = whole_role n.role b c t e i }
