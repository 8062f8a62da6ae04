-- Notes after one another.
use Rattle.std.proofs.Common.{◌≡◌, ℕ, zero, suc, ◌+◌, ◌/◌, ◌<◌, ◌≤◌, Bool, false, List, [], ◌∷◌, ◌++◌, length, take, get_or, refl, ap, sym, subst, ◌∙◌, arith, add-one}
use Rattle.atomic_table.specs.declared.shared.Seat.{Seat}
use Rattle.jc_index.specs.declared.board.View.{View}
use Rattle.jc_index.specs.declared.board.Role.{Role}
use Rattle.jc_index.specs.Stripes.{IsOneOf, IsReader, ReadsIn, glance, glance_of}
use Rattle.jc_index.specs.StripeLayout.{common}
use Rattle.jc_index.specs.Layout.{bucket_slots, bucket_words, slot_place, slot_words, stripe_of}
use Rattle.jc_index.specs.Spelling.{group_of, words_at}
use Rattle.jc_index.specs.Passes.{IsNoted}

pub group_zero : group_of 0 ≡ common
unfolding group_of
group_zero = refl

-- a slot's words are under its bucket's version
pub group_at : (slot p k : ℕ) → k < slot_words → p ≡ slot_place slot + k → group_of p ≡ stripe_of (slot / bucket_slots)
unfolding group_of
group_at slot zero k few e = absurd (omega (arith, e))
group_at slot (suc n) k few e = let f : n / bucket_words ≡ slot / bucket_slots = omega (arith, e) in ap stripe_of f

-- one word more
words_snoc : (words : List ℕ) (p k : ℕ) → words_at words p (suc k) ≡ words_at words p k ++ get_or words (p + k) 0 ∷ []
words_snoc words p zero = let e : p ≡ p + 0 = omega arith in ap (λ (q : ℕ). get_or words q 0 ∷ []) e
words_snoc words p (suc k) =
    let e : suc p + k ≡ p + suc k = omega arith in
    ap (λ l. get_or words p 0 ∷ l) (words_snoc words (suc p) k ∙ ap (λ (q : ℕ). words_at words (suc p) k ++ get_or words q 0 ∷ []) e)

take_snoc : (xs : List ℕ) (k : ℕ) → k < length xs → take (suc k) xs ≡ take k xs ++ get_or xs k 0 ∷ []
take_snoc [] k inside = absurd (omega arith)
take_snoc (y ∷ xs) zero inside = refl
take_snoc (y ∷ xs) (suc k) inside = ap (λ l. y ∷ l) (take_snoc xs k (omega arith))

pub word_more : (xs words : List ℕ) (p q k : ℕ) → q ≡ p + k → k < length xs → take k xs ≡ words_at words p k → get_or xs k 0 ≡ get_or words q 0 → take (k + 1) xs ≡ words_at words p (k + 1)
word_more xs words p q k e inside same is =
    rw add-one (take_snoc xs k inside ∙ ((λ i. same i ++ (is ∙ ap (λ (z : ℕ). get_or words z 0) e) i ∷ []) ∙ sym (words_snoc words p k)))

-- and one of them
pub nth_word : (words : List ℕ) (p n k : ℕ) → k < n → get_or (words_at words p n) k 0 ≡ get_or words (p + k) 0
nth_word words p zero k few = absurd (omega arith)
nth_word words p (suc n) zero few = let e : p ≡ p + 0 = omega arith in ap (λ (q : ℕ). get_or words q 0) e
nth_word words p (suc n) (suc k) few =
    let e : suc p + k ≡ p + suc k = omega arith in
    nth_word words (suc p) n k (omega arith) ∙ ap (λ (q : ℕ). get_or words q 0) e

-- the first of them
pub first_of_words : (words : List ℕ) (p n k : ℕ) → k ≤ n → take k (words_at words p n) ≡ words_at words p k
first_of_words words p n zero few = refl
first_of_words words p zero (suc k) few = absurd (omega arith)
first_of_words words p (suc n) (suc k) few = ap (λ l. get_or words p 0 ∷ l) (first_of_words words (suc p) n k (omega arith))

module _ {L : Type 0} where
  -- nothing was read yet
  pub unnoted : {P : List ℕ → Type 0} (js : List ℕ) (s : Seat (Unit {0}) (View L)) → IsReader s.me.0 → (glance_of s.me.0).settled ≡ false → ((words : List ℕ) → P words) → IsNoted js s s P
  unnoted js s reads young all = let g = glance_of s.me.0 in record {
    table = refl;
    view = ap (λ (r : Role). record s.me.0 { role = r }) (reads ∙ ap (λ (b : Bool). glance g.begun g.checked g.notes b) young);
    tells = λ words fits. (fits, all words);
  }

  pub note_is : (js : List ℕ) (s t : Seat (Unit {0}) (View L)) (place n : ℕ) → IsOneOf (group_of place) js → t.table_id ≡ s.table_id
      → t.me.0 ≡ record s.me.0 { role = glance (glance_of s.me.0).begun (glance_of s.me.0).checked ((place, n) ∷ (glance_of s.me.0).notes) false } → IsNoted js s t (λ words. n ≡ get_or words place 0)
  note_is js s t place n own table view = record {
    table = table;
    view = view ∙ ap (λ (v : View L). record s.me.0 { role = glance (glance_of s.me.0).begun (glance_of s.me.0).checked (glance_of v).notes false }) (sym view);
    tells = λ words fits. let k = subst (λ (v : View L). ReadsIn group_of js words (glance_of v).notes) view fits in (k.1, sym (k.0 own));
  }

  pub noted_and : {js : List ℕ} {s t u : Seat (Unit {0}) (View L)} {P Q : List ℕ → Type 0} → IsNoted js s t P → IsNoted js t u Q → IsNoted js s u (λ words. P words × Q words)
  noted_and {u = u} a b = record {
    table = b.table ∙ a.table;
    view = b.view ∙ ap (λ (v : View L). record v { role = glance (glance_of v).begun (glance_of v).checked (glance_of u.me.0).notes false }) a.view;
    tells = λ words fits. let k = b.tells words fits in let j = a.tells words k.0 in (j.0, (j.1, k.1));
  }

  pub noted_as : {js : List ℕ} {s t : Seat (Unit {0}) (View L)} {P Q : List ℕ → Type 0} → IsNoted js s t P → ((words : List ℕ) → P words → Q words) → IsNoted js s t Q
  noted_as a f = record { table = a.table; view = a.view; tells = λ words fits. let k = a.tells words fits in (k.0, f words k.1) }
