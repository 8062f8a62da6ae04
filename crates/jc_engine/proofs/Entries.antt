-- The transcript, as events write it at the places of its entries.
use Rattle.std.proofs.Common.{◌≡◌, ℕ, ◌<◌, zero, suc, List, [], ◌∷◌, ◌++◌, length, Option, Some, None, inl, inr, refl, sym, ap, ◌∙◌, arith, append-nil, slice_get, slice_set, set-set}
use Rattle.jc_engine.proofs.Names.{cases_eq, nat_tests, set_at, Notice, Request, Entry, Awaited, told_by, Status, Lives, at_place, fresh, Wait, there, History, on_open, Tells, with_outcome, Cache, Stepped}
use Rattle.jc_engine.specs.Recording.{HasEntry}
use Rattle.jc_engine.proofs.Names.{at_other}
use Rattle.jc_model.specs.declared.event.Step.TheVariants.{Need}
use Rattle.jc_model.specs.declared.event.End.{End}
use Rattle.jc_model.specs.declared.event.End.TheVariants.{Waiting}
use Rattle.jc_model.proofs.Legal.{set_open}
use Rattle.jc_engine.proofs.Places.{same_set}

-- Lists.

pub get_last : {A : Type 0} (xs : List A) (y : A) → slice_get (xs ++ y ∷ []) (length xs) ≡ Some y
get_last [] y = refl
get_last (x ∷ xs) y = get_last xs y

pub set_last : {A : Type 0} (xs : List A) (y z : A) → slice_set (xs ++ y ∷ []) (length xs) z ≡ xs ++ z ∷ []
set_last xs y z = set_at xs y [] z (length xs) refl

get_append : {A : Type 0} (xs ys : List A) (i : ℕ) (x : A) → slice_get xs i ≡ Some x → slice_get (xs ++ ys) i ≡ Some x
get_append [] ys i x at = absurd cc
get_append (a ∷ xs) ys zero x at = at
get_append (a ∷ xs) ys (suc i) x at = get_append xs ys i x at

pub set_set : {A : Type 0} (xs : List A) (i : ℕ) (x y : A) → slice_set (slice_set xs i x) i y ≡ slice_set xs i y
set_set xs i x y = set-set xs i x y

pub some_at : {A : Type 0} (xs : List A) (i : ℕ) → i < length xs → (x : A) × (slice_get xs i ≡ Some x)
some_at [] i below = absurd (omega arith)
some_at (x ∷ xs) zero below = (x, refl)
some_at (x ∷ xs) (suc i) below = some_at xs i (omega arith)

-- One entry.

-- while a call waits for its next request, its entry stays
pub asked_same : (transcript : List Entry) (place : ℕ) (request : Request) (e : Entry) → slice_get transcript place ≡ Some e → e.end ≡ Waiting → told_by request ≡ [] → transcript ≡ slice_set transcript place (with_outcome (Stepped (Need request)) e)
asked_same transcript place request e at waits untold =
    sym (same_set transcript place (with_outcome (Stepped (Need request)) e) (at ∙ ap Some (sym same)))
  where
    same : with_outcome (Stepped (Need request)) e ≡ e
    same = ap (λ (ns : List Notice). record e { told = ns; end = Waiting }) (ap (λ ns. e.told ++ ns) untold ∙ append-nil e.told) ∙ ap (λ (n : End). record e { end = n }) (sym waits)

-- The entries of the other caches' open calls stay.

pub record StayElsewhere (id : ℕ) (transcript transcript' : List Entry) : Type 0 where
  pub stays : (place : ℕ) (e : Entry) → (e.id ≡ id → ⊥) → slice_get transcript place ≡ Some e → slice_get transcript' place ≡ Some e

pub added_elsewhere : (id : ℕ) (transcript : List Entry) (e : Entry) → StayElsewhere id transcript (transcript ++ e ∷ [])
added_elsewhere id transcript e = record { stays = λ place d differ at. get_append transcript (e ∷ []) place d at }

pub set_elsewhere : (id : ℕ) (transcript : List Entry) (place : ℕ) (e f : Entry) → slice_get transcript place ≡ Some e → e.id ≡ id → StayElsewhere id transcript (slice_set transcript place f)
set_elsewhere id transcript place e f at own = record {
  stays = λ other d differ found.
      let apart : place ≡ other → ⊥ = λ same. differ (ap (λ (o : Option Entry). elim o [ None ↦ id | Some x ↦ x.id ]) (sym found ∙ (ap (slice_get transcript) (sym same) ∙ at)) ∙ own) in
      at_other transcript place other f apart ∙ found;
}

pub same_elsewhere : (id : ℕ) (transcript : List Entry) → StayElsewhere id transcript transcript
same_elsewhere id transcript = record { stays = λ place e differ at. at }

has_elsewhere : (id other : ℕ) (transcript transcript' : List Entry) → StayElsewhere id transcript transcript' → (other ≡ id → ⊥) → (place : Option ℕ) (turn : Option (Awaited × Wait)) → HasEntry transcript other place turn → HasEntry transcript' other place turn
has_elsewhere id other transcript transcript' stay differ place None has = tt
has_elsewhere id other transcript transcript' stay differ None (Some w) has = has
has_elsewhere id other transcript transcript' stay differ (Some place) (Some w) has =
    record { entry = has.entry; there = stay.stays place has.entry (λ same. differ (sym has.own ∙ same)) has.there; own = has.own; waits = has.waits; untold = has.untold }

abbrev pub AllOpened : List (Option Cache) → List Entry → (ℕ → Option ℕ) → Type 0
AllOpened caches transcript places = (id : ℕ) (k : Cache) → at_place caches id ≡ Some k → HasEntry transcript id (places id) k.turn

-- at all ids but one the caches, the entries and the places are as before
module _ (id : ℕ) (caches caches' : List (Option Cache)) (transcript transcript' : List Entry) (places places' : ℕ → Option ℕ) where
  pub opened_after : AllOpened caches transcript places
      → ((other : ℕ) → (other ≡ id → ⊥) → at_place caches' other ≡ at_place caches other)
      → StayElsewhere id transcript transcript'
      → ((other : ℕ) → (other ≡ id → ⊥) → places' other ≡ places other)
      → ((k : Cache) → at_place caches' id ≡ Some k → HasEntry transcript' id (places' id) k.turn)
      → AllOpened caches' transcript' places'
  opened_after opened one stay same here other k at = elim (cases_eq other id) [
    | inl is ↦ rw is (here k (rw is at at))
    | inr differ ↦ rw (same other differ) (has_elsewhere id other transcript transcript' stay differ (places other) k.turn (opened other k (sym (one other differ) ∙ at)))
  ]

-- a write at the place of the open call's entry is one to the entry that waits
pub written_open : (lives : Lives) (h : History) (id place : ℕ) (k : Status) (e : Entry) (f : Entry → Entry) → Tells h lives → at_place lives id ≡ Some k → slice_get h.entries place ≡ Some e → e.id ≡ id → e.end ≡ Waiting → slice_set h.entries place (f e) ≡ on_open id f h.entries
written_open lives h id place k e f tells at there own waits =
    set_open k.config id f h.entries place e (record { standing = fresh; legal = tells.legal.each id k.config (tells.each id k at).0 }) there (grind (arith, nat_tests)) waits
