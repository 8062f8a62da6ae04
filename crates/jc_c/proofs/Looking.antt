-- The call that asks whether there is a row leaves its cache as it was, and a look at the row tells what it comes to.
use Rattle.std.proofs.Common.{◌≡◌, ℕ, zero, suc, Bool, true, false, is_some, if◌then◌else◌, List, [], ◌∷◌, length, option_map, slice_set, Option, Some, None, inl, inr, refl, sym, ap, subst, ◌∙◌}
use Rattle.std.proofs.lemmas.Bool.{cases_eq}
use Rattle.jc_model.specs.declared.call.Call.TheVariants.{Contains}
use Rattle.jc_model.specs.declared.call.Reply.TheVariants.{Truth}
use Rattle.jc_model.specs.declared.event.Cause.TheVariants.{Busy}
use Rattle.jc_model.specs.declared.event.Event.{Event}
use Rattle.jc_model.specs.declared.event.Event.TheVariants.{Begin}
use Rattle.jc_model.specs.declared.event.Outcome.{Outcome}
use Rattle.jc_model.specs.declared.event.Outcome.TheVariants.{Refused, Step}
use Rattle.jc_model.specs.declared.event.Step.TheVariants.{Done}
use Rattle.jc_model.specs.Places.{at_place}
use Rattle.jc_model.specs.Run.{Awaited}
use Rattle.jc_model.specs.Runs.{CacheEvent, Lives, Status, answer_of, answer_to, begins, for_memory, is_refused, lives_after, moved, put_moved}
use Rattle.jc_model.specs.Suspended.{Wait, standing_by}
use Rattle.jc_model.specs.Whole.{holds}
use Rattle.jc_engine.proofs.Names.{at_place_map}
use Rattle.jc_engine.proofs.Numbered.{Puts, put_here, put_other, puts_same}
use Rattle.jc_engine.specs.Caches.{Cache, holds_in, lives_of, status_of}
use Rattle.jc_c.specs.declared.desks.Desk.{Desk}
use Rattle.jc_c.specs.declared.placer.FfiPlacer.{FfiPlacer}
use Rattle.jc_c.specs.Desks.{asks, asks_at, showing, showing_accepted, truth_at, truth_beside}
use Rattle.jc_c.specs.Seated.{HaveDesks, DoesWith, open_at, seated_of}
use Rattle.jc_c.proofs.Seating.{accepted_does, refused_does, shown_after}

set_same : {A : Type 0} (xs : List (Option A)) (i : ℕ) (x : A) → at_place xs i ≡ Some x → slice_set xs i (Some x) ≡ xs
set_same [] i x at = absurd cc
set_same (y ∷ xs) zero x at = ap (λ o. o ∷ xs) (sym at)
set_same (y ∷ xs) (suc i) x at = ap (λ ys. y ∷ ys) (set_same xs i x at)

-- what is shown, by whether it is refused
kept_if : (o : Outcome) (desk : Option Desk) → is_refused o ≡ true → showing_accepted o desk ≡ desk
kept_if o desk refused = rw refused refl

shown_if : (o : Outcome) (desk : Option Desk) → is_refused o ≡ false → showing_accepted o desk ≡ showing o desk
shown_if o desk accepted = rw accepted refl

module _ (now : ℕ) (key : List ℕ) where
  abbrev asked : CacheEvent
  asked = begins now (Contains key)

  -- a cache with this turn
  abbrev standing : Cache → Option (Awaited × Wait) → Status
  standing k turn = record { config = k.config; standing = standing_by k.config k.progress turn }

  tells_if : (k : Cache) (turn : Option (Awaited × Wait)) (open_call : Bool) → open_call ≡ is_some turn
      → (if open_call then Refused Busy else Step (Done (Truth (holds k.config now key k.progress.state)))) ≡ answer_of (Some (standing k turn)) asked false
  tells_if k None false same = refl
  tells_if k None true same = absurd cc
  tells_if k (Some w) false same = absurd cc
  tells_if k (Some w) true same = refl

  some_same : (a b : Bool) → Some a ≡ Some b → a ≡ b
  some_same a b is = cc

  -- what is told by a desk, and by how its cache stands
  tells : (desk : Option Desk) (cache : Option Cache) → asks_at desk ≡ open_at cache → truth_at (holds_in now key cache) desk ≡ answer_of (option_map status_of cache) asked false
  tells None None same = refl
  tells None (Some k) same = absurd cc
  tells (Some d) None same = absurd cc
  tells (Some d) (Some k) same = tells_if k k.turn (asks d.shown) (some_same (asks d.shown) (is_some k.turn) same)

  stays_by : (k : Cache) (turn : Option (Awaited × Wait)) → is_some turn ≡ false → moved (standing k turn) asked ≡ standing k turn
  stays_by k None shut = refl
  stays_by k (Some w) shut = absurd cc

  stays : (lives : Lives) (id : ℕ) (cache : Option Cache) → at_place lives id ≡ option_map status_of cache → open_at cache ≡ Some false → lives ≡ put_moved lives id asked (option_map status_of cache)
  stays lives id None at shut = absurd cc
  stays lives id (Some k) at shut =
      sym (ap (λ (s : Status). slice_set lives id (Some s)) (stays_by k k.turn (some_same (is_some k.turn) false shut)) ∙ set_same lives id (status_of k) at)

  -- The look has told this, which is shown where it is not refused.
  module _ (p : FfiPlacer) (caches : List (Option Cache)) (f g : ℕ → Option Desk) (id : ℕ) (held : Bool) (slots : HaveDesks caches f)
      (is : held ≡ holds_in now key (at_place caches id)) (puts : Puts f id (showing_accepted (truth_at held (f id)) (f id)) g) where
    abbrev begun : Event
    begun = Begin id now (Contains key)

    there : at_place (lives_of caches) id ≡ option_map status_of (at_place caches id)
    there = at_place_map status_of caches id

    answered : truth_at held (f id) ≡ answer_to (lives_of caches) begun false
    answered = ap (λ (b : Bool). truth_at b (f id)) is ∙ tells (f id) (at_place caches id) (slots id) ∙ ap (λ (o : Option Status). answer_of o asked false) (sym there)

    free_if : (open_call : Bool) → for_memory (if open_call then Refused Busy else Step (Done (Truth held))) ≡ false
    free_if true = refl
    free_if false = refl

    free_at : (desk : Option Desk) → for_memory (truth_at held desk) ≡ false
    free_at None = refl
    free_at (Some d) = free_if (asks d.shown)

    answered_as : truth_at held (f id) ≡ answer_to (lives_of caches) begun (for_memory (truth_at held (f id)))
    answered_as = answered ∙ ap (answer_to (lives_of caches) begun) (sym (free_at (f id)))

    kept_asks_if : (d : Desk) (open_call : Bool) → asks d.shown ≡ open_call
        → asks_at (showing_accepted (if open_call then Refused Busy else Step (Done (Truth held))) (Some d)) ≡ Some (asks d.shown)
    kept_asks_if d true is = refl
    kept_asks_if d false is = ap Some (sym is)

    kept_asks : (desk : Option Desk) → asks_at (showing_accepted (truth_at held desk) desk) ≡ asks_at desk
    kept_asks None = refl
    kept_asks (Some d) = kept_asks_if d (asks d.shown) refl

    pub slots_told : HaveDesks caches g
    slots_told i = elim (cases_eq i id) [
      | inl same ↦ subst (λ (n : ℕ). asks_at (g n) ≡ open_at (at_place caches n)) (sym same)
          (ap asks_at (put_here f g id (showing_accepted (truth_at held (f id)) (f id)) puts) ∙ kept_asks (f id) ∙ slots id)
      | inr differ ↦ ap asks_at (put_other f g id (showing_accepted (truth_at held (f id)) (f id)) puts i differ) ∙ slots i
    ]

    shut_if : (d : Desk) (open_call : Bool) → asks d.shown ≡ open_call → is_refused (if open_call then Refused Busy else Step (Done (Truth held))) ≡ false → asks_at (Some d) ≡ Some false
    shut_if d true is accepted = absurd cc
    shut_if d false is accepted = ap Some is

    shut_at : (desk : Option Desk) → is_refused (truth_at held desk) ≡ false → asks_at desk ≡ Some false
    shut_at None accepted = absurd cc
    shut_at (Some d) accepted = shut_if d (asks d.shown) refl accepted

    same_lives : (o : Outcome) → is_refused o ≡ true → lives_of caches ≡ lives_after (lives_of caches) begun o
    same_lives o refused = rw refused refl

    moved_lives : (o : Outcome) → is_refused o ≡ false → put_moved (lives_of caches) id asked (at_place (lives_of caches) id) ≡ lives_after (lives_of caches) begun o
    moved_lives o accepted = rw accepted refl

    same_desks : is_refused (truth_at held (f id)) ≡ true → (i : ℕ) → g i ≡ f i
    same_desks refused i = elim (cases_eq i id) [
      | inl same ↦ subst (λ (n : ℕ). g n ≡ f n) (sym same)
          (put_here f g id (showing_accepted (truth_at held (f id)) (f id)) puts ∙ kept_if (truth_at held (f id)) (f id) refused)
      | inr differ ↦ put_other f g id (showing_accepted (truth_at held (f id)) (f id)) puts i differ
    ]

    unmoved : is_refused (truth_at held (f id)) ≡ false → lives_of caches ≡ lives_after (lives_of caches) begun (truth_at held (f id))
    unmoved accepted =
        stays (lives_of caches) id (at_place caches id) there (sym (slots id) ∙ shut_at (f id) accepted)
        ∙ ap (put_moved (lives_of caches) id asked) (sym there) ∙ moved_lives (truth_at held (f id)) accepted

    does_if : (refused : Bool) → is_refused (truth_at held (f id)) ≡ refused → DoesWith 0 (seated_of caches f p) begun (truth_at held (f id)) (seated_of caches g p)
    does_if true refused =
        refused_does 0 p caches caches f g begun (truth_at held (f id)) refused answered_as (same_lives (truth_at held (f id)) refused) (λ _. answered) refl (same_desks refused)
    does_if false accepted =
        accepted_does 0 p caches caches f g begun (truth_at held (f id)) accepted answered_as (unmoved accepted) (λ _. answered)
        (shown_after caches caches f g id asked (truth_at held (f id)) slots false answered accepted (unmoved accepted)
        (puts_same f f g id id (showing_accepted (truth_at held (f id)) (f id)) (showing (truth_at held (f id)) (f id)) (λ q. refl) refl (shown_if (truth_at held (f id)) (f id) accepted) puts))

    pub told_does : DoesWith 0 (seated_of caches f p) begun (truth_at held (f id)) (seated_of caches g p)
    told_does = does_if (is_refused (truth_at held (f id))) refl
