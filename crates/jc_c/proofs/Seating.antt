-- The desks of caches, before and after an event.
use Rattle.std.proofs.Common.{◌≡◌, ◌≢◌, ◌<◌, ◌+◌, ℕ, zero, suc, Bool, true, false, is_some, List, [], ◌∷◌, ◌++◌, length, option_map, slice_set, if◌then◌else◌, Option, Some, None, inl, inr, refl, sym, ap, ap₂, subst, ◌∙◌, arith}
use Rattle.std.proofs.lemmas.Bool.{cases_eq}
use Rattle.std.proofs.lemmas.List.{length-map, length_push}
use Rattle.jc_model.specs.declared.config.CacheConfig.{CacheConfig}
use Rattle.jc_model.specs.declared.event.Cause.TheVariants.{NoSuchProcessor, WrongAnswer}
use Rattle.jc_model.specs.declared.event.Event.{Event}
use Rattle.jc_model.specs.declared.event.Event.TheVariants.{Create}
use Rattle.jc_model.specs.declared.event.Outcome.{Outcome}
use Rattle.jc_model.specs.declared.event.Outcome.TheVariants.{Created, Destroyed, Refused}
use Rattle.jc_model.specs.Places.{at_place, there}
use Rattle.jc_model.specs.Changes.{Progress}
use Rattle.jc_model.specs.Run.{Awaited, Run, ended, fits, waiting}
use Rattle.jc_model.specs.Runs.{Lives, Standing, Status, idle, busy, CacheEvent, begins, answers, gives_up, on_cache, moved, moved_by, put_moved, answer_of, answer_in, answer_to, answer_to_destroy, answer_to_create, create_refusal, for_memory, has_processor, is_refused, lives_after, lives_by, refuse_last, reply_of, shown, standing_of}
use Rattle.jc_model.specs.Suspended.{Wait, standing_by}
use Rattle.jc_model.specs.Whole.{whole}
use Rattle.jc_model.proofs.Lives.{at_same, at_other, same_length}
use Rattle.jc_engine.proofs.Names.{at_place_map}
use Rattle.jc_engine.specs.Caches.{Cache, status_of, lives_of}
use Rattle.jc_engine.specs.Free.{takes_none}
use Rattle.jc_engine.specs.Sound.{NoneFrom, places_of}
use Rattle.jc_engine.proofs.Numbered.{Puts, put_here, put_other, places_put, places_more, at-places}
use Rattle.jc_engine.proofs.Places.{place_of}
use Rattle.jc_c.specs.declared.desks.Desk.{Desk}
use Rattle.jc_c.specs.declared.placer.FfiPlacer.{FfiPlacer}
use Rattle.jc_c.specs.Desks.{asks, asks_at, showing}
use Rattle.jc_c.specs.Seated.{HaveDesks, DoesWith, desks_with, open_at, showing_at}
pub use Rattle.jc_c.specs.Seated.{seated_of}

pub some_map : {A B : Type 0} (h : A → B) (o : Option A) → is_some (option_map h o) ≡ is_some o
some_map h None = refl
some_map h (Some x) = refl

-- whether a cache is live, by the caches or by how they stand
pub live_there : (caches : List (Option Cache)) (id : ℕ) → is_some (at_place (lives_of caches) id) ≡ is_some (at_place caches id)
live_there caches id = ap is_some (at_place_map status_of caches id) ∙ some_map status_of (at_place caches id)

-- whether a call is open, by how a cache stands
abbrev is_busy : Standing → Bool
is_busy (idle s) = false
is_busy (busy w p resumed) = true

abbrev busy_at : Option Status → Option Bool
busy_at found = option_map (λ (k : Status). is_busy k.standing) found

busy_by : (c : CacheConfig) (p : Progress) (turn : Option (Awaited × Wait)) → is_busy (standing_by c p turn) ≡ is_some turn
busy_by c p None = refl
busy_by c p (Some w) = refl

busy_as : (cache : Option Cache) → busy_at (option_map status_of cache) ≡ open_at cache
busy_as None = refl
busy_as (Some k) = ap Some (busy_by k.config k.progress k.turn)

open_there : (caches : List (Option Cache)) (id : ℕ) → busy_at (at_place (lives_of caches) id) ≡ open_at (at_place caches id)
open_there caches id = ap busy_at (at_place_map status_of caches id) ∙ busy_as (at_place caches id)

-- a cache has a desk where it is live
live_by : (desk : Option Desk) (cache : Option Cache) → asks_at desk ≡ open_at cache → is_some desk ≡ is_some cache
live_by None None is = refl
live_by None (Some k) is = absurd cc
live_by (Some d) None is = absurd cc
live_by (Some d) (Some k) is = refl

have_some : (caches : List (Option Cache)) (f : ℕ → Option Desk) → HaveDesks caches f → (id : ℕ) → is_some (f id) ≡ is_some (at_place caches id)
have_some caches f slots id = live_by (f id) (at_place caches id) (slots id)

some_of : {A : Type 0} (o : Option A) → is_some o ≡ true → (x : A) × (o ≡ Some x)
some_of None is = absurd cc
some_of (Some x) is = (x, refl)

pub below : {A : Type 0} (xs : List (Option A)) (id : ℕ) → is_some (at_place xs id) ≡ true → id < length xs
below [] id is = absurd cc
below (x ∷ xs) zero is = omega arith
below (x ∷ xs) (suc id) is = let less = below xs id is in omega (arith, less)

-- a place is set, and the others stay
set_here : {A : Type 0} (xs : List (Option A)) (id : ℕ) (o : Option A) → is_some (at_place xs id) ≡ true → at_place (slice_set xs id o) id ≡ o
set_here xs id o is = let had = some_of (at_place xs id) is in ap there (at_same xs id (Some had.0) o (place_of xs id had.0 had.1))

set_there : {A : Type 0} (xs : List (Option A)) (id other : ℕ) (o : Option A) → id ≢ other → at_place (slice_set xs id o) other ≡ at_place xs other
set_there xs id other o differ = ap there (at_other xs id other o differ)

-- an accepted event finds its cache
accepted_live : (found : Option Status) (said : CacheEvent) (memory : Bool) (o : Outcome) → o ≡ answer_of found said memory → is_refused o ≡ false → is_some found ≡ true
accepted_live None said memory o is accepted = (let refused = ap is_refused is in absurd cc)
accepted_live (Some k) said memory o is accepted = refl

-- an event that was accepted leaves a call open exactly where its outcome is a request
step_asks : (run : Run) (memory : Bool) (o : Outcome) → o ≡ refuse_last memory (shown run) → is_refused o ≡ false → is_busy (standing_of run) ≡ asks o
step_asks (ended p r) false o is accepted = sym (ap asks is)
step_asks (ended p r) true o is accepted = (let refused = ap is_refused is in absurd cc)
step_asks (waiting q p resumed) false o is accepted = sym (ap asks is)
step_asks (waiting q p resumed) true o is accepted = (let refused = ap is_refused is in absurd cc)

asks_if : (run : Run) (test : Bool) (why : _) (memory : Bool) (o : Outcome) → o ≡ refuse_last memory (if test then shown run else Refused why) → is_refused o ≡ false → is_busy (standing_of run) ≡ asks o
asks_if run true why memory o is accepted = step_asks run memory o is accepted
asks_if run false why memory o is accepted = (let refused = ap is_refused is in absurd cc)

moved_asks : (c : CacheConfig) (stands : Standing) (said : CacheEvent) (memory : Bool) (o : Outcome) → o ≡ refuse_last memory (reply_of c stands said) → is_refused o ≡ false
    → is_busy (moved_by c stands said) ≡ asks o
moved_asks c (idle s) (begins now call) memory o is accepted = asks_if (whole c now call s) (has_processor c call) NoSuchProcessor memory o is accepted
moved_asks c (idle s) (answers a) memory o is accepted = (let refused = ap is_refused is in absurd cc)
moved_asks c (idle s) gives_up memory o is accepted = (let refused = ap is_refused is in absurd cc)
moved_asks c (busy w p resumed) (begins now call) memory o is accepted = (let refused = ap is_refused is in absurd cc)
moved_asks c (busy w p resumed) (answers a) memory o is accepted = asks_if (resumed a) (fits w a) WrongAnswer memory o is accepted
moved_asks c (busy w p resumed) gives_up memory o is accepted = sym (ap asks is)

moved_here : (lives : Lives) (id : ℕ) (said : CacheEvent) (found : Option Status) (memory : Bool) (o : Outcome) → at_place lives id ≡ found → o ≡ answer_of found said memory → is_refused o ≡ false
    → busy_at (at_place (put_moved lives id said found) id) ≡ Some (asks o)
moved_here lives id said None memory o at is accepted = (let refused = ap is_refused is in absurd cc)
moved_here lives id said (Some k) memory o at is accepted =
    ap busy_at (set_here lives id (Some (moved k said)) (ap is_some at)) ∙ ap Some (moved_asks k.config k.standing said memory o is accepted)

moved_other : (lives : Lives) (id : ℕ) (said : CacheEvent) (found : Option Status) (i : ℕ) → id ≢ i → at_place (put_moved lives id said found) i ≡ at_place lives i
moved_other lives id said None i differ = refl
moved_other lives id said (Some k) i differ = set_there lives id i (Some (moved k said)) differ

moved_length : (lives : Lives) (id : ℕ) (said : CacheEvent) (found : Option Status) → length (put_moved lives id said found) ≡ length lives
moved_length lives id said None = refl
moved_length lives id said (Some k) = same_length lives id (Some (moved k said))

pub same_places : {A : Type 0} (f g : ℕ → Option A) (n : ℕ) → ((i : ℕ) → g i ≡ f i) → places_of g n ≡ places_of f n
same_places f g zero same = refl
same_places f g (suc n) same = ap₂ (λ xs x. xs ++ x ∷ []) (same_places f g n same) (same n)

-- ids that have not been given have no desk
pub none_beyond : (caches : List (Option Cache)) (f : ℕ → Option Desk) → HaveDesks caches f → NoneFrom (length caches) f
none_beyond caches f slots id past = by (f id) (have_some caches f slots id)
  where
    by : (o : Option Desk) → is_some o ≡ is_some (at_place caches id) → o ≡ None
    by None is = refl
    by (Some x) is = (let less = below caches id (sym is) in absurd (omega (arith, less, past)))

-- An event of one cache was accepted.
module _ (caches caches' : List (Option Cache)) (f g : ℕ → Option Desk) (id : ℕ) (said : CacheEvent) (o : Outcome) (slots : HaveDesks caches f)
    (memory : Bool) (answer : o ≡ answer_in (lives_of caches) (on_cache id said) memory) (accepted : is_refused o ≡ false) where
  live : is_some (at_place caches id) ≡ true
  live = sym (live_there caches id) ∙ accepted_live (at_place (lives_of caches) id) said memory o answer accepted

  pub slot : is_some (f id) ≡ true
  slot = have_some caches f slots id ∙ live

  module _ (after : lives_of caches' ≡ lives_by (lives_of caches) (on_cache id said) o) (puts : Puts f id (showing o (f id)) g) where
    changed : lives_of caches' ≡ put_moved (lives_of caches) id said (at_place (lives_of caches) id)
    changed = rw accepted at after

    open_here : open_at (at_place caches' id) ≡ Some (asks o)
    open_here =
        sym (open_there caches' id) ∙ ap (λ (ls : Lives). busy_at (at_place ls id)) changed
        ∙ moved_here (lives_of caches) id said (at_place (lives_of caches) id) memory o refl answer accepted

    open_other : (i : ℕ) → id ≢ i → open_at (at_place caches' i) ≡ open_at (at_place caches i)
    open_other i differ =
        sym (open_there caches' i) ∙ ap (λ (ls : Lives). busy_at (at_place ls i)) changed
        ∙ ap busy_at (moved_other (lives_of caches) id said (at_place (lives_of caches) id) i differ) ∙ open_there caches i

    shows : (d : Option Desk) → is_some d ≡ true → asks_at (showing o d) ≡ Some (asks o)
    shows None is = absurd cc
    shows (Some d) is = refl

    length_after : length caches' ≡ length caches
    length_after =
        sym (length-map caches' (option_map status_of)) ∙ ap length changed
        ∙ moved_length (lives_of caches) id said (at_place (lives_of caches) id) ∙ length-map caches (option_map status_of)

    pub slots_after : HaveDesks caches' g
    slots_after i = elim (cases_eq i id) [
      | inl same ↦ subst (λ (n : ℕ). asks_at (g n) ≡ open_at (at_place caches' n)) (sym same) (ap asks_at (put_here f g id (showing o (f id)) puts) ∙ shows (f id) slot ∙ sym open_here)
      | inr differ ↦ ap asks_at (put_other f g id (showing o (f id)) puts i differ) ∙ slots i ∙ sym (open_other i (λ e. differ (sym e)))
    ]

    pub shown_after : places_of g (length caches') ≡ showing_at id o (places_of f (length caches))
    shown_after =
        ap (places_of g) length_after ∙ places_put f g id (showing o (f id)) puts (length caches) (below caches id live)
        ∙ ap (λ (d : Option Desk). slice_set (places_of f (length caches)) id (showing o d)) (sym (at-places f (length caches) id (none_beyond caches f slots)))

pub refused_does : (most : ℕ) (p : FfiPlacer) (caches caches' : List (Option Cache)) (f g : ℕ → Option Desk) (event : Event) (o : Outcome) → is_refused o ≡ true → o ≡ answer_to (lives_of caches) event (for_memory o)
    → lives_of caches' ≡ lives_after (lives_of caches) event o → (takes_none event ≡ true → o ≡ answer_to (lives_of caches) event false) → caches' ≡ caches → ((i : ℕ) → g i ≡ f i)
    → DoesWith most (seated_of caches f p) event o (seated_of caches' g p)
refused_does most p caches caches' f g event o refused answer lives free same also =
    let shown : places_of g (length caches') ≡ places_of f (length caches) = ap (λ (ks : List (Option Cache)). places_of g (length ks)) same ∙ same_places f g (length caches) also in
    record {
      outcome_is = answer;
      lives = lives;
      free = free;
      shows = rw refused shown;
      placer_is = refl;
      refused = λ _. ap₂ (λ (ks : List (Option Cache)) (ds : List (Option Desk)). record { caches = ks; desks = ds; placer = p }) same shown;
    }

pub accepted_does : (most : ℕ) (p : FfiPlacer) (caches caches' : List (Option Cache)) (f g : ℕ → Option Desk) (event : Event) (o : Outcome) → is_refused o ≡ false → o ≡ answer_to (lives_of caches) event (for_memory o)
    → lives_of caches' ≡ lives_after (lives_of caches) event o → (takes_none event ≡ true → o ≡ answer_to (lives_of caches) event false)
    → places_of g (length caches') ≡ desks_with most (places_of f (length caches)) event o
    → DoesWith most (seated_of caches f p) event o (seated_of caches' g p)
accepted_does most p caches caches' f g event o accepted answer lives free shown =
    record {
      outcome_is = answer;
      lives = lives;
      free = free;
      shows = rw accepted shown;
      placer_is = refl;
      refused = λ refused. (let clash = sym accepted ∙ refused in absurd cc);
    }

-- A cache was destroyed.
module _ (caches caches' : List (Option Cache)) (f g : ℕ → Option Desk) (id : ℕ) (slots : HaveDesks caches f) (answer : Destroyed ≡ answer_to_destroy (at_place (lives_of caches) id))
    (gone : caches' ≡ slice_set caches id None) (puts : Puts f id None g) where
  there_to_destroy : (found : Option Status) → Destroyed ≡ answer_to_destroy found → is_some found ≡ true
  there_to_destroy None is = absurd cc
  there_to_destroy (Some k) is = refl

  was_live : is_some (at_place caches id) ≡ true
  was_live = sym (live_there caches id) ∙ there_to_destroy (at_place (lives_of caches) id) answer

  pub slots_without : HaveDesks caches' g
  slots_without i = elim (cases_eq i id) [
    | inl same ↦ subst (λ (n : ℕ). asks_at (g n) ≡ open_at (at_place caches' n)) (sym same)
        (ap asks_at (put_here f g id None puts) ∙ sym (ap (λ (ks : List (Option Cache)). open_at (at_place ks id)) gone ∙ ap open_at (set_here caches id None was_live)))
    | inr differ ↦ ap asks_at (put_other f g id None puts i differ) ∙ slots i
        ∙ sym (ap (λ (ks : List (Option Cache)). open_at (at_place ks i)) gone ∙ ap open_at (set_there caches id i None (λ e. differ (sym e))))
  ]

  pub shown_without : places_of g (length caches') ≡ slice_set (places_of f (length caches)) id None
  shown_without =
      ap (λ (ks : List (Option Cache)). places_of g (length ks)) gone ∙ ap (places_of g) (same_length caches id None)
      ∙ places_put f g id None puts (length caches) (below caches id was_live)

-- A cache was created.

at_last : {A : Type 0} (xs : List (Option A)) (y : Option A) → at_place (xs ++ y ∷ []) (length xs) ≡ y
at_last [] y = refl
at_last (x ∷ xs) y = at_last xs y

at_front : {A : Type 0} (xs : List (Option A)) (y : Option A) (i : ℕ) → i ≢ length xs → at_place (xs ++ y ∷ []) i ≡ at_place xs i
at_front [] y zero differ = absurd (differ refl)
at_front [] y (suc i) differ = refl
at_front (x ∷ xs) y zero differ = refl
at_front (x ∷ xs) y (suc i) differ = at_front xs y i (λ e. differ (ap suc e))

next_id : (n id : ℕ) (refusal : _) → Created id ≡ answer_to_create refusal n false → id ≡ n
next_id n id None is = cc
next_id n id (Some refusal) is = absurd cc

pub created_id : (caches : List (Option Cache)) (id : ℕ) (config : CacheConfig) → Created id ≡ answer_to (lives_of caches) (Create config) false → id ≡ length caches
created_id caches id config answer = next_id (length (lives_of caches)) id (create_refusal (lives_of caches) config) answer ∙ length-map caches (option_map status_of)

-- A cache was added.
module _ (caches caches' : List (Option Cache)) (f g : ℕ → Option Desk) (id : ℕ) (cache : Cache) (slots : HaveDesks caches f) (id_is : id ≡ length caches)
    (added : caches' ≡ caches ++ Some cache ∷ []) (desk : Desk) (puts : Puts f id (Some desk) g) where
  pub slots_more : asks desk.shown ≡ is_some cache.turn → HaveDesks caches' g
  slots_more rests i = elim (cases_eq i id) [
    | inl same ↦ subst (λ (n : ℕ). asks_at (g n) ≡ open_at (at_place caches' n)) (sym same)
        (ap asks_at (put_here f g id (Some desk) puts) ∙ ap Some rests
        ∙ sym (ap (λ (ks : List (Option Cache)). open_at (at_place ks id)) added ∙ ap (λ (n : ℕ). open_at (at_place (caches ++ Some cache ∷ []) n)) id_is ∙ ap open_at (at_last caches (Some cache))))
    | inr differ ↦ ap asks_at (put_other f g id (Some desk) puts i differ) ∙ slots i
        ∙ sym (ap (λ (ks : List (Option Cache)). open_at (at_place ks i)) added ∙ ap open_at (at_front caches (Some cache) i (λ e. differ (e ∙ sym id_is))))
  ]

  pub shown_more : places_of g (length caches') ≡ places_of f (length caches) ++ Some desk ∷ []
  shown_more =
      ap (λ (ks : List (Option Cache)). places_of g (length ks)) added ∙ ap (places_of g) (length_push caches (Some cache) ∙ ap (λ n. n + 1) (sym id_is))
      ∙ places_more f g id (Some desk) puts ∙ ap (λ n. places_of f n ++ Some desk ∷ []) id_is
