-- Caches that are moved.
use Rattle.std.proofs.Common.{◌≡◌, ℕ, List, [], ◌∷◌, ◌++◌, length, option_map, Option, Some, refl, sym, ap, ◌∙◌, append_assoc}
use Rattle.jc_engine.proofs.Names.{map-append, CacheConfig, Outcome, at_place, Status, Standing, fresh, idle, State, Cache, status_of, lives_of}
use Rattle.jc_model.specs.Runs.{Lives}
use Rattle.jc_model.specs.Solo.{PlayedCall, outcomes_by, outcomes_from, standing_from, after_call, seen_at, state_in, events_of, status_at_end}
use Rattle.jc_model.specs.State.{first_state}
use Rattle.jc_model.specs.Whole.{whole}
use Rattle.jc_model.proofs.Alone.{Closed, alone}
use Rattle.jc_model.proofs.EachCache.{Projects, fate}
use Rattle.jc_model.proofs.Lives.{live_last}
use Rattle.jc_save.specs.Savable.{IsSavable}
use Rattle.jc_save.specs.Spelling.{saved}
use Rattle.jc_save.proofs.Whole.{told_apart}
use Rattle.jc_engine.proofs.Places.{length_map}
use Rattle.jc_engine.specs.Saving.{AddsSaved, idle_cache}
use Rattle.jc_engine.specs.Moved.{standing_in, solo_from, renamed, Ran, last_lives, status_first, seen_in, calls_in, IsMoved, GoesOn}

pub outcomes_parted : (c : CacheConfig) (standing : Standing) (xs ys : List PlayedCall) → outcomes_from c standing (xs ++ ys) ≡ outcomes_from c standing xs ++ outcomes_from c (standing_from c standing xs) ys
outcomes_parted c standing [] ys = refl
outcomes_parted c standing (p ∷ xs) ys =
    let here : List Outcome = outcomes_by (whole c p.now p.call (state_in standing)) p.answers p.given_up in
    ap (λ (l : List Outcome). here ++ l) (outcomes_parted c (after_call c (state_in standing) p) xs ys)
    ∙ sym (append_assoc here (outcomes_from c (after_call c (state_in standing) p) xs) (outcomes_from c (standing_from c (after_call c (state_in standing) p) xs) ys))

pub standing_parted : (c : CacheConfig) (standing : Standing) (xs ys : List PlayedCall) → standing_from c standing (xs ++ ys) ≡ standing_from c (standing_from c standing xs) ys
standing_parted c standing [] ys = refl
standing_parted c standing (p ∷ xs) ys = standing_parted c (after_call c (state_in standing) p) xs ys

-- what a run makes of a cache that begins it in a state
module _ (r : Ran) (id : ℕ) (c : CacheConfig) (s : State) (starts : status_first id r ≡ Some (standing_in c s)) where
  projects : Projects (standing_in c s) (events_of id r.lives r.events r.outcomes) (status_at_end id r.lives r.events r.outcomes (last_lives r))
  projects = (fate r.events r.outcomes id r.lives r.is).once (standing_in c s) starts

  closed : Closed c s (events_of id r.lives r.events r.outcomes)
  closed = (alone c (events_of id r.lives r.events r.outcomes)).closed s projects.run

  pub alone_from : seen_in id r ≡ Some (solo_from c s (calls_in id r))
  alone_from = rw (projects.ends, closed.ends, closed.shows) refl

  -- where it is there in the end
  pub ends_as : (k : Status) → at_place (last_lives r) id ≡ Some k → k ≡ record { config = c; standing = standing_from c (idle s) (calls_in id r) }
  ends_as k at = let is = projects.ends in let ends = closed.ends in cc

seen_outcomes : (outcomes : List Outcome) (standing : Standing) → (seen_at outcomes standing).outcomes ≡ outcomes
seen_outcomes outcomes (idle s) = refl
seen_outcomes outcomes _ = refl

seen_standing : (outcomes : List Outcome) (standing : Standing) → (seen_at outcomes standing).standing ≡ standing
seen_standing outcomes (idle s) = refl
seen_standing outcomes _ = refl

pub stands_as_saved : (k : Cache) (name : List ℕ) (old new : List (Option Cache)) → IsSavable k.config k.progress.state → AddsSaved name (saved k.config k.progress.state) old new → lives_of new ≡ lives_of old ++ Some (renamed name k) ∷ []
stands_as_saved k name old new savable adds =
    let same = told_apart k.config adds.config k.progress.state adds.state savable adds.is_saved.savable adds.is_saved.spelled in
    let config : adds.config ≡ record k.config { name = name } = sym (ap (λ (n : List ℕ). record k.config { name = n }) (sym adds.is_saved.named) ∙ same.0) in
    ap lives_of adds.added
    ∙ map-append (option_map status_of) old (Some (idle_cache adds.config adds.state adds.numbers) ∷ [])
    ∙ rw (config, ← same.1) refl

pub moved_goes_on : (c : CacheConfig) (id : ℕ) (first : Ran) (k : Cache) (old new : List (Option Cache)) (second : Ran) → IsMoved c id first k old new second → GoesOn c id first (length old) second
moved_goes_on c id first k old new second m =
    let xs = calls_in id first in
    let ys = calls_in (length old) second in
    let s = k.progress.state in
    let ends : status_of k ≡ record { config = c; standing = standing_from c fresh xs } = ends_as first id c first_state m.starts (status_of k) m.ends in
    let config : k.config ≡ c = ap (λ (st : Status). st.config) ends in
    let idle_is : (status_of k).standing ≡ idle s = rw m.is_idle refl in
    let standing : idle s ≡ standing_from c fresh xs = sym idle_is ∙ ap (λ (st : Status). st.standing) ends in
    let stands : renamed c.name k ≡ standing_in c s = ap (λ (d : CacheConfig). standing_in (record d { name = c.name }) s) config in
    let lives : second.lives ≡ lives_of old ++ Some (standing_in c s) ∷ [] =
    m.goes_on ∙ stands_as_saved k c.name old new m.savable m.restored ∙ ap (λ (st : Status). lives_of old ++ Some st ∷ []) stands in
    let at : at_place second.lives (length old) ≡ Some (standing_in c s) =
    ap (λ (l : Lives). at_place l (length old)) lives
    ∙ ap (at_place (lives_of old ++ Some (standing_in c s) ∷ [])) (sym (length_map (option_map status_of) old))
    ∙ live_last (lives_of old) (Some (standing_in c s)) in
    let starts : status_first (length old) second ≡ Some (standing_in c s) = rw at refl in
    record {
      before = solo_from c first_state xs;
      after = solo_from c s ys;
      seen_first = alone_from first id c first_state m.starts;
      seen_then = alone_from second (length old) c s starts;
      outcomes = rw (seen_outcomes (outcomes_from c fresh xs) (standing_from c fresh xs), seen_outcomes (outcomes_from c (idle s) ys) (standing_from c (idle s) ys), seen_outcomes (outcomes_from c fresh (xs ++ ys)) (standing_from c fresh (xs ++ ys)))
          (ap (λ (st : Standing). outcomes_from c fresh xs ++ outcomes_from c st ys) standing ∙ sym (outcomes_parted c fresh xs ys));
      standing = seen_standing (outcomes_from c (idle s) ys) (standing_from c (idle s) ys)
          ∙ ap (λ (st : Standing). standing_from c st ys) standing
          ∙ sym (standing_parted c fresh xs ys)
          ∙ sym (seen_standing (outcomes_from c fresh (xs ++ ys)) (standing_from c fresh (xs ++ ys)));
    }
