-- A manager opens with the cache of each life alone, where it has opened with some and was not refused the others.
use Rattle.std.proofs.Common.{◌≡◌, ℕ, ◌+◌, ◌≤◌, false, ltb, List, [], ◌∷◌, ◌++◌, length, Option, Some, None, refl, sym, subst, arith, sum}
use Rattle.std.proofs.lemmas.Bool.Decides.{nat_tests}
use Rattle.jc_engine.specs.Opening.{open_refusal, open_refusal_for, refusal_at, refusal_from, capacities}
use Rattle.jc_engine.specs.declared.open.OpenRefusal.TheVariants.{TooManyCaches, TotalCapacity}
use Rattle.jc_report.specs.Totals.{CanOpenEach}
use Rattle.jc_model.specs.Legal.{numbered_lives}
use Rattle.jc_model.specs.Limits.{most_caches, most_rows_together}
use Rattle.jc_model.specs.Runs.{Lives, create_refusal, members_of, opened_from}
use Rattle.jc_model.specs.Places.{all_there}
use Rattle.jc_model.specs.Refusals.{broken_limit, refusal_for, refused_if}
use Rattle.jc_model.proofs.Refusals.{both_none, keeps_limits, none_mapped, not_refused}
use Rattle.jc_model.specs.declared.event.CreateRefusal.TheVariants as create
use Rattle.std.specs.Option.{option_map, option_or}
use Rattle.jc_model.specs.declared.config.CacheConfig.{CacheConfig}
use Rattle.jc_model.specs.declared.event.CreateRefusal.{CreateRefusal}
use Rattle.jc_model.specs.declared.event.Life.{Life}
use Rattle.jc_script.specs.Live.{after_line}
use Rattle.jc_script.specs.Managing.{lives_begun_by, lives_begun_from, life_unless, lives_of_script}
use Rattle.jc_script.specs.declared.line.Line.{Line}
use Rattle.jc_script.specs.declared.line.Line.TheVariants.{Call, Create, Destroy}

within_limit : (place : ℕ) (c : CacheConfig) → option_map (open_refusal_for place) (broken_limit c) ≡ None → broken_limit c ≡ None
within_limit place c h = none_mapped (open_refusal_for place) (broken_limit c) h

within_created : (lives : Lives) (c : CacheConfig) → create_refusal lives c ≡ None → broken_limit c ≡ None
within_created lives c h =
    let few = both_none (refused_if (ltb most_caches (length (all_there (members_of lives)) + 1)) create.TooManyCaches) _ h in
    none_mapped refusal_for (broken_limit c) (both_none (option_map refusal_for (broken_limit c)) _ few.1).0

opens_alone : (c : CacheConfig) → broken_limit c ≡ None → open_refusal (c ∷ []) ≡ None
opens_alone c within =
    let small : ltb most_rows_together (sum (c.capacity ∷ [])) ≡ false = let rows = (keeps_limits c within).rows in grind (arith, nat_tests, rows) in
    rw (within, small) refl

each_within : (names : List (List ℕ)) (place first : ℕ) (caches : List CacheConfig) → refusal_from names place caches ≡ None → CanOpenEach (numbered_lives first caches)
each_within names place first [] h = tt
each_within names place first (c ∷ caches) h =
    let p = both_none (refusal_at names place c) _ h in
    (opens_alone c (within_limit place c (both_none (option_map (open_refusal_for place) (broken_limit c)) _ p.0).0), each_within _ (place + 1) (first + 1) caches p.1)

not_many : (caches : List CacheConfig) → open_refusal caches ≡ None → (refused_if (ltb most_caches (length caches)) TooManyCaches ≡ None) × (option_or (refusal_from [] 0 caches) (refused_if (ltb most_rows_together (sum (capacities caches))) TotalCapacity) ≡ None)
not_many caches h = both_none (refused_if (ltb most_caches (length caches)) TooManyCaches) _ h

pub few_caches : (caches : List CacheConfig) → open_refusal caches ≡ None → length caches ≤ most_caches
few_caches caches h = let few = not_refused (ltb most_caches (length caches)) _ (not_many caches h).0 in grind (arith, nat_tests, few)

opened_within : (first : ℕ) (caches : List CacheConfig) → open_refusal caches ≡ None → CanOpenEach (numbered_lives first caches)
opened_within first caches h = each_within [] 0 first caches (both_none (refusal_from [] 0 caches) _ (not_many caches h).1).0

joined : (lives others : List Life) → CanOpenEach lives → CanOpenEach others → CanOpenEach (lives ++ others)
joined [] others h h' = h'
joined (life ∷ lives) others h h' = (h.0, joined lives others h.1 h')

one_more : (o : Option CreateRefusal) (id : ℕ) (c : CacheConfig) → (o ≡ None → broken_limit c ≡ None) → CanOpenEach (life_unless o (record { id = id; config = c }))
one_more None id c within = (opens_alone c (within refl), tt)
one_more (Some refusal) id c within = tt

begun_within : (lives : Lives) (line : Line) → CanOpenEach (lives_begun_by lives line)
begun_within lives (Call l) = tt
begun_within lives (Create session c) = one_more (create_refusal lives c) (length lives) c (within_created lives c)
begun_within lives (Destroy session id) = tt

all_begun : (lives : Lives) (lines : List Line) → CanOpenEach (lives_begun_from lives lines)
all_begun lives [] = tt
all_begun lives (line ∷ lines) = joined (lives_begun_by lives line) (lives_begun_from (after_line lives line) lines) (begun_within lives line) (all_begun (after_line lives line) lines)

pub lives_open : (caches : List CacheConfig) (lines : List Line) (lives : List Life) → open_refusal caches ≡ None → lives ≡ lives_of_script caches lines → CanOpenEach lives
lives_open caches lines lives h is =
    subst CanOpenEach (sym is) (joined (numbered_lives 0 caches) (lives_begun_from (opened_from 0 caches) lines) (opened_within 0 caches h) (all_begun (opened_from 0 caches) lines))
