-- What a script's lines come to that create and destroy caches, memory sufficing.
use Rattle.std.specs.Prelude.{◌≡◌, ℕ, List, [], ◌∷◌, ◌++◌, length}
use Rattle.std.specs.Prelude.{Option, Some, None}
use Rattle.jc_model.specs.declared.config.CacheConfig.{CacheConfig}
use Rattle.jc_model.specs.declared.event.CreateRefusal.{CreateRefusal}
use Rattle.jc_model.specs.declared.event.Life.{Life}
use Rattle.jc_model.specs.Legal.{numbered_lives}
use Rattle.jc_model.specs.Runs.{Status, Lives, opened_from, create_refusal}
use Rattle.jc_script.specs.declared.line.Line.{Line}
use Rattle.jc_script.specs.declared.line.Line.TheVariants.{Call, Create, Destroy}
use Rattle.jc_script.specs.declared.managed.ManageOp.TheVariants as op
use Rattle.jc_script.specs.declared.managed.Managed.{Managed}
use Rattle.jc_script.specs.Live.{after_line, lives_in}
use Rattle.jc_model.specs.Places.{at_place}

abbrev pub name_of_live : Option Status → List ℕ
name_of_live None = []
name_of_live (Some k) = k.config.name

-- a line's answer
abbrev pub managed_by : Lives → Line → List Managed
managed_by lives (Call l) = []
managed_by lives (Create session c) = record { session = session; op = op.Create; name = c.name; refusal = create_refusal lives c } ∷ []
managed_by lives (Destroy session id) = record { session = session; op = op.Destroy; name = name_of_live (at_place lives id); refusal = None } ∷ []

-- those of all lines in order
abbrev pub managed_from : Lives → List Line → List Managed
managed_from lives [] = []
managed_from lives (l ∷ ls) = managed_by lives l ++ managed_from (after_line lives l) ls

abbrev pub life_unless : Option CreateRefusal → Life → List Life
life_unless None life = life ∷ []
life_unless (Some refusal) life = []

-- the life that a line begins, if it does
abbrev pub lives_begun_by : Lives → Line → List Life
lives_begun_by lives (Call l) = []
lives_begun_by lives (Create session c) = life_unless (create_refusal lives c) (record { id = length lives; config = c })
lives_begun_by lives (Destroy session id) = []

abbrev pub lives_begun_from : Lives → List Line → List Life
lives_begun_from lives [] = []
lives_begun_from lives (l ∷ ls) = lives_begun_by lives l ++ lives_begun_from (after_line lives l) ls

-- all lives of a script's run on these caches, in order of id
abbrev pub lives_of_script : List CacheConfig → List Line → List Life
lives_of_script caches lines = numbered_lives 0 caches ++ lives_begun_from (opened_from 0 caches) lines

abbrev pub managed_of : List CacheConfig → List Line → List Managed
managed_of caches lines = managed_from (opened_from 0 caches) lines

-- where these caches are live, the life that a line begins comes behind the lives before
abbrev pub AddsLives : List (Option CacheConfig) → Line → List Life → List Life → Type 0
AddsLives caches line old new = new ≡ old ++ lives_begun_by (lives_in caches) line

-- and its answer behind the answers before
abbrev pub AddsManaged : List (Option CacheConfig) → Line → List Managed → List Managed → Type 0
AddsManaged caches line old new = new ≡ old ++ managed_by (lives_in caches) line
