-- The lives of a legal transcript: the calls of each can be made again.
use Rattle.std.proofs.Common.{◌≡◌, ℕ, ◌+◌, ◌<◌, Bool, true, false, if◌then◌else◌, List, [], ◌∷◌, Option, Some, None, refl, sym, ◌∙◌, arith}
use Rattle.std.specs.Prelude.{◌==◌}
use Rattle.std.proofs.lemmas.Bool.Decides.{nat_tests}
use Rattle.jc_model.specs.declared.config.CacheConfig.{CacheConfig}
use Rattle.jc_model.specs.declared.event.Entry.{Entry}
use Rattle.jc_model.specs.declared.event.Life.{Life}
use Rattle.jc_model.specs.Legal.{InOrder, IsLegalFrom, config_of, entries_of}
use Rattle.jc_model.specs.Runs.{fresh}
use Rattle.jc_report.specs.Totals.{CanOpenEach, CanBeMadeAgain}

-- no life has a lesser id
below : (least : ℕ) (lives : List Life) (id : ℕ) → InOrder least lives → id < least → config_of id lives ≡ None
below least [] id ordered less = refl
below least (life ∷ lives) id ordered less =
    let other : (life.id == id) ≡ false = grind (arith, nat_tests, ordered.0) in
    rw other (below (life.id + 1) lives id ordered.1 (omega (arith, ordered.0, less)))

-- what the first life's id has not, the others have
later : (life : Life) (lives : List Life) (id : ℕ) (c : CacheConfig) (b : Bool) → (life.id == id) ≡ b → InOrder (life.id + 1) lives → config_of id lives ≡ Some c → (if b then Some life.config else config_of id lives) ≡ Some c
later life lives id c false other ordered at = at
later life lives id c true same ordered at =
    let less : id < life.id + 1 = grind (arith, nat_tests) in
    let none = below (life.id + 1) lives id ordered less in
    absurd (let bad : ◌≡◌ {A = Option CacheConfig} None (Some c) = sym none ∙ at in cc)

here : (life : Life) (lives : List Life) → config_of life.id (life ∷ lives) ≡ Some life.config
here life lives = let same : (life.id == life.id) ≡ true = grind (arith, nat_tests) in rw same refl

pub made_again : (least : ℕ) (lives : List Life) (entries : List Entry) → InOrder least lives → ((id : ℕ) (c : CacheConfig) → config_of id lives ≡ Some c → IsLegalFrom c fresh (entries_of id entries)) → CanOpenEach lives → CanBeMadeAgain lives entries
made_again least [] entries ordered legal opens = tt
made_again least (life ∷ lives) entries ordered legal opens =
    (opens.0, legal life.id life.config (here life lives), made_again (life.id + 1) lives entries ordered.1 (λ id c at. legal id c (later life lives id c (life.id == id) refl ordered.1 at)) opens.1)
