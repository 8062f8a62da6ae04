-- The lives of a transcript stand at the places of their ids.
use Rattle.std.proofs.Common.{◌≡◌, ℕ, zero, suc, ◌+◌, ◌<◌, ◌≤◌, Bool, true, false, if◌then◌else◌, List, [], ◌∷◌, length, Some, sym, ap, ◌∙◌, subst, arith}
use Rattle.std.specs.Prelude.{slice_get, ◌==◌}
use Rattle.std.specs.List.{All}
use Rattle.std.proofs.lemmas.Bool.Decides.{nat_tests}
use Rattle.std.proofs.lemmas.List.Elements.{All-head, All-tail, All-weaker}
use Rattle.std.proofs.lemmas.Option.{none-some, same_Some}
use Rattle.jc_model.specs.declared.event.Life.{Life}
use Rattle.jc_model.specs.Runs.{Status}
use Rattle.jc_model.specs.Legal.{InOrder, config_of}
use Rattle.jc_model.proofs.Lives.{live_within}
use Rattle.jc_engine.specs.Recording.{Recording}
use Rattle.jc_engine.proofs.Entries.{some_at}
use Rattle.jc_runner.specs.Halfway.{lives_now, IsAtRest}
use Rattle.jc_model.specs.Places.{at_place}

-- ids that rise leave room for as many
room : (least : ℕ) (lives : List Life) (n : ℕ) → InOrder least lives → All (λ l. l.id < n) lives → least ≤ n → least + length lives ≤ n
room least [] n ordered below fits = omega (arith, fits)
room least (l ∷ lives) n ordered below fits =
    let here : l.id < n = All-head (λ l. l.id < n) l lives below in
    let rest : (l.id + 1) + length lives ≤ n = room (l.id + 1) lives n ordered.1 (All-tail (λ l. l.id < n) l lives below) (omega (arith, here)) in
    let from : least ≤ l.id = ordered.0 in
    omega (arith, rest, from)

-- as many lives below a bound as there are numbers: the first has the least
module _ (least : ℕ) (l : Life) (lives : List Life) (ordered : InOrder least (l ∷ lives)) (below : All (λ l. l.id < least + length (l ∷ lives)) (l ∷ lives)) where
  others : All (λ l. l.id < least + suc (length lives)) lives
  others = All-tail (λ l. l.id < least + suc (length lives)) l lives below

  first : l.id ≡ least
  first =
      let here : l.id < least + suc (length lives) = All-head (λ l. l.id < least + suc (length lives)) l lives below in
      let rest : (l.id + 1) + length lives ≤ least + suc (length lives) = room (l.id + 1) lives (least + suc (length lives)) ordered.1 others (omega (arith, here)) in
      let from : least ≤ l.id = ordered.0 in
      omega (arith, rest, from)

  further : All (λ l'. l'.id < (l.id + 1) + length lives) lives
  further = All-weaker (λ l'. l'.id < least + suc (length lives)) (λ l'. l'.id < (l.id + 1) + length lives) (λ l' is. omega (arith, is, first)) lives others

config_at : (least : ℕ) (lives : List Life) (i : ℕ) (life : Life) → InOrder least lives → All (λ l. l.id < least + length lives) lives → slice_get lives i ≡ Some life → config_of (least + i) lives ≡ Some life.config
config_at least [] i life ordered below at = absurd (none-some life at)
config_at least (l ∷ lives) zero life ordered below at =
    let same : l.id ≡ least = first least l lives ordered below in
    let is : (l.id == least + 0) ≡ true = grind (arith, nat_tests) in
    ap (λ (b : Bool). if b then Some l.config else config_of (least + 0) lives) is ∙ ap (λ (x : Life). Some x.config) (same_Some l life at)
config_at least (l ∷ lives) (suc i) life ordered below at =
    let same : l.id ≡ least = first least l lives ordered below in
    let is : (l.id == least + suc i) ≡ false = grind (arith, nat_tests) in
    let there : (l.id + 1) + i ≡ least + suc i = omega (arith, same) in
    ap (λ (b : Bool). if b then Some l.config else config_of (least + suc i) lives) is
    ∙ subst (λ (id : ℕ). config_of id lives ≡ Some life.config) there (config_at (l.id + 1) lives i life ordered.1 (further least l lives ordered below) at)

-- the life of a live cache
pub record HasLife (r : Recording) (id : ℕ) (k : Status) : Type 0 where
  pub life : Life
  pub there : slice_get r.transcript.lives id ≡ Some life
  pub config : life.config ≡ k.config

pub life_within : (r : Recording) (id : ℕ) (k : Status) → IsAtRest r → at_place (lives_now r) id ≡ Some k → id < length r.transcript.lives
life_within r id k rest at = subst (λ (n : ℕ). id < n) (sym rest.counted) (live_within (lives_now r) id k at)

pub its_life : (r : Recording) (id : ℕ) (k : Status) → IsAtRest r → at_place (lives_now r) id ≡ Some k → HasLife r id k
its_life r id k rest at =
    let found = some_at r.transcript.lives id (life_within r id k rest at) in
    let below : All (λ l. l.id < 0 + length r.transcript.lives) r.transcript.lives =
    All-weaker (λ l. l.id < length (lives_now r)) (λ l. l.id < 0 + length r.transcript.lives) (λ l is. omega (arith, is, rest.counted)) r.transcript.lives rest.told.given in
    let here : config_of (0 + id) r.transcript.lives ≡ Some found.0.config = config_at 0 r.transcript.lives id found.0 rest.told.legal.ordered below found.1 in
    let here' : config_of id r.transcript.lives ≡ Some found.0.config = subst (λ (i : ℕ). config_of i r.transcript.lives ≡ Some found.0.config) (omega arith) here in
    record { life = found.0; there = found.1; config = same_Some found.0.config k.config (sym here' ∙ (rest.told.each id k at).0) }
