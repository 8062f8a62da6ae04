-- What holds everywhere in a run, holds after each answer; and in two runs, one after the other.
use Rattle.std.proofs.lemmas.Grind.{common_steps}
use Rattle.jc_model.proofs.Names.{ℕ, ◌+◌, ◌-◌, ◌≤◌, arith, List, [], ◌∷◌, Answer, Reply, Request, Progress, Run, ended, waiting, and_then, resume, answered, AtEach, Within, Goes}

module _ (W : Request → Progress → Type 0) (E : Progress → Reply → Type 0) where
  pub at_each-resume : (run : Run) (a : Answer) → AtEach W E run → AtEach W E (resume run a)
  at_each-resume run a h = grind (arith, common_steps)

  pub at_each-answered : (run : Run) (given : List Answer) → AtEach W E run → AtEach W E (answered run given)
  at_each-answered run [] h = h
  at_each-answered run (a ∷ given) h = at_each-answered (resume run a) given (at_each-resume run a h)

  pub at_each-and_then : (F : Progress → Reply → Type 0) (run : Run) (next : Progress → Reply → Run) → AtEach W E run → ((p : Progress) (r : Reply) → E p r → AtEach W F (next p r)) → AtEach W F (and_then run next)
  at_each-and_then F (ended p r) next h g = g p r h
  at_each-and_then F (waiting q p resumed) next h g = (h.0, λ a. at_each-and_then F (resumed a) next (h.1 a) g)

  pub goes-at_each : (n : ℕ) (run : Run) → Goes W E n run → AtEach W E run
  goes-at_each n (ended p r) g = g
  goes-at_each n (waiting q p resumed) g = (g.1, λ a. goes-at_each (n - 1) (resumed a) (g.2 a))

  pub goes-within : (n : ℕ) (run : Run) → Goes W E n run → Within n run
  goes-within n (ended p r) g = tt
  goes-within n (waiting q p resumed) g = (g.0, λ a. goes-within (n - 1) (resumed a) (g.2 a))

  pub goes-more : (m n : ℕ) (run : Run) → m ≤ n → Goes W E m run → Goes W E n run
  goes-more m n (ended p r) le g = g
  goes-more m n (waiting q p resumed) le g = (omega (arith, g.0, le), g.1, λ a. goes-more (m - 1) (n - 1) (resumed a) (omega (arith, le)) (g.2 a))

module _ (W : Request → Progress → Type 0) (E F : Progress → Reply → Type 0) where
  pub goes-and_then : (m n : ℕ) (run : Run) (next : Progress → Reply → Run) → Goes W E m run → ((p : Progress) (r : Reply) → E p r → Goes W F n (next p r)) → Goes W F (m + n) (and_then run next)
  goes-and_then m n (ended p r) next g h = goes-more W F n (m + n) (next p r) (omega arith) (h p r g)
  goes-and_then m n (waiting q p resumed) next g h =
      (omega (arith, g.0), g.1, λ a. goes-more W F ((m - 1) + n) ((m + n) - 1) (and_then (resumed a) next) (omega (arith, g.0)) (goes-and_then (m - 1) n (resumed a) next (g.2 a) h))
