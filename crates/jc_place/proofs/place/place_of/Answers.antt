use Rattle.std.proofs.Common.{ℕ, ◌+◌, ◌/◌, ◌%◌, ◌^◌, ap}
use Rattle.std.proofs.lemmas.Nat.{and_mask}
use Rattle.jc_place.proofs.place.place_of.Goals as goal

pub returns-clause-place : goal.returns-clause-place
returns-clause-place c = ap (λ (n : ℕ). record { first = n; tag = 1 + c.args.hash / 2 ^ 32 % 255 }) (and_mask c.args.hash 32)
