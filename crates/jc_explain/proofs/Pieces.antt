-- The pieces of a script, one after the other.
use Rattle.std.proofs.Common.{◌≡◌, ◌<◌, ◌+◌, ℕ, zero, suc, false, List, [], ◌∷◌, refl, map, drop, length, Bor, arith, inl, inr}
use Rattle.std.proofs.lemmas.Bool.Decides.{eqb_tells}
use Rattle.std.specs.Prelude.{◌==◌}
use Rattle.jc_explain.specs.Script.{piece_from}

abbrev shown : List (Bor (List ℕ)) → List (List ℕ)
shown pieces = map (λ piece. piece.now) pieces

apart : (n place : ℕ) → (n ≡ place → ⊥) → (n == place) ≡ false
apart n place other = elim (eqb_tells n place) [ inl same ↦ absurd (other same.1) | inr differ ↦ differ.0 ]

passed_by : (n place k : ℕ) (ps : List (Bor (List ℕ))) → k < length ps → (n == place) ≡ false → piece_from n place (shown (drop k ps)) ≡ piece_from (n + 1) place (shown (drop (k + 1) ps))
passed_by n place k [] below other = absurd (omega (arith, below))
passed_by n place zero (p ∷ ps) below other = rw other refl
passed_by n place (suc k) (p ∷ ps) below other =
    let e : suc k + 1 ≡ suc (k + 1) = omega arith in
    rw e (passed_by n place k ps (omega (arith, below)) other)

-- a piece at another place is passed over
pub passed : (n place k : ℕ) (ps : List (Bor (List ℕ))) → k < length ps → (n ≡ place → ⊥) → piece_from n place (shown (drop k ps)) ≡ piece_from (n + 1) place (shown (drop (k + 1) ps))
passed n place k ps below other = passed_by n place k ps below (apart n place other)
