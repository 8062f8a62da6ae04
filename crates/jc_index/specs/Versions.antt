-- The versions that a lookup or a commit takes.
use Rattle.std.specs.Prelude.{ℕ, ◌==◌, Bool, true, false, List, [], ◌∷◌, ◌++◌, nat_lt}
use Rattle.jc_index.specs.StripeLayout.{common}
use Rattle.jc_index.specs.Layout.{stripe_of}

abbrev pub version_pair_by : Bool → Bool → ℕ → ℕ → List ℕ
version_pair_by true less a b = a ∷ []
version_pair_by false true a b = a ∷ b ∷ []
version_pair_by false false a b = b ∷ a ∷ []

-- each once, and the lower number first
abbrev pub version_pair : ℕ → ℕ → List ℕ
version_pair a b = version_pair_by (a == b) (nat_lt a b) a b

abbrev pub stash_if : Bool → List ℕ
stash_if true = common ∷ []
stash_if false = []

abbrev pub versions_of : ℕ → ℕ → Bool → List ℕ
versions_of one two stash = version_pair (stripe_of one) (stripe_of two) ++ stash_if stash

-- a list from its end, and then another
abbrev pub onto : List ℕ → List ℕ → List ℕ
onto [] done = done
onto (j ∷ js) done = onto js (j ∷ done)

-- the versions that a lookup reads for a key of these two buckets, the last one first
abbrev pub read_for : ℕ × ℕ → List ℕ
read_for place = onto (versions_of place.0 place.1 true) []
