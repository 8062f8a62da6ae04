-- How the shared words are laid: the versions, which are one for each stripe and the common one, and then the content.
use Rattle.std.specs.Prelude.{◌≡◌, ℕ, ◌+◌, List, ◌++◌, drop, replicate}

abbrev pub stripe_count : ℕ
stripe_count = 64

-- the version that every lookup reads
abbrev pub common : ℕ
common = stripe_count

abbrev pub version_count : ℕ
version_count = stripe_count + 1

-- all versions are this number
abbrev pub versions_at : ℕ → List ℕ
versions_at start = replicate version_count start

-- what follows the versions
abbrev pub content_of : List ℕ → List ℕ
content_of words = drop version_count words

-- all versions of these words are this number
abbrev pub HasVersionsAt : ℕ → List ℕ → Type 0
HasVersionsAt start words = words ≡ versions_at start ++ content_of words
