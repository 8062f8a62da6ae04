use Rattle.std.proofs.Common.{◌≡◌, ℕ, List, fold, refl, sym, ap, ◌∙◌}
use Rattle.std.specs.Int.{to_le_bytes, w32}
use Rattle.std.specs.Int.Bits.{bit_xor}
use Rattle.std.proofs.lemmas.List.Sums.{fold-append}
use Rattle.jc_place.specs.Place.{place_of_hash}
use Rattle.jc_place.specs.Seeded.{fnv_step, seeded_hash}
use Rattle.jc_place.proofs.seeded.SeededPlacerPlacer.place.Goals as goal

-- a walk over the id and a walk over the key are one walk
hash_is : (seed id hash : ℕ) (key : List ℕ) → hash ≡ fold fnv_step (fold fnv_step (bit_xor 0xcbf29ce484222325 seed) (to_le_bytes w32 id)) key → hash ≡ seeded_hash seed id key
unfolding seeded_hash
hash_is seed id hash key is = is ∙ sym (fold-append fnv_step (bit_xor 0xcbf29ce484222325 seed) (to_le_bytes w32 id) key)

pub returns-clause-same : goal.returns-clause-same
returns-clause-same c =
    let seed = c.self.inside.seed in
    let walked : c.walk.result ≡ fold fnv_step (fold fnv_step (bit_xor 0xcbf29ce484222325 seed) (to_le_bytes w32 c.args.id)) c.args.key.now = rw (c.walk.ensures, c.walk_number-of_id.ensures, c.number.ensures, c.as_bytes.ensures.value, c.text.ensures.same) refl in
    rw (← c.self.view_is) (c.place_of.ensures.place ∙ ap place_of_hash (hash_is seed c.args.id c.walk.result c.args.key.now walked))
