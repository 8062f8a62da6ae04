use Rattle.std.proofs.Common.{◌≡◌, ℕ, List, refl}
use Rattle.std.specs.Hash.DefaultHasher as sip
use Rattle.std.specs.Int.{to_le_bytes, w64}
use Rattle.jc_shards.specs.Dealing.{hash_of}
use Rattle.jc_shards.proofs.shard_map.hash_of.Goals as goal

hash_is : (seed : ℕ) (name : List ℕ) → sip.finish (sip.write (sip.write sip.initial (to_le_bytes w64 seed)) name) ≡ hash_of seed name
unfolding hash_of
hash_is seed name = refl

pub returns : goal.returns
returns c = rw (← hash_is c.args.seed c.args.name.now, c.finish.ensures, c.write-2.ensures, c.write.ensures, c.new-hasher.ensures, c.to_le_bytes.ensures, c.as_bytes.ensures.value, c.text.ensures.same) refl
