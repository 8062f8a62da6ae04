use Rattle.std.proofs.Common.{◌≡◌, ◌≤◌, ap, sym, ◌∙◌, ℕ, arith, length, take, List}
use Rattle.std.proofs.Math.Seq.{take-length}
use Rattle.std.proofs.lemmas.List.Elements.{recursion_from_All}
use Rattle.jc_model.specs.declared.config.CacheConfig.{CacheConfig}
use Rattle.jc_model.specs.Limits.{most_processors}
use Rattle.jc_script.proofs.KeptCaches.{new_name, room_left, at_first, few_first}
use Rattle.jc_script.proofs.live.Live.new.Goals as goal

pub add-requires-clause-new : goal.add-requires-clause-new
add-requires-clause-new c =
    let own = new_name c.args.settings.now c.loop-cache.cache-index c.cache-item.result (rw c.caches-cache-items.ensures.same at c.loop-cache-test.true) c.caches-cache-items.ensures.named in
    rw (c.loop-cache.invariant.roster, c.loop-cache.invariant.caches) (rw (sym (rw c.caches-cache-items.ensures.same at c.cache-item.is)) at own)

below : (a b d : ℕ) → a ≤ b → b ≤ d → a ≤ d
below a b d low high = omega (arith, low, high)

pub add-requires-clause-rows : goal.add-requires-clause-rows
add-requires-clause-rows c =
    let left = room_left c.args.settings.now c.loop-cache.cache-index c.cache-item.result (rw c.caches-cache-items.ensures.same at c.loop-cache-test.true) in
    let here = rw (sym (rw c.caches-cache-items.ensures.same at c.cache-item.is)) at left in
    rw (c.loop-cache.invariant.roster, c.loop-cache.invariant.caches) (below _ _ _ here c.caches-cache-items.ensures.fits)

all_taken : (cs : List CacheConfig) (i : ℕ) → i ≤ length cs → length cs ≤ i → take i cs ≡ cs
all_taken cs i up_to down_to = let same : i ≡ length cs = omega (arith, up_to, down_to) in ap (λ n. take n cs) same ∙ take-length cs

pub invariant_of-result : goal.invariant_of-result
invariant_of-result c =
    let all = all_taken c.args.settings.now c.loop-cache.cache-index (rw c.caches-cache-items.ensures.same at c.loop-cache.auto.cache-index-end) (rw c.caches-cache-items.ensures.same at c.loop-cache-test.false) in
    record {
      listed = c.loop-cache.invariant.roster;
      few = rw (c.loop-cache.invariant.caches, all) (few_first c.args.settings.now (recursion_from_All (λ x. length x.processors ≤ most_processors) c.args.settings.now c.caches-cache-items.ensures.processors));
    }

pub returns : goal.returns
returns c =
    let all = all_taken c.args.settings.now c.loop-cache.cache-index (rw c.caches-cache-items.ensures.same at c.loop-cache.auto.cache-index-end) (rw c.caches-cache-items.ensures.same at c.loop-cache-test.false) in
    rw (c.loop-cache.invariant.caches, all) (at_first c.args.settings.now)
