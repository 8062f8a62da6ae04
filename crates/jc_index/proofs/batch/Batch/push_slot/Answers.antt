use Rattle.std.proofs.Common.{◌+◌, ℕ, List, [], ◌∷◌, ◌++◌, take, get_or, rules, arith, ap, sym, ◌∙◌, append_assoc}
use Rattle.jc_index.specs.Batches.{placed_at}
use Rattle.jc_index.proofs.Coding.{placed_more}
use Rattle.jc_index.proofs.batch.Batch.push_slot.Goals as goal

pub loop-k-preserved : goal.loop-k-preserved
loop-k-preserved c =
    let k = c.loop-k.k in
    let old : List (ℕ × ℕ) = take c.args.self.now.length c.args.self.now.writes in
    let x : List (ℕ × ℕ) = (c.args.first + k, get_or c.args.words k 0) ∷ [] in (
      c.push.ensures.0 ∙ (ap (λ (l : List (ℕ × ℕ)). l ++ x) c.loop-k.invariant.0 ∙ (append_assoc old (placed_at c.args.first (take k c.args.words)) x ∙ ap (λ (l : List (ℕ × ℕ)). old ++ l) (sym (placed_more c.args.first c.args.words k (search rules))))),
      omega (arith, c.push.ensures.1, c.loop-k.invariant.1),
    )
