use Rattle.std.proofs.Common.{arith, ◌≡◌, ◌<◌, ℕ, length, ◌∙◌}
use Rattle.jc_index.proofs.Changing.{for_none, for_one, for_two}
use Rattle.jc_index.proofs.change.stripes_of.Goals as goal

pub returns-then-writes-eq0-clause-these : goal.returns-then-writes-eq0-clause-these
returns-then-writes-eq0-clause-these c = for_none c.args.writes.now c.args.stash c.if-writes-eq0.true

pub returns-then-writes-eq1-clause-these : goal.returns-then-writes-eq1-clause-these
returns-then-writes-eq1-clause-these c = c.versions_of.ensures.these ∙ for_one c.args.writes.now c.args.stash _ c.if-writes-eq1.true

more : (n : ℕ) → (n ≡ 0 → ⊥) → (n ≡ 1 → ⊥) → 1 < n
more n a b = omega arith

pub returns-clause-these : goal.returns-clause-these
returns-clause-these c = c.versions_of-2.ensures.these ∙ for_two c.args.writes.now c.args.stash _ _ (more (length c.args.writes.now) c.if-writes-eq0.false c.if-writes-eq1.false)
