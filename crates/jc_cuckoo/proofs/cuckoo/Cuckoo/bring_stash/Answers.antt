use Rattle.std.proofs.Common.{◌≡◌, ℕ, ◌+◌, ◌*◌, ◌<◌, length, Some, sym, ap, ◌∙◌, subst, arith}
use Rattle.jc_cuckoo.specs.declared.held.Held.{Held}
use Rattle.jc_cuckoo.specs.Cells.{cell}
use Rattle.jc_cuckoo.specs.Double.{HasStash, with_stash_rows}
use Rattle.std.proofs.lemmas.List.Sorted.{length_permutation}
use Rattle.jc_cuckoo.proofs.Ordered.{doubled_ordered, ordered_cell, ordered_end, ordered_within, rows_permuted, stash_ordered}
use Rattle.jc_cuckoo.proofs.Doubled.{brought_absent, stash_brought, stash_all}
use Rattle.jc_cuckoo.proofs.cuckoo.Cuckoo.bring_stash.Goals as goal

pub stash-init : goal.stash-init
stash-init g c = let none : 4 * c.args.self.now.buckets ≡ 4 * c.args.self.now.buckets + 0 = omega arith in record {
  stash = subst (λ (at : ℕ). HasStash g.P.Placer.placing (with_stash_rows c.args.self.now c.in_ok-waiting.waiting.items) at c.args.twice.now) none (stash_ordered g.P.Placer.placing c.args.self.now c.in_ok-waiting.waiting.items c.args.twice.now c.in_ok-waiting.ensures c.requires.stash);
  total = omega arith;
  last = omega arith;
}

pub admit-requires-clause-room : goal.admit-requires-clause-room
admit-requires-clause-room g c =
    let i = c.stash.invariant in let total = i.total in let short = i.stash.short in let room = c.requires.room in let waits = c.in_ok-waiting.ensures in
    let within = ordered_within c.args.self.now c.in_ok-waiting.waiting.items c.stash.at waits (omega (arith, c.in_ok-waiting.waiting.ok.0, c.len.ensures, c.stash-test.true)) in
    let long = length_permutation c.args.self.now.cells (with_stash_rows c.args.self.now c.in_ok-waiting.waiting.items).cells waits.permutes in
    omega arith

pub admit-requires-clause-absent : goal.admit-requires-clause-absent
admit-requires-clause-absent g c =
    let i = c.stash.invariant in let waits = c.in_ok-waiting.ensures in
    let under : c.stash.at < length c.in_ok-waiting.waiting.items = omega (arith, c.in_ok-waiting.waiting.ok.0, c.len.ensures, c.stash-test.true) in
    let is : cell (with_stash_rows c.args.self.now c.in_ok-waiting.waiting.items).cells (4 * c.args.self.now.buckets + c.stash.at) ≡ Some c.same.result = ordered_cell _ _ c.in_ok-waiting.waiting.items c.stash.at c.index.result.now waits.wide under c.index.ensures ∙ ap (λ (h : Held). Some h) (sym c.same.ensures) in
    brought_absent (with_stash_rows c.args.self.now c.in_ok-waiting.waiting.items).cells c.stash.twice.cells (4 * c.args.self.now.buckets + c.stash.at) c.same.result (rows_permuted _ _ waits.permutes waits.once).0 (ordered_within c.args.self.now c.in_ok-waiting.waiting.items c.stash.at waits under) is i.stash.rows

pub stash-preserved : goal.stash-preserved
stash-preserved g c =
    let i = c.stash.invariant in let waits = c.in_ok-waiting.ensures in let total = i.total in let added = c.admit.ensures.added.total in let last = i.last in
    let under : c.stash.at < length c.in_ok-waiting.waiting.items = omega (arith, c.in_ok-waiting.waiting.ok.0, c.len.ensures, c.stash-test.true) in
    let is : cell (with_stash_rows c.args.self.now c.in_ok-waiting.waiting.items).cells (4 * c.args.self.now.buckets + c.stash.at) ≡ Some c.same.result = ordered_cell _ _ c.in_ok-waiting.waiting.items c.stash.at c.index.result.now waits.wide under c.index.ensures ∙ ap (λ (h : Held). Some h) (sym c.same.ensures) in
    let next : 4 * c.args.self.now.buckets + c.stash.at + 1 ≡ 4 * c.args.self.now.buckets + (c.stash.at + 1) = omega arith in
    record {
      stash = subst (λ (at : ℕ). HasStash g.P.Placer.placing (with_stash_rows c.args.self.now c.in_ok-waiting.waiting.items) at c.admit.new.self) next
          (stash_brought g.P.Placer.placing (with_stash_rows c.args.self.now c.in_ok-waiting.waiting.items) (4 * c.args.self.now.buckets + c.stash.at) c.stash.twice c.admit.new.self c.same.result (rows_permuted _ _ waits.permutes waits.once).0 (ordered_within c.args.self.now c.in_ok-waiting.waiting.items c.stash.at waits under) is i.stash c.admit.ensures.added c.admit.ensures.needed);
      total = omega arith;
      last = omega arith;
    }

pub returns : goal.returns
returns g c =
    let i = c.stash.invariant in let waits = c.in_ok-waiting.ensures in let last = i.last in
    let end : c.stash.at ≡ length c.in_ok-waiting.waiting.items = omega (arith, c.in_ok-waiting.waiting.ok.0, c.len.ensures, c.stash-test.false, last) in
    let long : 4 * c.args.self.now.buckets + c.stash.at ≡ length (with_stash_rows c.args.self.now c.in_ok-waiting.waiting.items).cells = ordered_end c.args.self.now c.in_ok-waiting.waiting.items c.stash.at waits end in
    let same = length_permutation c.args.self.now.cells (with_stash_rows c.args.self.now c.in_ok-waiting.waiting.items).cells waits.permutes in
    let room = c.requires.room in
    doubled_ordered g.P.Placer.placing c.args.self.now c.in_ok-waiting.waiting.items c.stash.twice waits
    (stash_all g.P.Placer.placing (with_stash_rows c.args.self.now c.in_ok-waiting.waiting.items) (4 * c.args.self.now.buckets + c.stash.at) (c.args.twice.now.room + length c.args.twice.now.cells) c.stash.twice long i.total (omega arith) i.stash)
