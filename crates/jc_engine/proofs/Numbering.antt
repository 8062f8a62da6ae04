-- The rows of a cache by their numbers.
use Rattle.std.proofs.Common.{◌≡◌, ◌≤◌, ℕ, Some, None, sym, ◌∙◌}
use Rattle.jc_engine.proofs.Names.{length-map, Slot, cache_in, item_of}
use Rattle.jc_engine.specs.Caches.{NumbersRows, row_in}
use Rattle.jc_ops.proofs.Numbers.{apart as numbers_apart, seek-numbered}
use Rattle.jc_ops.specs.Shelf.{Cell, seek}
use Rattle.jc_ops.specs.Tied.{Distinct}

pub row_here : (n : ℕ) (cache : Slot) → seek n cache.state.cells ≡ row_in n (Some (cache_in cache))
row_here n cache = seek-numbered n cache.state.cells

pub numbers_here : (cache : Slot) → Distinct cache.state.cells → ((n : ℕ) → cache.state.config.capacity ≤ n → seek n cache.state.cells ≡ None) → NumbersRows (Some (cache_in cache))
numbers_here cache distinct below = record {
  each = length-map cache.state.cells (λ (c : Cell). c.row) ∙ sym (length-map cache.state.cells item_of);
  apart = numbers_apart cache.state.cells distinct;
  below = λ n past. sym (seek-numbered n cache.state.cells) ∙ below n past;
}
