use Rattle.std.proofs.Common.{◌≡◌, ◌+◌, ◌++◌, None, length, replicate, vec_capacity}
use Rattle.jc_ops.proofs.StateNames.{ListsVacant}
use Rattle.jc_ops.proofs.slots.add_vacant.Given as goal

-- the rows that are added so far are vacant
abbrev pub invariant-loop-added : goal.invariant-loop-added
invariant-loop-added l = record {
  grown : l.records.items ≡ l.fn.records.items ++ replicate l.added None;
  rows : length l.records.items ≡ length l.fn.records.items + l.added;
  many : length l.vacant.items ≡ length l.fn.vacant.items + l.added;
  listed : ListsVacant l.fn.records.items l.fn.vacant.items → ListsVacant l.records.items l.vacant.items;
  room : vec_capacity l.records ≡ vec_capacity l.fn.records;
  numbers : vec_capacity l.vacant ≡ vec_capacity l.fn.vacant;
}
