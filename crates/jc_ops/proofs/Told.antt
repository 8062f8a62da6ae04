-- How many notices a change, a line and a step may tell at most.
use Rattle.jc_ops.proofs.Names.{common_steps, ◌≤◌, arith, Bool, false, Op, Put, absent_line, told_of, told_by, told_on, most_told}
use Rattle.jc_model.specs.declared.table.Ask.{Ask}
use Rattle.jc_model.specs.declared.table.Change.{Change}

told_most : (there : Bool) (a : Ask) (ch : Change) → told_by there a ch ≤ told_of there Put
told_most there a ch = grind (arith, common_steps)

pub most_three : (o : Op) → most_told false o ≤ 3
most_three o = let most : told_on false o ≤ 2 = told_most false (absent_line o).asks (absent_line o).change in omega (arith, most)

pub most_absent : (there : Bool) (o : Op) → most_told there o ≤ most_told false o
most_absent there o = grind (arith, common_steps)
