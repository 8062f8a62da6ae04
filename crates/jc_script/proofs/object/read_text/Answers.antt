use Rattle.std.proofs.Common.{◌≡◌, [], rules, true, false}
use Rattle.json.specs.Value.{value_view}
use Rattle.jc_script.specs.Tree.{has_numbers}
use Rattle.jc_script.proofs.Trees.{all_read, number_refused}
use Rattle.jc_script.proofs.object.read_text.Goals as goal

pub returns-then-not-has_numbers : goal.returns-then-not-has_numbers
returns-then-not-has_numbers c =
    let none : c.read.new.reader ≡ [] = search rules in
    let unfit : has_numbers (value_view c.in-Ok.value) ≡ false = search rules in
    number_refused c.args.text.now (value_view c.in-Ok.value) (rw (c.in_ok-reader.ensures.ok, none) at c.in-Ok.ensures.ok) unfit

pub returns : goal.returns
returns c =
    let none : c.read.new.reader ≡ [] = search rules in
    let fit : has_numbers (value_view c.in-Ok.value) ≡ true = search rules in
    all_read c.args.text.now (value_view c.in-Ok.value) (rw (c.in_ok-reader.ensures.ok, none) at c.in-Ok.ensures.ok) fit
