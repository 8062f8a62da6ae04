use Rattle.std.proofs.Common.{◌≡◌, ◌⊎◌, ℕ, List, None, Some, inr, subst}
use Rattle.jc_rows.specs.Images.{last_image}
use Rattle.jc_index.specs.Found.{found_in_image}
use Rattle.jc_index.specs.Passes.{HasMoved, images_of}
use Rattle.jc_index.proofs.pass.Pass.lookup.Goals as goal

pub returns-clause-sure : goal.returns-clause-sure
returns-clause-sure g c b e =
    let reader = c.look_up.new.reader in
    let sought = c.new-sought.ensures in
    subst (λ (z : ℕ × List ℕ × ℕ). found_in_image (last_image (images_of reader)) z.0 z.1 z.2 ≡ Some b) (λ i. (sought.0 i, sought.1 i, sought.2 i)) (c.look_up.ensures.sure b e)

pub returns-clause-unsure : goal.returns-clause-unsure
returns-clause-unsure g c e =
    let reader = c.look_up.new.reader in
    let sought = c.new-sought.ensures in
    inr (subst (λ (z : ℕ × List ℕ × ℕ). HasMoved reader ⊎ (found_in_image (last_image (images_of reader)) z.0 z.1 z.2 ≡ None)) (λ i. (sought.0 i, sought.1 i, sought.2 i)) (c.look_up.ensures.unsure e))
