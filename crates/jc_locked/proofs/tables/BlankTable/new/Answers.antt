use Rattle.std.proofs.Common.{◌∷◌, [], sym, ◌∙◌}
use Rattle.jc_cuckoo.specs.Images.{image_of}
use Rattle.jc_locked.proofs.tables.BlankTable.new.Goals as goal

pub invariant_of-result : goal.invariant_of-result
invariant_of-result c =
    let table = c.in_ok-table.ensures in
    let words = c.in_ok-words.ensures.words in
    record {
      cells_are = table.slots.0;
      placer_is = words.1 ∙ (c.new.ensures ∙ sym table.placer);
      images_are = words.0 ∙ (λ i. image_of (sym table.slots.1 i) (sym table.slots.0 i) ∷ []);
    }
