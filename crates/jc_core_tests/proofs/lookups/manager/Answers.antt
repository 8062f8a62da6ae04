use Rattle.std.proofs.Common.{ap, sym, refl, ◌∙◌}
use Rattle.jc_rows.specs.Images.{last_image}
use Rattle.jc_cuckoo.specs.Images.{image_of}
use Rattle.jc_core_tests.proofs.lookups.manager.Goals as goal

pub with_mirror-requires : goal.with_mirror-requires
with_mirror-requires g c =
    let table = c.in_ok-table.ensures in
    record {
      mirror = record {
        placer = refl;
        last = ap last_image c.requires ∙ (λ i. image_of (sym table.parts.2 i) (sym table.slots i));
      };
    }
