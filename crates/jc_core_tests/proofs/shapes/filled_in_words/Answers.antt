use Rattle.std.proofs.Common.{ℕ, List, ap, ◌∙◌}
use Rattle.jc_place.specs.declared.place.Place.{Place}
use Rattle.jc_rows.specs.Images.{Image, last_image}
use Rattle.jc_index.specs.Indexes.{Index}
use Rattle.jc_trials.specs.declared.placers.TablePlacer.{TablePlacer}
use Rattle.jc_trials.specs.Places.{listed_place}
use Rattle.jc_core_tests.proofs.shapes.filled_in_words.Goals as goal

abbrev placing_of : TablePlacer → ℕ → List ℕ → Place
placing_of placer id key = listed_place placer.firsts placer.tags key

abbrev told_by : Index TablePlacer → ℕ → List ℕ → Place
told_by words = placing_of words.placer

abbrev last_of : Index TablePlacer → Image
last_of words = last_image words.images

pub new-requires : goal.new-requires
new-requires g c = record { mirror = record { placer = ap told_by c.named.ensures ∙ ap placing_of c.requires.placer; last = ap last_of c.named.ensures ∙ ap last_image c.requires.images } }
