use Rattle.std.proofs.Common.{◌≡◌, ◌++◌, ◌<◌, ℕ, take, get_or, Option, option_map}
use Rattle.jc_cuckoo.specs.declared.held.Held.{Held}
use Rattle.jc_cuckoo.specs.Images.{grown_image, shown_row}
use Rattle.jc_index.specs.StripeLayout.{versions_at}
use Rattle.jc_index.specs.Spelling.{IsCoded, words_of_image}
use Rattle.jc_index.proofs.fill.fill_words.Given as goal

abbrev pub invariant-loop-i : goal.invariant-loop-i
invariant-loop-i l = (l.words.items ≡ versions_at 0 ++ words_of_image (grown_image (take l.i l.slots) l.stash)) × ((k : ℕ) (d : Option Held) → k < l.i → IsCoded (option_map shown_row (get_or l.slots k d)))
