-- A table without rows.
use Rattle.std.proofs.Common.{◌≡◌, ℕ, zero, suc, ◌*◌, List, length, replicate, Option, Some, None, refl, sym, ap, ◌∙◌, subst, arith}
use Rattle.std.specs.FinMap as map
use Rattle.std.specs.Option.{IfSome}
use Rattle.std.proofs.lemmas.List.{length-replicate}
use Rattle.jc_rows.proofs.Laws.{len-empty}
use Rattle.jc_place.specs.declared.place.Place.{Place}
use Rattle.jc_place.specs.Place.{IsTableSize}
use Rattle.jc_place.proofs.Other.{size_most}
use Rattle.jc_cuckoo.specs.declared.held.Held.{Held}
use Rattle.jc_cuckoo.specs.Cells.{cell, rows_in}
use Rattle.jc_rows.specs.Images.{Image}
use Rattle.jc_cuckoo.specs.Images.{image_of}
use Rattle.jc_cuckoo.specs.Table.{IsTable, IsMirrored}

abbrev pub no_rows : ℕ → List (Option Held)
no_rows m = replicate m None

pub none_there : (m i : ℕ) → cell (no_rows m) i ≡ None
none_there zero i = refl
none_there (suc m) zero = refl
none_there (suc m) (suc i) = none_there m i

pub rows_none : (m : ℕ) → rows_in (no_rows m) ≡ map.empty
unfolding rows_in
rows_none zero = refl
rows_none (suc m) = rows_none m

never_there : {A : Type 0} (m i : ℕ) (h : Held) → cell (no_rows m) i ≡ Some h → A
never_there m i h is = let none = none_there m i in absurd cc

pub table_none : (p told : ℕ → List ℕ → Place) (images : Option (List Image)) (n : ℕ) (tags : List ℕ) (cells : List (Option Held)) → IsTableSize n → tags ≡ replicate (4 * n) 0 → cells ≡ no_rows (4 * n) → IfSome images (λ is. IsMirrored p told is (image_of n (no_rows (4 * n)))) → IsTable p told images n tags cells 0
table_none p told images n tags cells size et ec mirrored = subst (λ (l : List (Option Held)). IsTable p told images n tags l 0) (sym ec) record {
  sound = record {
    size = size;
    tag_each = ap length et ∙ length-replicate (4 * n) 0;
    wide = (let long = length-replicate {A = Option Held} (4 * n) None in omega arith);
    placed = λ i h below is. never_there (4 * n) i h is;
    tagged = λ i h below is. never_there (4 * n) i h is;
    once = λ i j h k ih jk same. never_there (4 * n) i h ih;
    stash = λ i above below none. (let long = length-replicate {A = Option Held} (4 * n) None in omega arith);
  };
  short = (let long = length-replicate {A = Option Held} (4 * n) None in let most = size_most n size in omega arith);
  counted = sym (ap map.len (rows_none (4 * n)) ∙ len-empty);
  mirrored = mirrored;
}
