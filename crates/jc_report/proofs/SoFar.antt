-- Lines that are told one after the other, as a loop does.
use Rattle.std.proofs.Common.{◌≡◌, ℕ, ◌+◌, ◌≤◌, arith, Option, Some, None, List, [], ◌∷◌, ◌++◌, refl, sym, ◌∙◌, append_assoc, append-nil}
use Rattle.std.specs.HashMap.{HashMap}
use Rattle.jc_model.specs.declared.event.Entry.{Entry}
use Rattle.jc_model.specs.declared.event.Life.{Life}
use Rattle.jc_model.specs.declared.event.CreateRefusal.{CreateRefusal}
use Rattle.jc_script.specs.declared.managed.Managed.{Managed}
use Rattle.jc_report.specs.declared.line_numbers.Asked.{Asked}
use Rattle.jc_report.specs.declared.line_numbers.Asked.TheVariants as asked
use Rattle.jc_report.specs.declared.line_numbers.NumberedLine.{NumberedLine}
use Rattle.jc_report.specs.Callers.{AreLeft}
use Rattle.jc_report.specs.Lines.{line_json, lines_json, id_unless, next_after, entries_left_by, managed_after}
use Rattle.jc_report.specs.Outline.{numbered_lines}

-- the text so far, and then that of the lines that are left, is all
pub record IsSoFar {S : Type 0} (lives : List Life) (text : List ℕ) (next : ℕ) (left : List NumberedLine) (callers : HashMap (ℕ × ℕ) (List Entry) S) (managed : List Managed) (initial : List ℕ) (first : ℕ) (outline : List NumberedLine) (all : List Entry) (all_managed : List Managed) : Type 0 where
  pub entries : List Entry
  pub are_left : AreLeft callers entries
  pub told : text ++ lines_json lives next left entries managed ≡ initial ++ lines_json lives first outline all all_managed

pub begins : {S : Type 0} (lives : List Life) (text : List ℕ) (first : ℕ) (outline : List NumberedLine) (callers : HashMap (ℕ × ℕ) (List Entry) S) (entries : List Entry) (managed : List Managed)
    → AreLeft callers entries → IsSoFar lives text first outline callers managed text first outline entries managed
begins lives text first outline callers entries managed are_left = record { entries = entries; are_left = are_left; told = refl }

pub goes_on : {S : Type 0} (lives : List Life) (text text' : List ℕ) (next next' : ℕ) (line : NumberedLine) (left left' : List NumberedLine) (callers callers' : HashMap (ℕ × ℕ) (List Entry) S) (managed managed' : List Managed) (initial : List ℕ) (first : ℕ) (outline : List NumberedLine) (all : List Entry) (all_managed : List Managed)
    → left ≡ line ∷ left' → next' ≡ next_after line.asked managed next → managed' ≡ managed_after line.asked managed
    → ((entries : List Entry) → AreLeft callers entries → text' ≡ text ++ line_json lives line.number next line.asked entries managed)
    → ((entries : List Entry) → AreLeft callers entries → AreLeft callers' (entries_left_by line.asked entries))
    → IsSoFar lives text next left callers managed initial first outline all all_managed → IsSoFar lives text' next' left' callers' managed' initial first outline all all_managed
goes_on lives text text' next next' line left left' callers callers' managed managed' initial first outline all all_managed cut nexts manages tells leaves so_far = record {
  entries = entries_left_by line.asked so_far.entries;
  are_left = leaves so_far.entries so_far.are_left;
  told = rw (nexts, manages, tells so_far.entries so_far.are_left) (append_assoc text (line_json lives line.number next line.asked so_far.entries managed) (lines_json lives (next_after line.asked managed next) left' (entries_left_by line.asked so_far.entries) (managed_after line.asked managed))
      ∙ (let before = so_far.told in rw cut at before));
}

pub ends : {S : Type 0} (lives : List Life) (text : List ℕ) (next : ℕ) (left : List NumberedLine) (callers : HashMap (ℕ × ℕ) (List Entry) S) (managed : List Managed) (initial : List ℕ) (first : ℕ) (outline : List NumberedLine) (all : List Entry) (all_managed : List Managed)
    → left ≡ [] → IsSoFar lives text next left callers managed initial first outline all all_managed → text ≡ initial ++ lines_json lives first outline all all_managed
ends lives text next left callers managed initial first outline all all_managed none so_far = sym (append-nil text) ∙ (let told = so_far.told in rw none at told)

-- a line begins one life at most
pub next_few : (a : Asked) (managed : List Managed) (next : ℕ) → next_after a managed next ≤ next + 1
next_few (asked.Call session id) managed next = omega arith
next_few asked.Create [] next = omega arith
next_few asked.Create (m ∷ ms) next = by m.refusal
  where
    by : (o : Option CreateRefusal) → id_unless o next ≤ next + 1
    by None = omega arith
    by (Some refusal) = omega arith
next_few (asked.Destroy id) managed next = omega arith

-- no lines, whatever the numbers
pub none_left : (ns : List ℕ) → numbered_lines ns [] ≡ []
none_left [] = refl
none_left (n ∷ ns) = refl
