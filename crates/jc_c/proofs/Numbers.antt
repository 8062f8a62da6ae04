-- A number leads back to its status.
use Rattle.std.proofs.Common.{◌≡◌, ℕ, nat_eq, if◌then◌else◌, List, [], ◌∷◌, Option, Some, None, refl, sym, ap, ◌∙◌}
use Rattle.jc_c.specs.declared.status.Status.{Status}
use Rattle.jc_c.specs.declared.status.Status.TheVariants as status
use Rattle.jc_c.specs.Status.{status_number}

abbrev all : List Status
all =
    status.Done ∷ status.False ∷ status.True ∷ status.Found ∷ status.Nothing ∷ status.Listed ∷ status.Results ∷
    status.Counted ∷ status.LoaderFailed ∷ status.WriterFailed ∷ status.ProcessorFailed ∷ status.NeedLoad ∷
    status.NeedWrite ∷ status.NeedDelete ∷ status.NeedProcess ∷ status.NeedTell ∷ status.NoSuchCache ∷ status.Busy ∷
    status.NoSuchProcessor ∷ status.NoTurn ∷ status.WrongAnswer ∷ status.OutOfMemory ∷ status.TooManyCaches ∷
    status.BadCapacity ∷ status.TooManyListeners ∷ status.TooManyProcessors ∷ status.DuplicateName ∷
    status.TotalCapacity ∷ status.IdsSpent ∷ status.Closed ∷ status.InUse ∷ status.BadKey ∷ status.BadValue ∷
    status.BadLengths ∷ status.TooManyKeys ∷ status.DuplicateKey ∷ status.BadChoice ∷ status.NoItem ∷
    status.ShortBuffer ∷ status.BadSave ∷ status.OtherVersion ∷ []

abbrev first_of : List Status → ℕ → Option Status
first_of [] n = None
first_of (s ∷ statuses) n = if nat_eq (status_number s) n then Some s else first_of statuses n

back : (s : Status) → first_of all (status_number s) ≡ Some s
back status.Done = refl
back status.False = refl
back status.True = refl
back status.Found = refl
back status.Nothing = refl
back status.Listed = refl
back status.Results = refl
back status.Counted = refl
back status.LoaderFailed = refl
back status.WriterFailed = refl
back status.ProcessorFailed = refl
back status.NeedLoad = refl
back status.NeedWrite = refl
back status.NeedDelete = refl
back status.NeedProcess = refl
back status.NeedTell = refl
back status.NoSuchCache = refl
back status.Busy = refl
back status.NoSuchProcessor = refl
back status.NoTurn = refl
back status.WrongAnswer = refl
back status.OutOfMemory = refl
back status.TooManyCaches = refl
back status.BadCapacity = refl
back status.TooManyListeners = refl
back status.TooManyProcessors = refl
back status.DuplicateName = refl
back status.TotalCapacity = refl
back status.IdsSpent = refl
back status.Closed = refl
back status.InUse = refl
back status.BadKey = refl
back status.BadValue = refl
back status.BadLengths = refl
back status.TooManyKeys = refl
back status.DuplicateKey = refl
back status.BadChoice = refl
back status.NoItem = refl
back status.ShortBuffer = refl
back status.BadSave = refl
back status.OtherVersion = refl

from_some : {A : Type 0} (x y : A) → Some x ≡ Some y → x ≡ y
from_some x y e = cc

pub numbers_differ : (a b : Status) → status_number a ≡ status_number b → a ≡ b
numbers_differ a b e = from_some a b (sym (back a) ∙ ap (first_of all) e ∙ back b)
