-- Why a file can't be read.
use Rattle.std.specs.Prelude.{ℕ, List, ◌++◌, Option, Some, codes}
use Rattle.std.specs.declared.io.ErrorKind.{ErrorKind}
use Rattle.std.specs.declared.io.ErrorKind.TheVariants.{NotFound, PermissionDenied, IsADirectory, NotADirectory}

-- what the system answered, in words
abbrev pub reason_of : Option ErrorKind → List ℕ
reason_of (Some NotFound) = codes "no such file"
reason_of (Some PermissionDenied) = codes "permission denied"
reason_of (Some IsADirectory) = codes "is a directory"
reason_of (Some NotADirectory) = codes "a part of its path is no directory"
reason_of _ = codes "the system gives another reason"

-- the path in which a fault is
abbrev pub path_line : List ℕ → List ℕ
path_line path = codes "  in " ++ (path ++ codes "\n")

abbrev pub unread_line : List ℕ → Option ErrorKind → List ℕ
unread_line path kind = codes "  " ++ (path ++ (codes ": " ++ (reason_of kind ++ codes "\n")))
