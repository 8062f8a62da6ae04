-- What the machine hands over.
use Rattle.std.specs.Prelude.{string_bytes, ⊤}
use Rattle.jc_cli.specs.NoText.{IsToldOfWords}
use Rattle.jc_cli.specs.declared.ending.WordsFault.{WordsFault}
use Rattle.jc_cli.specs.declared.ending.WordsFault.TheVariants.{NotText, Explained, OutOfMemory}

-- a fault of words of which one is no text
abbrev pub IsOfNoText : WordsFault → Type 0
IsOfNoText NotText = ⊤
IsOfNoText (Explained text) = IsToldOfWords (string_bytes text)
IsOfNoText OutOfMemory = ⊥
