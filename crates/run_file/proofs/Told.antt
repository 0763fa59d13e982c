-- From the bytes that were read to the text of a source.
use Rattle.std.proofs.Common.{◌≡◌, ℕ, ◌+◌, ◌<◌, List, ◌++◌, length, length-append, Option, Some, None, sym, ap, ◌∙◌, arith}
use Rattle.std.specs.Io.KnownBytes.{prepend_known}
use Rattle.std.proofs.lemmas.Option.{same_Some, none-some}
use Rattle.spec_script.specs.Texts.{longest_text}

-- a text that is longer than what was read of it is too long where that is
longer : (text bytes : List ℕ) (new : Option (List ℕ)) → Some text ≡ prepend_known bytes new → longest_text < length bytes → longest_text < length text
longer text bytes None read long = absurd (none-some text (sym read))
longer text bytes (Some rest) read long =
    let whole : length text ≡ length bytes + length rest = ap length (same_Some text (bytes ++ rest) read) ∙ length-append bytes rest in
    omega (arith, whole, long)
