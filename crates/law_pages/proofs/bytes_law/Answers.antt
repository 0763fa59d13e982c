use Rattle.law_pages.proofs.Bytes.{images_are_of_bytes}
use Rattle.law_pages.proofs.bytes_law.Goals as goal

pub returns : goal.returns
returns c = images_are_of_bytes
