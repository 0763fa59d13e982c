-- A legal history makes files of bytes.
use Rattle.law_run.proofs.Legal.{legal_puts_bytes}
use Rattle.law_run.proofs.OfBytes.{final_bytes, view_bytes}
use Rattle.law_pages.specs.Bytes.{ImagesAreOfBytes}

pub images_are_of_bytes : ImagesAreOfBytes
images_are_of_bytes run log t start legal =
    let puts = legal_puts_bytes run log start legal in
    (final_bytes run.opened log run.image puts start.pages, view_bytes run.opened log run.image t puts start.pages)
