-- What page 0 says of a file whose size has passed.
use Rattle.std.proofs.Common.{◌≡◌, ℕ, Bool, true, false, IsTrue, not, if◌then◌else◌, List, Option, Some, None, IfSome, option_map, length, refl, sym, ◌∙◌}
use Rattle.std.specs.Option.{ForSome}
use Rattle.spec_file.specs.Image.{pages_of, page}
use Rattle.spec_file.specs.FileForm.{size_passes}
use Rattle.spec_start.specs.declared.why.FileWhy.{FileWhy}
use Rattle.spec_start.specs.declared.why.FileWhy.TheVariants as why
use Rattle.spec_start.specs.Files.{opening_fault, file_fault}
use Rattle.run_file.proofs.OpeningLaws.{after_size}
use Rattle.checkdb_top.specs.Form.{IsRefusedFor, Passes}

-- the first test that page 0 fails, or that it passes all, is the file's
pub told_fault : (told : Option (List ℕ)) (pages : ℕ) (first : List ℕ) (fault : Option FileWhy)
    → ForSome (option_map pages_of told) (λ image. length image ≡ pages) → IfSome told (λ file. IsTrue (size_passes (length file)))
    → IfSome (option_map pages_of told) (λ image. first ≡ page image 0) → opening_fault pages first ≡ fault
    → IfSome told (λ file. file_fault file ≡ fault)
told_fault None pages first fault whole passes is h = tt
told_fault (Some file) pages first fault whole passes is h =
    let opened : opening_fault (length (pages_of file)) (page (pages_of file) 0) ≡ fault = rw (whole (pages_of file) refl, ← is) h in
    sym (after_size file passes) ∙ opened

-- a file of a wrong size fails that test first
size_first : (size : Bool) (fault : Option FileWhy) → size ≡ false → (if not size then Some why.Size else fault) ≡ Some why.Size
size_first size fault fails = rw fails refl

pub wrong_size : (file : List ℕ) → size_passes (length file) ≡ false → IsRefusedFor why.Size file
wrong_size file fails = size_first (size_passes (length file)) _ fails

pub told_fails : (told : Option (List ℕ)) (size : ℕ) (passed : Bool) → IfSome told (λ file. size ≡ length file)
    → passed ≡ size_passes size → passed ≡ false → IfSome told (IsRefusedFor why.Size)
told_fails None size passed is tested no_ = tt
told_fails (Some file) size passed is tested no_ = size_first (size_passes (length file)) _ (rw (← is) (sym tested ∙ no_))

size_right : (size : Bool) (fault : Option FileWhy) → (if not size then Some why.Size else fault) ≡ None → size ≡ true
size_right true fault passes = refl
size_right false fault passes = cc

-- the size of a file that passes its tests is right
pub told_size : (told : Option (List ℕ)) → IfSome told Passes → IfSome told (λ file. IsTrue (size_passes (length file)))
told_size None passes = tt
told_size (Some file) passes = size_right (size_passes (length file)) _ passes
