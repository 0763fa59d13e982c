-- The pages of a new file, written one after another.
use Rattle.std.proofs.Common.{◌≡◌, refl, ℕ, ◌+◌, ◌*◌, ◌<◌, ◌≤◌, List, [], ◌∷◌, ◌++◌, length, take, drop, ap, sym, ◌∙◌, arith, subst, append-nil}
use Rattle.std.specs.Prelude.{Option, Some, None}
use Rattle.std.specs.Option.{ForSome}
use Rattle.std.proofs.lemmas.Option.{none-some, same_Some}
use Rattle.std.proofs.lemmas.List.{take_all, drop_all, take_more, length-take-le, flat_map_more}
use Rattle.std.proofs.lemmas.List.Elements.{All-take}
use Rattle.spec_file.specs.declared.geometry.Geometry.{Geometry}
use Rattle.spec_file.specs.Image.{page, page_size, bytes_of}
use Rattle.vol_dev.specs.Devices.{FitsPage, with_page, with_known_page}
use Rattle.spec_make.specs.NewPages.{new_page, new_file}
use Rattle.spec_make.proofs.PageLaws.{length-new_file, page-new_file}
use Rattle.spec_make.proofs.FileLaws.{length-bytes_of, whole_pages}
use Rattle.file_new.specs.Writing.{written}

-- none is written on an empty volume
pub none_written : (g : Geometry) (pages : ℕ) (told : Option (List ℕ)) → ForSome told (λ bytes. bytes ≡ []) → told ≡ written g pages 0 told
none_written g pages None empty = refl
none_written g pages (Some bytes) empty = ap (λ (l : List ℕ). Some l) (empty bytes refl)

-- the first pages have so many bytes
front_long : (g : Geometry) (pages p : ℕ) → p ≤ pages → length (bytes_of (take p (new_file g pages))) ≡ page_size * p
front_long g pages p few =
    length-bytes_of (take p (new_file g pages)) (All-take (λ (bytes : List ℕ). length bytes ≡ page_size) p (new_file g pages) (whole_pages g pages))
    ∙ ap (λ (n : ℕ). page_size * n) (length-take-le p (new_file g pages) (omega (arith, length-new_file g pages, few)))

-- so the next page fits behind them
pub next_fits : (g : Geometry) (pages p : ℕ) (told now : Option (List ℕ)) → p < pages → now ≡ written g pages p told → ForSome now (FitsPage p)
next_fits g pages p None now inside is = λ x told. absurd (none-some x (sym is ∙ told))
next_fits g pages p (Some bytes) now inside is = λ x told.
    let there : bytes_of (take p (new_file g pages)) ≡ x = same_Some (bytes_of (take p (new_file g pages))) x (sym is ∙ told) in
    subst (FitsPage p) there (omega (arith, front_long g pages p (omega (arith, inside))))

-- and stands there once it is written
one_more : (g : Geometry) (pages p : ℕ) (bytes : List ℕ) → p < pages → bytes ≡ new_page g pages p
    → with_page (bytes_of (take p (new_file g pages))) p bytes ≡ bytes_of (take (p + 1) (new_file g pages))
one_more g pages p bytes inside is =
    let front = bytes_of (take p (new_file g pages)) in
    let size = front_long g pages p (omega (arith, inside)) in
    let there : page (new_file g pages) p ≡ bytes = page-new_file g pages p inside ∙ sym is in
    ap (λ (l : List ℕ). l ++ bytes ++ drop (page_size * p + page_size) front) (take_all (page_size * p) front (omega (arith, size)))
    ∙ ap (λ (l : List ℕ). front ++ bytes ++ l) (drop_all (page_size * p + page_size) front (omega (arith, size)))
    ∙ append-nil (front ++ bytes)
    ∙ flat_map_more (λ (page : List ℕ). page) [] (take p (new_file g pages)) bytes
    ∙ ap (λ (b : List ℕ). bytes_of (take p (new_file g pages) ++ b ∷ [])) (sym there)
    ∙ ap bytes_of (sym (take_more (new_file g pages) p [] (omega (arith, length-new_file g pages, inside))))

pub page_written : (g : Geometry) (pages p : ℕ) (told now later : Option (List ℕ)) (bytes : List ℕ) → p < pages → bytes ≡ new_page g pages p
    → now ≡ written g pages p told → later ≡ with_known_page now p bytes → later ≡ written g pages (p + 1) told
page_written g pages p None now later bytes inside is before put = put ∙ ap (λ o. with_known_page o p bytes) before
page_written g pages p (Some held) now later bytes inside is before put =
    put ∙ ap (λ o. with_known_page o p bytes) before ∙ ap (λ (l : List ℕ). Some l) (one_more g pages p bytes inside is)
