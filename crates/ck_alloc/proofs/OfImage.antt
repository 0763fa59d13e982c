-- What the system pages of a file say is what its image says.
use Rattle.std.proofs.Common.{◌≡◌, ◌⊎◌, ℕ, ◌+◌, ◌/◌, ◌%◌, ◌<◌, ◌==◌, Bool, true, false, List, [], Option, Some, None, IfSome, length, map, arith, sym, ap, subst, ◌∙◌, refl, inl, inr, ⊎_elim, if◌then◌else◌, slice_index}
use Rattle.std.specs.List.{range_with_len}
use Rattle.std.specs.Option.{ForSome}
use Rattle.std.proofs.lemmas.Bool.{eqb-true}
use Rattle.std.proofs.lemmas.List.FromFn.{length-map-range_with_len, get_or-map-range_with_len}
use Rattle.spec_file.specs.declared.geometry.Geometry.{Geometry}
use Rattle.spec_file.specs.declared.role.Role.TheVariants as role
use Rattle.spec_file.specs.Image.{Image, page, bit, maps_start}
use Rattle.spec_file.specs.Places.{interval_size, pfs_span, pfs_page, gam_page, sgam_page, interval_of_page, is_free, is_mixed, HasShape}
use Rattle.spec_file.specs.Roles.{role_of, system_type, is_system_extent}
use Rattle.spec_chain.specs.Uses.{pfs_byte}
use Rattle.spec_check.specs.declared.report.CheckError.{CheckError}
use Rattle.spec_check.specs.System.{IsSystemError}
use Rattle.ck_error.proofs.GatheringLaws.{gathers_as}
use Rattle.ck_alloc.specs.declared.places.SystemKind.{SystemKind}
use Rattle.ck_alloc.specs.declared.places.SystemKind.TheVariants.{Pfs, Gam, Sgam}
use Rattle.ck_alloc.specs.declared.system_maps.SystemMaps.{SystemMaps}
use Rattle.ck_alloc.specs.SystemPlaces.{span_of, place_of, place_count, places_of_image, bit_in, byte_in}
use Rattle.ck_alloc.specs.SystemMaps.{PagesRead, ArePagesOf, GivesError, IsErrorOfKind, IsErrorOfPages, AreSaidBy, AreSystemMaps, HaveSizes}
use Rattle.ck_alloc.proofs.Ranges.{same_values}
use Rattle.ck_alloc.proofs.PlaceBounds.{place_inside, interval_read, span_read}

-- page k of a kind, by the image
page_of_kind : (kind : SystemKind) (g : Geometry) (image : Image) (count k : ℕ) (found : List (List ℕ)) → found ≡ places_of_image kind g image count
    → k < count → page found k ≡ page image (place_of kind g k)
page_of_kind kind g image count k found are below =
    ap (λ (l : List (List ℕ)). page l k) are ∙ get_or-map-range_with_len (λ i. page image (place_of kind g i)) 0 count k k [] below (omega arith)

length_of_kind : (kind : SystemKind) (g : Geometry) (image : Image) (count : ℕ) (found : List (List ℕ)) → found ≡ places_of_image kind g image count
    → length found ≡ count
length_of_kind kind g image count found are =
    ap length are ∙ length-map-range_with_len (λ i. page image (place_of kind g i)) 0 count

-- the bits and bytes
free_of : (g : Geometry) (image : Image) (pages : ℕ) (found : List (List ℕ)) → HasShape g pages
    → found ≡ places_of_image Gam g image (place_count Gam g pages)
    → map (bit_in g found) (range_with_len 0 (pages / 8)) ≡ map (is_free g image) (range_with_len 0 (pages / 8))
free_of g image pages found shape are = same_values _ _ (pages / 8) (λ e below.
    ap (λ (l : List ℕ). bit l (e % interval_size g)) (page_of_kind Gam g image _ (e / interval_size g) found are (interval_read g pages e shape below)))

mixed_of : (g : Geometry) (image : Image) (pages : ℕ) (found : List (List ℕ)) → HasShape g pages
    → found ≡ places_of_image Sgam g image (place_count Sgam g pages)
    → map (bit_in g found) (range_with_len 0 (pages / 8)) ≡ map (is_mixed g image) (range_with_len 0 (pages / 8))
mixed_of g image pages found shape are = same_values _ _ (pages / 8) (λ e below.
    ap (λ (l : List ℕ). bit l (e % interval_size g)) (page_of_kind Sgam g image _ (e / interval_size g) found are (interval_read g pages e shape below)))

pfs_of : (g : Geometry) (image : Image) (pages : ℕ) (found : List (List ℕ)) → HasShape g pages
    → found ≡ places_of_image Pfs g image (place_count Pfs g pages)
    → map (byte_in g found) (range_with_len 0 pages) ≡ map (pfs_byte g image) (range_with_len 0 pages)
pfs_of g image pages found shape are = same_values _ _ pages (λ p below.
    ap (λ (l : List ℕ). slice_index l (maps_start + p % pfs_span g)) (page_of_kind Pfs g image _ (p / pfs_span g) found are (span_read Pfs g pages p shape below)))

-- an error of the pages of a kind is one of the image
error_of_kind : (kind : SystemKind) (g : Geometry) (image : Image) (pages : ℕ) (found : List (List ℕ)) (x : CheckError) → HasShape g pages
    → length image ≡ pages → found ≡ places_of_image kind g image (place_count kind g pages) → IsErrorOfKind kind g found x → IsSystemError g image x
error_of_kind kind g image pages found x shape size are (k, below, given) =
    let inside : k < place_count kind g pages = subst (λ n. k < n) (length_of_kind kind g image _ found are) below in
    let here : page found k ≡ page image (place_of kind g k) = page_of_kind kind g image _ k found are inside in
    let of_image : GivesError g (place_of kind g k) (page image (place_of kind g k)) x = subst (λ l. GivesError g (place_of kind g k) l x) here given in
    (place_of kind g k, subst (λ n. place_of kind g k < n) (sym size) (place_inside kind g pages k shape inside), of_image.0, of_image.1)

pub error_of_image : (g : Geometry) (image : Image) (pages : ℕ) (found : PagesRead) (x : CheckError) → HasShape g pages → length image ≡ pages
    → ArePagesOf g pages found image → IsErrorOfPages g found x → IsSystemError g image x
error_of_image g image pages found x shape size are h =
    let low : 9 < length image = let enough = shape.low in omega (arith, enough, size) in
    ⊎_elim (λ maps. ⊎_elim (λ two. ⊎_elim (error_of_kind Gam g image pages _ x shape size are.gam) (error_of_kind Sgam g image pages _ x shape size are.sgam) two)
    (error_of_kind Pfs g image pages _ x shape size are.pfs) maps)
    (λ boot. let given = subst (λ l. GivesError g 9 l x) are.boot boot in (9, low, given.0, given.1)) h

-- only the second to fourth and the fifth test of a role give a type
typed : (first pfs gam sgam boot system : Bool) (type : ℕ)
    → system_type (if first then role.FileHeader else (if pfs then role.Pfs else (if gam then role.Gam
    else (if sgam then role.Sgam else (if boot then role.Boot else (if system then role.Reserved else role.Ordinary)))))) ≡ Some type
    → (pfs ≡ true) ⊎ ((gam ≡ true) ⊎ ((sgam ≡ true) ⊎ (boot ≡ true)))
typed true pfs gam sgam boot system type h = cc
typed false true gam sgam boot system type h = inl refl
typed false false true sgam boot system type h = inr (inl refl)
typed false false false true boot system type h = inr (inr (inl refl))
typed false false false false true system type h = inr (inr (inr refl))
typed false false false false false true type h = cc
typed false false false false false false type h = cc

-- a page that must have a type is a system place, or page 9
system_place : (g : Geometry) (p type : ℕ) → system_type (role_of g p) ≡ Some type
    → (p ≡ place_of Pfs g (p / span_of Pfs g)) ⊎ ((p ≡ place_of Gam g (p / span_of Gam g)) ⊎ ((p ≡ place_of Sgam g (p / span_of Sgam g)) ⊎ (p ≡ 9)))
system_place g p type h =
    ⊎_elim (λ t. inl (eqb-true p (pfs_page g p) t))
    (λ rest. ⊎_elim (λ t. inr (inl (eqb-true p (gam_page g (interval_of_page g p)) t)))
    (λ rest. ⊎_elim (λ t. inr (inr (inl (eqb-true p (sgam_page g (interval_of_page g p)) t)))) (λ t. inr (inr (inr (eqb-true p 9 t)))) rest) rest)
    (typed (p == 0) (p == pfs_page g p) (p == gam_page g (interval_of_page g p)) (p == sgam_page g (interval_of_page g p)) (p == 9)
    (is_system_extent g (p / 8)) type h)

-- an error of a page of the image that is a place of a kind
kind_of_error : (kind : SystemKind) (g : Geometry) (image : Image) (pages p : ℕ) (found : List (List ℕ)) (x : CheckError) → HasShape g pages
    → length image ≡ pages → found ≡ places_of_image kind g image (place_count kind g pages) → p < length image
    → p ≡ place_of kind g (p / span_of kind g) → GivesError g p (page image p) x → IsErrorOfKind kind g found x
kind_of_error kind g image pages p found x shape size are below place given =
    let inside : p / span_of kind g < place_count kind g pages = span_read kind g pages p shape (subst (λ n. p < n) size below) in
    let here = page_of_kind kind g image _ (p / span_of kind g) found are inside in
    let there : GivesError g (place_of kind g (p / span_of kind g)) (page image (place_of kind g (p / span_of kind g))) x =
    subst (λ q. GivesError g q (page image q) x) place given in (
      p / span_of kind g,
      subst (λ n. p / span_of kind g < n) (sym (length_of_kind kind g image _ found are)) inside,
      subst (λ l. GivesError g (place_of kind g (p / span_of kind g)) l x) (sym here) there,
    )

pub image_of_error : (g : Geometry) (image : Image) (pages : ℕ) (found : PagesRead) (x : CheckError) → HasShape g pages → length image ≡ pages
    → ArePagesOf g pages found image → IsSystemError g image x → IsErrorOfPages g found x
image_of_error g image pages found x shape size are (p, below, wrong, is) =
    ⊎_elim (λ here. inl (inr (kind_of_error Pfs g image pages p _ x shape size are.pfs below here (wrong, is))))
    (λ rest. ⊎_elim (λ here. inl (inl (inl (kind_of_error Gam g image pages p _ x shape size are.gam below here (wrong, is)))))
    (λ rest. ⊎_elim (λ here. inl (inl (inr (kind_of_error Sgam g image pages p _ x shape size are.sgam below here (wrong, is)))))
    (λ here. inr (subst (λ l. GivesError g 9 l x) (sym are.boot) (subst (λ q. GivesError g q (page image q) x) here (wrong, is)))) rest) rest)
    (⊎_elim (λ header. system_place g p header.0 header.1) (λ boot. inr (inr (inr boot.0))) wrong)

-- what the pages say, of an image whose pages they are
pub maps_of_image : (g : Geometry) (image : Image) (pages : ℕ) (found : PagesRead) (maps : SystemMaps) → HasShape g pages
    → length image ≡ pages → ArePagesOf g pages found image → AreSaidBy g pages found maps → AreSystemMaps g maps image
maps_of_image g image pages found maps shape size are said = record {
  errors = gathers_as _ _ _ (λ x h. error_of_image g image pages found x shape size are h) (λ x h. image_of_error g image pages found x shape size are h) said.errors;
  free = rw size (said.free ∙ free_of g image pages _ shape are.gam);
  mixed = rw size (said.mixed ∙ mixed_of g image pages _ shape are.sgam);
  pfs = rw size (said.pfs ∙ pfs_of g image pages _ shape are.pfs);
  boot = said.boot ∙ are.boot;
}

-- the same where a reader may tell its image
pub told_maps : (told : Option Image) (g : Geometry) (pages : ℕ) (found : PagesRead) (maps : SystemMaps) → HasShape g pages
    → ForSome told (λ image. length image ≡ pages) → IfSome told (ArePagesOf g pages found) → AreSaidBy g pages found maps
    → IfSome told (AreSystemMaps g maps)
told_maps None g pages found maps shape whole are said = tt
told_maps (Some image) g pages found maps shape whole are said = maps_of_image g image pages found maps shape (whole image refl) are said

-- each extent has its bits, and each page its byte
pub sizes_of : (g : Geometry) (pages : ℕ) (found : PagesRead) (maps : SystemMaps) → AreSaidBy g pages found maps → HaveSizes pages maps
sizes_of g pages found maps said = record {
  free = maps.free.ok.0 ∙ ap length said.free ∙ length-map-range_with_len (bit_in g found.gam) 0 (pages / 8);
  mixed = maps.mixed.ok.0 ∙ ap length said.mixed ∙ length-map-range_with_len (bit_in g found.sgam) 0 (pages / 8);
  pfs = maps.pfs.ok.0 ∙ ap length said.pfs ∙ length-map-range_with_len (byte_in g found.pfs) 0 pages;
}
