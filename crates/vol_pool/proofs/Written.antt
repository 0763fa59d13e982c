-- The pages that were written so far.
use Rattle.std.proofs.Common.{◌≡◌, ℕ, ◌+◌, ◌*◌, ◌/◌, ◌<◌, ◌≤◌, inl, inr, List, [], ◌∷◌, ◌++◌, length, take, drop, set, get_or, Option, Some, None, IfSome, Result, Ok, Err, OnOk, OnErr, Bool, true, false, refl, sym, ap, ◌∙◌, subst, arith}
use Rattle.std.specs.Option.{ForSome}
use Rattle.std.proofs.lemmas.List.{set-get_or, set_at, drop_more, take_more, length-take-le, append_assoc, append-nil, length-drop}
use Rattle.std.proofs.Math.Seq.{take-length, get_or-append_seam}
use Rattle.std.proofs.Math.ListN.{drop_of_length-le}
use Rattle.std.proofs.lemmas.Option.{same_Some}
use Rattle.spec_file.specs.Image.{Image, page, page_at, pages_of}
use Rattle.spec_file.proofs.ImageLaws.{length-pages_of, page-pages_of}
use Rattle.vol_dev.specs.Devices.{HasPage, with_known_page, MayHaveSpoiled}
use Rattle.vol_dev.proofs.PageLaws.{pages_of-with_page, length-with_page}
use Rattle.vol_pool.specs.Writing.{Leaves, Spoils, StopsWriting, SameUnmarked, is_marked, Leaves-then}

-- a page that the file has is written
pub put_page : (old new : Option (List ℕ)) (p : ℕ) (held : List ℕ) → ForSome old (HasPage p) → length held ≡ 8192
    → new ≡ with_known_page old p held → Leaves (λ before. set before p held) old new
put_page None new p held has size is = rw is (record { pages = refl; size = refl })
put_page (Some bytes) new p held has size is =
    let inside : 8192 * p + 8192 ≤ length bytes = has bytes refl in
    rw is (record {
      pages = ap (λ image. Some image) (pages_of-with_page bytes held p inside size);
      size = ap (λ n. Some n) (length-with_page bytes held p (omega (arith, inside)) size ∙ omega (arith, inside));
    })

-- a page that stands in its place is put there
pub stands : (old : Option (List ℕ)) (p : ℕ) (held : List ℕ) → ForSome old (HasPage p) → IfSome old (λ bytes. page_at bytes p ≡ held)
    → Leaves (λ before. set before p held) old old
stands None p held has is = record { pages = refl; size = refl }
stands (Some bytes) p held has is =
    let whole : 8192 * p + 8192 ≤ length bytes = has bytes refl in
    let inside : p < length bytes / 8192 = omega (arith, whole) in
    let here : get_or (pages_of bytes) p [] ≡ held = page-pages_of bytes p inside ∙ is in
    record {
      pages = ap (λ image. Some image) (sym (ap (set (pages_of bytes) p) (sym here) ∙ set-get_or (pages_of bytes) p []));
      size = refl;
    }

-- a failed write left bytes of a page's length in the place
pub spoils : (old new : Option (List ℕ)) (p : ℕ) (held : List ℕ) → ForSome old (HasPage p) → length held ≡ 8192
    → MayHaveSpoiled old new p → Spoils p old new
spoils None new p held has size (inl is) = record { held = held; size = size; left = put_page None new p held has size is }
spoils (Some bytes) new p held has size (inl is) =
    let whole : 8192 * p + 8192 ≤ length bytes = has bytes refl in
    let long : length (page_at bytes p) ≡ 8192 = omega (arith, whole, page_long bytes p) in
    record { held = page_at bytes p; size = long; left = subst (λ n. Leaves (λ before. set before p (page_at bytes p)) (Some bytes) n) (sym is) (stands (Some bytes) p (page_at bytes p) has refl) }
  where
    page_long : (bytes : List ℕ) (p : ℕ) → 8192 * p + 8192 ≤ length bytes → length (page_at bytes p) ≡ 8192
    page_long bytes p whole = length-take-le 8192 (drop (8192 * p) bytes) (omega (arith, whole, length-drop (8192 * p) bytes))
spoils old new p held has size (inr is) = record { held = is.held; size = is.size; left = put_page old new p is.held has is.size is.spoiled }

-- the same, said otherwise
Leaves-as : (f g : Image → Image) (old new : Option (List ℕ)) → Leaves f old new → IfSome old (λ bytes. f (pages_of bytes) ≡ g (pages_of bytes))
    → Leaves g old new
Leaves-as f g None new left same = record { pages = left.pages; size = left.size }
Leaves-as f g (Some bytes) new left same = record { pages = left.pages ∙ ap (λ image. Some image) same; size = left.size }

-- a page behind the written ones is put in its place
put_behind : (image before : Image) (n : ℕ) (held : List ℕ) → length before ≡ length image → n < length image
    → set (take n image ++ drop n before) n held ≡ take n image ++ held ∷ drop (n + 1) before
put_behind image before n held same below =
    let inside : n < length before = omega (arith, same, below) in
    ap (λ l. set (take n image ++ l) n held) (drop_more before n [] inside)
    ∙ set_at (take n image) (get_or before n []) (drop (n + 1) before) held n (length-take-le n image (omega (arith, below)))

next_front : (image before : Image) (n : ℕ) → length before ≡ length image → n < length image
    → set (take n image ++ drop n before) n (get_or image n []) ≡ take (n + 1) image ++ drop (n + 1) before
next_front image before n same below =
    put_behind image before n (get_or image n []) same below
    ∙ sym (append_assoc (take n image) (get_or image n [] ∷ []) (drop (n + 1) before))
    ∙ ap (λ l. l ++ drop (n + 1) before) (sym (take_more image n [] below))

-- as many pages as the image
told_count : (old : Option (List ℕ)) (n : ℕ) → ForSome old (λ bytes. length bytes ≡ 8192 * n) → IfSome old (λ bytes. length (pages_of bytes) ≡ n)
told_count None n whole = tt
told_count (Some bytes) n whole = let size : length bytes ≡ 8192 * n = whole bytes refl in length-pages_of bytes ∙ omega (arith, size)

-- one page more
pub more_written : (image : Image) (old now new : Option (List ℕ)) (n : ℕ) → ForSome old (λ bytes. length bytes ≡ 8192 * length image) → n < length image
    → Leaves (λ before. take n image ++ drop n before) old now → Leaves (λ before. set before n (page image n)) now new
    → Leaves (λ before. take (n + 1) image ++ drop (n + 1) before) old new
more_written image old now new n whole below so_far left =
    Leaves-as _ _ old new (Leaves-then _ _ old now new so_far left) (said old (told_count old (length image) whole))
  where
    said : (old : Option (List ℕ)) → IfSome old (λ bytes. length (pages_of bytes) ≡ length image)
        → IfSome old (λ bytes. set (take n image ++ drop n (pages_of bytes)) n (page image n) ≡ take (n + 1) image ++ drop (n + 1) (pages_of bytes))
    said None same = tt
    said (Some bytes) same = next_front image (pages_of bytes) n same below

-- all pages
pub all_written : (image : Image) (old now : Option (List ℕ)) (n : ℕ) → ForSome old (λ bytes. length bytes ≡ 8192 * length image) → n ≡ length image
    → Leaves (λ before. take n image ++ drop n before) old now → Leaves (λ before. image) old now
all_written image old now n whole end so_far = Leaves-as _ _ old now so_far (said old (told_count old (length image) whole))
  where
    said : (old : Option (List ℕ)) → IfSome old (λ bytes. length (pages_of bytes) ≡ length image)
        → IfSome old (λ bytes. take n image ++ drop n (pages_of bytes) ≡ image)
    said None same = tt
    said (Some bytes) same =
        ap (λ l. take n image ++ l) (drop_of_length-le (pages_of bytes) (omega (arith, same, end))) ∙ append-nil (take n image)
        ∙ ap (λ k. take k image) end ∙ take-length image

-- a page whose write failed
pub stops : (marks : List Bool) (image : Image) (old now new : Option (List ℕ)) (n : ℕ) → ForSome old (λ bytes. length bytes ≡ 8192 * length image)
    → n < length image → is_marked marks n ≡ true → Leaves (λ before. take n image ++ drop n before) old now → Spoils n now new
    → StopsWriting marks image old new
stops marks image old now new n whole below marked so_far spoiled = record {
  at = n;
  held = spoiled.held;
  below = below;
  marked = marked;
  size = spoiled.size;
  left = Leaves-as _ _ old new (Leaves-then _ _ old now new so_far spoiled.left) (said old (told_count old (length image) whole));
}
  where
    said : (old : Option (List ℕ)) → IfSome old (λ bytes. length (pages_of bytes) ≡ length image)
        → IfSome old (λ bytes. set (take n image ++ drop n (pages_of bytes)) n spoiled.held ≡ take n image ++ spoiled.held ∷ drop (n + 1) (pages_of bytes))
    said None same = tt
    said (Some bytes) same = put_behind image (pages_of bytes) n spoiled.held same below

-- where the next page isn't marked it stands in the file
pub next_stands : (marks : List Bool) (image : Image) (old now : Option (List ℕ)) (n : ℕ) → ForSome old (λ bytes. length bytes ≡ 8192 * length image)
    → n < length image → Leaves (λ before. take n image ++ drop n before) old now → IfSome old (λ bytes. SameUnmarked marks image (pages_of bytes))
    → IfSome now (λ bytes. is_marked marks n ≡ false → page_at bytes n ≡ page image n)
next_stands marks image old None n whole below so_far same = tt
next_stands marks image None (Some now) n whole below so_far same = let no_ = so_far.size in cc
next_stands marks image (Some old) (Some now) n whole below so_far same =
    λ unmarked.
    let kept : length now ≡ length old = same_Some (length now) (length old) so_far.size in
    let size : length old ≡ 8192 * length image = whole old refl in
    let inside : n < length now / 8192 = omega (arith, kept, size, below) in
    let within : n < length (pages_of old) = subst (λ k. n < k) (sym (length-pages_of old)) (omega (arith, size, below)) in
    let long : length (take n image) ≡ n = length-take-le n image (omega (arith, below)) in
    sym (page-pages_of now n inside)
    ∙ ap (λ l. get_or l n []) (same_Some (pages_of now) (take n image ++ drop n (pages_of old)) so_far.pages)
    ∙ ap (λ l. get_or (take n image ++ l) n []) (drop_more (pages_of old) n [] within)
    ∙ get_or_behind (take n image) (get_or (pages_of old) n []) (drop (n + 1) (pages_of old)) n long
    ∙ same n below unmarked
  where
    get_or_behind : (front : Image) (x : List ℕ) (rest : Image) (n : ℕ) → length front ≡ n → get_or (front ++ x ∷ rest) n [] ≡ x
    get_or_behind front x rest n long = subst (λ k. get_or (front ++ x ∷ rest) k [] ≡ x) long (get_or-append_seam front x rest [])

-- what follows at a good answer, and at a failure
pub on_ok : {T E P Q : Type 0} (r : Result T E) → OnOk r P → (P → Q) → OnOk r Q
on_ok (Ok v) p f = f p
on_ok (Err e) p f = tt

pub on_err : {T E P Q : Type 0} (r : Result T E) → OnErr r P → (P → Q) → OnErr r Q
on_err (Ok v) p f = tt
on_err (Err e) p f = f p
