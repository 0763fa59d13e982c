-- A page of a marked extent is found, and taken.
use Rattle.std.proofs.Common.{◌≡◌, refl, ℕ, suc, ◌+◌, ◌<◌, ◌≤◌, Bool, true, false, IsTrue, List, [], ◌∷◌, length, map, filter, drop, get_or, Contains, Option, Some, None, Result, Ok, Err, sym, ap, ◌∙◌, subst, add-one}
use Rattle.std.specs.Prelude.{◌&&◌, IfOk, is_some}
use Rattle.std.specs.Option.{option_map}
use Rattle.std.specs.List.{list_any, range_with_len}
use Rattle.std.proofs.Math.Seq.{drop-cons}
use Rattle.std.proofs.lemmas.Bool.{and_parts, or_right, false≢true}
use Rattle.std.proofs.lemmas.List.{drop_all}
use Rattle.spec_file.specs.declared.data.PageNo.{PageNo}
use Rattle.spec_file.specs.declared.data.Resource.TheVariants as resource
use Rattle.spec_file.specs.declared.geometry.Geometry.{Geometry}
use Rattle.spec_file.specs.Image.{page}
use Rattle.spec_file.specs.Places.{pfs_page, pfs_place}
use Rattle.spec_log.specs.declared.item.Cell.TheVariants.{Bytes}
use Rattle.spec_plan.specs.Reading.{is_marked}
use Rattle.spec_words.specs.NetChanges.{FileShape}
use Rattle.spec_words.specs.Views.{View, End, Gives, Stops}
use Rattle.spec_words.specs.Words.{give, sees, look, put_pfs}
use Rattle.spec_alloc.specs.Search.{first_in, is_spare}
use Rattle.spec_alloc.specs.ObjectPages.{lowest_marked, as_allocated}
use Rattle.db_locks.specs.declared.plan_pages.PageStop.{PageStop}
use Rattle.db_locks.specs.States.{PlanState}
use Rattle.db_locks.specs.Does.{Does, DoesAfter, stop_of}
use Rattle.db_locks.proofs.CellSteps.{write_looked}
use Rattle.db_locks.proofs.PlanLaws.{does_stop, does_see}
use Rattle.db_alloc.specs.Marks.{marks, has_byte, is_in_slot, first_slots}
use Rattle.db_alloc.specs.Near.{AreNear}
use Rattle.db_alloc.specs.Objects.{WasRead}
use Rattle.db_alloc.specs.Results.{value_as}
use Rattle.db_alloc.proofs.DropSteps.{marked_as}
use Rattle.db_alloc.proofs.Lists.{filter_same}
use Rattle.db_alloc.proofs.MapReads.{first_hit, first_miss, does_behind}
use Rattle.db_alloc.proofs.NearPages.{filter_near}
use Rattle.db_alloc.proofs.Steps.{does_plan, give_then}

-- ---- one page

pub not_had : (marked spare : Bool) → marked ≡ false → false ≡ (marked && spare)
not_had false spare e = refl
not_had true spare e = absurd (false≢true (sym e))

pub had_by : (had marked spare : Bool) → marked ≡ true → had ≡ spare → had ≡ (marked && spare)
had_by had true spare e is = is
had_by had false spare e is = absurd (false≢true e)

-- ---- the first of a list

pub here_first : (f : ℕ → Bool) (xs : List ℕ) (i : ℕ) → i < length xs → f (get_or xs i 0) ≡ true → first_in (filter f (drop i xs)) ≡ Some (get_or xs i 0)
here_first f xs i lt e = ap (λ ys. first_in (filter f ys)) (drop-cons xs i 0 lt) ∙ first_hit f (get_or xs i 0) (drop (suc i) xs) e

pub here_not : (f : ℕ → Bool) (xs : List ℕ) (i : ℕ) → i < length xs → f (get_or xs i 0) ≡ false → first_in (filter f (drop i xs)) ≡ first_in (filter f (drop (i + 1) xs))
here_not f xs i lt e =
    ap (λ ys. first_in (filter f ys)) (drop-cons xs i 0 lt) ∙ first_miss f (get_or xs i 0) (drop (suc i) xs) e
    ∙ ap (λ n. first_in (filter f (drop n xs))) (sym (add-one i))

pub none_left : (f : ℕ → Bool) (xs : List ℕ) (i : ℕ) → length xs ≤ i → first_in (filter f (drop i xs)) ≡ None
none_left f xs i le = ap (λ ys. first_in (filter f ys)) (drop_all i xs le)

pub none_some : (p : ℕ) → None ≡ Some p → ⊥
none_some p e = false≢true (ap is_some e)

abbrev one : ℕ → Option ℕ → ℕ
one other None = other
one other (Some x) = x

passes_by : (f : ℕ → Bool) (x : ℕ) (xs : List ℕ) (p : ℕ) → (first_in (filter f xs) ≡ Some p → f p ≡ true) → (b : Bool) → f x ≡ b → first_in (filter f (x ∷ xs)) ≡ Some p → f p ≡ true
passes_by f x xs p later true is e = subst (λ (y : ℕ). f y ≡ true) (ap (one x) (sym (first_hit f x xs is) ∙ e)) is
passes_by f x xs p later false is e = later (sym (first_miss f x xs is) ∙ e)

-- it passes the test
pub first_passes : (f : ℕ → Bool) (xs : List ℕ) (p : ℕ) → first_in (filter f xs) ≡ Some p → f p ≡ true
first_passes f [] p e = absurd (none_some p e)
first_passes f (x ∷ xs) p e = passes_by f x xs p (first_passes f xs p) (f x) refl e

-- ---- near pages, and all of the file

near_marked : (pages : ℕ) (g : Geometry) (iams : List (List ℕ)) (h : ℕ → Bool) (near : List ℕ) → AreNear pages (has_byte g iams) near → AreNear pages (λ p. list_any (marks g p) iams && h p) near
near_marked pages g iams h near are = record {
  rise = are.rise;
  inside = are.inside;
  all = λ p below yes. are.all p below (or_right (is_in_slot (first_slots iams) p) (list_any (marks g p) iams) (and_parts (list_any (marks g p) iams) (h p) yes).0);
}

-- the lowest marked page that can be had is the first so near those of the object
pub lowest_as : (shape : FileShape) (view : View) (chain : List ℕ) (iams : List (List ℕ)) (g : Geometry) (n : ℕ) (near : List ℕ) → iams ≡ map (page view.now) chain → g ≡ shape.geometry → n ≡ shape.pages
    → AreNear n (has_byte g iams) near → first_in (filter (λ p. list_any (marks g p) iams && is_spare shape view p) near) ≡ lowest_marked shape chain view
lowest_as shape view chain iams g n near same same_g same_n are =
    let spare : ℕ → Bool = λ p. is_spare shape view p in
    ap first_in (filter_near n (λ p. list_any (marks g p) iams && spare p) near (near_marked n g iams spare near are))
    ∙ ap (λ m. first_in (filter (λ p. list_any (marks g p) iams && spare p) (range_with_len 0 m))) same_n
    ∙ ap (λ all. first_in (filter (λ p. list_any (marks g p) all && spare p) (range_with_len 0 shape.pages))) same
    ∙ ap (λ h. first_in (filter (λ p. list_any (marks h p) (map (page view.now) chain) && spare p) (range_with_len 0 shape.pages))) same_g
    ∙ ap first_in (filter_same (λ p. list_any (marks shape.geometry p) (map (page view.now) chain) && spare p) (λ p. is_marked shape.geometry view.now chain p && spare p) (range_with_len 0 shape.pages)
    (λ p. ap (λ b. b && spare p) (marked_as shape.geometry view.now chain p)))

pub lowest_is_marked : (shape : FileShape) (chain : List ℕ) (view : View) (p : ℕ) → lowest_marked shape chain view ≡ Some p → is_marked shape.geometry view.now chain p ≡ true
lowest_is_marked shape chain view p e =
    (and_parts (is_marked shape.geometry view.now chain p) (is_spare shape view p)
    (first_passes (λ p. is_marked shape.geometry view.now chain p && is_spare shape view p) (range_with_len 0 shape.pages) p e)).0

-- the PFS page of a page whose extent these bytes mark was reached
pub reach_marked : (looked : List ℕ) (view : View) (chain : List ℕ) (iams : List (List ℕ)) (g : Geometry) (p : ℕ) → WasRead looked view chain → iams ≡ map (page view.now) chain → g ≡ view.shape.geometry
    → p < view.shape.pages → list_any (marks g p) iams ≡ true → Contains looked (pfs_page view.shape.geometry p)
reach_marked looked view chain iams g p h same same_g lt marked =
    h.pfs p lt
    (sym (marked_as view.shape.geometry view.now chain p) ∙ ap (list_any (marks view.shape.geometry p)) (sym same) ∙ ap (λ k. list_any (marks k p) iams) (sym same_g) ∙ marked)

-- ---- what was done

-- what was found with nothing reached was seen
pub seen_found : {a b : PlanState} (looked : List ℕ) (f : View → Option ℕ) (r : Result (Option PageNo) PageStop) → DoesAfter {A = Unit {0}} looked a b (give tt) (value_as (λ found. tt) r)
    → IfOk r (λ found. IsTrue b.told → option_map (λ p. p.0) found ≡ f b.view) → DoesAfter looked a b (sees f) (value_as (option_map (λ p. p.0)) r)
seen_found {b = b} looked f (Ok found) d is = does_behind d (does_see looked b f (option_map (λ p. p.0) found) is)
seen_found looked f (Err e) d is = does_plan (give_then {A = Unit {0}} tt (λ _. sees f)) (does_stop stop_of (λ _. sees f) e refl d)

abbrev given_of : {A : Type 0} → A → End A → A
given_of other (Gives x w) = x
given_of other (Stops refusal) = other

-- what was seen is what the view says
pub seen_is : {A : Type 0} {a b : PlanState} {looked : List ℕ} (f : View → A) (x : A) → DoesAfter looked a b (sees f) (Ok x) → IsTrue a.told → f a.view ≡ x
unfolding sees
seen_is f x d told = ap (given_of x) (d.exact told)

-- the PFS page of the page that was found was reached
pub found_reached : {a b : PlanState} (looked : List ℕ) (chain : List ℕ) (p : ℕ) → (IsTrue a.told → WasRead looked a.view chain) → DoesAfter looked a b (sees (lowest_marked a.view.shape chain)) (Ok (Some p))
    → p < a.view.shape.pages → b.view ≡ a.view → IsTrue b.told → Contains looked (pfs_page b.view.shape.geometry p)
found_reached {a} looked chain p read d inside same told =
    let begun = sym d.stays.told ∙ told in
    subst (λ (v : View). Contains looked (pfs_page v.shape.geometry p)) (sym same)
    ((read begun).pfs p inside (lowest_is_marked a.view.shape chain a.view p (seen_is (lowest_marked a.view.shape chain) (Some p) d begun)))

-- a PFS byte was read once more, and put with bit 6 set
pub allocated_byte : {a b d : PlanState} {x : List ℕ} (looked : List ℕ) (g : Geometry) (p byte put : ℕ) (result : Result (Unit {0}) PageStop) → g ≡ a.view.shape.geometry → put ≡ as_allocated byte
    → (IsTrue a.told → Contains looked (pfs_page a.view.shape.geometry p)) → Does a b (look (resource.Byte (record { 0 = p })) (pfs_page a.view.shape.geometry p)) (Ok x)
    → ((more : List ℕ) → (IsTrue b.told → Contains more (pfs_page g p)) → DoesAfter more b d (put_pfs b.view.shape p put) result)
    → DoesAfter looked a d (put_pfs a.view.shape p (as_allocated byte)) result
allocated_byte {a} {b} {d} looked g p byte put result same_g is before read does =
    let place = pfs_place a.view.shape.geometry p in
    write_looked a b d (resource.Byte (record { 0 = p })) place.page (Bytes (record { 0 = place.page }) place.at) (as_allocated byte ∷ []) looked result before read
    (does_plan (ap (λ (s : FileShape). put_pfs s p put) read.stays.shape ∙ ap (put_pfs a.view.shape p) is)
    (does looked (λ told. subst (λ (k : Geometry). Contains looked (pfs_page k p)) (sym same_g) (before (sym read.stays.told ∙ told)))))
