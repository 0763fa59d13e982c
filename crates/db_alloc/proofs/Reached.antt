-- A search that finds a page has reached the pages of maps that speak of it.
use Rattle.std.proofs.Common.{◌≡◌, refl, ℕ, zero, suc, ◌+◌, ◌-◌, ◌*◌, ◌/◌, ◌<◌, ◌≤◌, Bool, true, false, List, [], ◌∷◌, ◌++◌, Contains, Option, Some, None, filter, sym, ap, ◌∙◌, subst, arith}
use Rattle.std.specs.Prelude.{if◌then◌else◌, is_some}
use Rattle.std.specs.List.{range_with_len}
use Rattle.std.proofs.lemmas.Bool.{cond_both, false≢true}
use Rattle.std.proofs.lemmas.List.Elements.{Contains-append_left, Contains-append_right, Contains-push}
use Rattle.spec_file.specs.declared.data.Resource.TheVariants as resource
use Rattle.spec_file.specs.declared.page_type.TheConstants.{GAM_TYPE, SGAM_TYPE, PFS_TYPE}
use Rattle.spec_file.specs.Header.{says}
use Rattle.spec_file.specs.Image.{page}
use Rattle.spec_file.specs.Places.{gam_place, sgam_place, pfs_page}
use Rattle.spec_file.specs.Roles.{is_system_extent}
use Rattle.spec_words.specs.NetChanges.{FileShape}
use Rattle.spec_words.specs.Views.{View, End, Gives, Stops, Outcome, Plan}
use Rattle.spec_words.specs.Words.{gone_on, ◌then◌, give, sees, reach, where_good, or_later, first_of}
use Rattle.spec_alloc.specs.Search.{map_read, gam_read, sgam_read, pfs_read, is_held, search_at, search, first_in, is_spare}
use Rattle.db_alloc.specs.declared.search.Wanted.{Wanted}
use Rattle.db_alloc.specs.declared.search.Wanted.TheVariants.{Shared, Unused}
use Rattle.db_alloc.specs.Searches.{fits_of, find_of, WereReached}
use Rattle.db_alloc.proofs.MapPlaces.{same_pfs}

-- ---- what holds of what a plan reached, gave and left, wherever it gives something

abbrev pub Meets : {A : Type 0} → (List ℕ → A → View → Type 0) → Outcome A → Type 0
Meets {A} K o = (x : A) (w : View) → o.ending ≡ Gives x w → K o.reached x w

abbrev does_give : {A : Type 0} → End A → Bool
does_give (Gives x w) = true
does_give (Stops refusal) = false

meets_by : {A B : Type 0} (K : List ℕ → B → View → Type 0) (reached : List ℕ) (ending : End A) (next : A → Plan B)
    → ((x : A) (w : View) → ending ≡ Gives x w → Meets (λ more y u. K (reached ++ more) y u) (next x w)) → Meets K (gone_on reached ending next)
meets_by K reached (Gives x v) next later y u e = later x v refl y u e
meets_by K reached (Stops refusal) next later y u e = absurd (false≢true (ap does_give e))

meets_then : {A B : Type 0} (K : List ℕ → A → View → Type 0) (K2 : List ℕ → B → View → Type 0) (plan : Plan A) (next : A → Plan B) (view : View) → Meets K (plan view)
    → ((reached : List ℕ) (x : A) (w : View) → K reached x w → Meets (λ more y u. K2 (reached ++ more) y u) (next x w)) → Meets K2 ((plan then next) view)
unfolding ◌then◌
meets_then K K2 plan next view first later = meets_by K2 (plan view).reached (plan view).ending next (λ x w e. later (plan view).reached x w (first x w e))

-- a value and a view are told by the ending
abbrev view_of : {A : Type 0} → View → End A → View
view_of other (Gives x w) = w
view_of other (Stops refusal) = other

abbrev given_of : {A : Type 0} → A → End A → A
given_of other (Gives x w) = x
given_of other (Stops refusal) = other

meets_gives : {A : Type 0} (K : List ℕ → A → View → Type 0) (reached : List ℕ) (x : A) (view : View) → K reached x view → (y : A) (w : View) → Gives x view ≡ Gives y w → K reached y w
meets_gives {A} K reached x view h y w e = subst (λ (z : A). K reached z w) (ap (given_of x) e) (subst (λ (u : View). K reached x u) (ap (view_of view) e) h)

meets_give : {A : Type 0} (K : List ℕ → A → View → Type 0) (x : A) (view : View) → K [] x view → Meets K (give x view)
unfolding give
meets_give K x view h = meets_gives K [] x view h

meets_sees : {A : Type 0} (K : List ℕ → A → View → Type 0) (f : View → A) (view : View) → K [] (f view) view → Meets K (sees f view)
unfolding sees
meets_sees K f view h = meets_gives K [] (f view) view h

meets_reach : (K : List ℕ → List ℕ → View → Type 0) (q : ℕ) (view : View) → K (q ∷ []) (page view.now q) view → Meets K (reach q view)
unfolding reach
meets_reach K q view h = meets_gives K (q ∷ []) (page view.now q) view h

meets_good : (K : List ℕ → Unit {0} → View → Type 0) (good : Bool) (q : ℕ) (view : View) → K [] tt view → Meets K (where_good good q view)
unfolding where_good
meets_good K true q view h = meets_gives K [] tt view h
meets_good K false q view h = λ y w e. absurd (false≢true (ap does_give e))

-- ---- the words of a search

-- nothing is changed, and these pages were reached
abbrev Reaches : {A : Type 0} → View → List ℕ → List ℕ → A → View → Type 0
Reaches view pages reached x w = (w ≡ view) × (reached ≡ pages)

map_meets : (type q : ℕ) (view : View) → Meets (Reaches view (q ∷ [])) (map_read type q view)
map_meets type q view =
    meets_then (Reaches view (q ∷ [])) (Reaches view (q ∷ [])) (reach q) (λ bytes. where_good (says type q bytes) q) view (meets_reach (Reaches view (q ∷ [])) q view (refl, refl))
    (λ reached bytes w k. meets_good (λ more y u. Reaches view (q ∷ []) (reached ++ more) y u) (says type q bytes) q w (k.0, ap (λ ps. ps ++ []) k.1))

-- what is found in extent e is what is looked for there, and its maps were reached
abbrev pub FoundAt : FileShape → (View → ℕ → Option ℕ) → ℕ → View → List ℕ → Option ℕ → View → Type 0
FoundAt shape find e view reached found w =
    (w ≡ view) × ((p : ℕ) → found ≡ Some p → (find view e ≡ Some p) × (reached ≡ (gam_place shape.geometry e).page ∷ (sgam_place shape.geometry e).page ∷ pfs_page shape.geometry (8 * e) ∷ []))

none_some : {A : Type 0} (x : A) → None ≡ Some x → ⊥
none_some x e = false≢true (ap is_some e)

pub at_meets : (shape : FileShape) (fits : View → ℕ → Bool) (find : View → ℕ → Option ℕ) (e : ℕ) (view : View) → Meets (FoundAt shape find e view) (search_at shape fits find e view)
at_meets shape fits find e view =
    let g = shape.geometry in
    let gam = (gam_place g e).page in
    let sgam = (sgam_place g e).page in
    let pfs = pfs_page g (8 * e) in
    let held : View → Bool = λ view. is_held view (resource.Extent (record { 0 = e })) in
    let fit : View → Bool = λ view. fits view e in
    let last : View → Option ℕ = λ view. find view e in
    let rest : Plan (Option ℕ) = pfs_read shape (8 * e) then (λ _. sees last) in
    let bits : Plan (Option ℕ) = sees fit then (λ (b : Bool). if b then rest else give None) in
    let maps : Plan (Option ℕ) = gam_read shape e then (λ _. sgam_read shape e then (λ _. bits)) in
    let K = FoundAt shape find e view in
    meets_then (Reaches view []) K (sees held) (λ (h : Bool). if h then give None else maps) view (meets_sees (Reaches view []) held view (refl, refl)) (λ r0 h w0 k0.
    let K0 = λ (more : List ℕ) (x : Option ℕ) (u : View). K (r0 ++ more) x u in
    cond_both h (give None) maps (λ plan. Meets K0 (plan w0)) (λ b. meets_give K0 None w0 (k0.0, λ p none. absurd (none_some p none))) (λ b.
    meets_then (Reaches w0 (gam ∷ [])) K0 (gam_read shape e) (λ _. sgam_read shape e then (λ _. bits)) w0 (map_meets GAM_TYPE gam w0) (λ r1 x1 w1 k1.
    let K1 = λ (more : List ℕ) (x : Option ℕ) (u : View). K0 (r1 ++ more) x u in
    meets_then (Reaches w1 (sgam ∷ [])) K1 (sgam_read shape e) (λ _. bits) w1 (map_meets SGAM_TYPE sgam w1) (λ r2 x2 w2 k2.
    let K2 = λ (more : List ℕ) (x : Option ℕ) (u : View). K1 (r2 ++ more) x u in
    meets_then (Reaches w2 []) K2 (sees fit) (λ (c : Bool). if c then rest else give None) w2 (meets_sees (Reaches w2 []) fit w2 (refl, refl)) (λ r3 c w3 k3.
    let K3 = λ (more : List ℕ) (x : Option ℕ) (u : View). K2 (r3 ++ more) x u in
    let same3 = k3.0 ∙ k2.0 ∙ k1.0 ∙ k0.0 in
    cond_both c rest (give None) (λ plan. Meets K3 (plan w3)) (λ b.
    meets_then (Reaches w3 (pfs ∷ [])) K3 (pfs_read shape (8 * e)) (λ _. sees last) w3 (map_meets PFS_TYPE pfs w3) (λ r4 x4 w4 k4.
    let K4 = λ (more : List ℕ) (x : Option ℕ) (u : View). K3 (r4 ++ more) x u in
    let same4 = k4.0 ∙ same3 in
    meets_sees K4 last w4 (
      same4,
      λ p found. (
        ap last (sym same4) ∙ found,
        ap (λ r. r ++ (r1 ++ (r2 ++ (r3 ++ (r4 ++ []))))) k0.1
            ∙ ap (λ r. r ++ (r2 ++ (r3 ++ (r4 ++ [])))) k1.1
            ∙ ap (λ r. gam ∷ (r ++ (r3 ++ (r4 ++ [])))) k2.1
            ∙ ap (λ r. gam ∷ sgam ∷ (r ++ (r4 ++ []))) k3.1
            ∙ ap (λ r. gam ∷ sgam ∷ (r ++ [])) k4.1,
      ),
    )))
    (λ b. meets_give K3 None w3 (same3, λ p none. absurd (none_some p none))))))))

-- ---- a page of an extent

abbrev one : ℕ → Option ℕ → ℕ
one other None = other
one other (Some x) = x

in_range_by : (test : ℕ → Bool) (n lo p : ℕ) → (first_in (filter test (range_with_len (lo + 1) n)) ≡ Some p → (lo + 1 ≤ p) × (p < lo + 1 + n)) → (b : Bool) → test lo ≡ b
    → first_in (filter test (lo ∷ range_with_len (lo + 1) n)) ≡ Some p → (lo ≤ p) × (p < lo + suc n)
in_range_by test n lo p later true is e = let same : lo ≡ p = ap (one lo) (rw is at e) in (omega (arith, same), omega (arith, same))
in_range_by test n lo p later false is e = let rest = later (rw is at e) in let low = rest.0 in let high = rest.1 in (omega (arith, low), omega (arith, high))

in_range : (test : ℕ → Bool) (n lo p : ℕ) → first_in (filter test (range_with_len lo n)) ≡ Some p → (lo ≤ p) × (p < lo + n)
in_range test zero lo p e = absurd (none_some p e)
in_range test (suc n) lo p e = in_range_by test n lo p (in_range test n (lo + 1) p) (test lo) refl e

found_within : (wanted : Wanted) (shape : FileShape) (view : View) (e p : ℕ) → find_of wanted shape view e ≡ Some p → (8 * e ≤ p) × (p < 8 * e + 8)
found_within Shared shape view e p is = in_range (is_spare shape view) 8 (8 * e) p is
found_within Unused shape view e p is = by_system (is_system_extent shape.geometry e) is
  where
    by_system : (b : Bool) → (if b then None else Some (8 * e)) ≡ Some p → (8 * e ≤ p) × (p < 8 * e + 8)
    by_system true is = absurd (none_some p is)
    by_system false is = let same : 8 * e ≡ p = ap (one p) is in (omega (arith, same), omega (arith, same))

-- the maps of a page's extent are those of the page
reached_of : (shape : FileShape) (e p : ℕ) → 8 * e ≤ p → p < 8 * e + 8
    → WereReached ((gam_place shape.geometry e).page ∷ (sgam_place shape.geometry e).page ∷ pfs_page shape.geometry (8 * e) ∷ []) shape p
reached_of shape e p low high =
    let g = shape.geometry in
    let gam = (gam_place g e).page in
    let sgam = (sgam_place g e).page in
    let pfs = pfs_page g (8 * e) in
    let extent : e ≡ p / 8 = omega (arith, low, high) in
    let at : 8 * e + (p - 8 * e) ≡ p = omega (arith, low) in
    let same : pfs_page g (8 * e) ≡ pfs_page g p = sym (same_pfs g e (p - 8 * e) (omega (arith, low, high))) ∙ ap (pfs_page g) at in
    record {
      gam = subst (λ (k : ℕ). Contains (gam ∷ sgam ∷ pfs ∷ []) (gam_place g k).page) extent (Contains-append_left (gam ∷ []) (sgam ∷ pfs ∷ []) gam (Contains-push [] gam));
      sgam = subst (λ (k : ℕ). Contains (gam ∷ sgam ∷ pfs ∷ []) (sgam_place g k).page) extent (Contains-append_left (gam ∷ sgam ∷ []) (pfs ∷ []) sgam (Contains-push (gam ∷ []) sgam));
      pfs = subst (λ (k : ℕ). Contains (gam ∷ sgam ∷ pfs ∷ []) k) same (Contains-push (gam ∷ sgam ∷ []) pfs);
    }

-- more pages may be reached
pub reached_left : (xs ys : List ℕ) (shape : FileShape) (p : ℕ) → WereReached xs shape p → WereReached (xs ++ ys) shape p
reached_left xs ys shape p were = record {
  gam = Contains-append_left xs ys _ were.gam;
  sgam = Contains-append_left xs ys _ were.sgam;
  pfs = Contains-append_left xs ys _ were.pfs;
}

pub reached_right : (xs ys : List ℕ) (shape : FileShape) (p : ℕ) → WereReached ys shape p → WereReached (xs ++ ys) shape p
reached_right xs ys shape p were = record {
  gam = Contains-append_right xs ys _ were.gam;
  sgam = Contains-append_right xs ys _ were.sgam;
  pfs = Contains-append_right xs ys _ were.pfs;
}

-- ---- one extent after another

abbrev Were : FileShape → List ℕ → Option ℕ → View → Type 0
Were shape reached found w = (p : ℕ) → found ≡ Some p → WereReached reached shape p

same_of : (q p : ℕ) → Some q ≡ Some p → q ≡ p
same_of q p e = ap (one q) e

next_meets : (shape : FileShape) (wanted : Wanted) (e : ℕ) (rest : Plan (Option ℕ)) (view : View) → ((w : View) → Meets (Were shape) (rest w)) → (reached : List ℕ) (found : Option ℕ) (w : View)
    → FoundAt shape (find_of wanted shape) e view reached found w → Meets (λ more x u. Were shape (reached ++ more) x u) (or_later found rest w)
next_meets shape wanted e rest view later reached None w k = λ x u is p some. reached_right reached _ shape p (later w x u is p some)
next_meets shape wanted e rest view later reached (Some q) w k =
    let at = k.1 q refl in
    let within = found_within wanted shape view e q at.0 in
    meets_give (λ more x u. Were shape (reached ++ more) x u) (Some q) w (λ p some.
    subst (λ (k : ℕ). WereReached (reached ++ []) shape k) (same_of q p some)
    (reached_left reached [] shape q (subst (λ (r : List ℕ). WereReached r shape q) (sym at.1) (reached_of shape e q within.0 within.1))))

first_meets : (shape : FileShape) (wanted : Wanted) (es : List ℕ) (view : View) → Meets (Were shape) (first_of (search_at shape (fits_of wanted shape) (find_of wanted shape)) es view)
unfolding first_of
first_meets shape wanted [] view = meets_give (Were shape) None view (λ p none. absurd (none_some p none))
first_meets shape wanted (e ∷ es) view =
    let try = search_at shape (fits_of wanted shape) (find_of wanted shape) in
    meets_then (FoundAt shape (find_of wanted shape) e view) (Were shape) (try e) (λ found. or_later found (first_of try es)) view (at_meets shape (fits_of wanted shape) (find_of wanted shape) e view)
    (next_meets shape wanted e (first_of try es) view (λ w. first_meets shape wanted es w))

pub search_reached : (shape : FileShape) (wanted : Wanted) (view after : View) (p : ℕ) → (search shape (fits_of wanted shape) (find_of wanted shape) view).ending ≡ Gives (Some p) after
    → WereReached (search shape (fits_of wanted shape) (find_of wanted shape) view).reached shape p
search_reached shape wanted view after p e = first_meets shape wanted (range_with_len 0 (shape.pages / 8)) view (Some p) after e p refl
