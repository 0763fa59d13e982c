-- Where no page was found, the view is as it was.
use Rattle.std.proofs.Common.{◌≡◌, refl, ℕ, Bool, false, List, [], ◌∷◌, ◌++◌, Option, Some, None, IsTrue, Ok, sym, ap, ◌∙◌, subst}
use Rattle.std.specs.Prelude.{is_some}
use Rattle.std.specs.Option.{option_map}
use Rattle.std.proofs.lemmas.Bool.{false≢true, true≢false}
use Rattle.spec_file.specs.declared.data.PageNo.{PageNo}
use Rattle.spec_file.specs.declared.pfs.PfsKind.TheVariants as kinds
use Rattle.spec_file.specs.Pfs.{expected}
use Rattle.spec_words.specs.NetChanges.{FileShape, extents_of}
use Rattle.spec_words.specs.Views.{View, End, Gives, Stops, Plan}
use Rattle.spec_words.specs.Words.{◌then◌, give, sees, or_later, first_of}
use Rattle.spec_alloc.specs.Search.{search_from, where_found, either, first_in, search_at, search}
use Rattle.spec_alloc.specs.SinglePages.{is_shared, is_unused, spare_page, first_page_of, of_mixed, of_free, single_page}
use Rattle.spec_alloc.specs.Chains.{page_taken, put_slot, slots_with}
use Rattle.spec_alloc.specs.ObjectPages.{page_in_slot, slot_page, lowest_marked, marked_page_taken, marked_page}
use Rattle.law_net.specs.GoodViews.{IfGives, Leads}
use Rattle.law_net.proofs.WordLaws.{leads_then, leads_give, leads_sees, leads_weaker}
use Rattle.db_locks.specs.States.{PlanState}
use Rattle.db_locks.specs.Does.{Stop, DoesAs}
use Rattle.db_alloc.proofs.Reached.{FoundAt, at_meets}
use Rattle.db_alloc.proofs.Reaches.{any_ends, by_ending}

-- ---- a search leaves the view

-- what holds wherever a plan gives something, holds of its ending
met : {A : Type 0} (K : List ℕ → A → View → Type 0) (reached : List ℕ) (e : End A) → ((x : A) (w : View) → e ≡ Gives x w → K reached x w) → IfGives (K reached) e
met K reached (Gives x w) h = h x w refl
met K reached (Stops refusal) h = tt

-- a plan leaves the view
abbrev Same : {A : Type 0} → Plan A → View → Type 0
Same plan v = Leads plan v (λ x w. w ≡ v)

-- a search in one extent leaves the view
at_same : (shape : FileShape) (fits : View → ℕ → Bool) (find : View → ℕ → Option ℕ) (e : ℕ) (v : View) → Same (search_at shape fits find e) v
at_same shape fits find e v =
    let here = search_at shape fits find e v in
    leads_weaker (search_at shape fits find e) v (FoundAt shape find e v here.reached) (λ x w. w ≡ v) (λ x w h. h.0)
    (met (FoundAt shape find e v) here.reached here.ending (at_meets shape fits find e v))

-- so does what goes on from what was found, where the rest does
later_same : (found : Option ℕ) (rest : Plan (Option ℕ)) (v w : View) → w ≡ v → ((u : View) → Same rest u) → Leads (or_later found rest) w (λ x u. u ≡ v)
later_same None rest v w e same = subst (λ (k : View). Leads rest w (λ x u. u ≡ k)) e (same w)
later_same (Some p) rest v w e same = leads_give (Some p) w (λ x u. u ≡ v) e

-- so does the first that finds something
first_same : (try : ℕ → Plan (Option ℕ)) (es : List ℕ) → ((e : ℕ) (v : View) → Same (try e) v) → (v : View) → Same (first_of try es) v
unfolding first_of
first_same try [] same v = leads_give None v (λ x w. w ≡ v) refl
first_same try (e ∷ es) same v =
    leads_then (try e) (λ found. or_later found (first_of try es)) v (λ x w. w ≡ v)
    (leads_weaker (try e) v (λ x w. w ≡ v) (λ found w. Leads (or_later found (first_of try es)) w (λ x u. u ≡ v))
    (λ found w here. later_same found (first_of try es) v w here (first_same try es same)) (same e v))

-- so does a search over all extents
search_same : (shape : FileShape) (fits : View → ℕ → Bool) (find : View → ℕ → Option ℕ) (v : View) → Same (search shape fits find) v
search_same shape fits find v = first_same (search_at shape fits find) (extents_of shape) (λ e w. at_same shape fits find e w) v

-- ---- where nothing is found

-- a plan that finds nothing leaves the view
abbrev KeepsNone : Plan (Option ℕ) → Type 0
KeepsNone plan = (v : View) → Leads plan v (λ found w. found ≡ None → w ≡ v)

-- what is found isn't nothing
some_none : (p : ℕ) → Some p ≡ None → ⊥
some_none p e = false≢true (ap is_some (sym e))

-- what takes a page gives one
never_none : (next : ℕ → Plan ℕ) (p : ℕ) (w : View) (K : View → Type 0) → Leads (where_found (Some p) next) w (λ x u. x ≡ None → K u)
never_none next p w K =
    leads_then (next p) (λ q. give (Some q)) w (λ x u. x ≡ None → K u)
    (any_ends (λ q u. Leads (give (Some q)) u (λ x y. x ≡ None → K y)) (next p w).ending (λ q u. leads_give (Some q) u (λ x y. x ≡ None → K y) (λ none. absurd (some_none q none))))

-- nothing was taken where nothing was found
found_keeps : (next : ℕ → Plan ℕ) (found : Option ℕ) (v w : View) → (found ≡ None → w ≡ v) → Leads (where_found found next) w (λ x u. x ≡ None → u ≡ v)
found_keeps next None v w e = leads_give None w (λ x u. x ≡ None → u ≡ v) (λ none. e refl)
found_keeps next (Some p) v w e = never_none next p w (λ u. u ≡ v)

-- what takes what another plan finds
taken_none : (plan : Plan (Option ℕ)) (next : ℕ → Plan ℕ) → KeepsNone plan → KeepsNone (plan then (λ found. where_found found next))
taken_none plan next keeps v =
    leads_then plan (λ found. where_found found next) v (λ x w. x ≡ None → w ≡ v)
    (leads_weaker plan v (λ x w. x ≡ None → w ≡ v) (λ found w. Leads (where_found found next) w (λ x u. x ≡ None → u ≡ v)) (λ found w e. found_keeps next found v w e) (keeps v))

-- what finds something by one plan or else by another
either_none : (first second : Plan (Option ℕ)) → KeepsNone first → KeepsNone second → KeepsNone (either first second)
either_none first second one other v =
    leads_then first (λ found. or_later found second) v (λ x w. x ≡ None → w ≡ v)
    (leads_weaker first v (λ x w. x ≡ None → w ≡ v) (λ found w. Leads (or_later found second) w (λ x u. x ≡ None → u ≡ v)) by_found (one v))
  where
    by_found : (found : Option ℕ) (w : View) → (found ≡ None → w ≡ v) → Leads (or_later found second) w (λ x u. x ≡ None → u ≡ v)
    by_found None w e = leads_weaker second w (λ x u. x ≡ None → u ≡ w) (λ x u. x ≡ None → u ≡ v) (λ x u k none. k none ∙ e refl) (other w)
    by_found (Some p) w e = leads_give (Some p) w (λ x u. x ≡ None → u ≡ v) (λ none. absurd (some_none p none))

-- what leaves the view does so too where it finds nothing
same_none : (plan : Plan (Option ℕ)) → ((v : View) → Same plan v) → KeepsNone plan
same_none plan same v = leads_weaker plan v (λ x w. w ≡ v) (λ x w. x ≡ None → w ≡ v) (λ x w e none. e) (same v)

-- a single page
single_none : (shape : FileShape) (byte : ℕ) → KeepsNone (single_page shape byte)
single_none shape byte =
    let shared = search shape (is_shared shape) (spare_page shape) in
    let unused = search shape (is_unused shape) (first_page_of shape) in
    either_none (shared then (λ found. where_found found (of_mixed shape byte))) (unused then (λ found. where_found found (of_free shape byte)))
    (taken_none shared (of_mixed shape byte) (same_none shared (search_same shape (is_shared shape) (spare_page shape))))
    (taken_none unused (of_free shape byte) (same_none unused (search_same shape (is_unused shape) (first_page_of shape))))

-- a single page for a slot
pub slot_none : (shape : FileShape) (chain path : List ℕ) → KeepsNone (slot_page shape chain path)
slot_none shape chain path v =
    let free : View → Option ℕ = λ view. first_in (slots_with chain 0 view) in
    leads_then (sees free) (λ slot. search_from slot (page_in_slot shape chain path)) v (λ x w. x ≡ None → w ≡ v)
    (leads_sees free v (λ slot w. Leads (search_from slot (page_in_slot shape chain path)) w (λ x u. x ≡ None → u ≡ v)) (by_slot (free v)))
  where
    by_slot : (slot : Option ℕ) → Leads (search_from slot (page_in_slot shape chain path)) v (λ x u. x ≡ None → u ≡ v)
    by_slot None = leads_give None v (λ x u. x ≡ None → u ≡ v) (λ none. refl)
    by_slot (Some i) = taken_none (single_page shape (expected kinds.Single 0)) (λ p. page_taken (chain ++ path) p then (λ _. put_slot chain p i then (λ _. give p))) (single_none shape (expected kinds.Single 0)) v

-- a page of a marked extent
pub marked_none : (shape : FileShape) (chain path : List ℕ) → KeepsNone (marked_page shape chain path)
marked_none shape chain path =
    taken_none (sees (lowest_marked shape chain)) (marked_page_taken shape (chain ++ path)) (λ v. leads_sees (lowest_marked shape chain) v (λ x w. x ≡ None → w ≡ v) (λ none. refl))

-- a call did so, and found nothing
pub none_same : {E : Type 0} {meaning : E → Stop} {looked : List ℕ} {a b : PlanState} (plan : Plan (Option ℕ)) (found : Option PageNo) → KeepsNone plan → is_some found ≡ false
    → DoesAs meaning looked a b plan (Ok (option_map (λ p. p.0) found)) → IsTrue a.told → b.view ≡ a.view
none_same {a = a} {b} plan None keeps none d told = by_ending (λ x w. x ≡ None → w ≡ a.view) (plan a.view).ending None b.view (d.exact told) (keeps a.view) refl
none_same plan (Some p) keeps none d told = absurd (true≢false none)
