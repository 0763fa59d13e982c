-- The first page of a free extent is taken, and the extent is marked, call by call.
use Rattle.std.proofs.Common.{◌≡◌, refl, ℕ, ◌+◌, ◌/◌, ◌<◌, Bool, true, false, not, IsTrue, List, [], ◌∷◌, ◌++◌, length, map, filter, drop, get_or, Contains, Option, Some, None, Ok, sym, ap, ◌∙◌, subst, arith}
use Rattle.std.specs.Prelude.{◌==◌, Box}
use Rattle.std.specs.Global.{Global}
use Rattle.std.specs.List.{list_any}
use Rattle.std.proofs.Math.ListN.{get_or-map}
use Rattle.std.proofs.lemmas.Bool.{eq-eqb, ne_eqb}
use Rattle.std.proofs.lemmas.List.{length-map, get_or_default}
use Rattle.std.proofs.lemmas.List.Elements.{Contains-append_left, Contains-append_right, Contains-push}
use Rattle.pg_base.specs.declared.page.Page.{Page}
use Rattle.spec_file.specs.declared.data.PageNo.{PageNo}
use Rattle.spec_file.specs.declared.data.Resource.TheVariants as resource
use Rattle.spec_file.specs.declared.pfs.PfsKind.TheVariants as kinds
use Rattle.spec_file.specs.CatalogRows.{CatalogRow}
use Rattle.spec_file.specs.Iam.{iam_interval}
use Rattle.spec_file.specs.Image.{Image, page}
use Rattle.spec_file.specs.Pfs.{expected}
use Rattle.spec_file.specs.Places.{interval_of_page, gam_place, sgam_place, pfs_page}
use Rattle.spec_plan.specs.Changes.{last_of}
use Rattle.spec_words.specs.NetChanges.{FileShape}
use Rattle.spec_words.specs.Views.{View, Plan}
use Rattle.spec_words.specs.Words.{◌then◌, give, sees, look, where_good, put_gam, put_page, found_or}
use Rattle.spec_alloc.specs.Search.{first_in}
use Rattle.spec_alloc.specs.SinglePages.{single_page, no_page}
use Rattle.spec_alloc.specs.Chains.{page_taken, new_iam_page, put_mark, put_next}
use Rattle.spec_alloc.specs.ObjectPages.{marked_page_taken, iam_of, new_iam, extent_marked}
use Rattle.db_locks.specs.States.{PlanState}
use Rattle.db_locks.specs.Does.{Stop, DoesAs}
use Rattle.db_alloc.specs.declared.chain.Chain.{Chain}
use Rattle.db_alloc.specs.Drops.{LeavesPages}
use Rattle.db_alloc.specs.Objects.{last_page_put, extent_opened, iam_had, HasChain}
use Rattle.db_alloc.specs.Searches.{WereReached}
use Rattle.db_alloc.specs.Tables.{numbers, bytes_of}
use Rattle.db_alloc.proofs.DropSteps.{chain_same}
use Rattle.db_alloc.proofs.GrowSteps.{chain_stays}
use Rattle.db_alloc.proofs.Leaves.{opened_leaves}
use Rattle.db_alloc.proofs.MapReads.{first_hit, first_miss}
use Rattle.db_alloc.proofs.MarkedSteps.{here_first, here_not, none_some}
use Rattle.db_alloc.proofs.NearPages.{number_at}
use Rattle.db_alloc.proofs.Reaches.{Ends, ends_then, ends_look, any_ends, by_ending, weaker}
use Rattle.db_alloc.proofs.Steps.{then_assoc, then_same}

-- ---- the page of a chain that speaks of an interval

-- a page speaks of an interval
abbrev pub speaks : Image → ℕ → ℕ → Bool
speaks image interval q = iam_interval (page image q) == interval

-- a place of a list is one of its numbers
below_numbers : (chain : List PageNo) (i : ℕ) → i < length chain → i < length (numbers chain)
below_numbers chain i lt = subst (λ (n : ℕ). i < n) (sym (length-map chain (λ (p : PageNo). p.0))) lt

-- the bytes beside a page are its own
bytes_at : (image : Image) (chain : List PageNo) (iams : List (Box Page Global)) (i : ℕ) (d : Box Page Global) → bytes_of iams ≡ map (page image) (numbers chain) → i < length chain → i < length iams
    → (get_or iams i d).value.bytes ≡ page image (get_or (numbers chain) i 0)
bytes_at image chain iams i d same lt below =
    let bytes : List (List ℕ) = bytes_of iams in
    let there : i < length bytes = subst (λ (n : ℕ). i < n) (sym (length-map iams (λ (b : Box Page Global). b.value.bytes))) below in
    sym (get_or-map (λ (b : Box Page Global). b.value.bytes) iams i d) ∙ get_or_default bytes i d.value.bytes (page image 0) there
    ∙ ap (λ (xs : List (List ℕ)). get_or xs i (page image 0)) same ∙ get_or-map (page image) (numbers chain) i 0

-- page i of the chain speaks of the interval: it is the first of the rest
pub iam_hit : (image : Image) (interval : ℕ) (chain : List PageNo) (iams : List (Box Page Global)) (i : ℕ) (q : PageNo) (d : Box Page Global) → bytes_of iams ≡ map (page image) (numbers chain)
    → i < length chain → i < length iams → iam_interval (get_or iams i d).value.bytes ≡ interval → first_in (filter (speaks image interval) (drop i (numbers chain))) ≡ Some (get_or chain i q).0
iam_hit image interval chain iams i q d same lt below is =
    here_first (speaks image interval) (numbers chain) i (below_numbers chain i lt)
    (eq-eqb (iam_interval (page image (get_or (numbers chain) i 0))) interval (ap iam_interval (sym (bytes_at image chain iams i d same lt below)) ∙ is))
    ∙ ap (λ (p : ℕ). Some p) (number_at chain i q lt 0)

-- it doesn't: the first of the rest stands behind it
pub iam_miss : (image : Image) (interval : ℕ) (chain : List PageNo) (iams : List (Box Page Global)) (i : ℕ) (d : Box Page Global) → bytes_of iams ≡ map (page image) (numbers chain)
    → i < length chain → i < length iams → (iam_interval (get_or iams i d).value.bytes ≡ interval → ⊥)
    → first_in (filter (speaks image interval) (drop i (numbers chain))) ≡ first_in (filter (speaks image interval) (drop (i + 1) (numbers chain)))
iam_miss image interval chain iams i d same lt below ne =
    here_not (speaks image interval) (numbers chain) i (below_numbers chain i lt)
    (ne_eqb (iam_interval (page image (get_or (numbers chain) i 0))) interval (λ e. ne (ap iam_interval (bytes_at image chain iams i d same lt below) ∙ e)))

-- that is what the words look for
pub iam_told : (shape : FileShape) (view : View) (chain ps : List PageNo) (items iams : List (Box Page Global)) (p interval : ℕ) (found : Option ℕ) → ps ≡ chain → iams ≡ items
    → bytes_of items ≡ map (page view.now) (numbers chain) → interval ≡ interval_of_page shape.geometry p
    → ((image : Image) → bytes_of iams ≡ map (page image) (numbers ps) → found ≡ first_in (filter (speaks image interval) (numbers ps))) → found ≡ iam_of shape (numbers chain) p view
iam_told shape view chain ps items iams p interval found same_ps same_iams read is first =
    first view.now (ap (λ (bs : List (Box Page Global)). bytes_of bs) same_iams ∙ read ∙ ap (λ (qs : List PageNo). map (page view.now) (numbers qs)) (sym same_ps))
    ∙ ap (λ (qs : List PageNo). first_in (filter (speaks view.now interval) (numbers qs))) same_ps
    ∙ ap (λ (k : ℕ). first_in (filter (speaks view.now k) (numbers chain))) is

-- ---- it was reached

-- a page that was taken was reached
taken_end : (standing : List ℕ) (q : ℕ) (v : View) → Ends (page_taken standing q v) (λ reached x w. Contains reached q)
taken_end standing q v =
    let r = resource.Page (record { 0 = q }) in
    let next : List ℕ → Plan ℕ = λ bytes. where_good (not (list_any (λ r. r == q) standing)) q then (λ _. give q) in
    ends_then (look r q) next v (λ reached x w. Contains reached q)
    (ends_look r q v (λ reached bytes w. Ends (next bytes w) (λ more x u. Contains (reached ++ more) q))
    (any_ends _ (next (page v.now q) v).ending (λ x u. Contains-append_left (q ∷ []) (next (page v.now q) v).reached q (Contains-push [] q))))

-- a page that became the last of a chain was reached
last_end : (id : ℕ) (chain path : List ℕ) (interval q : ℕ) (v : View) → Ends (last_page_put id chain path interval q v) (λ reached x w. Contains reached x)
unfolding give
last_end id chain path interval q v =
    let last = last_of 0 chain in
    let put : Plan (Unit {0}) = put_page q (new_iam_page id q last interval (length chain)) in
    let named : Plan ℕ = put_next last q then (λ _. give q) in
    let taken = page_taken (chain ++ path) q in
    let first = (taken v).reached in
    ends_then taken (λ _. put then (λ _. named)) v (λ reached x w. Contains reached x)
    (weaker (λ x w. Contains first q) (λ x w. Ends ((put then (λ _. named)) w) (λ more y u. Contains (first ++ more) y)) (taken v).ending (λ x w here.
    ends_then put (λ _. named) w (λ more y u. Contains (first ++ more) y)
    (any_ends _ (put w).ending (λ s u.
    ends_then (put_next last q) (λ _. give q) u (λ more y z. Contains (first ++ ((put w).reached ++ more)) y)
    (any_ends _ (put_next last q u).ending (λ t z. Contains-append_left first ((put w).reached ++ ((put_next last q u).reached ++ [])) q here)))))
    (taken_end (chain ++ path) q v))

-- so was a new IAM page
new_end : (shape : FileShape) (row : CatalogRow) (chain path : List ℕ) (p : ℕ) (v : View) → Ends (new_iam shape row chain path p v) (λ reached x w. Contains reached x)
new_end shape row chain path p v =
    let single : Plan (Option ℕ) = single_page shape (expected kinds.Iam 0) in
    let put : ℕ → Plan ℕ = last_page_put row.id chain path (interval_of_page shape.geometry p) in
    let first = (single v).reached in
    ends_then single (λ found. found_or found (no_page shape) then put) v (λ reached x w. Contains reached x)
    (any_ends _ (single v).ending (λ found w.
    let or_none : Plan ℕ = found_or found (no_page shape) in
    let second = (or_none w).reached in
    ends_then or_none put w (λ more x u. Contains (first ++ more) x)
    (any_ends _ (or_none w).ending (λ q u.
    weaker (λ x z. Contains (put q u).reached x) (λ x z. Contains (first ++ (second ++ (put q u).reached)) x) (put q u).ending
    (λ x z h. Contains-append_right first (second ++ (put q u).reached) x (Contains-append_right second (put q u).reached x h))
    (last_end row.id chain path (interval_of_page shape.geometry p) q u)))))

-- what there is, or another number
abbrev one : ℕ → Option ℕ → ℕ
one other None = other
one other (Some x) = x

-- the first that passes a test is one of the list, by whether the first item passes
among_by : (f : ℕ → Bool) (x : ℕ) (xs : List ℕ) (q : ℕ) → (first_in (filter f xs) ≡ Some q → Contains xs q) → (b : Bool) → f x ≡ b → first_in (filter f (x ∷ xs)) ≡ Some q → Contains (x ∷ xs) q
among_by f x xs q later true is e = subst (λ (y : ℕ). Contains (x ∷ xs) y) (ap (one x) (sym (first_hit f x xs is) ∙ e)) (0, omega arith, refl)
among_by f x xs q later false is e = Contains-append_right (x ∷ []) xs q (later (sym (first_miss f x xs is) ∙ e))

-- and so for any list
first_among : (f : ℕ → Bool) (xs : List ℕ) (q : ℕ) → first_in (filter f xs) ≡ Some q → Contains xs q
first_among f [] q e = absurd (none_some q e)
first_among f (x ∷ xs) q e = among_by f x xs q (first_among f xs q) (f x) refl e

-- the page that was found is of the chain, which was reached; a new one was reached now
iam_by : (shape : FileShape) (row : CatalogRow) (chain path : List ℕ) (p : ℕ) (looked : List ℕ) (v : View) → ((q : ℕ) → Contains chain q → Contains looked q) → (iam : Option ℕ)
    → ((q : ℕ) → iam ≡ Some q → Contains chain q) → Ends (found_or iam (new_iam shape row chain path p) v) (λ reached q w. Contains (looked ++ reached) q)
unfolding give
iam_by shape row chain path p looked v before None there =
    let new = new_iam shape row chain path p in
    weaker (λ q w. Contains (new v).reached q) (λ q w. Contains (looked ++ (new v).reached) q) (new v).ending (λ q w h. Contains-append_right looked (new v).reached q h) (new_end shape row chain path p v)
iam_by shape row chain path p looked v before (Some q) there = Contains-append_left looked [] q (before q (there q refl))

-- the same of what is seen first
iam_end : (shape : FileShape) (row : CatalogRow) (chain path : List ℕ) (p : ℕ) (looked : List ℕ) (v : View) → ((q : ℕ) → Contains chain q → Contains looked q)
    → Ends (iam_had shape row chain path p v) (λ reached q w. Contains (looked ++ reached) q)
unfolding sees
iam_end shape row chain path p looked v before =
    let interval = interval_of_page shape.geometry p in
    ends_then (sees (iam_of shape chain p)) (λ iam. found_or iam (new_iam shape row chain path p)) v (λ reached q w. Contains (looked ++ reached) q)
    (iam_by shape row chain path p looked v before (iam_of shape chain p v) (λ q e. first_among (speaks v.now interval) chain q e))

-- the IAM page that was found, or is new, was reached
pub iam_reached : {E : Type 0} {meaning : E → Stop} {a b : PlanState} (looked : List ℕ) (row : CatalogRow) (chain path : List ℕ) (p q : ℕ) → (IsTrue a.told → (r : ℕ) → Contains chain r → Contains looked r)
    → DoesAs meaning looked a b (iam_had a.view.shape row chain path p) (Ok q) → IsTrue b.told → Contains (looked ++ (iam_had a.view.shape row chain path p a.view).reached) q
iam_reached {a = a} {b} looked row chain path p q before d told =
    let begun = sym d.stays.told ∙ told in
    let had = iam_had a.view.shape row chain path p in
    by_ending (λ r w. Contains (looked ++ (had a.view).reached) r) (had a.view).ending q b.view (d.exact begun) (iam_end a.view.shape row chain path p looked a.view (before begun))

-- ---- all of it

-- the maps that speak of page p
abbrev pub maps_of : FileShape → ℕ → List ℕ
maps_of shape p = (gam_place shape.geometry (p / 8)).page ∷ (sgam_place shape.geometry (p / 8)).page ∷ pfs_page shape.geometry p ∷ []

-- they are those that a page needs
pub maps_reached : (shape : FileShape) (p : ℕ) → WereReached (maps_of shape p) shape p
maps_reached shape p = record { gam = (0, omega arith, refl); sgam = (1, omega arith, refl); pfs = (2, omega arith, refl) }

-- the pages of a chain stay, where an extent is opened
pub chain_opened : {E : Type 0} {meaning : E → Stop} {a b : PlanState} {looked : List ℕ} (chain : Chain) (standing : List ℕ) (p : ℕ) {x : ℕ} → DoesAs meaning looked a b (extent_opened a.view.shape standing p) (Ok x) → HasChain chain a → HasChain chain b
chain_opened {a = a} {b} chain standing p {x} d has = record {
  is = chain_stays chain.numbers.items d.stays has.is;
  read = λ told.
      let begun = sym d.stays.told ∙ told in
      let g = a.view.shape.geometry in
      let leaves = by_ending (λ y w. LeavesPages g a.view w) (extent_opened a.view.shape standing p a.view).ending x b.view (d.exact begun) (opened_leaves a.view.shape standing p a.view) in
      let own = has.is in
      has.read begun ∙ sym (chain_same a.view.shape a.view b.view (numbers chain.numbers.items) own.ownable leaves);
}

-- the parts of the plan in a row are the plan
pub marked_plan : (shape : FileShape) (row : CatalogRow) (chain path : List ℕ) (p : ℕ)
    → (extent_opened shape (chain ++ path) p then (λ _. iam_had shape row chain path p then (λ q. put_mark shape (p / 8) 1 q then (λ _. give p)))) ≡ extent_marked shape row chain path p
marked_plan shape row chain path p =
    let last : ℕ → Plan ℕ = λ q. put_mark shape (p / 8) 1 q then (λ _. give p) in
    let taken = marked_page_taken shape (chain ++ path) p in
    then_assoc (put_gam shape (p / 8) 0) (λ _. taken) (λ _. iam_had shape row chain path p then last)
    ∙ then_same (put_gam shape (p / 8) 0) (λ _. then_same taken (λ _. then_assoc (sees (iam_of shape chain p)) (λ iam. found_or iam (new_iam shape row chain path p)) last))
