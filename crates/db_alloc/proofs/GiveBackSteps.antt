-- How a page of an object is given back, call by call.
use Rattle.std.proofs.Common.{◌≡◌, refl, ℕ, suc, ◌+◌, ◌-◌, ◌/◌, ◌<◌, ◌≤◌, Bool, true, false, IsTrue, List, [], ◌∷◌, length, map, filter, get_or, All, Contains, Result, sym, ap, ◌∙◌, subst, arith}
use Rattle.std.specs.Prelude.{◌||◌, ◌==◌, Box, if◌then◌else◌, slice_index}
use Rattle.std.specs.Global.{Global}
use Rattle.std.specs.List.{list_any, range_with_len}
use Rattle.std.proofs.lemmas.Bool.{eqb-true}
use Rattle.std.proofs.lemmas.List.Folds.{Any-from_list_any}
use Rattle.pg_base.specs.declared.page.Page.{Page}
use Rattle.spec_file.specs.declared.data.PageNo.{PageNo}
use Rattle.spec_file.specs.declared.geometry.Geometry.{Geometry}
use Rattle.spec_file.specs.CatalogRows.{CatalogRow}
use Rattle.spec_file.specs.Image.{Image, page}
use Rattle.spec_plan.specs.Reading.{is_marked}
use Rattle.spec_words.specs.NetChanges.{FileShape}
use Rattle.spec_words.specs.Views.{View, Plan}
use Rattle.spec_words.specs.Words.{◌then◌, sees, for_each}
use Rattle.spec_words.specs.Tables.{object_pages}
use Rattle.spec_alloc.specs.Chains.{chain_now, put_slot, put_mark, slots_with}
use Rattle.spec_alloc.specs.Freeing.{slots_emptied, marks_emptied, object_page_freed}
use Rattle.db_locks.specs.declared.plan_pages.PageStop.{PageStop}
use Rattle.db_locks.specs.States.{PlanState}
use Rattle.db_locks.specs.Does.{DoesAfter}
use Rattle.db_locks.proofs.PlanLaws.{does_see}
use Rattle.db_alloc.specs.Drops.{owned_read}
use Rattle.db_alloc.specs.Frees.{one_freed}
use Rattle.db_alloc.specs.Marks.{marks, first_slots}
use Rattle.db_alloc.specs.Tables.{numbers, bytes_of}
use Rattle.db_alloc.proofs.SearchSteps.{extents_first, extents_end}
use Rattle.db_alloc.proofs.SingleSteps.{does_next}
use Rattle.db_alloc.proofs.SlotSteps.{slot_hit, slot_miss, slots_told}
use Rattle.db_alloc.proofs.Steps.{then_assoc, then_same, give_then}

-- ---- slots

-- those of the slots from i on that hold page p
abbrev pub held_from : List PageNo → ℕ → ℕ → List ℕ
held_from slots p i = filter (λ k. slice_index (numbers slots) k == p) (range_with_len i (length slots - i))

kept : (f : ℕ → Bool) (x : ℕ) (xs : List ℕ) → f x ≡ true → filter f (x ∷ xs) ≡ x ∷ filter f xs
kept f x xs e = rw e refl

passed : (f : ℕ → Bool) (x : ℕ) (xs : List ℕ) → f x ≡ false → filter f (x ∷ xs) ≡ filter f xs
passed f x xs e = rw e refl

pub held_hit : (slots : List PageNo) (p i : ℕ) (d : PageNo) → i < length slots → (get_or slots i d).0 ≡ p → held_from slots p i ≡ i ∷ held_from slots p (i + 1)
held_hit slots p i d lt e =
    let f : ℕ → Bool = λ k. slice_index (numbers slots) k == p in
    ap (filter f) (extents_first i (length slots) lt) ∙ kept f i _ (slot_hit p slots i d lt e)

pub held_miss : (slots : List PageNo) (p i : ℕ) (d : PageNo) → i < length slots → ((get_or slots i d).0 ≡ p → ⊥) → held_from slots p i ≡ held_from slots p (i + 1)
held_miss slots p i d lt ne =
    let f : ℕ → Bool = λ k. slice_index (numbers slots) k == p in
    ap (filter f) (extents_first i (length slots) lt) ∙ passed f i _ (slot_miss p slots i d lt ne)

pub held_none : (slots : List PageNo) (p i : ℕ) → length slots ≤ i → held_from slots p i ≡ []
held_none slots p i end = ap (filter (λ k. slice_index (numbers slots) k == p)) (extents_end i (length slots) end)

-- the slots that hold the page were known, and were emptied one after another
pub slots_out : {a b : PlanState} (looked : List ℕ) (chain : List ℕ) (slots : List PageNo) (p : ℕ) {result : Result (Unit {0}) PageStop} → 1 ≤ length chain
    → (IsTrue a.told → numbers slots ≡ first_slots (map (page a.view.now) chain)) → DoesAfter looked a b (for_each (put_slot chain 0) (held_from slots p 0)) result
    → DoesAfter looked a b (slots_emptied chain p) result
slots_out {a} looked chain slots p some read d =
    let all : length slots - 0 ≡ length slots = omega arith in
    let f : ℕ → Bool = λ k. slice_index (numbers slots) k == p in
    does_next (λ xs. for_each (put_slot chain 0) xs)
    (does_see looked a (slots_with chain p) (held_from slots p 0) (λ told. ap (λ (n : ℕ). filter f (range_with_len 0 n)) all ∙ slots_told p a.view chain slots some (read told))) d

-- ---- marks

-- the pages whose bytes beside them mark the extent of page p
abbrev pub marking : Geometry → ℕ → List PageNo → List (Box Page Global) → List ℕ
marking g p [] iams = []
marking g p (q ∷ qs) [] = []
marking g p (q ∷ qs) (iam ∷ iams) = if marks g p iam.value.bytes then q.0 ∷ marking g p qs iams else marking g p qs iams

pub marking_hit : (g : Geometry) (p : ℕ) (qs rest : List PageNo) (iams others : List (Box Page Global)) (q : PageNo) (iam : Box Page Global) → qs ≡ q ∷ rest → iams ≡ iam ∷ others
    → marks g p iam.value.bytes ≡ true → marking g p qs iams ≡ q.0 ∷ marking g p rest others
marking_hit g p qs rest iams others q iam e h hit = rw (e, h, hit) refl

pub marking_miss : (g : Geometry) (p : ℕ) (qs rest : List PageNo) (iams others : List (Box Page Global)) (q : PageNo) (iam : Box Page Global) → qs ≡ q ∷ rest → iams ≡ iam ∷ others
    → marks g p iam.value.bytes ≡ false → marking g p qs iams ≡ marking g p rest others
marking_miss g p qs rest iams others q iam e h miss = rw (e, h, miss) refl

none_of : {A : Type 0} (xs : List A) → length xs ≡ 0 → xs ≡ []
none_of [] e = refl
none_of (x ∷ xs) e = absurd (omega (arith, e))

pub marking_first : (g : Geometry) (p : ℕ) (qs : List PageNo) (iams : List (Box Page Global)) → length qs ≡ 0 → marking g p qs iams ≡ []
marking_first g p qs iams e = rw (none_of qs e) refl

pub marking_second : (g : Geometry) (p : ℕ) (qs : List PageNo) (iams : List (Box Page Global)) → length iams ≡ 0 → marking g p qs iams ≡ []
marking_second g p [] iams e = refl
marking_second g p (q ∷ qs) iams e = rw (none_of iams e) refl

abbrev tail : {A : Type 0} → List A → List A
tail [] = []
tail (x ∷ xs) = xs

or_none : (b : Bool) → (b || false) ≡ b
or_none true = refl
or_none false = refl

mark_step : (f : ℕ → Bool) (x : ℕ) (xs rest : List ℕ) (b : Bool) → f x ≡ b → rest ≡ filter f xs → (if b then x ∷ rest else rest) ≡ filter f (x ∷ xs)
mark_step f x xs rest true e same = rw e (ap (λ ys. x ∷ ys) same)
mark_step f x xs rest false e same = rw e same

-- they are the pages of the chain that mark it
marking_told : (g : Geometry) (image : Image) (p : ℕ) (qs : List PageNo) (iams : List (Box Page Global)) → bytes_of iams ≡ map (page image) (numbers qs)
    → marking g p qs iams ≡ filter (λ q. is_marked g image (q ∷ []) p) (numbers qs)
marking_told g image p [] iams read = refl
marking_told g image p (q ∷ qs) [] read = let none = ap (λ (xs : List (List ℕ)). length xs) read in absurd (omega (arith, none))
marking_told g image p (q ∷ qs) (iam ∷ iams) read =
    let bytes = ap (λ (xs : List (List ℕ)). get_or xs 0 []) read in
    mark_step (λ k. is_marked g image (k ∷ []) p) q.0 (numbers qs) (marking g p qs iams) (marks g p iam.value.bytes)
    (or_none (marks g p (page image q.0)) ∙ ap (marks g p) (sym bytes))
    (marking_told g image p qs iams (ap tail read))

pub marks_out : {a b : PlanState} (looked : List ℕ) (g : Geometry) (chain : List PageNo) (iams : List (Box Page Global)) (p : ℕ) {result : Result (Unit {0}) PageStop} → g ≡ a.view.shape.geometry
    → (IsTrue a.told → bytes_of iams ≡ map (page a.view.now) (numbers chain)) → DoesAfter looked a b (for_each (put_mark a.view.shape (p / 8) 0) (marking g p chain iams)) result
    → DoesAfter looked a b (marks_emptied a.view.shape (numbers chain) p) result
marks_out {a} looked g chain iams p same read d =
    does_next (λ xs. for_each (put_mark a.view.shape (p / 8) 0) xs)
    (does_see looked a (λ view. filter (λ q. is_marked a.view.shape.geometry view.now (q ∷ []) p) (numbers chain)) (marking g p chain iams) (λ told.
    ap (λ (h : Geometry). marking h p chain iams) same ∙ marking_told a.view.shape.geometry a.view.now p chain iams (read told))) d

-- ---- lists of pages, from their first on

pub all_first : (P : ℕ → Type 0) (qs rest : List PageNo) (q : PageNo) → qs ≡ q ∷ rest → All P (numbers qs) → P q.0
all_first P qs rest q e all = (subst (λ (xs : List PageNo). All P (numbers xs)) e all) 0 q.0 (omega arith)

pub all_rest : (P : ℕ → Type 0) (qs rest : List PageNo) (q : PageNo) → qs ≡ q ∷ rest → All P (numbers qs) → All P (numbers rest)
all_rest P qs rest q e all k d lt = (subst (λ (xs : List PageNo). All P (numbers xs)) e all) (suc k) d (omega (arith, lt))

pub first_there : (qs rest : List PageNo) (q : PageNo) → qs ≡ q ∷ rest → Contains (numbers qs) q.0
first_there qs rest q e = subst (λ (xs : List PageNo). Contains (numbers xs) q.0) (sym e) (0, omega arith, refl)

pub rest_there : (qs rest : List PageNo) (q : PageNo) (r : ℕ) → qs ≡ q ∷ rest → Contains (numbers rest) r → Contains (numbers qs) r
rest_there qs rest q r e h = subst (λ (xs : List PageNo). Contains (numbers xs) r) (sym e) (let k = h.1 in (suc h.0, omega (arith, k), h.2))

-- what all numbers have, one that is among them has
pub all_in : (P : ℕ → Type 0) (xs : List ℕ) (x : ℕ) → All P xs → list_any (λ y. y == x) xs ≡ true → P x
all_in P xs x all there =
    let found = Any-from_list_any (λ y. y == x) xs there in
    subst P (found.3 ∙ eqb-true found.1 x found.4) (all found.0 found.1 found.2)

-- ---- all of it

sees_through : {A B C : Type 0} (f : View → A) (g : A → B) (next : B → Plan C) → (sees f then (λ x. next (g x))) ≡ (sees (λ view. g (f view)) then next)
unfolding ◌then◌ sees
sees_through f g next = refl

pub page_plan : (shape : FileShape) (row : CatalogRow) (p : ℕ) → (owned_read shape row then (λ (found : List ℕ × List ℕ). one_freed shape found.0 found.1 p)) ≡ object_page_freed shape row p
page_plan shape row p =
    let next : List ℕ × List ℕ → Plan (Unit {0}) = λ found. one_freed shape found.0 found.1 p in
    then_assoc (chain_now shape row) _ next ∙ then_same (chain_now shape row) (λ chain.
    then_assoc (sees (object_pages shape chain)) _ next ∙ then_same (sees (object_pages shape chain)) (λ pages. give_then (chain, pages) next)
    ∙ sees_through (object_pages shape chain) (λ pages. list_any (λ q. q == p) pages) _)
