-- Reading a chain, page by page, goes along the pointers of the object's chain.
use Rattle.std.specs.Prelude.{if◌then◌else◌, ◌≡◌, ◌⊎◌, ℕ, zero, suc, ◌+◌, ◌<◌, ◌==◌, ◌&&◌, ◌||◌, Bool, true, false, not, IsTrue, is_none, Option, Some, None, List, [], ◌∷◌, ◌++◌, length}
use Rattle.std.specs.List.{list_any}
use Rattle.std.proofs.Common.{refl, ap, ◌∙◌, sym, subst, inl, inr, arith, add-one}
use Rattle.std.proofs.lemmas.Bool.{false≢true, cases_Bool, cases_order, and_parts, and_from, eqb-true, eq-eqb, not-true, not_from_false, not-false, or_parts, both_ways}
use Rattle.std.proofs.lemmas.List.FromFn.{length-map-range_with_len, map-range_with_len_more}
use Rattle.spec_file.specs.declared.data.Resource.{Resource}
use Rattle.spec_file.specs.declared.data.Resource.TheVariants as resource
use Rattle.spec_file.specs.Image.{Image, page}
use Rattle.spec_file.specs.Places.{is_inside}
use Rattle.spec_file.specs.Roles.{is_ordinary}
use Rattle.spec_file.specs.CatalogRows.{CatalogRow}
use Rattle.spec_chain.specs.declared.end.ChainEnd.{ChainEnd}
use Rattle.spec_chain.specs.Chains.{next_of, pointer, holder, is_last, fault_of_bytes, IsMet, GoesOn, HasPages}
use Rattle.spec_plan.specs.Refusals.{held_by, bad_page}
use Rattle.spec_plan.specs.Reading.{are_slots_inside}
use Rattle.spec_words.specs.NetChanges.{FileShape}
use Rattle.spec_words.specs.Views.{View, End, Gives, Stops, Outcome, Plan}
use Rattle.spec_words.specs.Words.{◌then◌, gone_on, by_holder, ended, give, sees, where_good, look}
use Rattle.spec_words.specs.Tables.{is_chain_page, chain_from, chain_of}
use Rattle.law_chains.specs.Laws.{chain_pages, IsReadable, Reads, ChainIsRead}
use Rattle.law_chains.specs.Laws.Reads.{Goes, Refuses}
use Rattle.spec_chain.proofs.Pointers.{goes_good, good_fault, whole_last, last_whole, last_parts}
use Rattle.law_chains.proofs.Ranges.{found_from, found_in}
use Rattle.spec_chain.proofs.ChainLaws.{chain_is_short}

-- the file that the view has
abbrev pub file_shape : View → FileShape
file_shape view = record view.shape { pages = length view.now }

abbrev pub seen : View → View
seen view = record view { shape = file_shape view }

count : (image : Image) (row : CatalogRow) (k : ℕ) → length (chain_pages image row k) ≡ k
count image row k = length-map-range_with_len (pointer image row) 0 k

-- a page of the list is one that the chain has met
met_from : (image : Image) (row : CatalogRow) (k p : ℕ) → list_any (λ q. q == p) (chain_pages image row k) ≡ true → IsMet image row k p
met_from image row k p any = let found = found_from (λ q. q == p) (pointer image row) k any in (found.0, found.1, eqb-true _ p found.2)

met_in : (image : Image) (row : CatalogRow) (k p : ℕ) → IsMet image row k p → list_any (λ q. q == p) (chain_pages image row k) ≡ true
met_in image row k p met = found_in (λ q. q == p) (pointer image row) k met.0 met.1 (eq-eqb _ p met.2)

none_is : (x : Option ChainEnd) → is_none x ≡ true → x ≡ None
none_is None h = refl
none_is (Some x) h = cc

none_test : (x : Option ChainEnd) → x ≡ None → is_none x ≡ true
none_test x h = ap is_none h

-- a page with which the reading goes on is the chain's
page_goes : (view : View) (row : CatalogRow) (k : ℕ) → is_inside (length view.now) (pointer view.now row k) ≡ true
    → is_chain_page (file_shape view) row (chain_pages view.now row k) (pointer view.now row k) (page view.now (pointer view.now row k)) ≡ true → GoesOn view.shape.geometry view.now row k
page_goes view row k inside is =
    let image = view.now in
    let q = pointer image row k in
    let fault = fault_of_bytes view.shape.geometry (length image) row.id q (page image q) in
    let any = list_any (λ p. p == q) (chain_pages image row k) in
    let parts = and_parts (is_ordinary view.shape.geometry q && is_none fault) (not any) is in
    let good = and_parts (is_ordinary view.shape.geometry q) (is_none fault) parts.0 in (
      good_fault view.shape.geometry image row k (record { inside = inside; ordinary = good.0; bytes = none_is fault good.1 }),
      λ met. both_ways any (not-true any parts.1) (met_in image row k q met),
    )

goes_page : (view : View) (row : CatalogRow) (k : ℕ) → GoesOn view.shape.geometry view.now row k
    → is_chain_page (file_shape view) row (chain_pages view.now row k) (pointer view.now row k) (page view.now (pointer view.now row k)) ≡ true
goes_page view row k on =
    let image = view.now in
    let q = pointer image row k in
    let fault = fault_of_bytes view.shape.geometry (length image) row.id q (page image q) in
    let any = list_any (λ p. p == q) (chain_pages image row k) in
    let good = goes_good view.shape.geometry image row k on in
    let unmet : any ≡ false = elim (cases_Bool any) [ inl met ↦ absurd (on.1 (met_from image row k q met)) | inr none ↦ none ] in
    and_from (is_ordinary view.shape.geometry q && is_none fault) (not any)
    (and_from (is_ordinary view.shape.geometry q) (is_none fault) good.ordinary (none_test fault good.bytes)) (not_from_false any unmet)

-- how the reading ends that stands at the k-th pointer, and may make m steps more
abbrev pub from_pointer : ℕ → View → CatalogRow → ℕ → End (List ℕ)
from_pointer m view row k = (chain_from m (file_shape view) row (chain_pages view.now row k) (holder view.now row k) (pointer view.now row k) (seen view)).ending

-- what it has seen when it stands there
record HasCome (view : View) (row : CatalogRow) (k : ℕ) : Type 0 where
  pages : HasPages view.shape.geometry view.now row k
  slots : 0 < k → IsTrue (are_slots_inside view.now row.first_iam)
  free : (j : ℕ) → j < k → view.other (resource.Page (record { 0 = pointer view.now row j })) ≡ None

passes : (view : View) (row : CatalogRow) (k n : ℕ) → HasCome view row k → is_last k (pointer view.now row k) ≡ false → IsReadable (seen view) row n → k < n
passes view row k n come more readable = elim (cases_order k n) [
  | inl same ↦ absurd (both_ways (is_last k (pointer view.now row k)) more
      (subst (λ j. is_last j (pointer view.now row j) ≡ true) (sym same) (whole_last view.shape.geometry view.now row n readable.chain.whole)))
  | inr (inl less) ↦ less
  | inr (inr beyond) ↦ absurd (readable.chain.pages.ends (come.pages n beyond))
]

-- so a chain that may be read goes on there
goes_here : (view : View) (row : CatalogRow) (k n : ℕ) → HasCome view row k → is_last k (pointer view.now row k) ≡ false → IsReadable (seen view) row n
    → GoesOn view.shape.geometry view.now row k
goes_here view row k n come more readable = readable.chain.pages.pages k (passes view row k n come more readable)

-- the single-page slots are asked of the first page alone
abbrev slots_test : View → CatalogRow → ℕ → Bool
slots_test view row k = not (length (chain_pages view.now row k) == 0) || are_slots_inside view.now (pointer view.now row k)

slots_seen : (view : View) (row : CatalogRow) (k : ℕ) → HasCome view row k → slots_test view row k ≡ true → IsTrue (are_slots_inside view.now row.first_iam)
slots_seen view row zero come passes = passes
slots_seen view row (suc k) come passes = come.slots (omega arith)

slots_wrong : (view : View) (row : CatalogRow) (k : ℕ) → slots_test view row k ≡ false → IsTrue (are_slots_inside view.now row.first_iam) → ⊥
slots_wrong view row k fails inside =
    let size = length (chain_pages view.now row k) in
    let parts = or_parts (not (size == 0)) (are_slots_inside view.now (pointer view.now row k)) fails in
    let none : k ≡ 0 = sym (count view.now row k) ∙ eqb-true size 0 (not-false (size == 0) parts.0) in
    both_ways (are_slots_inside view.now (pointer view.now row k)) parts.1
    (subst (λ j. are_slots_inside view.now (pointer view.now row j) ≡ true) (sym none) inside)

comes_on : (view : View) (row : CatalogRow) (k : ℕ) → HasCome view row k → GoesOn view.shape.geometry view.now row k
    → view.other (resource.Page (record { 0 = pointer view.now row k })) ≡ None → slots_test view row k ≡ true → HasCome view row (suc k)
comes_on view row k come on free slots = record {
  pages = λ j below. up_to k (GoesOn view.shape.geometry view.now row) come.pages on j below;
  slots = λ some. slots_seen view row k come slots;
  free = λ j below. up_to k (λ i. view.other (resource.Page (record { 0 = pointer view.now row i })) ≡ None) come.free free j below;
} where
  up_to : (k : ℕ) (P : ℕ → Type 0) → ((j : ℕ) → j < k → P j) → P k → (j : ℕ) → j < suc k → P j
  up_to k P before here j below = elim (cases_order j k) [
    | inl same ↦ subst P (sym same) here
    | inr (inl less) ↦ before j less
    | inr (inr more) ↦ absurd (omega (arith, below, more))
  ]

-- one page more
pages_more : (image : Image) (row : CatalogRow) (k : ℕ) → chain_pages image row (suc k) ≡ chain_pages image row k ++ pointer image row k ∷ []
pages_more image row k = ap (chain_pages image row) (sym (add-one k)) ∙ map-range_with_len_more (pointer image row) 0 k k (omega arith)

last_test : (image : Image) (row : CatalogRow) (k q : ℕ) (b : Bool) → is_last k q ≡ b → is_last (length (chain_pages image row k)) q ≡ b
last_test image row k q b e = ap (λ n. is_last n q) (count image row k) ∙ e

-- how words end
abbrev ended_so : Outcome (List ℕ) → End (List ℕ)
ended_so o = o.ending

if_true : (test : Bool) (first second : Plan (List ℕ)) (v : View) → test ≡ true → (if test then first else second) v ≡ first v
if_true true first second v e = refl
if_true false first second v e = absurd (false≢true e)

if_false : (test : Bool) (first second : Plan (List ℕ)) (v : View) → test ≡ false → (if test then first else second) v ≡ second v
if_false true first second v e = absurd (false≢true (sym e))
if_false false first second v e = refl

where_bad : (good : Bool) (p : ℕ) (next : Unit {0} → Plan (List ℕ)) (v : View) → good ≡ false → ((where_good good p then next) v).ending ≡ Stops (bad_page p)
unfolding ◌then◌ where_good
where_bad true p next v e = absurd (false≢true (sym e))
where_bad false p next v e = refl

where_right : (good : Bool) (p : ℕ) (next : Unit {0} → Plan (List ℕ)) (v : View) → good ≡ true → ((where_good good p then next) v).ending ≡ (next tt v).ending
unfolding ◌then◌ where_good
where_right true p next v e = refl
where_right false p next v e = absurd (false≢true e)

look_held : (r : Resource) (p : ℕ) (next : List ℕ → Plan (List ℕ)) (v : View) (t : ℕ) → v.other r ≡ Some t → ((look r p then next) v).ending ≡ Stops (held_by r t)
unfolding ◌then◌ look
look_held r p next v t e =
    ap (λ (o : Option ℕ). (gone_on (by_holder r o (ended (p ∷ []) (Gives (page v.now p) v))).reached (by_holder r o (ended (p ∷ []) (Gives (page v.now p) v))).ending next).ending) e

look_free : (r : Resource) (p : ℕ) (next : List ℕ → Plan (List ℕ)) (v : View) → v.other r ≡ None → ((look r p then next) v).ending ≡ (next (page v.now p) v).ending
unfolding ◌then◌ look
look_free r p next v e =
    ap (λ (o : Option ℕ). (gone_on (by_holder r o (ended (p ∷ []) (Gives (page v.now p) v))).reached (by_holder r o (ended (p ∷ []) (Gives (page v.now p) v))).ending next).ending) e

module _ (m : ℕ) (view : View) (row : CatalogRow) (k : ℕ) where
  abbrev here : ℕ
  here = pointer view.now row k

  abbrev held_page : Resource
  held_page = resource.Page (record { 0 = here })

  abbrev met : List ℕ
  met = chain_pages view.now row k

  abbrev slots_now : View → Bool
  slots_now v = not (length met == 0) || are_slots_inside v.now here

  abbrev with_slots : ℕ → Bool → Plan (List ℕ)
  with_slots next slots = where_good slots here then (λ _. chain_from m (file_shape view) row (met ++ here ∷ []) here next)

  abbrev with_page : List ℕ → Plan (List ℕ)
  with_page bytes = where_good (is_chain_page (file_shape view) row met here bytes) here then (λ _. sees slots_now then (λ slots. with_slots (next_of bytes) slots))

  abbrev rest : Plan (List ℕ)
  rest = where_good (is_inside (length view.now) here) (holder view.now row k) then (λ _. look held_page here then (λ bytes. with_page bytes))

  at_last : is_last k here ≡ true → from_pointer (suc m) view row k ≡ Gives met (seen view)
  unfolding give
  at_last e = ap ended_so (if_true (is_last (length met) here) (give met) rest (seen view) (last_test view.now row k here true e))

  goes : is_last k here ≡ false → from_pointer (suc m) view row k ≡ (rest (seen view)).ending
  goes e = ap ended_so (if_false (is_last (length met) here) (give met) rest (seen view) (last_test view.now row k here false e))

  at_outside : is_last k here ≡ false → is_inside (length view.now) here ≡ false → from_pointer (suc m) view row k ≡ Stops (bad_page (holder view.now row k))
  at_outside e outside = goes e ∙ where_bad (is_inside (length view.now) here) (holder view.now row k) (λ _. look held_page here then (λ bytes. with_page bytes)) (seen view) outside

  inside_goes : is_last k here ≡ false → is_inside (length view.now) here ≡ true → from_pointer (suc m) view row k ≡ ((look held_page here then (λ bytes. with_page bytes)) (seen view)).ending
  inside_goes e inside = goes e ∙ where_right (is_inside (length view.now) here) (holder view.now row k) (λ _. look held_page here then (λ bytes. with_page bytes)) (seen view) inside

  at_held : (t : ℕ) → is_last k here ≡ false → is_inside (length view.now) here ≡ true → view.other held_page ≡ Some t → from_pointer (suc m) view row k ≡ Stops (held_by held_page t)
  at_held t e inside held = inside_goes e inside ∙ look_held held_page here (λ bytes. with_page bytes) (seen view) t held

  page_goes_on : is_last k here ≡ false → is_inside (length view.now) here ≡ true → view.other held_page ≡ None → from_pointer (suc m) view row k ≡ (with_page (page view.now here) (seen view)).ending
  page_goes_on e inside free = inside_goes e inside ∙ look_free held_page here (λ bytes. with_page bytes) (seen view) free

  at_other : is_last k here ≡ false → is_inside (length view.now) here ≡ true → view.other held_page ≡ None
      → is_chain_page (file_shape view) row met here (page view.now here) ≡ false → from_pointer (suc m) view row k ≡ Stops (bad_page here)
  at_other e inside free other =
      page_goes_on e inside free
      ∙ where_bad (is_chain_page (file_shape view) row met here (page view.now here)) here (λ _. sees slots_now then (λ slots. with_slots (next_of (page view.now here)) slots)) (seen view) other

  slots_go : is_last k here ≡ false → is_inside (length view.now) here ≡ true → view.other held_page ≡ None
      → is_chain_page (file_shape view) row met here (page view.now here) ≡ true
      → from_pointer (suc m) view row k ≡ (with_slots (next_of (page view.now here)) (slots_test view row k) (seen view)).ending
  unfolding ◌then◌ sees
  slots_go e inside free is =
      page_goes_on e inside free
      ∙ where_right (is_chain_page (file_shape view) row met here (page view.now here)) here (λ _. sees slots_now then (λ slots. with_slots (next_of (page view.now here)) slots)) (seen view) is

  at_slots : is_last k here ≡ false → is_inside (length view.now) here ≡ true → view.other held_page ≡ None
      → is_chain_page (file_shape view) row met here (page view.now here) ≡ true → slots_test view row k ≡ false → from_pointer (suc m) view row k ≡ Stops (bad_page here)
  at_slots e inside free is slots =
      slots_go e inside free is
      ∙ where_bad (slots_test view row k) here (λ _. chain_from m (file_shape view) row (met ++ here ∷ []) here (next_of (page view.now here))) (seen view) slots

  at_page : is_last k here ≡ false → is_inside (length view.now) here ≡ true → view.other held_page ≡ None
      → is_chain_page (file_shape view) row met here (page view.now here) ≡ true → slots_test view row k ≡ true
      → from_pointer (suc m) view row k ≡ from_pointer m view row (suc k)
  at_page e inside free is slots =
      slots_go e inside free is
      ∙ where_right (slots_test view row k) here (λ _. chain_from m (file_shape view) row (met ++ here ∷ []) here (next_of (page view.now here))) (seen view) slots
      ∙ ap (λ ps. (chain_from m (file_shape view) row ps here (next_of (page view.now here)) (seen view)).ending) (sym (pages_more view.now row k))

option_cases : (x : Option ℕ) → (x ≡ None) ⊎ ((t : ℕ) × (x ≡ Some t))
option_cases None = inl refl
option_cases (Some t) = inr (t, refl)

-- what comes of the page that the pointer names, where the pointer isn't the last
reads_page : (m : ℕ) (view : View) (row : CatalogRow) (k : ℕ) → HasCome view row k → is_last k (pointer view.now row k) ≡ false
    → (HasCome view row (suc k) → Reads (seen view) row (from_pointer m view row (suc k))) → Reads (seen view) row (from_pointer (suc m) view row k)
reads_page m view row k come more rest =
    let g = view.shape.geometry in
    let image = view.now in
    let q = pointer image row k in
    let held = view.other (resource.Page (record { 0 = q })) in
    let is_page = is_chain_page (file_shape view) row (chain_pages image row k) q (page image q) in
    elim (cases_Bool (is_inside (length image) q)) [
      | inr outside ↦ Refuses (bad_page (holder image row k))
          (λ n readable. both_ways (is_inside (length image) q) outside (goes_good g image row k (goes_here view row k n come more readable)).inside)
          (at_outside m view row k more outside)
      | inl inside ↦ elim (option_cases held) [
        | inr taken ↦ Refuses (held_by (resource.Page (record { 0 = q })) taken.0)
            (λ n readable. let both : None ≡ Some taken.0 = sym (readable.free k (passes view row k n come more readable)) ∙ taken.1 in cc)
            (at_held m view row k taken.0 more inside taken.1)
        | inl free ↦ elim (cases_Bool is_page) [
          | inr other ↦ Refuses (bad_page q)
              (λ n readable. both_ways is_page other (goes_page view row k (goes_here view row k n come more readable)))
              (at_other m view row k more inside free other)
          | inl is ↦ elim (cases_Bool (slots_test view row k)) [
            | inr wrong ↦ Refuses (bad_page q) (λ n readable. slots_wrong view row k wrong readable.slots) (at_slots m view row k more inside free is wrong)
            | inl right ↦ subst (Reads (seen view) row) (sym (at_page m view row k more inside free is right))
                (rest (comes_on view row k come (page_goes view row k inside is) free right))
          ]
        ]
      ]
    ]

-- the chain is whole at a last pointer
ends_whole : (view : View) (row : CatalogRow) (k : ℕ) → HasCome view row k → is_last k (pointer view.now row k) ≡ true → IsReadable (seen view) row k
ends_whole view row k come last =
    let end = last_whole view.shape.geometry view.now row k last in
    let some = (last_parts k (pointer view.now row k) last).1 in
    record {
      chain = record { pages = record { pages = come.pages; ends = end.1 }; whole = end.0 };
      slots = come.slots (omega (arith, some));
      free = come.free;
    }

reads_from : (m : ℕ) (view : View) (row : CatalogRow) (k : ℕ) → 0 < length view.now → k + m ≡ length view.now + 2 → HasCome view row k
    → Reads (seen view) row (from_pointer m view row k)
reads_from zero view row k some steps come =
    let short = chain_is_short view.shape.geometry view.now row k some come.pages in absurd (omega (arith, short, steps))
reads_from (suc m) view row k some steps come = elim (cases_Bool (is_last k (pointer view.now row k))) [
  | inl last ↦ Goes k (ends_whole view row k come last) (at_last m view row k last)
  | inr more ↦ reads_page m view row k come more (λ on. reads_from m view row (suc k) some (omega (arith, steps)) on)
]

pub chain_is_read : ChainIsRead
chain_is_read view row some long =
    subst (λ n. Reads (record view { shape = record view.shape { pages = n } }) row
    (chain_of (record view.shape { pages = n }) row (record view { shape = record view.shape { pages = n } })).ending) long
    (reads_from (suc (suc (length view.now))) view row 0 (subst (λ n. 0 < n) (sym long) some) (omega arith)
    (record { pages = λ j below. absurd (omega (arith, below)); slots = λ below. absurd (omega (arith, below)); free = λ j below. absurd (omega (arith, below)) }))
