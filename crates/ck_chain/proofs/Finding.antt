-- What one page more, and the end of a chain, add to what was found.
use Rattle.std.proofs.Common.{◌≡◌, ◌⊎◌, ℕ, ◌+◌, ◌*◌, ◌/◌, ◌%◌, ◌<◌, ◌≤◌, IsTrue, List, Option, Some, length, get_or, arith, rules, sym, subst, ap, inl, inr, ⊎_elim, refl, ◌∙◌}
use Rattle.std.proofs.lemmas.Bool.{cases_order}
use Rattle.spec_file.specs.declared.geometry.Geometry.{Geometry}
use Rattle.spec_file.specs.declared.geometry.Geometry.TheVariants.{Standard, Small}
use Rattle.spec_file.specs.Image.{Image, page}
use Rattle.spec_file.specs.Places.{interval_size, is_inside}
use Rattle.spec_file.specs.CatalogRows.{CatalogRow}
use Rattle.spec_file.specs.Iam.{iam_interval, iam_mark, iam_slot}
use Rattle.spec_chain.specs.Chains.{pointer, holder, GoesOn, HasPages, HasLength, IsChainPage}
use Rattle.spec_chain.proofs.ChainLaws.{chain_has_one_length, page_below, below_page}
use Rattle.spec_check.specs.declared.report.CheckError.{CheckError}
use Rattle.spec_check.specs.Chains.{before, interval_at, error, end_error, IsFirstOf, IsErrorOfChain, RepeatsInterval}
use Rattle.ck_error.specs.Gathered.{Adds, Below}
use Rattle.ck_error.proofs.GatheringLaws.{adds_as, adds_both, adds_below_none, adds_below_more}
use Rattle.ck_facts.specs.declared.map.PageUse.{PageUse}
use Rattle.ck_chain.specs.declared.walk.Walk.{Walk}
use Rattle.ck_chain.specs.declared.walk.Link.{Link}
use Rattle.ck_chain.specs.declared.walk.Owner.{Owner}
use Rattle.ck_chain.specs.declared.found.Found.{Found}
use Rattle.ck_chain.specs.Marking.{MarksFront}
use Rattle.ck_chain.specs.Pages.{IntervalRepeats}
use Rattle.ck_chain.specs.Walks.{IsFirstBefore, TakesPage, PageGives, GivesAt, UseAt, MarksOf, IsFound, IsUseOf, IsChainRead, inside_count}
use Rattle.ck_chain.proofs.Markings.{marked_none, marked_as, marked_both}
use Rattle.ck_chain.proofs.Looking.{IsOwner}

upto : (j k : ℕ) → j < k + 1 → (j < k) ⊎ (j ≡ k)
upto j k h = search (rules, arith)

-- the owner and the link, in the image's words
abbrev owner_at : Owner → Image → CatalogRow → Owner
owner_at owner image row = record { geometry = owner.geometry; pages = length image; id = row.id; index = owner.index }

abbrev link_at : Image → CatalogRow → ℕ → Link
link_at image row k = record { page = pointer image row k; holder = holder image row k; before = before image row k; count = k }

-- an earlier page of the chain has the k-th page's interval exactly where a first is known
repeats : (image : Image) (row : CatalogRow) (k f : ℕ) (x : CheckError) → IsFirstBefore image row k (interval_at image row k) f
    → IntervalRepeats row.id (pointer image row k) f x → RepeatsInterval image row k x
repeats image row k f x h (found, is) = ⊎_elim
    (λ (zero_, none). absurd (found zero_))
    (λ (known, j, less, first, at). (j, less, first, is ∙ ap (λ n. error 8947 row.id (pointer image row k) n 0 0) at)) h

repeated : (image : Image) (row : CatalogRow) (k f : ℕ) (x : CheckError) → IsFirstBefore image row k (interval_at image row k) f
    → RepeatsInterval image row k x → IntervalRepeats row.id (pointer image row k) f x
repeated image row k f x h (j, less, first, is) = ⊎_elim
    (λ (zero_, none). absurd (none j less first.is))
    (λ (known, i, low, other, at). (
      known,
      is ∙ ap (λ n. error 8947 row.id (pointer image row k) n 0 0)
          (ap (pointer image row) (one j i first other) ∙ sym at),
    )) h where
      one : (j i : ℕ) → IsFirstOf image row (interval_at image row k) j → IsFirstOf image row (interval_at image row k) i → j ≡ i
      one j i a b = ⊎_elim (λ same. same) (λ rest. ⊎_elim (λ less. absurd (b.first j less a.is)) (λ less. absurd (a.first i less b.is)) rest) (cases_order j i)

-- the errors of the page before which the walk stands
gives : (owner : Owner) (image : Image) (row : CatalogRow) (k f : ℕ) (x : CheckError) → IsFirstBefore image row k (interval_at image row k) f
    → PageGives (owner_at owner image row) (link_at image row k) f (page image (pointer image row k)) x → GivesAt owner.geometry image row k x
gives owner image row k f x first h = ⊎_elim
    (λ pages. inl (⊎_elim
    (λ links. ⊎_elim (λ prev. inl prev) (λ rest. ⊎_elim (λ sequence. inr (inl sequence))
    (λ again. inr (inr (inl (repeats image row k f x first again)))) rest) links)
    (λ (n, low, (both, is)). inr (inr (inr (n, low, both.0, both.1, is)))) pages))
    (λ slots. inr slots) h

given : (owner : Owner) (image : Image) (row : CatalogRow) (k f : ℕ) (x : CheckError) → IsFirstBefore image row k (interval_at image row k) f
    → GivesAt owner.geometry image row k x → PageGives (owner_at owner image row) (link_at image row k) f (page image (pointer image row k)) x
given owner image row k f x first h = ⊎_elim
    (λ errors. inl (⊎_elim (λ prev. inl (inl prev)) (λ rest. ⊎_elim (λ sequence. inl (inr (inl sequence)))
    (λ rest. ⊎_elim (λ again. inl (inr (inr (repeated image row k f x first again))))
    (λ (n, low, mark, out, is). inr (n, low, ((mark, out), is))) rest) rest) errors))
    (λ slots. inr slots) h

-- the marks of the page's extents in the file
in_interval : (g : Geometry) (m e : ℕ) → m ≡ e / interval_size g → e ≡ interval_size g * m + e % interval_size g
in_interval Standard m e h = omega (arith, h)
in_interval Small m e h = omega (arith, h)

rest_below : (g : Geometry) (e : ℕ) → e % interval_size g < interval_size g
rest_below Standard e = omega arith
rest_below Small e = omega arith

interval_of : (g : Geometry) (m e n : ℕ) → n < interval_size g → e ≡ interval_size g * m + n → (m ≡ e / interval_size g) × (n ≡ e % interval_size g)
interval_of Standard m e n low is = (omega (arith, low, is), omega (arith, low, is))
interval_of Small m e n low is = (omega (arith, low, is), omega (arith, low, is))

marks : (owner : Owner) (image : Image) (row : CatalogRow) (k e : ℕ)
    → MarksFront (page image (pointer image row k)) (interval_size owner.geometry * interval_at image row k)
    (inside_count owner.geometry (length image) (page image (pointer image row k))) e
    → MarksOf owner.geometry image row k e
marks owner image row k e (n, low, at, marked) =
    let below : n < interval_size owner.geometry = omega (arith, low) in
    let place = interval_of owner.geometry (interval_at image row k) e n below at in
    (place.0, subst (λ j. IsTrue (iam_mark (page image (pointer image row k)) j)) place.1 marked)

marked : (owner : Owner) (image : Image) (row : CatalogRow) (k e : ℕ) → e < length image / 8 → MarksOf owner.geometry image row k e
    → MarksFront (page image (pointer image row k)) (interval_size owner.geometry * interval_at image row k)
    (inside_count owner.geometry (length image) (page image (pointer image row k))) e
marked owner image row k e inside (same, mark) =
    let at = in_interval owner.geometry (interval_at image row k) e same in
    let low = rest_below owner.geometry e in
    (e % interval_size owner.geometry, omega (arith, inside, at, low), at, mark)

pub step_found : (owner : Owner) (image : Image) (row : CatalogRow) (k : ℕ) (walk : Walk) (bytes : List ℕ) (old mid new : Found)
    → IsOwner image row owner walk k → bytes ≡ page image (pointer image row k) → iam_interval bytes < 8
    → length old.extents.items ≡ length image / 8
    → TakesPage owner walk.link (get_or walk.firsts (iam_interval bytes) 0) (inside_count owner.geometry owner.pages bytes) bytes mid new
    → IsFound owner.geometry image row owner.index k old mid → IsFound owner.geometry image row owner.index (k + 1) old new
step_found owner image row k walk bytes old mid new o is low size t h = record {
  errors = adds_below_more _ _ _ k (GivesAt owner.geometry image row) h.errors
      (adds_as _ _ (PageGives owner walk.link (get_or walk.firsts (iam_interval bytes) 0) bytes) (GivesAt owner.geometry image row k)
      (λ x s. gives owner image row k (get_or walk.firsts (interval_at image row k) 0) x first (rw (o.id, o.pages, o.stands.page, o.stands.before, o.stands.count, is) at s))
      (λ x s. rw (o.id, o.pages, o.stands.page, o.stands.before, o.stands.count, is) (given owner image row k (get_or walk.firsts (interval_at image row k) 0) x first s)) t.errors);
  uses = adds_below_more _ _ _ k (UseAt image row) h.uses
      (rw (o.id, o.pages, o.stands.page, o.stands.count, is) at t.uses);
  extents = marked_as owner.index _ _ _ _
      (λ e below s. ⊎_elim (λ (j, less, m). (j, omega (arith, less), m)) (λ front. (k, omega arith, marks owner image row k e front)) s)
      (λ e below (j, less, m). ⊎_elim (λ before_. inl (j, before_, m))
      (λ here. inr (marked owner image row k e (subst (λ n. e < n) size below) (subst (λ i. MarksOf owner.geometry image row i e) here m))) (upto j k less))
      (marked_both owner.index _ _ _ _ _ h.extents (rw (o.pages, is) at t.extents));
} where
  first : IsFirstBefore image row k (interval_at image row k) (get_or walk.firsts (interval_at image row k) 0)
  first = o.stands.firsts (interval_at image row k) (subst (λ b. iam_interval b < 8) is low)

-- nothing was found before the first page
pub found_none : (g : Geometry) (image : Image) (row : CatalogRow) (i : ℕ) (old : Found) → IsFound g image row i 0 old old
found_none g image row i old = record {
  errors = adds_below_none _ (GivesAt g image row);
  uses = adds_below_none _ (UseAt image row);
  extents = marked_none i _ _ (λ e h. omega (arith, h.1));
}

-- the chain's end
finds : (g : Geometry) (image : Image) (row : CatalogRow) (k : ℕ) (x : CheckError) → HasLength g image row k
    → (Below k (GivesAt g image row) x ⊎ (end_error g image row k ≡ Some x)) → IsErrorOfChain g image row x
finds g image row k x whole h = ⊎_elim
    (λ (j, less, s). ⊎_elim
    (λ err. inr (inl (j, below_page g image row k j whole.pages less, err)))
    (λ (here, (i, low, (out, is))). inr (inr (
      i,
      iam_slot (page image (pointer image row j)) i,
      (low, subst (IsChainPage g image row) here (below_page g image row k j whole.pages less), ap (λ n. iam_slot (page image (pointer image row n)) i) (sym here)),
      out,
      is ∙ ap (λ n. error 8968 row.id (pointer image row n) (iam_slot (page image (pointer image row j)) i) i 0) here,
    ))) s)
    (λ e. inl (k, whole, e)) h

found : (g : Geometry) (image : Image) (row : CatalogRow) (k : ℕ) (x : CheckError) → HasLength g image row k
    → IsErrorOfChain g image row x → (Below k (GivesAt g image row) x ⊎ (end_error g image row k ≡ Some x))
found g image row k x whole h = ⊎_elim
    (λ (n, other, e). inr (subst (λ i. end_error g image row i ≡ Some x) (chain_has_one_length g image row n k other whole) e))
    (λ rest. ⊎_elim
    (λ (j, is_page, err). inl (j, page_below g image row k j whole is_page, inl err))
    (λ (i, q, (low, is_page, at), out, is). inl (
      0,
      page_below g image row k 0 whole is_page,
      inr (refl, (i, low, (subst (λ n. length image ≤ n) (sym at) out, is ∙ ap (λ n. error 8968 row.id (pointer image row 0) n i 0) (sym at)))),
    )) rest) h

pub finish : (owner : Owner) (image : Image) (row : CatalogRow) (k : ℕ) (old mid new : Found) (end : Option CheckError)
    → IsFound owner.geometry image row owner.index k old mid → HasPages owner.geometry image row k
    → (GoesOn owner.geometry image row k → ⊥) → end ≡ end_error owner.geometry image row k
    → Adds mid.errors.items new.errors.items (λ x. end ≡ Some x) → new.uses ≡ mid.uses → new.extents ≡ mid.extents
    → IsChainRead owner.geometry image row owner.index old new
finish owner image row k old mid new end h pages ends is errors uses extents = record {
  errors = adds_as _ _ (λ x. Below k (GivesAt owner.geometry image row) x ⊎ (end ≡ Some x)) (IsErrorOfChain owner.geometry image row)
      (λ x s. finds owner.geometry image row k x whole (subst (λ e. Below k (GivesAt owner.geometry image row) x ⊎ (e ≡ Some x)) is s))
      (λ x s. subst (λ e. Below k (GivesAt owner.geometry image row) x ⊎ (e ≡ Some x)) (sym is) (found owner.geometry image row k x whole s))
      (adds_both _ _ _ (Below k (GivesAt owner.geometry image row)) (λ x. end ≡ Some x) h.errors errors);
  uses = rw uses (adds_as _ _ (Below k (UseAt image row)) (IsUseOf owner.geometry image row) (λ u s. used u s) (λ u s. uses_of u s) h.uses);
  extents = rw extents (marked_as owner.index _ _ _ _
      (λ e below (j, less, m). (j, (below_page owner.geometry image row k j pages less, m.0, m.1)))
      (λ e below (j, (is_page, at, m)). (j, page_below owner.geometry image row k j whole is_page, (at, m))) h.extents);
} where
  whole : HasLength owner.geometry image row k
  whole = record { pages = pages; ends = ends }

  used : (u : PageUse) → Below k (UseAt image row) u → IsUseOf owner.geometry image row u
  used u (j, less, s) = ⊎_elim
      (λ is_use. (
        sym (ap (λ (v : PageUse). v.object) is_use),
        inr (
          ap (λ (v : PageUse). v.place) is_use,
          (j, below_page owner.geometry image row k j pages less, sym (ap (λ (v : PageUse). v.page) is_use)),
        ),
      ))
      (λ (here, (i, low, (inside_, is_use))). (
        sym (ap (λ (v : PageUse). v.object) is_use),
        inl (
          (
            subst (λ n. n < 8) (sym (ap (λ (v : PageUse). v.place) is_use)) low,
            subst (IsChainPage owner.geometry image row) here (below_page owner.geometry image row k j pages less),
            subst (λ n. iam_slot (page image (pointer image row 0)) n ≡ u.page) (sym (ap (λ (v : PageUse). v.place) is_use))
                (ap (λ n. iam_slot (page image (pointer image row n)) i) (sym here) ∙ sym (ap (λ (v : PageUse). v.page) is_use)),
          ),
          subst (λ n. IsTrue (is_inside (length image) n)) (sym (ap (λ (v : PageUse). v.page) is_use)) inside_,
        ),
      )) s

  uses_of : (u : PageUse) → IsUseOf owner.geometry image row u → Below k (UseAt image row) u
  uses_of u (id, s) = ⊎_elim
      (λ ((low, is_page, at), inside_). (
        0,
        page_below owner.geometry image row k 0 whole is_page,
        inr (refl, (u.place, low, (subst (λ n. IsTrue (is_inside (length image) n)) (sym at) inside_, use_is u at id))),
      ))
      (λ (last, (j, is_page, at)). (j, page_below owner.geometry image row k j whole is_page, inl (chain_use_is u j at id last))) s where
        use_is : (u : PageUse) → iam_slot (page image (pointer image row 0)) u.place ≡ u.page → row.id ≡ u.object
            → u ≡ record { page = iam_slot (page image (pointer image row 0)) u.place; object = row.id; place = u.place }
        use_is u at id = ap (λ n. record { page = n; object = u.object; place = u.place }) (sym at)
            ∙ ap (λ n. record { page = iam_slot (page image (pointer image row 0)) u.place; object = n; place = u.place }) (sym id)

        chain_use_is : (u : PageUse) (j : ℕ) → pointer image row j ≡ u.page → row.id ≡ u.object → u.place ≡ 8
            → u ≡ record { page = pointer image row j; object = row.id; place = 8 }
        chain_use_is u j at id last = ap (λ n. record { page = n; object = u.object; place = u.place }) (sym at)
            ∙ ap (λ n. record { page = pointer image row j; object = n; place = u.place }) (sym id)
            ∙ ap (λ n. record { page = pointer image row j; object = row.id; place = n }) last
