-- A chain that gets a page more leaves clean maps clean.
use Rattle.std.proofs.Common.{◌≡◌, ◌≢◌, ◌⊎◌, ◌↔◌, ℕ, zero, suc, ◌+◌, ◌*◌, ◌/◌, ◌%◌, ◌<◌, ◌≤◌, ◌==◌, not, true, IsTrue, List, length, Contains, refl, sym, ap, subst, ◌∙◌, inl, inr, ⊎_elim, arith}
use Rattle.std.proofs.lemmas.Bool.{cases_eq, both_ways, eq-eqb, ne_eqb, and_from, not_from_false}
use Rattle.spec_file.specs.declared.geometry.Geometry.{Geometry}
use Rattle.spec_file.specs.Image.{Image, page}
use Rattle.spec_file.specs.Places.{is_inside, interval_size, extent_count}
use Rattle.spec_file.specs.Catalog.{PassesCatalog}
use Rattle.spec_file.specs.CatalogRows.{CatalogRow, rows_of}
use Rattle.spec_file.specs.Iam.{single_slot_count, iam_interval, iam_sequence, iam_mark}
use Rattle.spec_chain.specs.declared.end.ChainEnd.TheVariants as end
use Rattle.spec_chain.proofs.ChainLaws.{chain_has_one_length, page_below}
use Rattle.spec_chain.specs.Chains.{IsObject, pointer, object_of, next_of, prev_of, fault_of_bytes, is_last, GoesOn, end_at, holder, HasLength, IsChainPage, IsInChain}
use Rattle.spec_chain.proofs.Pointers.{IsGood, goes_good, good_fault, last_whole}
use Rattle.spec_chain.specs.Marks.{IsMarked}
use Rattle.spec_chain.specs.Uses.{Use, IsUse, IsUseBy}
use Rattle.spec_check.specs.declared.report.CheckError.{CheckError}
use Rattle.spec_check.specs.Chains.{IsErrorAt, before, interval_at}
use Rattle.law_frames.proofs.ChainRules.{HasCleanChain, no_end}
use Rattle.law_frames.proofs.Held.{IsStart, goods, held, the_row, chain_of}
use Rattle.spec_file.specs.declared.pfs.PfsKind.TheVariants.{Iam}
use Rattle.spec_file.specs.Header.{says, page_type, page_id}
use Rattle.spec_file.specs.Roles.{is_ordinary}
use Rattle.spec_steps.specs.AtMost.{Changed, page_of, either, maps_of}
use Rattle.spec_steps.specs.Acts.{Owns, Acts}
use Rattle.spec_steps.specs.IamPages.{IsNextSet, SameMarks, SameSlots}
use Rattle.spec_steps.specs.Taking.{GrowsChain}
use Rattle.law_writes.proofs.MapPages.{boot_not, differs}
use Rattle.spec_steps.specs.Acts.{StaysClean}
use Rattle.law_steps.proofs.Owners.{NobodyOwns, one_owner, takeable_is_nobodys}
use Rattle.law_steps.proofs.OneObject.{IsNotOthers, HasNoMaps, TakesOne, acts_from, other_uses, other_marks, clean_after, single_maps, single_bytes, taken_extents}
use Rattle.law_steps.proofs.InChain.{chain_owns, unchanged}
use Rattle.law_steps.proofs.FilledSlots.{inside_from}

-- an IAM page is as before, but for its next
record KeepsButNext (old new : List ℕ) : Type 0 where
  type : page_type new ≡ page_type old
  number : page_id new ≡ page_id old
  object : object_of new ≡ object_of old
  prev : prev_of new ≡ prev_of old
  interval : iam_interval new ≡ iam_interval old
  sequence : iam_sequence new ≡ iam_sequence old
  marks : SameMarks old new
  slots : SameSlots old new

but_next : (p : ℕ) (old new : List ℕ) → IsNextSet p old new → KeepsButNext old new
but_next p old new is = record { type = is.type; number = is.number; object = is.object; prev = is.prev; interval = is.interval; sequence = is.sequence; marks = is.marks; slots = is.slots }

same_but : (b : List ℕ) → KeepsButNext b b
same_but b = record { type = refl; number = refl; object = refl; prev = refl; interval = refl; sequence = refl; marks = λ n. refl; slots = λ i low. refl }

bytes_same : (g : Geometry) (pages id q : ℕ) (old new : List ℕ) → KeepsButNext old new → fault_of_bytes g pages id q new ≡ fault_of_bytes g pages id q old
bytes_same g pages id q old new same = rw (same.type, same.number, same.object, same.interval) refl

module _ (g : Geometry) (image image' : Image) (row : CatalogRow) (j p : ℕ) (start : IsStart g image) (grows : GrowsChain g image image' row j p) where
  abbrev at : ℕ → ℕ
  at k = pointer image row k

  abbrev rest : Changed
  rest = either (page_of p) (page_of (at j))

  abbrev changed : Changed
  changed = either (maps_of p) rest

  no_maps : HasNoMaps rest
  no_maps = record { free = λ e c. ⊎_elim (λ x. x) (λ x. x) c; mixed = λ e c. ⊎_elim (λ x. x) (λ x. x) c; bytes = λ q c. ⊎_elim (λ x. x) (λ x. x) c }

  pages_are_new : (q : ℕ) → changed.pages q → (q ≡ p) ⊎ (q ≡ at j)
  pages_are_new q c = ⊎_elim (λ a. absurd (⊎_elim (λ x. x) (λ b. ⊎_elim (λ x. x) (λ x. x) b) a)) (λ b. b) c

  byte_is_new : (q : ℕ) → changed.bytes q → q ≡ p
  byte_is_new q c = ⊎_elim (λ a. ⊎_elim (λ x. absurd x) (λ b. ⊎_elim (λ x. absurd x) (λ same. same) b) a) (λ b. absurd (⊎_elim (λ x. x) (λ x. x) b)) c

  is_page : (k : ℕ) → k ≤ j → IsChainPage g image row k
  is_page k low i less = grows.pages.pages i (omega (arith, low, less))

  -- the pages of the chain are apart from each other, and from the new page
  not_new : (k : ℕ) → k ≤ j → at k ≢ p
  not_new k low same = takeable_is_nobodys g image start p grows.takeable row grows.object (subst (Owns g image row) same (chain_owns g image row k (is_page k low)))

  apart_pages : (i k : ℕ) → i < k → k ≤ j → at i ≢ at k
  apart_pages i k less low same = (is_page k low k (omega arith)).1 (i, less, same)

  -- before the last, a page has the same bytes; and all have but next
  page_same : (k : ℕ) → k < j → page image' (at k) ≡ page image (at k)
  page_same k less = unchanged g image image' row changed k start grows.object grows.most (is_page k (omega (arith, less)))
      (λ c. ⊎_elim (not_new k (omega (arith, less))) (apart_pages k j less (omega arith)) (pages_are_new (at k) c))

  page_but : (k : ℕ) → k ≤ j → KeepsButNext (page image (at k)) (page image' (at k))
  page_but k low = ⊎_elim (λ here. subst (λ i. KeepsButNext (page image (at i)) (page image' (at i))) (sym here) (but_next p (page image (at j)) (page image' (at j)) grows.linked))
      (λ other. subst (KeepsButNext (page image (at k))) (sym (page_same k (omega (arith, low, other)))) (same_but (page image (at k)))) (cases_eq k j)

  pointers : (k : ℕ) → k ≤ j → pointer image' row k ≡ pointer image row k
  pointers zero low = refl
  pointers (suc k) low = ap (λ q. next_of (page image' q)) (pointers k (omega (arith, low))) ∙ ap next_of (page_same k (omega (arith, low)))

  pub pointer_new : pointer image' row (suc j) ≡ p
  pointer_new = ap (λ q. next_of (page image' q)) (pointers j (omega arith)) ∙ grows.linked.here

  pointer_end : pointer image' row (suc (suc j)) ≡ 0
  pointer_end = ap (λ q. next_of (page image' q)) pointer_new ∙ grows.new.next

  -- so the chain goes on up to the new page, and ends behind it
  goes_old : (k : ℕ) → k ≤ j → GoesOn g image' row k
  goes_old k low =
      let good = goes_good g image row k (is_page k low k (omega arith)) in
      let q = at k in
      let good' : IsGood g image' row q = record {
        inside = subst (λ n. is_inside n q ≡ true) (sym grows.most.size) good.inside;
        ordinary = good.ordinary;
        bytes = ap (λ n. fault_of_bytes g n row.id q (page image' q)) grows.most.size ∙ bytes_same g (length image) row.id q (page image q) (page image' q) (page_but k low) ∙ good.bytes;
      } in (
        good_fault g image' row k (subst (IsGood g image' row) (sym (pointers k low)) good'),
        λ met. let less = met.1 in (is_page k low k (omega arith)).1 (met.0, less, sym (pointers met.0 (omega (arith, less, low))) ∙ met.2 ∙ pointers k low),
      )

  goes_new : GoesOn g image' row (suc j)
  goes_new =
      let own = eq-eqb _ row.id grows.new.object in
      let good : IsGood g image' row p = record {
        inside = inside_from g p (length image') grows.takeable.ordinary (subst (λ n. p < n) (sym grows.most.size) grows.takeable.inside);
        ordinary = grows.takeable.ordinary;
        bytes = ap (λ n. fault_of_bytes g n row.id p (page image' p)) grows.most.size ∙ rw (grows.new.says, own, grows.new.interval) refl;
      } in (
        good_fault g image' row (suc j) (subst (IsGood g image' row) (sym pointer_new) good),
        λ met. let less = met.1 in not_new met.0 (omega (arith, less)) (sym (pointers met.0 (omega (arith, less))) ∙ met.2 ∙ pointer_new),
      )

  ends_new : (end_at g image' row (suc (suc j)) ≡ end.Whole) × (GoesOn g image' row (suc (suc j)) → ⊥)
  ends_new = last_whole g image' row (suc (suc j)) (subst (λ q. is_last (suc (suc j)) q ≡ true) (sym pointer_end) (is_zero (suc j))) where
    is_zero : (k : ℕ) → is_last (suc k) 0 ≡ true
    is_zero k = and_from (0 == 0) (not (suc k == 0)) refl (not_from_false (suc k == 0) (ne_eqb (suc k) 0 (λ e. omega (arith, e))))

  one_more : HasLength g image' row (suc (suc j))
  one_more = record {
    pages = λ k low. ⊎_elim (λ here. subst (GoesOn g image' row) (sym here) goes_new) (λ other. goes_old k (omega (arith, low, other))) (cases_eq k (suc j));
    ends = ends_new.1;
  }

  -- a page of the chain is an old one or the new one
  pages_are : (k : ℕ) → IsChainPage g image' row k → (k ≤ j) ⊎ (k ≡ suc j)
  pages_are k is = let low = page_below g image' row (suc (suc j)) k one_more is in ⊎_elim (λ here. inr here) (λ other. inl (omega (arith, low, other))) (cases_eq k (suc j))

  page_in : (k : ℕ) → k ≤ suc j → IsChainPage g image' row k
  page_in k low i less = one_more.pages i (omega (arith, low, less))

  old_page : (k : ℕ) → IsChainPage g image row k → k ≤ j
  old_page k is = let low = page_below g image row (suc j) k grows.pages is in omega (arith, low)

  in_chain : (q : ℕ) → IsInChain g image' row q ↔ (IsInChain g image row q ⊎ (q ≡ p))
  in_chain q = (
    λ h. ⊎_elim (λ low. inl (h.0, is_page h.0 low, sym (pointers h.0 low) ∙ h.2)) (λ new. inr (sym h.2 ∙ ap (pointer image' row) new ∙ pointer_new)) (pages_are h.0 h.1),
    λ h. ⊎_elim (λ old. let low = old_page old.0 old.1 in (old.0, page_in old.0 (omega (arith, low)), pointers old.0 low ∙ old.2))
        (λ new. (suc j, page_in (suc j) (omega arith), pointer_new ∙ sym new)) h,
  )

  -- the new page is behind the last
  pub new_page : IsChainPage g image' row (suc j)
  new_page = page_in (suc j) (omega arith)

  -- uses and marks
  own_from : (q place : ℕ) → IsUseBy g image' q row place → IsUseBy g image q row place ⊎ ((q ≡ p) × (place ≡ single_slot_count))
  own_from q place (inl holds) =
      inl (inl ((holds.0.0, is_page zero (omega arith), sym ((page_but zero (omega arith)).slots place holds.0.0) ∙ holds.0.2), subst (λ n. IsTrue (is_inside n q)) grows.most.size holds.1))
  own_from q place (inr chain) = ⊎_elim (λ old. inl (inr (chain.0, old))) (λ new. inr (new, chain.0)) ((in_chain q).0 chain.1)

  own_in : (q place : ℕ) → IsUseBy g image q row place → IsUseBy g image' q row place
  own_in q place (inl holds) =
      inl ((holds.0.0, page_in zero (omega arith), (page_but zero (omega arith)).slots place holds.0.0 ∙ holds.0.2), subst (λ n. IsTrue (is_inside n q)) (sym grows.most.size) holds.1)
  own_in q place (inr chain) = inr (chain.0, (in_chain q).1 (inl chain.1))

  own_marks : (e : ℕ) → IsMarked g image' row e ↔ IsMarked g image row e
  own_marks e = (
    λ h. ⊎_elim
        (λ low. (
          h.0,
          (
            is_page h.0 low,
            sym (page_but h.0 low).interval ∙ ap (λ r. iam_interval (page image' r)) (sym (pointers h.0 low)) ∙ h.1.1,
            sym ((page_but h.0 low).marks (e % interval_size g)) ∙ ap (λ r. iam_mark (page image' r) (e % interval_size g)) (sym (pointers h.0 low)) ∙ h.1.2,
          ),
        ))
        (λ new. absurd (both_ways _ (grows.new.marks (e % interval_size g)) (ap (λ r. iam_mark (page image' r) (e % interval_size g)) (sym (ap (pointer image' row) new ∙ pointer_new)) ∙ h.1.2)))
        (pages_are h.0 h.1.0),
    λ h. let low = old_page h.0 h.1.0 in (
      h.0,
      (
        page_in h.0 (omega (arith, low)),
        ap (λ r. iam_interval (page image' r)) (pointers h.0 low) ∙ (page_but h.0 low).interval ∙ h.1.1,
        ap (λ r. iam_mark (page image' r) (e % interval_size g)) (pointers h.0 low) ∙ (page_but h.0 low).marks (e % interval_size g) ∙ h.1.2,
      ),
    ),
  )

  -- no page of the chain has an error
  clean_old : HasCleanChain g image row
  clean_old = chain_of g image row start grows.object

  prev_old : (k : ℕ) → k ≤ j → before image' row k ≡ before image row k
  prev_old zero low = refl
  prev_old (suc k) low = pointers k (omega (arith, low))

  interval_old : (k : ℕ) → k ≤ j → interval_at image' row k ≡ interval_at image row k
  interval_old k low = ap (λ q. iam_interval (page image' q)) (pointers k low) ∙ (page_but k low).interval

  no_old : (k : ℕ) (x : CheckError) → k ≤ j → IsErrorAt g image' row k x → ⊥
  no_old k x low (inl (wrong, _)) =
      let prev : prev_of (page image (at k)) ≡ before image row k = ⊎_elim (λ same. same) (λ differ. absurd (clean_old _ (inr (inl (k, is_page k low, inl (differ, refl)))))) (cases_eq _ _) in
      wrong (ap (λ q. prev_of (page image' q)) (pointers k low) ∙ (page_but k low).prev ∙ prev ∙ sym (prev_old k low))
  no_old k x low (inr (inl (wrong, _))) =
      let sequence : iam_sequence (page image (at k)) ≡ k = ⊎_elim (λ same. same) (λ differ. absurd (clean_old _ (inr (inl (k, is_page k low, inr (inl (differ, refl))))))) (cases_eq _ _) in
      wrong (ap (λ q. iam_sequence (page image' q)) (pointers k low) ∙ (page_but k low).sequence ∙ sequence)
  no_old k x low (inr (inr (inl (i, less, first, _)))) =
      let own = interval_old k low in
      let same = λ (m : ℕ) (few : m < k). let w : interval_at image' row m ≡ interval_at image row m = interval_old m (omega (arith, few, low)) in w in
      clean_old _ (inr (inl (
        k,
        is_page k low,
        inr (inr (inl (
          i,
          less,
          record {
            is = sym (same i less) ∙ first.is ∙ own;
            first = λ m few equal. first.first m few (same m (omega (arith, few, less)) ∙ equal ∙ sym own);
          },
          refl,
        ))),
      )))
  no_old k x low (inr (inr (inr (n, few, marked, outside, _)))) =
      clean_old _ (inr (inl (
        k,
        is_page k low,
        inr (inr (inr (
          n,
          few,
          sym ((page_but k low).marks n) ∙ ap (λ q. iam_mark (page image' q) n) (sym (pointers k low)) ∙ marked,
          subst (λ m. extent_count image ≤ interval_size g * m + n) (interval_old k low) (subst (λ l. l / 8 ≤ interval_size g * interval_at image' row k + n) grows.most.size outside),
          refl,
        ))),
      )))

  no_new : (x : CheckError) → IsErrorAt g image' row (suc j) x → ⊥
  no_new x (inl (wrong, _)) = wrong (ap (λ q. prev_of (page image' q)) pointer_new ∙ grows.new.prev ∙ sym (pointers j (omega arith)))
  no_new x (inr (inl (wrong, _))) = wrong (ap (λ q. iam_sequence (page image' q)) pointer_new ∙ grows.new.sequence)
  no_new x (inr (inr (inl (i, less, first, _)))) =
      let low : i ≤ j = omega (arith, less) in
      grows.interval i (is_page i low) (sym (interval_old i low) ∙ first.is ∙ ap (λ q. iam_interval (page image' q)) pointer_new)
  no_new x (inr (inr (inr (n, few, marked, _, _)))) = both_ways _ (grows.new.marks n) (ap (λ q. iam_mark (page image' q) n) (sym pointer_new) ∙ marked)

  clean_new : HasCleanChain g image' row
  clean_new x (inl (n, long, is)) =
      let one = chain_has_one_length g image' row n (suc (suc j)) long one_more in
      no_end row.id (pointer image' row n) (holder image' row n) (page image' (pointer image' row n)) (end_at g image' row n) x (subst (λ m. end_at g image' row m ≡ end.Whole) (sym one) ends_new.0) is
  clean_new x (inr (inl (k, is, error_))) = ⊎_elim (λ low. no_old k x low error_) (λ new. no_new x (subst (λ m. IsErrorAt g image' row m x) new error_)) (pages_are k is)
  clean_new x (inr (inr (i, q, slot, outside, _))) =
      clean_old _ (inr (inr (i, q, (slot.0, is_page zero (omega arith), sym ((page_but zero (omega arith)).slots i slot.0) ∙ slot.2), subst (λ n. n ≤ q) grows.most.size outside, refl)))

  -- the step, and its one new use
  same_boot : page image' 9 ≡ page image 9
  same_boot = grows.most.pages 9 (inl refl) (λ c. ⊎_elim (λ new. differs g p 9 grows.takeable.ordinary (boot_not g) (sym new))
      (λ last. differs g (at j) 9 (held g image row j start grows.object (is_page j (omega arith))).ordinary (boot_not g) (sym last)) (pages_are_new 9 c))

  back : (r : CatalogRow) → IsObject image' r → IsObject image r
  back r object = subst (λ boot. Contains (rows_of boot) r) same_boot object

  pub onto : (r : CatalogRow) → IsObject image r → IsObject image' r
  onto r object = subst (λ boot. Contains (rows_of boot) r) (sym same_boot) object

  own_row : (r : CatalogRow) → IsObject image r → r.id ≡ row.id → r ≡ row
  own_row r object same = the_row g image row r start grows.object object same

  nobodys : NobodyOwns g image p
  nobodys = takeable_is_nobodys g image start p grows.takeable

  not_others : (q : ℕ) → q < length image → (q ≡ p) ⊎ (q ≡ at j) → IsNotOthers g image row.id q
  not_others q inside (inl new) r object other owns = nobodys r object (subst (Owns g image r) new owns)
  not_others q inside (inr last) r object other owns =
      other (one_owner g image start r row q inside object grows.object owns (subst (Owns g image row) (sym last) (chain_owns g image row j (is_page j (omega arith)))))

  step_acts : Acts g image image' row.id
  step_acts = acts_from g image image' row.id changed (record {
    most = grows.most;
    catalog = subst PassesCatalog (sym same_boot);
    rows = λ r other. (back r, onto r);
    boot = λ type n. ap (says type n) same_boot;
    whole = λ q c. inr (⊎_elim (λ new. subst (λ r. is_ordinary g r ≡ true) (sym new) grows.takeable.ordinary)
        (λ last. subst (λ r. is_ordinary g r ≡ true) (sym last) (held g image row j start grows.object (is_page j (omega arith))).ordinary) (pages_are_new q c));
    pages = λ q c inside ordinary. not_others q inside (pages_are_new q c);
    bytes = λ q c inside. not_others q inside (inl (byte_is_new q c));
  })

  abbrev new_one : Use
  new_one = record { object = row.id; place = single_slot_count }

  pub growth_uses : (q : ℕ) (v : Use) → IsUse g image' q v → IsUse g image q v ⊎ ((q ≡ p) × (v ≡ new_one))
  growth_uses q v h = ⊎_elim
      (λ own. ⊎_elim (λ old. inl (row, grows.object, sym own, old))
      (λ new. inr (new.0, ap (λ n. let w : Use = record { object = n; place = v.place } in w) own ∙ ap (λ n. let w : Use = record { object = row.id; place = n } in w) new.1))
      (own_from q v.place (subst (λ r. IsUseBy g image' q r v.place) (own_row h.0 (back h.0 h.1) (h.2 ∙ own)) h.3)))
      (λ other. inl ((other_uses g image image' row.id start step_acts q v other).0 h))
      (cases_eq v.object row.id)

  pub use_in : (q : ℕ) (v : Use) → IsUse g image q v ⊎ ((q ≡ p) × (v ≡ new_one)) → IsUse g image' q v
  use_in q v (inl h) = ⊎_elim
      (λ own. (row, onto row grows.object, sym own, own_in q v.place (subst (λ r. IsUseBy g image q r v.place) (own_row h.0 h.1 (h.2 ∙ own)) h.3)))
      (λ other. (other_uses g image image' row.id start step_acts q v other).1 h) (cases_eq v.object row.id)
  use_in q v (inr (here, is)) =
      let own : IsUse g image' p new_one = (row, onto row grows.object, refl, inr (refl, (in_chain p).1 (inr refl))) in
      subst (λ r. IsUse g image' r v) (sym here) (subst (IsUse g image' p) (sym is) own)

  pub adds : TakesOne g image image' p new_one
  adds = record {
    takeable = grows.takeable;
    changes = single_maps g image image' p rest no_maps grows.most;
    free = grows.taken.free;
    byte = record { kind = Iam; is = inr (refl, refl); fits = grows.taken.byte };
    bytes = single_bytes g image image' p rest no_maps grows.most;
    uses = λ q v. (growth_uses q v, use_in q v);
    marks = λ e m. (
      λ h. ⊎_elim (λ own. (row, grows.object, sym own, (own_marks e).0 (subst (λ r. IsMarked g image' r e) (own_row h.0 (back h.0 h.1) (h.2 ∙ own)) h.3)))
          (λ other. (other_marks g image image' row.id start step_acts e m other).0 h) (cases_eq m row.id),
      λ h. ⊎_elim (λ own. (row, onto row grows.object, sym own, (own_marks e).1 (subst (λ r. IsMarked g image r e) (own_row h.0 h.1 (h.2 ∙ own)) h.3)))
          (λ other. (other_marks g image image' row.id start step_acts e m other).1 h) (cases_eq m row.id),
    );
  }

  pub growth_clean : StaysClean g image image' row.id
  growth_clean = record {
    acts = step_acts;
    maps = clean_after g image image' row.id start step_acts
        (λ r object same. subst (HasCleanChain g image') (sym (own_row r (back r object) same)) clean_new)
        (taken_extents g image image' p new_one (goods g image start) start.shape.whole grows.most.size adds);
  }
