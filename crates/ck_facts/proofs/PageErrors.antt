-- The errors and the facts of one page are those of the definitions.
use Rattle.std.proofs.Common.{◌≡◌, ◌≢◌, ℕ, ◌+◌, ◌%◌, ◌<◌, ◌≤◌, nat_lt, true, false, Bool, IsTrue, List, [], ◌∷◌, ◌++◌, map, Contains, Some, None, if◌then◌else◌, arith, sym, subst, ap, ◌∙◌, refl, inl, inr, ⊎_elim}
use Rattle.std.specs.List.{range_with_len}
use Rattle.std.proofs.lemmas.Bool.{ltb-true, lt-ltb}
use Rattle.std.proofs.lemmas.List.Elements.{Contains-push, Contains-push_cases}
use Rattle.std.proofs.lemmas.List.FromFn.{map-range_with_len_more}
use Rattle.spec_file.specs.CatalogRows.{CatalogRow}
use Rattle.spec_file.specs.Kinds.{is_clustered}
use Rattle.spec_check.specs.declared.report.CheckError.{CheckError}
use Rattle.spec_rows.specs.declared.fault.SlotFault.{SlotFault}
use Rattle.spec_rows.specs.PageTest.{PassesTest, IsFirstFault}
use Rattle.spec_rows.specs.Slots.{slot_count}
use Rattle.spec_rows.proofs.TestLaws.{no_fault, one_fault}
use Rattle.spec_tables.specs.Heads.{key_at}
use Rattle.spec_tables.specs.PageRules.{IsErrorOn, HasWrongOrder, fault_error, wrong_order, fullness_in}
use Rattle.spec_check.specs.Pages.{wrong_byte}
use Rattle.ck_error.specs.Gathered.{Adds, Gathers}
use Rattle.ck_error.proofs.GatheringLaws.{gathers_first, gathers_as}
use Rattle.ck_facts.specs.declared.facts.Fact.{Fact}
use Rattle.ck_facts.specs.declared.page.TestedPage.{TestedPage}
use Rattle.ck_facts.specs.Tested.{page_bytes, slot_key, Falls, IsShownBy}

-- one index row more
pub facts_more : (f : ℕ → Fact) (first : Fact) (n : ℕ) (xs ys : List Fact) (y : Fact) → ys ≡ xs ++ y ∷ [] → xs ≡ first ∷ map f (range_with_len 0 n)
    → y ≡ f n → ys ≡ first ∷ map f (range_with_len 0 (n + 1))
facts_more f first n xs ys y grown old new =
    grown ∙ ap (λ l. l ++ y ∷ []) old ∙ ap (λ v. first ∷ (map f (range_with_len 0 n) ++ v ∷ [])) new
    ∙ ap (λ l. first ∷ l) (sym (map-range_with_len_more f 0 n n (omega arith)))

-- the key of a slot that the page has
there : (b : Bool) (key low : ℕ) → (if b then Some key else None) ≡ Some low → (b ≡ true) × (key ≡ low)
there true key low h = (refl, cc)
there false key low h = absurd (cc)

key_there : (bytes : List ℕ) (i low : ℕ) → key_at bytes i ≡ Some low → (i < slot_count bytes) × (slot_key bytes i ≡ low)
key_there bytes i low h = let r = there (nat_lt i (slot_count bytes)) (slot_key bytes i) low h in (ltb-true i (slot_count bytes) r.0, r.1)

key_told : (bytes : List ℕ) (i : ℕ) → i < slot_count bytes → key_at bytes i ≡ Some (slot_key bytes i)
key_told bytes i h = ap (λ (b : Bool). if b then Some (slot_key bytes i) else None) (lt-ltb i (slot_count bytes) h)

-- a page that passed its test, of this object
pub record IsTestedOf (row : CatalogRow) (t : TestedPage) : Type 0 where
  pub id : row.id ≡ t.object.0
  pub kind : row.kind ≡ t.kind

passes_as : (row : CatalogRow) (t : TestedPage) → IsTestedOf row t → PassesTest t.number.0 row.id row.kind (page_bytes t)
passes_as row t is = subst (λ n. PassesTest t.number.0 n row.kind (page_bytes t)) (sym is.id)
    (subst (λ k. PassesTest t.number.0 t.object.0 k (page_bytes t)) (sym is.kind) t.passes)

order_there : (row : CatalogRow) (t : TestedPage) (x : CheckError) → IsTestedOf row t → IsTrue (is_clustered row.kind) → Falls t x → HasWrongOrder row t.number.0 (page_bytes t) x
order_there row t x is clustered h =
    let bytes = page_bytes t in
    let f = h.2 in
    let next = f.next in
    let below : f.before + 1 < slot_count bytes = subst (λ n. n < slot_count bytes) next h.1 in
    let error : x ≡ wrong_order t.object.0 t.number.0 (f.before + 1) (slot_key bytes (f.before + 1)) = subst (λ n. x ≡ wrong_order t.object.0 t.number.0 n (slot_key bytes n)) next f.is in
    record {
      before = f.before;
      low = slot_key bytes f.before;
      key = slot_key bytes (f.before + 1);
      clustered = clustered;
      passes = passes_as row t is;
      first = key_told bytes f.before (omega (arith, below));
      second = key_told bytes (f.before + 1) below;
      falls = subst (λ n. slot_key bytes n ≤ slot_key bytes f.before) next f.falls;
      is = error ∙ ap (λ o. wrong_order o t.number.0 (f.before + 1) (slot_key bytes (f.before + 1))) (sym is.id);
    }

order_back : (row : CatalogRow) (t : TestedPage) (x : CheckError) → IsTestedOf row t → HasWrongOrder row t.number.0 (page_bytes t) x → Falls t x
order_back row t x is h =
    let bytes = page_bytes t in
    let first = key_there bytes h.before h.low h.first in
    let second = key_there bytes (h.before + 1) h.key h.second in
    let falls = h.falls in (
      h.before + 1,
      second.0,
      record {
        before = h.before;
        next = refl;
        falls = omega (arith, falls, first.1, second.1);
        is = h.is ∙ (ap (λ o. wrong_order o t.number.0 (h.before + 1) h.key) is.id ∙ ap (wrong_order t.object.0 t.number.0 (h.before + 1)) (sym second.1));
      },
    )

shown_there : (row : CatalogRow) (t : TestedPage) (pfs : ℕ) (x : CheckError) → IsTestedOf row t → IsShownBy t pfs x
    → IsErrorOn row t.number.0 pfs (page_bytes t) x
shown_there row t pfs x is h = inr (⊎_elim (λ o. inl (order_there row t x is (subst (λ k. IsTrue (is_clustered k)) (sym is.kind) o.0) o.1))
    (λ f. inr (record {
      passes = passes_as row t is;
      differs = subst (λ k. pfs % 8 ≢ fullness_in k (page_bytes t)) (sym is.kind) f.0;
      is = f.1 ∙ ap (λ o. wrong_byte 8914 o t.number.0 pfs) (sym is.id);
    })) h)

shown_back : (row : CatalogRow) (t : TestedPage) (pfs : ℕ) (x : CheckError) → IsTestedOf row t → IsErrorOn row t.number.0 pfs (page_bytes t) x
    → IsShownBy t pfs x
shown_back row t pfs x is h = ⊎_elim
    (λ f. absurd (no_fault t.number.0 row.id row.kind (page_bytes t) f.fault (passes_as row t is) f.first))
    (λ s. ⊎_elim (λ o. inl (subst (λ k. IsTrue (is_clustered k)) is.kind o.clustered, order_back row t x is o))
    (λ f. inr (
      subst (λ k. pfs % 8 ≢ fullness_in k (page_bytes t)) is.kind f.differs,
      f.is ∙ ap (λ o. wrong_byte 8914 o t.number.0 pfs) is.id,
    )) s) h

-- the errors of a page that passed its test
pub errors_shown : (row : CatalogRow) (t : TestedPage) (pfs : ℕ) (xs : List CheckError) → IsTestedOf row t → Adds [] xs (IsShownBy t pfs)
    → Gathers xs (IsErrorOn row t.number.0 pfs (page_bytes t))
errors_shown row t pfs xs is a = gathers_as xs (IsShownBy t pfs) (IsErrorOn row t.number.0 pfs (page_bytes t))
    (λ x h. shown_there row t pfs x is h) (λ x h. shown_back row t pfs x is h) (gathers_first xs (IsShownBy t pfs) a)

one_there : {X : Type 0} (x y : X) → Contains (x ∷ []) y → x ≡ y
one_there x y h = ⊎_elim (λ none. absurd (omega (arith, none.1))) (λ e. e) (Contains-push_cases [] x y h)

-- the errors of a page that fails its test
pub fault_alone : (row : CatalogRow) (p pfs : ℕ) (bytes : List ℕ) (fault : SlotFault) (e : CheckError) (xs : List CheckError)
    → IsFirstFault p row.id row.kind bytes fault → e ≡ fault_error row.id p fault → xs ≡ e ∷ [] → Gathers xs (IsErrorOn row p pfs bytes)
fault_alone row p pfs bytes fault e xs first is all = record {
  sound = λ x c. inl (record {
    fault = fault;
    first = first;
    is = sym (one_there e x (subst (λ (l : List CheckError). Contains l x) all c)) ∙ is;
  });
  complete = λ x h. ⊎_elim
      (λ f. let same : fault ≡ f.fault = one_fault p row.id row.kind bytes fault f.fault first f.first in
      let named : e ≡ x = is ∙ (ap (fault_error row.id p) same ∙ sym f.is) in
      subst (λ (l : List CheckError). Contains l x) (sym all) (subst (Contains (e ∷ [])) named (Contains-push [] e)))
      (λ s. absurd (⊎_elim (λ o. no_fault p row.id row.kind bytes fault o.passes first) (λ f. no_fault p row.id row.kind bytes fault f.passes first) s)) h;
}
