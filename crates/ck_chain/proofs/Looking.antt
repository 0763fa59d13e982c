-- What a look at the next page of a walk says of the chain.
use Rattle.std.proofs.Common.{◌≡◌, ◌⊎◌, ℕ, ◌<◌, Bool, true, false, not, IsTrue, if◌then◌else◌, List, Option, Some, None, length, get_or, arith, sym, subst, ap, inl, inr, ⊎_elim, refl, ◌∙◌}
use Rattle.std.proofs.lemmas.Option.{same_Some}
use Rattle.spec_file.specs.Image.{Image, page}
use Rattle.spec_file.specs.CatalogRows.{CatalogRow}
use Rattle.spec_chain.specs.declared.end.ChainEnd.{ChainEnd}
use Rattle.spec_chain.specs.declared.end.ChainEnd.TheVariants as end
use Rattle.spec_file.specs.Roles.{is_ordinary}
use Rattle.spec_file.specs.Places.{is_inside}
use Rattle.spec_chain.specs.Chains.{pointer, holder, IsMet, GoesOn, or_else, first_fault, fault_of_number, fault_of_bytes, end_at, is_last}
use Rattle.spec_check.specs.Chains.{error_of_end, end_error}
use Rattle.ck_chain.specs.declared.walk.Walk.{Walk}
use Rattle.ck_chain.specs.declared.walk.Owner.{Owner}
use Rattle.std.proofs.lemmas.Bool.{and_parts}
use Rattle.spec_file.specs.Header.{says}
use Rattle.spec_file.specs.Iam.{iam_interval, has_interval, is_iam_page}
use Rattle.spec_chain.proofs.Pointers.{goes_inside}
use Rattle.ck_chain.proofs.Inside.{goes_iam}
use Rattle.ck_chain.specs.Walks.{IsWalk, looked_at, met_end}

-- the ends that a number alone gives say nothing of the page's bytes
number_end : (inside last ordinary : Bool) (a : ChainEnd) (id q p : ℕ) (xs ys : List ℕ)
    → (if not inside then Some (if last then end.Whole else end.Outside) else (if not ordinary then Some end.NotIam else None)) ≡ Some a
    → error_of_end id q p xs a ≡ error_of_end id q p ys a
number_end false true ordinary a id q p xs ys h =
    subst (λ e. error_of_end id q p xs e ≡ error_of_end id q p ys e) (same_Some end.Whole a h) refl
number_end false false ordinary a id q p xs ys h =
    subst (λ e. error_of_end id q p xs e ≡ error_of_end id q p ys e) (same_Some end.Outside a h) refl
number_end true last false a id q p xs ys h =
    subst (λ e. error_of_end id q p xs e ≡ error_of_end id q p ys e) (same_Some end.NotIam a h) refl
number_end true last true a id q p xs ys h = cc

pub none_of : (f1 f2 : Option ChainEnd) (m : Bool) → or_else f1 (or_else f2 (met_end m)) ≡ None → (f1 ≡ None) × (f2 ≡ None) × (m ≡ false)
none_of (Some a) f2 m h = cc
none_of None (Some b) m h = cc
none_of None None true h = cc
none_of None None false h = (refl, refl, refl)

some_of : (f1 f2 : Option ChainEnd) (m : Bool) (e : ChainEnd) → or_else f1 (or_else f2 (met_end m)) ≡ Some e
    → (f1 ≡ Some e) ⊎ (((f1 ≡ None) × (f2 ≡ Some e)) ⊎ ((f1 ≡ None) × (f2 ≡ None) × (m ≡ true) × (end.Met ≡ e)))
some_of (Some a) f2 m e h = inl h
some_of None (Some b) m e h = inr (inl (refl, h))
some_of None None true e h = inr (inr (refl, refl, refl, same_Some end.Met e h))
some_of None None false e h = cc

-- a walk with the owner's numbers
pub record IsOwner (image : Image) (row : CatalogRow) (owner : Owner) (walk : Walk) (k : ℕ) : Type 0 where
  pub id : owner.id ≡ row.id
  pub pages : owner.pages ≡ length image
  pub size : length walk.met.items ≡ length image
  pub stands : IsWalk image row k walk

-- the page's bytes were read where its number is good
abbrev pub IsRead : Image → Owner → Walk → List ℕ → Type 0
IsRead image owner walk bytes =
    fault_of_number owner.geometry owner.pages walk.link.count walk.link.page ≡ None → bytes ≡ page image walk.link.page

no_fault_is : (owner : Owner) (image : Image) (row : CatalogRow) (k : ℕ) (walk : Walk) (bytes : List ℕ) → IsOwner image row owner walk k
    → IsRead image owner walk bytes
    → fault_of_number owner.geometry owner.pages walk.link.count walk.link.page ≡ None
    → (first_fault owner.geometry image row k ≡ fault_of_bytes owner.geometry owner.pages owner.id walk.link.page bytes)
    × (bytes ≡ page image (pointer image row k))
no_fault_is owner image row k walk bytes o read none =
    let is : bytes ≡ page image (pointer image row k) = read none ∙ ap (page image) o.stands.page in
    let number : fault_of_number owner.geometry (length image) k (pointer image row k) ≡ None = rw (o.pages, o.stands.count, o.stands.page) at none in (
      ap (λ f. or_else f (fault_of_bytes owner.geometry (length image) row.id (pointer image row k) (page image (pointer image row k)))) number
          ∙ rw (o.pages, o.id, o.stands.page, is) refl,
      is,
    )

pub look_goes : (owner : Owner) (image : Image) (row : CatalogRow) (k : ℕ) (walk : Walk) (bytes : List ℕ) → IsOwner image row owner walk k
    → IsRead image owner walk bytes → looked_at owner walk bytes ≡ None
    → GoesOn owner.geometry image row k × (bytes ≡ page image (pointer image row k))
look_goes owner image row k walk bytes o read h =
    let parts = none_of (fault_of_number owner.geometry owner.pages walk.link.count walk.link.page)
    (fault_of_bytes owner.geometry owner.pages owner.id walk.link.page bytes) (get_or walk.met.items walk.link.page false) h in
    let is = no_fault_is owner image row k walk bytes o read parts.0 in
    let inside : walk.link.page < length walk.met.items =
    let below = goes_inside owner.geometry owner.pages walk.link.count walk.link.page parts.0 in omega (arith, below, o.pages, o.size) in
    let unmet : IsTrue (get_or walk.met.items walk.link.page false) → ⊥ = λ t. cc in
    ((is.0 ∙ parts.1, λ met. unmet ((o.stands.met walk.link.page inside).1 (subst (IsMet image row k) (sym o.stands.page) met))), is.1)

pub look_ends : (owner : Owner) (image : Image) (row : CatalogRow) (k : ℕ) (walk : Walk) (bytes : List ℕ) (e : ChainEnd)
    → IsOwner image row owner walk k → IsRead image owner walk bytes → looked_at owner walk bytes ≡ Some e
    → (GoesOn owner.geometry image row k → ⊥)
    × (error_of_end owner.id walk.link.page walk.link.holder bytes e ≡ end_error owner.geometry image row k)
look_ends owner image row k walk bytes e o read h = ⊎_elim
    (λ number. by_number number)
    (λ rest. ⊎_elim (λ of_bytes. by_bytes of_bytes.0 of_bytes.1) (λ met. by_met met.0 met.1 met.2 met.3) rest)
    (some_of (fault_of_number owner.geometry owner.pages walk.link.count walk.link.page)
    (fault_of_bytes owner.geometry owner.pages owner.id walk.link.page bytes) (get_or walk.met.items walk.link.page false) e h) where
      Goal : Type 0
      Goal = (GoesOn owner.geometry image row k → ⊥)
          × (error_of_end owner.id walk.link.page walk.link.holder bytes e ≡ end_error owner.geometry image row k)

      -- the error at the walk's numbers, of other bytes
      named : (xs : List ℕ) → error_of_end owner.id walk.link.page walk.link.holder xs e ≡ error_of_end row.id (pointer image row k) (holder image row k) xs e
      named xs = rw (o.id, o.stands.page, o.stands.holder) refl

      ended : first_fault owner.geometry image row k ≡ Some e → (GoesOn owner.geometry image row k → ⊥) × (end_at owner.geometry image row k ≡ e)
      ended fault = (λ goes. let never = sym goes.0 ∙ fault in cc, rw fault refl)

      by_number : fault_of_number owner.geometry owner.pages walk.link.count walk.link.page ≡ Some e → Goal
      by_number number =
          let image_number : fault_of_number owner.geometry (length image) k (pointer image row k) ≡ Some e = rw (o.pages, o.stands.count, o.stands.page) at number in
          let over = ended (ap (λ f. or_else f (fault_of_bytes owner.geometry (length image) row.id (pointer image row k) (page image (pointer image row k)))) image_number) in (
            over.0,
            named bytes
                ∙ number_end (is_inside (length image) (pointer image row k)) (is_last k (pointer image row k)) (is_ordinary owner.geometry (pointer image row k)) e
                row.id (pointer image row k) (holder image row k) bytes (page image (pointer image row k)) image_number
                ∙ ap (error_of_end row.id (pointer image row k) (holder image row k) (page image (pointer image row k))) (sym over.1),
          )

      by_bytes : fault_of_number owner.geometry owner.pages walk.link.count walk.link.page ≡ None
          → fault_of_bytes owner.geometry owner.pages owner.id walk.link.page bytes ≡ Some e → Goal
      by_bytes none of_bytes =
          let is = no_fault_is owner image row k walk bytes o read none in
          let over = ended (is.0 ∙ of_bytes) in (
            over.0,
            named bytes ∙ ap (λ xs. error_of_end row.id (pointer image row k) (holder image row k) xs e) is.1
                ∙ ap (error_of_end row.id (pointer image row k) (holder image row k) (page image (pointer image row k))) (sym over.1),
          )

      by_met : fault_of_number owner.geometry owner.pages walk.link.count walk.link.page ≡ None
          → fault_of_bytes owner.geometry owner.pages owner.id walk.link.page bytes ≡ None → get_or walk.met.items walk.link.page false ≡ true → end.Met ≡ e → Goal
      by_met none no_bytes met here =
          let is = no_fault_is owner image row k walk bytes o read none in
          let inside : walk.link.page < length walk.met.items =
          let below = goes_inside owner.geometry owner.pages walk.link.count walk.link.page none in omega (arith, below, o.pages, o.size) in
          let was : IsMet image row k (pointer image row k) = subst (IsMet image row k) o.stands.page ((o.stands.met walk.link.page inside).0 met) in
          let at : end_at owner.geometry image row k ≡ e = rw (is.0 ∙ no_bytes) here in (
            λ goes. goes.1 was,
            named bytes ∙ ap (λ xs. error_of_end row.id (pointer image row k) (holder image row k) xs e) is.1
                ∙ ap (error_of_end row.id (pointer image row k) (holder image row k) (page image (pointer image row k))) (sym at),
          )

-- a page at which the walk goes on is an IAM page of an interval of the file
pub goes_to_iam : (owner : Owner) (walk : Walk) (bytes : List ℕ) → looked_at owner walk bytes ≡ None
    → IsTrue (is_iam_page owner.geometry owner.pages walk.link.page bytes)
goes_to_iam owner walk bytes h =
    goes_iam owner.geometry owner.pages owner.id walk.link.page bytes
    (none_of (fault_of_number owner.geometry owner.pages walk.link.count walk.link.page)
    (fault_of_bytes owner.geometry owner.pages owner.id walk.link.page bytes) (get_or walk.met.items walk.link.page false) h).1

pub goes_to_number : (owner : Owner) (walk : Walk) (bytes : List ℕ) → looked_at owner walk bytes ≡ None → walk.link.page < owner.pages
goes_to_number owner walk bytes h =
    goes_inside owner.geometry owner.pages walk.link.count walk.link.page
    (none_of (fault_of_number owner.geometry owner.pages walk.link.count walk.link.page)
    (fault_of_bytes owner.geometry owner.pages owner.id walk.link.page bytes) (get_or walk.met.items walk.link.page false) h).0

pub goes_to_interval : (owner : Owner) (walk : Walk) (bytes : List ℕ) → looked_at owner walk bytes ≡ None
    → IsTrue (has_interval owner.geometry owner.pages (iam_interval bytes))
goes_to_interval owner walk bytes h =
    (and_parts (says 10 walk.link.page bytes) (has_interval owner.geometry owner.pages (iam_interval bytes)) (goes_to_iam owner walk bytes h)).1
