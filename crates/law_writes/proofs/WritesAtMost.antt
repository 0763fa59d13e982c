-- Each write changes at most its own place; and what several change at most, one after another.
use Rattle.std.proofs.Common.{◌≡◌, ◌≢◌, ℕ, ◌*◌, ◌/◌, ◌<◌, ◌≤◌, Bool, false, List, [], length, slice_index, slice_set, get_or-set_same, get_or-set_other, sym, ap, subst, ◌∙◌, inl, inr, ⊎_elim, arith}
use Rattle.std.proofs.Math.ListN.{length-set}
use Rattle.std.proofs.lemmas.Bool.{cases_eq}
use Rattle.spec_file.specs.declared.geometry.Geometry.{Geometry}
use Rattle.spec_file.specs.declared.geometry.Geometry.TheVariants.{Standard, Small}
use Rattle.spec_file.specs.Image.{Image, page, bit}
use Rattle.spec_file.specs.Header.{says}
use Rattle.spec_file.specs.Places.{Place, page_limit, is_free, is_mixed, gam_place, sgam_place, pfs_place, extent_count, HasShape}
use Rattle.spec_file.proofs.PlacesLaws.{places_apart}
use Rattle.spec_file.specs.Roles.{is_ordinary}
use Rattle.spec_chain.specs.Uses.{pfs_byte}
use Rattle.law_writes.proofs.MapPages.{first_cases, gam_not, sgam_not, pfs_not, gam_boot, sgam_boot, pfs_boot, differs}
use Rattle.spec_steps.specs.Writes.{SaysSame, SetsPage, SetsFree, SetsMixed, SetsByte}
use Rattle.spec_steps.specs.AtMost.{IsWhole, Changed, AtMost, free_bit, mixed_bit, byte_of, page_of, either}

place_is : (a b : Place) → a.page ≡ b.page → a.at ≡ b.at → a ≡ b
place_is a b pages ats = ap (λ q. let w : Place = record { page = q; at = a.at } in w) pages ∙ ap (λ n. let w : Place = record { page = b.page; at = n } in w) ats

-- the page that is set, and the others
set_page : (image : Image) (q : ℕ) (new : List ℕ) → q < length image → page (slice_set image q new) q ≡ new
set_page image q new inside = get_or-set_same image q new [] inside

other_page : (image : Image) (q r : ℕ) (new : List ℕ) → r ≢ q → page (slice_set image q new) r ≡ page image r
other_page image q r new other = get_or-set_other image q r new [] other

-- the map pages of a file stand in it
gam_in : (g : Geometry) (n e : ℕ) → 16 ≤ n → e < n / 8 → (gam_place g e).page < n
gam_in Standard n e many inside = elim (first_cases 2 511232 (e / 63904)) [ inl a ↦ omega arith | inr a ↦ omega arith ]
gam_in Small n e many inside = elim (first_cases 2 512 (e / 64)) [ inl a ↦ omega arith | inr a ↦ omega arith ]

sgam_in : (g : Geometry) (n e : ℕ) → 16 ≤ n → e < n / 8 → (sgam_place g e).page < n
sgam_in Standard n e many inside = elim (first_cases 2 511232 (e / 63904)) [ inl a ↦ omega arith | inr a ↦ omega arith ]
sgam_in Small n e many inside = elim (first_cases 2 512 (e / 64)) [ inl a ↦ omega arith | inr a ↦ omega arith ]

pfs_in : (g : Geometry) (n p : ℕ) → 16 ≤ n → p < n → (pfs_place g p).page < n
pfs_in Standard n p many inside = elim (first_cases 1 8088 (p / 8088)) [ inl a ↦ omega arith | inr a ↦ omega arith ]
pfs_in Small n p many inside = elim (first_cases 1 88 (p / 88)) [ inl a ↦ omega arith | inr a ↦ omega arith ]

-- a page of data is no map page
not_map : (g : Geometry) (q m : ℕ) → IsWhole g q → is_ordinary g m ≡ false → m ≢ 9 → q ≢ m
not_map g q m (inl boot) other nine same = nine (sym same ∙ boot)
not_map g q m (inr ordinary) other nine same = differs g q m ordinary other same

-- what a system page says, where a map page is set that says the same
says_after : (g : Geometry) (image : Image) (m q : ℕ) (new : List ℕ) → m < length image → SaysSame (page image m) new → (type : ℕ)
    → says type q (page (slice_set image m new) q) ≡ says type q (page image q)
says_after g image m q new inside same type = ⊎_elim
    (λ here. subst (λ r. says type r (page (slice_set image m new) r) ≡ says type r (page image r)) (sym here) (ap (says type m) (set_page image m new inside) ∙ same type m))
    (λ other. ap (says type q) (other_page image m q new other)) (cases_eq q m)

module _ (g : Geometry) (image : Image) (shape : HasShape g (length image)) where
  low_page : (p : ℕ) → p < length image → p < page_limit g
  low_page p inside = let b = shape.high in omega (arith, inside, b)

  low_extent : (e : ℕ) → e < extent_count image → 8 * e < page_limit g
  low_extent e inside = let b = shape.high in omega (arith, inside, b)

  pub word_free : (image' : Image) (e : ℕ) (v : Bool) → e < extent_count image → SetsFree g e v image image' → AtMost g (free_bit e) image image' × (is_free g image' e ≡ v)
  word_free image' e v inside sets =
      let q = (gam_place g e).page in
      let there = gam_in g (length image) e shape.low inside in
      subst (λ i. AtMost g (free_bit e) image i × (is_free g i e ≡ v)) (sym sets.is) (
        record {
          size = length-set image q sets.new;
          free = λ f low other. ⊎_elim
              (λ same. subst (λ r. bit (page (slice_set image q sets.new) r) (gam_place g f).at ≡ bit (page image r) (gam_place g f).at) (sym same)
              (ap (λ b. bit b (gam_place g f).at) (set_page image q sets.new there)
              ∙ sets.bit.others (gam_place g f).at (λ at. other ((places_apart g).gam f e (low_extent f low) (low_extent e inside) (place_is (gam_place g f) (gam_place g e) same at)))))
              (λ differ. ap (λ b. bit b (gam_place g f).at) (other_page image q (gam_place g f).page sets.new differ)) (cases_eq (gam_place g f).page q);
          mixed = λ f low other. ap (λ b. bit b (sgam_place g f).at) (other_page image q (sgam_place g f).page sets.new
              (λ same. (places_apart g).gam_sgam e f (low_extent e inside) (low_extent f low) (sym same)));
          bytes = λ p low other. ap (λ b. slice_index b (pfs_place g p).at) (other_page image q (pfs_place g p).page sets.new
              (λ same. (places_apart g).gam_pfs e p (low_extent e inside) (low_page p low) (sym same)));
          pages = λ r data_ other. other_page image q r sets.new (not_map g r q data_ (gam_not g e) (gam_boot g e));
          system = λ r type low other is. says_after g image q r sets.new there sets.bit.header type;
        },
        ap (λ b. bit b (gam_place g e).at) (set_page image q sets.new there) ∙ sets.bit.here,
      )

  pub word_mixed : (image' : Image) (e : ℕ) (v : Bool) → e < extent_count image → SetsMixed g e v image image' → AtMost g (mixed_bit e) image image' × (is_mixed g image' e ≡ v)
  word_mixed image' e v inside sets =
      let q = (sgam_place g e).page in
      let there = sgam_in g (length image) e shape.low inside in
      subst (λ i. AtMost g (mixed_bit e) image i × (is_mixed g i e ≡ v)) (sym sets.is) (
        record {
          size = length-set image q sets.new;
          free = λ f low other. ap (λ b. bit b (gam_place g f).at) (other_page image q (gam_place g f).page sets.new ((places_apart g).gam_sgam f e (low_extent f low) (low_extent e inside)));
          mixed = λ f low other. ⊎_elim
              (λ same. subst (λ r. bit (page (slice_set image q sets.new) r) (sgam_place g f).at ≡ bit (page image r) (sgam_place g f).at) (sym same)
              (ap (λ b. bit b (sgam_place g f).at) (set_page image q sets.new there)
              ∙ sets.bit.others (sgam_place g f).at (λ at. other ((places_apart g).sgam f e (low_extent f low) (low_extent e inside) (place_is (sgam_place g f) (sgam_place g e) same at)))))
              (λ differ. ap (λ b. bit b (sgam_place g f).at) (other_page image q (sgam_place g f).page sets.new differ)) (cases_eq (sgam_place g f).page q);
          bytes = λ p low other. ap (λ b. slice_index b (pfs_place g p).at) (other_page image q (pfs_place g p).page sets.new
              (λ same. (places_apart g).sgam_pfs e p (low_extent e inside) (low_page p low) (sym same)));
          pages = λ r data_ other. other_page image q r sets.new (not_map g r q data_ (sgam_not g e) (sgam_boot g e));
          system = λ r type low other is. says_after g image q r sets.new there sets.bit.header type;
        },
        ap (λ b. bit b (sgam_place g e).at) (set_page image q sets.new there) ∙ sets.bit.here,
      )

  pub word_byte : (image' : Image) (p b : ℕ) → p < length image → SetsByte g p b image image' → AtMost g (byte_of p) image image' × (pfs_byte g image' p ≡ b)
  word_byte image' p b inside sets =
      let q = (pfs_place g p).page in
      let there = pfs_in g (length image) p shape.low inside in
      subst (λ i. AtMost g (byte_of p) image i × (pfs_byte g i p ≡ b)) (sym sets.is) (
        record {
          size = length-set image q sets.new;
          free = λ f low other. ap (λ b. bit b (gam_place g f).at) (other_page image q (gam_place g f).page sets.new ((places_apart g).gam_pfs f p (low_extent f low) (low_page p inside)));
          mixed = λ f low other. ap (λ b. bit b (sgam_place g f).at) (other_page image q (sgam_place g f).page sets.new ((places_apart g).sgam_pfs f p (low_extent f low) (low_page p inside)));
          bytes = λ r low other. ⊎_elim
              (λ same. subst (λ s. slice_index (page (slice_set image q sets.new) s) (pfs_place g r).at ≡ slice_index (page image s) (pfs_place g r).at) (sym same)
              (ap (λ b. slice_index b (pfs_place g r).at) (set_page image q sets.new there)
              ∙ sets.byte.others (pfs_place g r).at (λ at. other ((places_apart g).pfs r p (low_page r low) (low_page p inside) (place_is (pfs_place g r) (pfs_place g p) same at)))))
              (λ differ. ap (λ b. slice_index b (pfs_place g r).at) (other_page image q (pfs_place g r).page sets.new differ)) (cases_eq (pfs_place g r).page q);
          pages = λ r data_ other. other_page image q r sets.new (not_map g r q data_ (pfs_not g p) (pfs_boot g p));
          system = λ r type low other is. says_after g image q r sets.new there sets.byte.header type;
        },
        ap (λ b. slice_index b (pfs_place g p).at) (set_page image q sets.new there) ∙ sets.byte.here,
      )

  pub word_page : (image' : Image) (q : ℕ) (new : List ℕ) → q < length image → IsWhole g q → SetsPage q new image image' → AtMost g (page_of q) image image' × (page image' q ≡ new)
  word_page image' q new inside data_ sets =
      subst (λ i. AtMost g (page_of q) image i × (page i q ≡ new)) (sym sets.is) (
        record {
          size = length-set image q new;
          free = λ f low other. ap (λ b. bit b (gam_place g f).at) (other_page image q (gam_place g f).page new
              (λ same. not_map g q (gam_place g f).page data_ (gam_not g f) (gam_boot g f) (sym same)));
          mixed = λ f low other. ap (λ b. bit b (sgam_place g f).at) (other_page image q (sgam_place g f).page new
              (λ same. not_map g q (sgam_place g f).page data_ (sgam_not g f) (sgam_boot g f) (sym same)));
          bytes = λ p low other. ap (λ b. slice_index b (pfs_place g p).at) (other_page image q (pfs_place g p).page new
              (λ same. not_map g q (pfs_place g p).page data_ (pfs_not g p) (pfs_boot g p) (sym same)));
          pages = λ r other_data other. other_page image q r new other;
          system = λ r type low other is. ap (says type r) (other_page image q r new other);
        },
        set_page image q new inside,
      )

-- a row of two
pub at_most_both : (g : Geometry) (a b : Changed) (image image' image'' : Image) → AtMost g a image image' → AtMost g b image' image'' → AtMost g (either a b) image image''
at_most_both g a b image image' image'' first second = record {
  size = second.size ∙ first.size;
  free = λ e low other. second.free e (subst (λ n. e < n / 8) (sym first.size) low) (λ h. other (inr h)) ∙ first.free e low (λ h. other (inl h));
  mixed = λ e low other. second.mixed e (subst (λ n. e < n / 8) (sym first.size) low) (λ h. other (inr h)) ∙ first.mixed e low (λ h. other (inl h));
  bytes = λ p low other. second.bytes p (subst (λ n. p < n) (sym first.size) low) (λ h. other (inr h)) ∙ first.bytes p low (λ h. other (inl h));
  pages = λ q data_ other. second.pages q data_ (λ h. other (inr h)) ∙ first.pages q data_ (λ h. other (inl h));
  system = λ q type low other is. second.system q type (subst (λ n. q < n) (sym first.size) low) (λ h. other (inr h)) is ∙ first.system q type low (λ h. other (inl h)) is;
}

-- where the pages of maps stand
module _ (g : Geometry) (n : ℕ) (shape : HasShape g n) where
  pub gam_inside : (e : ℕ) → e < n / 8 → (gam_place g e).page < n
  gam_inside e inside = gam_in g n e shape.low inside

  pub sgam_inside : (e : ℕ) → e < n / 8 → (sgam_place g e).page < n
  sgam_inside e inside = sgam_in g n e shape.low inside

  pub pfs_inside : (p : ℕ) → p < n → (pfs_place g p).page < n
  pfs_inside p inside = pfs_in g n p shape.low inside
