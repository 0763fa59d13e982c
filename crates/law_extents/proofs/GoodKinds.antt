-- A good extent is of one kind, which a bit, a use or a mark tells; and an extent of a kind is good.
use Rattle.std.proofs.Common.{if◌then◌else◌, length, get_or, ne_eqb, ◌≡◌, ◌≢◌, ℕ, ◌*◌, ◌/◌, ◌%◌, ◌<◌, ◌||◌, ◌==◌, Bool, true, false, Some, refl, sym, ap, subst, ◌∙◌, inl, inr, ⊎_elim, arith}
use Rattle.std.specs.List.{range_with_len}
use Rattle.std.proofs.lemmas.Bool.{false_from_ne_true, both_ways, eq-eqb}
use Rattle.std.proofs.lemmas.List.Folds.{list_any_at}
use Rattle.std.proofs.lemmas.List.FromFn.{length-range_with_len, get_or-range_with_len}
use Rattle.spec_file.specs.declared.geometry.Geometry.{Geometry}
use Rattle.spec_file.specs.declared.geometry.Geometry.TheVariants.{Standard, Small}
use Rattle.spec_file.specs.declared.role.Role.{Role}
use Rattle.spec_file.specs.declared.role.Role.TheVariants as role
use Rattle.spec_file.specs.declared.pfs.PfsKind.{PfsKind}
use Rattle.spec_file.specs.declared.pfs.PfsKind.TheVariants as kinds
use Rattle.spec_file.specs.Pfs.{is_allocated_byte}
use Rattle.spec_file.specs.Roles.{role_of, system_type, is_for_objects, is_ordinary, is_system_extent, is_system_place, is_pfs_page, is_gam_page, is_sgam_page}
use Rattle.spec_check.specs.Pages.{kind_of_role}
use Rattle.spec_file.specs.Places.{is_free, is_mixed}
use Rattle.spec_extents.specs.Extents.{Extent, extent_of, IsUsed, IsMixed, Fits, FitsUse, IsGoodExtent}
use Rattle.law_extents.specs.Laws.{GoodHasKind, FreeIsKind, SharedIsKind, OwnedIsKind}
use Rattle.spec_extents.specs.Kinds.{IsFree, IsShared, IsOwned}

-- a byte that fits a use is one of an allocated page; so are those of the boot page and of a page of a marked extent
pub used_allocated : (byte place : ℕ) → FitsUse byte place → is_allocated_byte byte ≡ true
used_allocated byte place fits = ⊎_elim
    (λ slot. let high = (subst (Fits byte) slot.1 fits.fits).flags in eq-eqb (byte / 64 % 2) 1 (omega (arith, high)))
    (λ chain. let high = (subst (Fits byte) chain.1 fits.fits).flags in eq-eqb (byte / 64 % 2) 1 (omega (arith, high)))
    fits.is

pub boot_allocated : (byte : ℕ) → Fits byte kinds.Boot → is_allocated_byte byte ≡ true
boot_allocated byte fits = let high = fits.flags in eq-eqb (byte / 64 % 2) 1 (omega (arith, high))

pub zero_not : (byte : ℕ) → byte ≡ 0 → is_allocated_byte byte ≡ true → ⊥
zero_not byte none allocated = let is : is_allocated_byte 0 ≡ true = subst (λ b. is_allocated_byte b ≡ true) none allocated in cc

-- an ordinary page has no kind by its role
ordinary_none : (r : Role) (kind : PfsKind) → is_for_objects r ≡ true → kind_of_role r ≡ Some kind → ⊥
ordinary_none role.Ordinary kind ordinary is = cc
ordinary_none role.FileHeader kind ordinary is = cc
ordinary_none role.Pfs kind ordinary is = cc
ordinary_none role.Gam kind ordinary is = cc
ordinary_none role.Sgam kind ordinary is = cc
ordinary_none role.Reserved kind ordinary is = cc
ordinary_none role.Boot kind ordinary is = cc

pub no_role : (g : Geometry) (p : ℕ) (kind : PfsKind) → is_ordinary g p ≡ true → kind_of_role (role_of g p) ≡ Some kind → ⊥
no_role g p kind ordinary is = ordinary_none (role_of g p) kind ordinary is

typeless : (r : Role) (type : ℕ) → is_for_objects r ≡ true → system_type r ≡ Some type → ⊥
typeless role.Ordinary type ordinary is = cc
typeless role.FileHeader type ordinary is = cc
typeless role.Pfs type ordinary is = cc
typeless role.Gam type ordinary is = cc
typeless role.Sgam type ordinary is = cc
typeless role.Reserved type ordinary is = cc
typeless role.Boot type ordinary is = cc

pub no_type : (g : Geometry) (p type : ℕ) → is_ordinary g p ≡ true → system_type (role_of g p) ≡ Some type → ⊥
no_type g p type ordinary is = typeless (role_of g p) type ordinary is

pub boot_role : (g : Geometry) → role_of g 9 ≡ role.Boot
boot_role Standard = refl
boot_role Small = refl

-- every page is ordinary of an extent that is neither a system extent nor that of the boot page
abbrev pub role_by : Bool → Bool → Bool → Bool → Bool → Bool → Role
role_by header pfs gam sgam boot system =
    if header then role.FileHeader else (if pfs then role.Pfs else (if gam then role.Gam
    else (if sgam then role.Sgam else (if boot then role.Boot else (if system then role.Reserved else role.Ordinary)))))

only_ordinary : (header pfs gam sgam boot system : Bool) → (header || (pfs || gam || sgam)) ≡ false → boot ≡ false → system ≡ false
    → is_for_objects (role_by header pfs gam sgam boot system) ≡ true
only_ordinary true pfs gam sgam boot system place nb ns = absurd (cc)
only_ordinary false true gam sgam boot system place nb ns = absurd (cc)
only_ordinary false false true sgam boot system place nb ns = absurd (cc)
only_ordinary false false false true boot system place nb ns = absurd (cc)
only_ordinary false false false false true system place nb ns = absurd (cc)
only_ordinary false false false false false true place nb ns = absurd (cc)
only_ordinary false false false false false false place nb ns = refl

place_tells : (g : Geometry) (e p : ℕ) → p / 8 ≡ e → is_system_extent g e ≡ false → ((p == 0) || is_system_place g p) ≡ false
place_tells g e p at system = false_from_ne_true ((p == 0) || is_system_place g p) (λ place.
    let inside : p % 8 < length (range_with_len (8 * e) 8) = omega (arith, length-range_with_len (8 * e) 8) in
    let is : get_or (range_with_len (8 * e) 8) (p % 8) 0 ≡ p = get_or-range_with_len (8 * e) 8 (p % 8) 0 (omega arith) ∙ omega (arith, at) in
    both_ways (is_system_extent g e) system
    (list_any_at (λ q. (q == 0) || is_system_place g q) (range_with_len (8 * e) 8) (p % 8) 0 inside (ap (λ q. (q == 0) || is_system_place g q) is ∙ place)))

pub all_ordinary : (g : Geometry) (e p : ℕ) → p / 8 ≡ e → is_system_extent g e ≡ false → e ≢ 1 → is_ordinary g p ≡ true
all_ordinary g e p at system boot =
    only_ordinary (p == 0) (is_pfs_page g p) (is_gam_page g p) (is_sgam_page g p) (p == 9) (is_system_extent g (p / 8))
    (place_tells g e p at system)
    (ne_eqb p 9 (λ nine. boot (omega (arith, nine, at))))
    (subst (λ f. is_system_extent g f ≡ false) (sym at) system)

-- and the first page of any extent that isn't a system extent
pub first_ordinary : (g : Geometry) (e : ℕ) → is_system_extent g e ≡ false → is_ordinary g (8 * e) ≡ true
first_ordinary g e system =
    let at : 8 * e / 8 ≡ e = omega arith in
    only_ordinary (8 * e == 0) (is_pfs_page g (8 * e)) (is_gam_page g (8 * e)) (is_sgam_page g (8 * e)) (8 * e == 9) (is_system_extent g (8 * e / 8))
    (place_tells g e (8 * e) at system)
    (ne_eqb (8 * e) 9 (λ nine. absurd (omega (arith, nine))))
    (subst (λ f. is_system_extent g f ≡ false) (sym at) system)

-- the kind of a good extent
pub free_kind : (g : Geometry) (e : ℕ) (x : Extent) → IsGoodExtent g e x → x.free ≡ true → IsFree g e x
free_kind g e x good free = record {
  free = free;
  mixed = false_from_ne_true x.mixed (good.one_map free);
  system = false_from_ne_true (is_system_extent g e) (λ s. good.system_free s free);
  boot = λ boot. good.free_mixed free (inl (inr boot));
  roles = λ p at. (good.pages p at).role;
  unused = λ p at used. good.free_mixed free (inl (inl (p, at, used)));
  unmarked = good.free_marked free;
  bytes = λ p at ordinary. (good.pages p at).unowned ordinary (λ used. good.free_mixed free (inl (inl (p, at, used)))) (good.free_marked free);
}

pub shared_kind : (g : Geometry) (e : ℕ) (x : Extent) → IsGoodExtent g e x → IsMixed e x → IsShared g e x
shared_kind g e x good mixed = record {
  free = false_from_ne_true x.free (λ free. good.free_mixed free mixed);
  system = false_from_ne_true (is_system_extent g e) (λ s. good.system_mixed s mixed);
  claimed = ⊎_elim (λ use_. inr use_) (λ bits. inl bits.0) mixed;
  roles = λ p at. (good.pages p at).role;
  one = λ p at. (good.pages p at).one;
  used = λ p at. (good.pages p at).used;
  unused = λ p at ordinary unused. (good.pages p at).unowned ordinary unused (good.mixed_marked mixed);
  unmarked = good.mixed_marked mixed;
}

pub owned_kind : (g : Geometry) (e : ℕ) (x : Extent) (o : ℕ) → IsGoodExtent g e x → x.marks o → IsOwned g e x o
owned_kind g e x o good mark =
    let free = false_from_ne_true x.free (λ free. good.free_marked free (o, mark)) in record {
      free = free;
      mixed = false_from_ne_true x.mixed (λ mixed. good.mixed_marked (inr (mixed, free)) (o, mark));
      system = false_from_ne_true (is_system_extent g e) (λ s. good.system_marked s (o, mark));
      boot = λ boot. good.mixed_marked (inl (inr boot)) (o, mark);
      roles = λ p at. (good.pages p at).role;
      unused = λ p at used. good.mixed_marked (inl (inl (p, at, used))) (o, mark);
      marked = mark;
      only = λ q too. good.one_marker q o too mark;
      bytes = λ p at ordinary. (good.pages p at).marked ordinary (o, mark);
    }

-- and back
unmixed : (e : ℕ) (x : Extent) → x.mixed ≡ false → e ≢ 1 → ((p : ℕ) → p / 8 ≡ e → IsUsed x p → ⊥) → IsMixed e x → ⊥
unmixed e x mixed boot unused is = ⊎_elim (λ h. ⊎_elim (λ u. unused u.0 u.1 u.2) boot h) (λ bits. both_ways x.mixed mixed bits.0) is

pub free_good : (g : Geometry) (e : ℕ) (x : Extent) → IsFree g e x → IsGoodExtent g e x
free_good g e x is = record {
  one_map = λ free mixed. both_ways x.mixed is.mixed mixed;
  one_marker = λ o q a b. absurd (is.unmarked (o, a));
  claimed = λ free mixed system uses marks. both_ways x.free free is.free;
  system_free = λ s free. both_ways (is_system_extent g e) is.system s;
  system_mixed = λ s mixed. both_ways (is_system_extent g e) is.system s;
  system_marked = λ s marked. both_ways (is_system_extent g e) is.system s;
  free_mixed = λ free mixed. unmixed e x is.mixed is.boot is.unused mixed;
  free_marked = λ free. is.unmarked;
  mixed_marked = λ mixed. is.unmarked;
  pages = λ p at. record {
    role = is.roles p at;
    one = λ u v a b. absurd (is.unused p at (u, a));
    used = λ ordinary u a. absurd (is.unused p at (u, a));
    marked = λ ordinary m. absurd (is.unmarked m);
    unowned = λ ordinary unused unmarked. is.bytes p at ordinary;
  };
}

pub shared_good : (g : Geometry) (e : ℕ) (x : Extent) → IsShared g e x → IsGoodExtent g e x
shared_good g e x is = record {
  one_map = λ free mixed. both_ways x.free is.free free;
  one_marker = λ o q a b. absurd (is.unmarked (o, a));
  claimed = λ free mixed system uses marks. ⊎_elim (λ bit. both_ways x.mixed mixed bit) uses is.claimed;
  system_free = λ s free. both_ways (is_system_extent g e) is.system s;
  system_mixed = λ s mixed. both_ways (is_system_extent g e) is.system s;
  system_marked = λ s marked. both_ways (is_system_extent g e) is.system s;
  free_mixed = λ free mixed. both_ways x.free is.free free;
  free_marked = λ free. is.unmarked;
  mixed_marked = λ mixed. is.unmarked;
  pages = λ p at. record {
    role = is.roles p at;
    one = is.one p at;
    used = is.used p at;
    marked = λ ordinary m. absurd (is.unmarked m);
    unowned = λ ordinary unused unmarked. is.unused p at ordinary unused;
  };
}

pub owned_good : (g : Geometry) (e : ℕ) (x : Extent) (o : ℕ) → IsOwned g e x o → IsGoodExtent g e x
owned_good g e x o is = record {
  one_map = λ free mixed. both_ways x.free is.free free;
  one_marker = λ q r a b. is.only q a ∙ sym (is.only r b);
  claimed = λ free mixed system uses marks. marks (o, is.marked);
  system_free = λ s free. both_ways (is_system_extent g e) is.system s;
  system_mixed = λ s mixed. both_ways (is_system_extent g e) is.system s;
  system_marked = λ s marked. both_ways (is_system_extent g e) is.system s;
  free_mixed = λ free mixed. both_ways x.free is.free free;
  free_marked = λ free marked. both_ways x.free is.free free;
  mixed_marked = λ mixed marked. unmixed e x is.mixed is.boot is.unused mixed;
  pages = λ p at. record {
    role = is.roles p at;
    one = λ u v a b. absurd (is.unused p at (u, a));
    used = λ ordinary u a. absurd (is.unused p at (u, a));
    marked = λ ordinary m. is.bytes p at ordinary;
    unowned = λ ordinary unused unmarked. absurd (unmarked (o, is.marked));
  };
}

-- a good extent which isn't the system's is of a kind
pub good_has_kind : GoodHasKind
good_has_kind g image e good other none =
    let extent = extent_of g image e in
    let free = λ (bit : is_free g image e ≡ true). let w : ⊥ = none (inl (free_kind g e extent good bit)) in w in
    let mixed = λ (is : IsMixed e extent). let w : ⊥ = none (inr (inl (shared_kind g e extent good is))) in w in
    let used = λ (bit : is_free g image e ≡ false). let w : ⊥ = good.claimed bit
    (false_from_ne_true (is_mixed g image e) (λ bit_. mixed (inr (bit_, bit))))
    (false_from_ne_true (is_system_extent g e) other)
    (λ holds. mixed (inl holds))
    (λ marked. none (inr (inr (marked.0, owned_kind g e extent marked.0 good marked.1)))) in w in
    used (false_from_ne_true (is_free g image e) free)

pub free_is_kind : FreeIsKind
free_is_kind g image e = (λ h. free_kind g e (extent_of g image e) h.0 h.1, λ is. (free_good g e (extent_of g image e) is, is.free))

pub shared_is_kind : SharedIsKind
shared_is_kind g image e = (
  λ h. shared_kind g e (extent_of g image e) h.0 h.1,
  λ is. (shared_good g e (extent_of g image e) is, ⊎_elim (λ bit. inr (bit, is.free)) (λ use_. inl use_) is.claimed),
)

pub owned_is_kind : OwnedIsKind
owned_is_kind g image e o = (λ h. owned_kind g e (extent_of g image e) o h.0 h.1, λ is. (owned_good g e (extent_of g image e) o is, is.marked))
