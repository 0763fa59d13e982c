-- What allocation and freeing do to an extent keeps it good.
use Rattle.std.proofs.Common.{eq-eqb, ◌≡◌, ◌≢◌, ℕ, ◌/◌, ◌%◌, true, false, IsTrue, refl, sym, ap, subst, ◌∙◌, inl, inr, ⊎_elim, arith}
use Rattle.std.proofs.lemmas.Bool.{cases_eq, both_ways, false_from_ne_true}
use Rattle.spec_file.specs.declared.geometry.Geometry.{Geometry}
use Rattle.spec_file.specs.declared.pfs.PfsKind.TheVariants as kinds
use Rattle.spec_file.specs.Pfs.{is_allocated_byte}
use Rattle.spec_file.specs.Roles.{is_ordinary, is_system_extent}
use Rattle.spec_chain.specs.Uses.{Use}
use Rattle.spec_check.specs.Pages.{kind_of_role}
use Rattle.spec_extents.specs.Extents.{Extent, IsUsed, IsMarked, HoldsUse, IsMixed, Fits, FitsUse, FitsMark, IsGoodExtent}
use Rattle.spec_extents.specs.Kinds.{AreRolesGood}
use Rattle.spec_extents.specs.Changes.{ShowsSame, TakesSingle, FillsSingle, ChangesByte, TakesExtent, FreesSingles, FreesExtent}
use Rattle.law_extents.proofs.Listed.{decided}
use Rattle.law_extents.proofs.Locality.{zero_unused}
use Rattle.law_extents.proofs.GoodKinds.{used_allocated, boot_allocated, zero_not, no_role, boot_role, all_ordinary, free_kind, shared_kind, owned_kind, free_good, shared_good, owned_good}

-- the bytes of pages that a role tells stay, where only ordinary pages change
kept_roles : (g : Geometry) (e : ℕ) (x y : Extent) → ((p : ℕ) → p / 8 ≡ e → is_ordinary g p ≡ false → y.byte p ≡ x.byte p) → AreRolesGood g e x → AreRolesGood g e y
kept_roles g e x y kept roles p at kind is =
    subst (λ b. Fits b kind) (sym (kept p at (false_from_ne_true (is_ordinary g p) (λ ordinary. no_role g p kind ordinary is)))) (roles p at kind is)

other_page : (g : Geometry) (p q : ℕ) → IsTrue (is_ordinary g p) → is_ordinary g q ≡ false → q ≢ p
other_page g p q ordinary other same = both_ways (is_ordinary g q) other (subst (λ r. is_ordinary g r ≡ true) (sym same) ordinary)

-- what shows the same is as good
pub same_good : (g : Geometry) (e : ℕ) (x y : Extent) → IsGoodExtent g e x → ShowsSame e x y → IsGoodExtent g e y
same_good g e x y good same =
    let used = λ (p : ℕ) (at : p / 8 ≡ e) (u : IsUsed y p). let w : IsUsed x p = (u.0, (same.uses p at u.0).0 u.1) in w in
    let used_ = λ (p : ℕ) (at : p / 8 ≡ e) (u : IsUsed x p). let w : IsUsed y p = (u.0, (same.uses p at u.0).1 u.1) in w in
    let marked = λ (m : IsMarked y). let w : IsMarked x = (m.0, (same.marks m.0).0 m.1) in w in
    let marked_ = λ (m : IsMarked x). let w : IsMarked y = (m.0, (same.marks m.0).1 m.1) in w in
    let holds = λ (h : HoldsUse e y). let w : HoldsUse e x = ⊎_elim (λ u. inl (u.0, u.1, used u.0 u.1 u.2)) (λ b. inr b) h in w in
    let holds_ = λ (h : HoldsUse e x). let w : HoldsUse e y = ⊎_elim (λ u. inl (u.0, u.1, used_ u.0 u.1 u.2)) (λ b. inr b) h in w in
    let mixed = λ (h : IsMixed e y). let w : IsMixed e x = ⊎_elim (λ u. inl (holds u)) (λ b. inr (sym same.mixed ∙ b.0, sym same.free ∙ b.1)) h in w in record {
      one_map = λ f m. good.one_map (sym same.free ∙ f) (sym same.mixed ∙ m);
      one_marker = λ o q a b. good.one_marker o q ((same.marks o).0 a) ((same.marks q).0 b);
      claimed = λ f m s uses marks. good.claimed (sym same.free ∙ f) (sym same.mixed ∙ m) s (λ h. uses (holds_ h)) (λ h. marks (marked_ h));
      system_free = λ s f. good.system_free s (sym same.free ∙ f);
      system_mixed = λ s m. good.system_mixed s (mixed m);
      system_marked = λ s m. good.system_marked s (marked m);
      free_mixed = λ f m. good.free_mixed (sym same.free ∙ f) (mixed m);
      free_marked = λ f m. good.free_marked (sym same.free ∙ f) (marked m);
      mixed_marked = λ a b. good.mixed_marked (mixed a) (marked b);
      pages = λ p at. let page_ = good.pages p at in let byte = same.bytes p at in record {
        role = λ kind is. subst (λ b. Fits b kind) (sym byte) (page_.role kind is);
        one = λ u v a b. page_.one u v ((same.uses p at u).0 a) ((same.uses p at v).0 b);
        used = λ ordinary u a. subst (λ b. FitsUse b u.place) (sym byte) (page_.used ordinary u ((same.uses p at u).0 a));
        marked = λ ordinary m. subst FitsMark (sym byte) (page_.marked ordinary (marked m));
        unowned = λ ordinary unused unmarked. byte ∙ page_.unowned ordinary (λ u. unused (used_ p at u)) (λ m. unmarked (marked_ m));
      };
    }

-- a page of a mixed or a free extent that isn't allocated has no use
record IsOpen (g : Geometry) (e p : ℕ) (x : Extent) : Type 0 where
  system : is_system_extent g e ≡ false
  roles : AreRolesGood g e x
  one : (q : ℕ) → q / 8 ≡ e → (u v : Use) → x.uses q u → x.uses q v → u ≡ v
  used : (q : ℕ) → q / 8 ≡ e → IsTrue (is_ordinary g q) → (u : Use) → x.uses q u → FitsUse (x.byte q) u.place
  unused : (q : ℕ) → q / 8 ≡ e → IsTrue (is_ordinary g q) → (IsUsed x q → ⊥) → x.byte q ≡ 0
  unmarked : IsMarked x → ⊥
  no_use : IsUsed x p → ⊥

open_from : (g : Geometry) (e p : ℕ) (u : Use) (x y : Extent) → IsGoodExtent g e x → TakesSingle g e p u x y → IsOpen g e p x
open_from g e p u x y good take = elim (take.from) [
  | inl mixed ↦ let is = shared_kind g e x good (inr (mixed, false_from_ne_true x.free (λ free. good.one_map free mixed))) in record {
    system = is.system;
    roles = is.roles;
    one = is.one;
    used = is.used;
    unused = is.unused;
    unmarked = is.unmarked;
    no_use = λ h. both_ways _ take.unallocated (used_allocated (x.byte p) h.0.place (is.used p take.at take.ordinary h.0 h.1));
  }
  | inr free ↦ let is = free_kind g e x good free in record {
    system = is.system;
    roles = is.roles;
    one = λ q at v w a b. absurd (is.unused q at (v, a));
    used = λ q at ordinary v a. absurd (is.unused q at (v, a));
    unused = λ q at ordinary none. is.bytes q at ordinary;
    unmarked = is.unmarked;
    no_use = is.unused p take.at;
  }
]

pub single_taken : (g : Geometry) (e p : ℕ) (u : Use) (x y : Extent) → IsGoodExtent g e x → TakesSingle g e p u x y → IsGoodExtent g e y
single_taken g e p u x y good take =
    let is = open_from g e p u x y good take in
    let new : y.uses p u = (take.uses p take.at u).1 (inr (refl, refl)) in
    let uses_ = λ (q : ℕ) (at : q / 8 ≡ e) (v : Use) (a : y.uses q v). (take.uses q at v).0 a in
    let only = λ (q : ℕ) (at : q / 8 ≡ e) (same : q ≡ p) (v : Use) (a : y.uses q v). let w : v ≡ u = ⊎_elim (λ old. absurd
    (is.no_use (v, subst (λ r. x.uses r v) same old))) (λ n. n.1) (uses_ q at v a) in w in
    let old = λ (q : ℕ) (at : q / 8 ≡ e) (other : q ≢ p) (v : Use) (a : y.uses q v). let w : x.uses q v = ⊎_elim (λ o. o) (λ n. absurd (other n.0)) (uses_ q at v a) in w in
    shared_good g e y (record {
      free = take.free;
      system = is.system;
      claimed = inr (inl (p, take.at, (u, new)));
      roles = kept_roles g e x y (λ q at other. take.bytes q at (other_page g p q take.ordinary other)) is.roles;
      one = λ q at v w a b. ⊎_elim (λ same. only q at same v a ∙ sym (only q at same w b))
          (λ other. is.one q at v w (old q at other v a) (old q at other w b)) (cases_eq q p);
      used = λ q at ordinary v a. ⊎_elim
          (λ same. rw (ap y.byte same, ap (λ (w : Use). w.place) (only q at same v a)) take.byte)
          (λ other. subst (λ b. FitsUse b v.place) (sym (take.bytes q at other)) (is.used q at ordinary v (old q at other v a))) (cases_eq q p);
      unused = λ q at ordinary none. ⊎_elim
          (λ same. absurd (none (u, subst (λ r. y.uses r u) (sym same) new)))
          (λ other. take.bytes q at other ∙ is.unused q at ordinary (λ h. none (h.0, (take.uses q at h.0).1 (inl h.1)))) (cases_eq q p);
      unmarked = λ m. is.unmarked (m.0, take.marks m.0 m.1);
    })

pub single_filled : (g : Geometry) (e p : ℕ) (u : Use) (x y : Extent) → IsGoodExtent g e x → FillsSingle g e p u x y → IsGoodExtent g e y
single_filled g e p u x y good fills =
    let is = shared_kind g e x good (inl (inl (p, fills.at, (u, fills.from)))) in
    shared_good g e y (record {
      free = fills.free ∙ is.free;
      system = is.system;
      claimed = inr (inl (p, fills.at, (u, (fills.uses p fills.at u).1 fills.from)));
      roles = kept_roles g e x y (λ q at other. fills.bytes q at (other_page g p q fills.ordinary other)) is.roles;
      one = λ q at v w a b. is.one q at v w ((fills.uses q at v).0 a) ((fills.uses q at w).0 b);
      used = λ q at ordinary v a. ⊎_elim
          (λ same. let only : v ≡ u = is.one p fills.at v u (subst (λ r. x.uses r v) same ((fills.uses q at v).0 a)) fills.from in
          rw (ap y.byte same, ap (λ (w : Use). w.place) only) fills.byte)
          (λ other. subst (λ b. FitsUse b v.place) (sym (fills.bytes q at other)) (is.used q at ordinary v ((fills.uses q at v).0 a))) (cases_eq q p);
      unused = λ q at ordinary none. ⊎_elim
          (λ same. absurd (none (u, (fills.uses q at u).1 (subst (λ r. x.uses r u) (sym same) fills.from))))
          (λ other. fills.bytes q at other ∙ is.unused q at ordinary (λ h. none (h.0, (fills.uses q at h.0).1 h.1))) (cases_eq q p);
      unmarked = λ m. is.unmarked (m.0, (fills.marks m.0).0 m.1);
    })

pub byte_set : (g : Geometry) (e p : ℕ) (x y : Extent) → IsGoodExtent g e x → ChangesByte g e p x y → IsGoodExtent g e y
byte_set g e p x y good sets =
    let is = owned_kind g e x sets.from.0 good sets.from.1 in
    owned_good g e y sets.from.0 (record {
      free = sets.free ∙ is.free;
      mixed = sets.mixed ∙ is.mixed;
      system = is.system;
      boot = is.boot;
      roles = kept_roles g e x y (λ q at other. sets.bytes q at (other_page g p q sets.ordinary other)) is.roles;
      unused = λ q at used. is.unused q at (used.0, (sets.uses q at used.0).0 used.1);
      marked = (sets.marks sets.from.0).1 is.marked;
      only = λ q mark. is.only q ((sets.marks q).0 mark);
      bytes = λ q at ordinary. ⊎_elim (λ same. subst (λ r. FitsMark (y.byte r)) (sym same) sets.byte)
          (λ other. subst FitsMark (sym (sets.bytes q at other)) (is.bytes q at ordinary)) (cases_eq q p);
    })

uniform_marked : (byte : ℕ) → Fits byte kinds.Uniform → FitsMark byte
uniform_marked byte fits = record {
  allocated = λ allocated. fits;
  unallocated = λ free. absurd (let high = fits.flags in both_ways (is_allocated_byte byte) free (eq-eqb (byte / 64 % 2) 1 (omega (arith, high))));
}

zero_marked : (byte : ℕ) → byte ≡ 0 → FitsMark byte
zero_marked byte none = record { allocated = λ allocated. absurd (zero_not byte none allocated); unallocated = λ free. zero_unused byte none }

pub extent_taken : (g : Geometry) (e p o : ℕ) (x y : Extent) → IsGoodExtent g e x → TakesExtent g e p o x y → IsGoodExtent g e y
extent_taken g e p o x y good take =
    let is = free_kind g e x good take.from in
    owned_good g e y o (record {
      free = take.free;
      mixed = take.mixed;
      system = is.system;
      boot = is.boot;
      roles = kept_roles g e x y (λ q at other. take.bytes q at (other_page g p q take.ordinary other)) is.roles;
      unused = λ q at used. is.unused q at (used.0, take.uses q at used.0 used.1);
      marked = (take.marks o).1 (inr refl);
      only = λ q mark. ⊎_elim (λ old. absurd (is.unmarked (q, old))) (λ same. same) ((take.marks q).0 mark);
      bytes = λ q at ordinary. ⊎_elim (λ same. subst (λ r. FitsMark (y.byte r)) (sym same) (uniform_marked (y.byte p) take.byte))
          (λ other. zero_marked (y.byte q) (take.bytes q at other ∙ is.bytes q at ordinary)) (cases_eq q p);
    })

pub extent_freed : (g : Geometry) (e : ℕ) (x y : Extent) → IsGoodExtent g e x → FreesExtent g e x y → IsGoodExtent g e y
extent_freed g e x y good frees =
    let is = owned_kind g e x frees.from.0 good frees.from.1 in
    free_good g e y (record {
      free = frees.free;
      mixed = frees.mixed ∙ is.mixed;
      system = is.system;
      boot = is.boot;
      roles = kept_roles g e x y frees.bytes is.roles;
      unused = λ q at used. is.unused q at (used.0, frees.uses q at used.0 used.1);
      unmarked = frees.unmarked;
      bytes = frees.zeros;
    })

-- a number that can't but be another is it
pub stable : (m n : ℕ) → ((m ≡ n → ⊥) → ⊥) → m ≡ n
stable m n h = ⊎_elim (λ same. same) (λ differ. absurd (h differ)) (cases_eq m n)

pub singles_freed : (g : Geometry) (e : ℕ) (gone : ℕ → Type 0) (x y : Extent) → IsGoodExtent g e x → FreesSingles g e gone x y → IsGoodExtent g e y
singles_freed g e gone x y good frees =
    let is = shared_kind g e x good frees.from in
    let roles = kept_roles g e x y (λ q at other. frees.bytes q at (λ is_gone. both_ways (is_ordinary g q) other (frees.ordinary q at is_gone))) is.roles in
    let used = λ (q : ℕ) (at : q / 8 ≡ e) (ordinary : IsTrue (is_ordinary g q)) (u : Use) (a : y.uses q u).
    let w : FitsUse (y.byte q) u.place = let old = (frees.uses q at u).0 a in
    subst (λ b. FitsUse b u.place) (sym (frees.bytes q at old.1)) (is.used q at ordinary u old.0) in w in
    let unused = λ (q : ℕ) (at : q / 8 ≡ e) (ordinary : IsTrue (is_ordinary g q)) (none : IsUsed y q → ⊥).
    let w : y.byte q ≡ 0 = stable (y.byte q) 0 (λ differ. decided (gone q) (λ case_. ⊎_elim
    (λ is_gone. differ (frees.zeros q at is_gone))
    (λ stays. differ (frees.bytes q at stays ∙ is.unused q at ordinary (λ h. none (h.0, (frees.uses q at h.0).1 (h.1, stays))))) case_)) in w in
    elim (frees.bits) [
      | inl mixed ↦ shared_good g e y (record {
        free = mixed.free;
        system = is.system;
        claimed = inl mixed.mixed;
        roles = roles;
        one = λ q at u v a b. is.one q at u v ((frees.uses q at u).0 a).0 ((frees.uses q at v).0 b).0;
        used = used;
        unused = unused;
        unmarked = λ m. is.unmarked (m.0, frees.marks m.0 m.1);
      })
      | inr free ↦
          let boot : e ≢ 1 = λ one. let at : 9 / 8 ≡ e = omega (arith, one) in
          both_ways (is_allocated_byte (y.byte 9)) (free.unallocated 9 at) (boot_allocated (y.byte 9) (roles 9 at kinds.Boot (ap kind_of_role (boot_role g)))) in
          let none = λ (q : ℕ) (at : q / 8 ≡ e) (h : IsUsed y q). let w : ⊥ =
          both_ways (is_allocated_byte (y.byte q)) (free.unallocated q at) (used_allocated (y.byte q) h.0.place (used q at (all_ordinary g e q at is.system boot) h.0 h.1)) in w in
          free_good g e y (record {
            free = free.free;
            mixed = free.mixed;
            system = is.system;
            boot = boot;
            roles = roles;
            unused = none;
            unmarked = λ m. is.unmarked (m.0, frees.marks m.0 m.1);
            bytes = λ q at ordinary. unused q at ordinary (none q at);
          })
    ]
