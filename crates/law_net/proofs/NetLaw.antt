-- The net changes of two images are what a log may have.
use Rattle.std.proofs.Common.{◌≡◌, ℕ, zero, suc, subst, true, false, All, List, [], ◌∷◌, length, arith}
use Rattle.spec_file.specs.declared.data.Resource.{Resource}
use Rattle.spec_file.specs.Image.{Image, AreBytes, page}
use Rattle.spec_plan.specs.declared.plan.Planned.{Planned}
use Rattle.law_net.specs.Plans.{HaveCells}
use Rattle.spec_words.specs.NetChanges.{changes_of}
use Rattle.spec_words.specs.Takes.{is_among, comes_before, takes_of}
use Rattle.law_net.specs.NetLaw.{HaveBytes, AreRising, IsShortCell, NetChangesAreGood}
use Rattle.law_net.proofs.Cuts.{Each, IsNet}
use Rattle.law_net.proofs.CellBytes.{cell_bytes}
use Rattle.law_net.proofs.Images.{are_images}
use Rattle.law_net.proofs.Takes.{AllOf, Rise, Mine, takes_rise, takes_new, takes_taken}
use Rattle.law_net.proofs.Covered.{changes_covered, are_covered, are_short}
use Rattle.law_net.proofs.Few.{changes_few}
use Rattle.law_net.proofs.Whole.{changes_make, changes_find, cut_all}

each_cell : (start now : Image) (cs : List Planned) → Each (IsNet start now) cs → HaveCells cs
each_cell start now [] h = tt
each_cell start now (c ∷ cs) h = (let net = h.0 in net.form, each_cell start now cs h.1)

each_bytes : (start now : Image) (cs : List Planned) → ((p : ℕ) → AreBytes (page start p)) → ((p : ℕ) → AreBytes (page now p)) → Each (IsNet start now) cs → HaveBytes cs
each_bytes start now [] a b h = tt
each_bytes start now (c ∷ cs) a b h =
    let net = h.0 in (
      (subst AreBytes net.was (cell_bytes start c.cell (length c.before) a), subst AreBytes net.is (cell_bytes now c.cell (length c.after) b)),
      each_bytes start now cs a b h.1,
    )

-- by recursion, and by place
pub all_places : (P : Resource → Type 0) (rs : List Resource) → AllOf P rs → All P rs
all_places P [] h k d lt = absurd (omega (arith, lt))
all_places P (r ∷ rs) h zero d lt = h.0
all_places P (r ∷ rs) h (suc k) d lt = all_places P rs h.1 k d (omega (arith, lt))

each_place : (P : Planned → Type 0) (cs : List Planned) → Each P cs → All P cs
each_place P [] h k d lt = absurd (omega (arith, lt))
each_place P (c ∷ cs) h zero d lt = h.0
each_place P (c ∷ cs) h (suc k) d lt = each_place P cs h.1 k d (omega (arith, lt))

are_rising : (rs : List Resource) → Rise rs → AreRising rs
are_rising [] h = tt
are_rising (r ∷ rs) h = (all_places (λ s. comes_before r s ≡ true) rs h.0, are_rising rs h.1)

pub net_changes_are_good : NetChangesAreGood
net_changes_are_good shape own taken start now a b differ =
    let images = are_images shape start now a b in
    let covered = changes_covered shape own taken start now images differ in
    let P = Mine shape own taken start now in record {
      make = changes_make (λ r. is_among taken r ≡ true) shape start now images differ;
      find = changes_find shape start now images;
      cells = each_cell start now (changes_of shape start now) (cut_all shape start now images).nets;
      bytes = each_bytes start now (changes_of shape start now) a.bytes b.bytes (cut_all shape start now images).nets;
      covered = are_covered P shape (changes_of shape start now) covered;
      short = each_place (λ c. IsShortCell shape.geometry c.cell (length c.after)) (changes_of shape start now) (are_short P shape (changes_of shape start now) covered);
      few = changes_few shape start now;
      rising = are_rising (takes_of shape own taken start now) (takes_rise shape own taken start now);
      new = all_places (λ r. own r ≡ false) (takes_of shape own taken start now) (takes_new shape own taken start now);
      among = all_places (λ r. is_among taken r ≡ true) (takes_of shape own taken start now) (takes_taken shape own taken start now);
    }
