-- A page that goes on is an IAM page of an interval of the file.
use Rattle.std.specs.Prelude.{◌≡◌, ℕ, ◌+◌, ◌*◌, ◌/◌, ◌<◌, ◌≤◌, ◌==◌, ◌&&◌, Bool, true, false, not, IsTrue, if◌then◌else◌, List, Some, None}
use Rattle.std.proofs.Common.{refl, arith, sym, subst}
use Rattle.std.proofs.lemmas.Bool.{ltb-true}
use Rattle.spec_file.specs.declared.geometry.Geometry.{Geometry}
use Rattle.spec_chain.specs.declared.end.ChainEnd.TheVariants as end
use Rattle.spec_file.specs.declared.geometry.Geometry.TheVariants.{Standard, Small}
use Rattle.spec_file.specs.Header.{says}
use Rattle.spec_file.specs.Places.{interval_size, HasShape}
use Rattle.spec_file.specs.Iam.{iam_interval, has_interval, is_iam_page}
use Rattle.spec_chain.specs.Chains.{object_of, fault_of_bytes}
use Rattle.pg_iam.specs.declared.view.IamView.{IamView}
use Rattle.pg_iam.specs.Views.{bytes_of, Views}
use Rattle.ck_chain.specs.Walks.{inside_count}

iam_bytes : (says own of_file : Bool)
    → (if not says then Some end.NotIam else (if not own then Some end.OtherObject else (if not of_file then Some end.WrongInterval else None))) ≡ None
    → (says && of_file) ≡ true
iam_bytes true true true h = refl
iam_bytes true true false h = cc
iam_bytes true false of_file h = cc
iam_bytes false own of_file h = cc

pub goes_iam : (g : Geometry) (pages id q : ℕ) (bytes : List ℕ) → fault_of_bytes g pages id q bytes ≡ None → IsTrue (is_iam_page g pages q bytes)
goes_iam g pages id q bytes h =
    iam_bytes (says 10 q bytes) (object_of bytes == id) (has_interval g pages (iam_interval bytes)) h

-- an interval of a file is one of eight, and begins before the file's last extent
pub interval_below : (g : Geometry) (pages m : ℕ) → HasShape g pages → IsTrue (has_interval g pages m) → m < 8
interval_below Standard pages m shape h = let inside = ltb-true _ _ h in let high = shape.high in omega (arith, inside, high)
interval_below Small pages m shape h = let inside = ltb-true _ _ h in let high = shape.high in omega (arith, inside, high)

interval_begins : (g : Geometry) (pages m : ℕ) → HasShape g pages → IsTrue (has_interval g pages m) → interval_size g * m < pages / 8
interval_begins Standard pages m shape h = let inside = ltb-true _ _ h in let whole = shape.whole in omega (arith, inside, whole)
interval_begins Small pages m shape h = let inside = ltb-true _ _ h in let whole = shape.whole in omega (arith, inside, whole)

extents_below : (g : Geometry) (pages : ℕ) → HasShape g pages → pages / 8 ≤ 65536
extents_below Standard pages shape = let high = shape.high in omega (arith, high)
extents_below Small pages shape = let high = shape.high in omega (arith, high)

size_low : (g : Geometry) → interval_size g ≤ 63904
size_low Standard = omega arith
size_low Small = omega arith

-- the extents of a page's interval that are in the file
pub record AreInside (g : Geometry) (pages : ℕ) (bytes : List ℕ) (count : ℕ) : Type 0 where
  pub bits : count ≤ 63904
  pub inside : interval_size g * iam_interval bytes + count ≤ pages / 8
  pub interval : interval_size g * iam_interval bytes < 65536

pub are_inside : (g : Geometry) (pages : ℕ) (bytes : List ℕ) (count : ℕ) → HasShape g pages → IsTrue (has_interval g pages (iam_interval bytes))
    → count ≡ inside_count g pages bytes → AreInside g pages bytes count
are_inside g pages bytes count shape has is =
    let below = interval_begins g pages (iam_interval bytes) shape has in
    let few = extents_below g pages shape in
    let low = size_low g in
    record { bits = omega (arith, is, low); inside = omega (arith, is, below); interval = omega (arith, below, few) }

-- a view of a page is a view of its own bytes
pub views_own : (bytes : List ℕ) (view : IamView) → Views bytes view → Views (bytes_of view) view
views_own bytes view v = subst (λ b. Views b view) (sym v.page) v
