-- What results say of the page that was tested or changed.
use Rattle.std.proofs.Common.{◌≡◌, Bool, true, false, Result, Ok, Err, refl, sym}
use Rattle.std.specs.Prelude.{IsOk, IsErr, OnOk}
use Rattle.std.specs.Result.{is_ok}

-- a test that answers Ok exactly where b holds
pub ok_is : {A E : Type 0} (r : Result A E) (b : Bool) → (IsOk r → b ≡ true) → (b ≡ true → IsOk r) → is_ok r ≡ b
ok_is (Ok x) true passes from = refl
ok_is (Ok x) false passes from = sym (passes refl)
ok_is (Err e) true passes from = from refl
ok_is (Err e) false passes from = refl

-- what is so where a call answers Ok, and it does
pub on_ok : {A E : Type 0} (r : Result A E) (P : Type 0) → OnOk r P → (IsErr r → ⊥) → P
on_ok (Ok x) P here never = here
on_ok (Err e) P here never = absurd (never refl)
