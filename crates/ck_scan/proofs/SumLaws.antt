-- One job with what several drew and found.
use Rattle.std.proofs.Common.{◌≡◌, ℕ, ◌+◌, ◌<◌, ◌||◌, Bool, true, false, max, length, arith, sym, subst, ◌∙◌, refl, inl, inr, ⊎_elim}
use Rattle.std.proofs.lemmas.List.{length-append}
use Rattle.spec_file.specs.Image.{Image}
use Rattle.ck_claim.specs.Shown.{ClaimsModel, ClaimSeatModel, with_seat, IsEachBelow}
use Rattle.ck_claim.proofs.Laws.{length-each_below}
use Rattle.ck_facts.specs.declared.map.AllocMap.{AllocMap}
use Rattle.ck_scan.specs.declared.findings.Findings.{Findings}
use Rattle.ck_scan.specs.declared.worker.Job.{Job}
use Rattle.ck_scan.specs.Found.{AreFoundIn, AreJoined, IsLike}
use Rattle.ck_scan.specs.Working.{IsFor, HasAll, JobFound}
use Rattle.ck_scan.proofs.JoinLaws.{found_in_both}

pub like_itself : (one : Findings) → IsLike one one
like_itself one = record { lines = refl; roots = refl; count = refl }

pub like_then : (one two three : Findings) → IsLike one two → IsLike two three → IsLike one three
like_then one two three h k = record { lines = k.lines ∙ h.lines; roots = k.roots ∙ h.roots; count = k.count ∙ h.count }

pub like_other : (one two three : Findings) → IsLike one two → IsLike one three → IsLike two three
like_other one two three h k = record { lines = k.lines ∙ sym h.lines; roots = k.roots ∙ sym h.roots; count = k.count ∙ sym h.count }

pub like_for : (m : AllocMap) (parts : ℕ) (one two : Findings) → IsFor m parts one → IsFor m parts two → IsLike one two
like_for m parts one two h k = record { lines = k.lines ∙ sym h.lines; roots = k.roots ∙ sym h.roots; count = k.count ∙ sym h.count }

pub all_of_both : (claims : ClaimsModel) (seat other : ClaimSeatModel) → HasAll claims seat → HasAll claims (with_seat seat other)
all_of_both claims seat other h = ⊎_elim (λ knows. inl (or_first seat.knows_all other.knows_all knows))
    (λ more. let long = length-append seat.draws other.draws in inr (omega (arith, more, long))) h where
      or_first : (a b : Bool) → a ≡ true → (a || b) ≡ true
      or_first true b h = refl
      or_first false b h = let no : false ≡ true = h in absurd (cc)

pub found_of_both : (image : Image) (m : AllocMap) (old other new : Job) → length image ≡ m.pages → new.seat ≡ with_seat old.seat other.seat
    → AreJoined old.found other.found new.found → JobFound image m old → JobFound image m other → JobFound image m new
found_of_both image m old other new pages seat joined h k = subst (λ (s : ClaimSeatModel). AreFoundIn image m s.draws new.found) (sym seat)
    (found_in_both image m old.seat.draws other.seat.draws old.found other.found new.found pages h k joined)

-- a seat that has drawn all, of which each draw is one of the numbers below the count
pub all_drawn : (claims : ClaimsModel) (seat : ClaimSeatModel) (n : ℕ) → HasAll claims seat → IsEachBelow n seat.draws → n < claims.count + 1
    → (seat.knows_all ≡ true → n ≡ claims.count) → n ≡ claims.count
all_drawn claims seat n h each most knows = ⊎_elim (λ all. knows all)
    (λ more. let long = length-each_below n seat.draws each in absurd (omega (arith, more, long, most))) h

pub max_one : (n : ℕ) → 0 < n → max n 1 ≡ n
max_one n some = grind (arith, some)
