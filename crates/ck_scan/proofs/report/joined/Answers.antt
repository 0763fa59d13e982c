use Rattle.std.proofs.Common.{◌≡◌, ◌⊎◌, ◌↔◌, List, ◌++◌, Contains, sym, subst, ⊎_elim}
use Rattle.spec_check.specs.declared.report.CheckError.{CheckError}
use Rattle.std.proofs.lemmas.List.Elements.{Contains-append_left, Contains-append_right, Contains-append_cases}
use Rattle.ck_scan.proofs.report.joined.Goals as goal

together : (both first second : List CheckError) (x : CheckError) → both ≡ first ++ second → Contains both x ↔ (Contains first x ⊎ Contains second x)
together both first second x is = (
  λ c. Contains-append_cases first second x (subst (λ l. Contains l x) is c),
  λ s. subst (λ l. Contains l x) (sym is) (⊎_elim (λ a. Contains-append_left first second x a) (λ b. Contains-append_right first second x b) s),
)

pub returns : goal.returns
returns c = λ x. together c.extend_from_slice.new.self.items c.args.first.items c.args.second.items x (rw c.deref.ensures.value at c.in_ok-extend_from_slice.ensures.items)
