-- Two steps on one object, one after another, are a step on it.
use Rattle.std.proofs.Common.{◌≢◌, ℕ, ◌/◌, ◌<◌, sym, subst, ◌∙◌, inl, inr, ⊎_elim}
use Rattle.spec_file.specs.CatalogRows.{CatalogRow}
use Rattle.spec_chain.specs.Chains.{IsObject}
use Rattle.spec_check.specs.declared.report.CheckError.{CheckError}
use Rattle.spec_check.specs.Chains.{IsErrorOfChain}
use Rattle.spec_steps.specs.Acts.{Owns}
use Rattle.law_frames.specs.Laws.{StepsAreOne}
use Rattle.law_frames.proofs.OtherObjects.{same_uses, same_marks}

pub steps_are_one : StepsAreOne
steps_are_one g image image' image'' o clean first second =
    let acts = first.acts in
    let owned = λ (row : CatalogRow) (p : ℕ) (object : IsObject image row) (other : row.id ≢ o) (owns : Owns g image row p).
    let chain = λ (x : CheckError) (error_ : IsErrorOfChain g image row x). let no_ : ⊥ = clean.none x (inl (row, object, error_)) in no_ in
    let w : Owns g image' row p = ⊎_elim (λ use_. inl (use_.0, (same_uses g image image' o row acts object other chain p use_.0).1 use_.1))
    (λ marked. inr ((same_marks g image image' o row acts object other chain (p / 8)).1 marked)) owns in w in record {
      acts = record {
        size = second.acts.size ∙ acts.size;
        system = λ q type inside is. second.acts.system q type (subst (λ n. q < n) (sym acts.size) inside) is ∙ acts.system q type inside is;
        catalog = λ passes. second.acts.catalog (acts.catalog passes);
        rows = λ row other. (λ h. (acts.rows row other).0 ((second.acts.rows row other).0 h), λ h. (second.acts.rows row other).1 ((acts.rows row other).1 h));
        pages = λ row p object other owns inside ordinary.
            second.acts.pages row p ((acts.rows row other).1 object) other (owned row p object other owns) (subst (λ n. p < n) (sym acts.size) inside) ordinary
            ∙ acts.pages row p object other owns inside ordinary;
        bytes = λ row p object other owns inside.
            second.acts.bytes row p ((acts.rows row other).1 object) other (owned row p object other owns) (subst (λ n. p < n) (sym acts.size) inside)
            ∙ acts.bytes row p object other owns inside;
      };
      maps = second.maps;
    }
