-- What the words on pages of a heap give: where a page was given, it was looked at.
use Rattle.std.proofs.Common.{◌≡◌, refl, ℕ, ◌<◌, Bool, true, false, IsTrue, List, [], ◌∷◌, Contains, Ok, sym, ap, subst}
use Rattle.std.specs.Prelude.{◌&&◌, Option, Some, None}
use Rattle.std.proofs.lemmas.Bool.{true≢false}
use Rattle.std.proofs.lemmas.List.Elements.{Contains-append_left, Contains-push}
use Rattle.spec_file.specs.declared.data.Resource.TheVariants as resource
use Rattle.spec_file.specs.Image.{page}
use Rattle.spec_file.specs.CatalogRows.{CatalogRow}
use Rattle.spec_file.specs.Roles.{is_ordinary}
use Rattle.spec_plan.specs.Rows.{passes_page}
use Rattle.spec_words.specs.NetChanges.{FileShape}
use Rattle.spec_words.specs.Views.{View, End, Gives, Stops, Outcome}
use Rattle.spec_words.specs.Words.{◌then◌, give, where_good, look}
use Rattle.spec_words.specs.Heaps.{heap_page}
use Rattle.db_locks.specs.States.{PlanState}
use Rattle.db_locks.specs.Does.{Does}

pub inside_by : {p n m : ℕ} → n ≡ m → p < n → p < m
inside_by {p} e lt = subst (λ (k : ℕ). p < k) e lt

abbrev pub is_given : {A : Type 0} → End A → Bool
is_given (Gives x view) = true
is_given (Stops refusal) = false

-- a page that is given is what was looked at, and the view stays
pub record GivesPage (view : View) (p : ℕ) (outcome : Outcome (List ℕ)) (bytes : List ℕ) (after : View) : Type 0 where
  pub seen : bytes ≡ page view.now p
  pub stays : after ≡ view
  pub reached : Contains outcome.reached p

abbrev bytes_or : List ℕ → End (List ℕ) → List ℕ
bytes_or other (Gives x view) = x
bytes_or other (Stops refusal) = other

abbrev pub view_or : {A : Type 0} → View → End A → View
view_or other (Gives x view) = view
view_or other (Stops refusal) = other

pub heap_page_gives : (shape : FileShape) (row : CatalogRow) (p : ℕ) (view after : View) (bytes : List ℕ) → (heap_page shape row p view).ending ≡ Gives bytes after
    → GivesPage view p (heap_page shape row p view) bytes after
unfolding ◌then◌ look where_good give
heap_page_gives shape row p view after bytes e = by_cases (view.other (resource.Page (record { 0 = p }))) (is_ordinary shape.geometry p && passes_page p row.id (page view.now p)) refl refl
  where
    by_cases : (o : Option ℕ) (good : Bool) → view.other (resource.Page (record { 0 = p })) ≡ o → (is_ordinary shape.geometry p && passes_page p row.id (page view.now p)) ≡ good
        → GivesPage view p (heap_page shape row p view) bytes after
    by_cases None true free is =
        let given = rw (free, is) at e in
        record { seen = sym (ap (bytes_or []) given); stays = sym (ap (view_or view) given); reached = rw free (Contains-append_left (p ∷ []) _ p (Contains-push [] p)) }
    by_cases None false free is = let given = rw (free, is) at e in absurd (true≢false (sym (ap is_given given)))
    by_cases (Some t) good free is = let given = rw free at e in absurd (true≢false (sym (ap is_given given)))

pub page_seen : {a b : PlanState} (row : CatalogRow) (p : ℕ) (bytes : List ℕ) → Does a b (heap_page a.view.shape row p) (Ok bytes) → IsTrue a.told → bytes ≡ page a.view.now p
page_seen {a} {b} row p bytes d told = (heap_page_gives a.view.shape row p a.view b.view bytes (d.exact told)).seen
