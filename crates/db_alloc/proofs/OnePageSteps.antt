-- One more page for a table: what one way leaves to the next.
use Rattle.std.proofs.Common.{◌≡◌, ℕ, ◌<◌, IsTrue, List, ◌++◌, map, Contains, Ok, sym, ap, ◌∙◌, subst, arith}
use Rattle.std.specs.List.{range_with_len}
use Rattle.std.proofs.lemmas.Bool.{or_right}
use Rattle.std.proofs.lemmas.List.FromFn.{length-map-range_with_len, get_or-map-range_with_len}
use Rattle.std.proofs.lemmas.List.Elements.{Contains-append_left, Contains-append_right}
use Rattle.spec_file.specs.Image.{page}
use Rattle.spec_file.specs.Places.{pfs_page}
use Rattle.spec_file.specs.CatalogRows.{CatalogRow}
use Rattle.spec_plan.specs.Reading.{is_single, is_marked}
use Rattle.spec_words.specs.NetChanges.{FileShape}
use Rattle.spec_words.specs.Views.{View, Plan}
use Rattle.spec_words.specs.Words.{◌then◌, sees, found_or}
use Rattle.spec_words.specs.Tables.{object_pages}
use Rattle.spec_alloc.specs.SinglePages.{no_page}
use Rattle.spec_alloc.specs.Chains.{chain_now}
use Rattle.spec_alloc.specs.ObjectPages.{object_page}
use Rattle.db_locks.specs.States.{PlanState}
use Rattle.db_locks.specs.Does.{Stays, Does}
use Rattle.db_alloc.specs.declared.chain.Chain.{Chain}
use Rattle.db_alloc.specs.Drops.{owned_read}
use Rattle.db_alloc.specs.Objects.{page_had, HasChain, WasRead}
use Rattle.db_alloc.specs.Tables.{numbers}
use Rattle.db_alloc.proofs.ChainReaches.{chain_reached}
use Rattle.db_alloc.proofs.GrowSteps.{chain_stays}
use Rattle.db_alloc.proofs.Reaches.{owned_reaches}
use Rattle.db_alloc.proofs.Steps.{then_assoc, then_same, give_then}

-- a chain is there as it was read, where the view is as it was
pub chain_later : {a b : PlanState} (chain : Chain) → Stays a b → (IsTrue a.told → b.view ≡ a.view) → HasChain chain a → HasChain chain b
chain_later chain stays same has = record {
  is = chain_stays chain.numbers.items stays has.is;
  read = λ told.
      let begun = sym stays.told ∙ told in
      has.read begun ∙ ap (λ (v : View). map (page v.now) (numbers chain.numbers.items)) (sym (same begun));
}

-- what was reached is what is to be reached still
pub read_later : {a b : PlanState} (looked chain : List ℕ) → Stays a b → (IsTrue a.told → b.view ≡ a.view) → (IsTrue a.told → WasRead looked a.view chain) → IsTrue b.told → WasRead looked b.view chain
read_later looked chain stays same read told = let begun = sym stays.told ∙ told in subst (λ (v : View). WasRead looked v chain) (sym (same begun)) (read begun)

-- all that is to be reached
abbrev pub all_reached : FileShape → List ℕ → List ℕ
all_reached shape chain = chain ++ map (pfs_page shape.geometry) (range_with_len 0 shape.pages)

-- it is enough for any chain
pub all_read : (view : View) (chain : List ℕ) → WasRead (all_reached view.shape chain) view chain
all_read view chain =
    let f = pfs_page view.shape.geometry in
    let n = view.shape.pages in
    let maps = map f (range_with_len 0 n) in
    record {
      pages = λ q h. Contains-append_left chain maps q h;
      pfs = λ p lt marked.
          let long = length-map-range_with_len f 0 n in
          Contains-append_right chain maps (f p) (p, omega (arith, lt, long), get_or-map-range_with_len f 0 n p p (f p) lt (omega arith));
    }

-- where the object's pages were read, those of its chain and the PFS pages of its marked extents were reached
pub was_read : {a b : PlanState} (row : CatalogRow) (chain pages : List ℕ) → Does a b (owned_read a.view.shape row) (Ok (chain, pages)) → IsTrue b.told → WasRead (owned_read a.view.shape row a.view).reached b.view chain
was_read {a} {b} row chain pages d told =
    let given = d.exact (sym d.stays.told ∙ told) in
    let same : b.view.shape ≡ a.view.shape = d.stays.shape in
    let reached = (owned_read a.view.shape row a.view).reached in
    record {
      pages = chain_reached a.view.shape row a.view b.view chain pages given;
      pfs = λ p lt marked.
          subst (λ (s : FileShape). Contains reached (pfs_page s.geometry p)) (sym same)
          (owned_reaches a.view.shape row a.view b.view chain pages p given (subst (λ (s : FileShape). p < s.pages) same lt)
          (or_right (is_single b.view.now chain p) (is_marked a.view.shape.geometry b.view.now chain p) (ap (λ (s : FileShape). is_marked s.geometry b.view.now chain p) (sym same) ∙ marked)));
    }

-- what is seen and not used
unused : {A B : Type 0} (f : View → A) (plan : Plan B) → (sees f then (λ _. plan)) ≡ plan
unfolding ◌then◌ sees
unused f plan = λ i view. plan view

-- reading what the object owns, and then its three ways, is the plan
pub object_plan : (shape : FileShape) (row : CatalogRow) (path : List ℕ)
    → (owned_read shape row then (λ (owned : List ℕ × List ℕ). page_had shape row owned.0 path then (λ found. found_or found (no_page shape)))) ≡ object_page shape row path
object_plan shape row path =
    let had : List ℕ → Plan ℕ = λ chain. page_had shape row chain path then (λ found. found_or found (no_page shape)) in
    let next : List ℕ × List ℕ → Plan ℕ = λ owned. had owned.0 in
    then_assoc (chain_now shape row) _ next ∙ then_same (chain_now shape row) (λ chain.
    then_assoc (sees (object_pages shape chain)) _ next ∙ then_same (sees (object_pages shape chain)) (λ pages. give_then (chain, pages) next) ∙ unused (object_pages shape chain) (had chain))
