-- Parts of the plans that give objects pages.
use Rattle.std.specs.Prelude.{◌≡◌, ℕ, ◌+◌, ◌/◌, ◌<◌, ◌≤◌, IsTrue, true, Option, List, [], ◌++◌, length, map, All, Contains}
use Rattle.spec_file.specs.declared.data.PageNo.{PageNo}
use Rattle.spec_file.specs.CatalogRows.{CatalogRow}
use Rattle.spec_file.specs.Image.{page}
use Rattle.spec_file.specs.Places.{pfs_page}
use Rattle.spec_plan.specs.Changes.{last_of}
use Rattle.spec_plan.specs.Reading.{is_marked}
use Rattle.spec_words.specs.NetChanges.{FileShape}
use Rattle.spec_words.specs.Views.{View, Plan}
use Rattle.spec_words.specs.Words.{◌then◌, give, sees, put_gam, put_page, found_or}
use Rattle.spec_alloc.specs.Search.{either}
use Rattle.spec_alloc.specs.Chains.{page_taken, new_iam_page, put_slot, put_next}
use Rattle.spec_alloc.specs.ObjectPages.{iam_of, new_iam, slot_page, marked_page_taken, marked_page, extent_page}
use Rattle.db_locks.specs.States.{PlanState}
use Rattle.db_alloc.specs.declared.chain.Chain.{Chain}
use Rattle.db_alloc.specs.Maps.{IsOwnable}
use Rattle.db_alloc.specs.Tables.{numbers, bytes_of}

-- page q is taken, and becomes the first page of the object's chain
abbrev pub first_page_put : ℕ → ℕ → Plan ℕ
first_page_put id q =
    page_taken [] q then (λ _.
    put_page q (new_iam_page id q 0 0 0) then (λ _.
    give q))

-- page p is taken, and comes into slot i of the chain
abbrev pub in_slot : List ℕ → List ℕ → ℕ → ℕ → Plan ℕ
in_slot chain path i p =
    page_taken (chain ++ path) p then (λ _.
    put_slot chain p i then (λ _.
    give p))

-- page q is taken, and becomes the last page of the object's chain, for an interval
abbrev pub last_page_put : ℕ → List ℕ → List ℕ → ℕ → ℕ → Plan ℕ
last_page_put id chain path interval q =
    page_taken (chain ++ path) q then (λ _.
    put_page q (new_iam_page id q (last_of 0 chain) interval (length chain)) then (λ _.
    put_next (last_of 0 chain) q then (λ _.
    give q)))

-- the page of the chain that speaks of the interval of page p, which is a new one where the chain has none
abbrev pub iam_had : FileShape → CatalogRow → List ℕ → List ℕ → ℕ → Plan ℕ
iam_had shape row chain path p = sees (iam_of shape chain p) then (λ iam. found_or iam (new_iam shape row chain path p))

-- page p, the first of a free extent, becomes allocated in one that isn't free any more, and is taken
abbrev pub extent_opened : FileShape → List ℕ → ℕ → Plan ℕ
extent_opened shape standing p = put_gam shape (p / 8) 0 then (λ _. marked_page_taken shape standing p)

-- a page of an extent that the object marks, or marks from then on, if one is to be had
abbrev pub extent_had : FileShape → CatalogRow → List ℕ → List ℕ → Plan (Option ℕ)
extent_had shape row chain path = either (marked_page shape chain path) (extent_page shape row chain path)

-- one more page for an object that has this chain, if one is to be had
abbrev pub page_had : FileShape → CatalogRow → List ℕ → List ℕ → Plan (Option ℕ)
page_had shape row chain path = either (slot_page shape chain path) (extent_had shape row chain path)

-- at least one page, each of which objects may own, and no more than a chain of the file has
pub record IsChain (shape : FileShape) (chain : List PageNo) : Type 0 where
  pub some : 1 ≤ length chain
  pub few : length chain ≤ shape.pages + 2
  pub ownable : All (IsOwnable shape) (numbers chain)

-- a chain that was read is there as it was read
pub record HasChain (chain : Chain) (s : PlanState) : Type 0 where
  pub is : IsChain s.view.shape chain.numbers.items
  pub read : IsTrue s.told → bytes_of chain.pages.items ≡ map (page s.view.now) (numbers chain.numbers.items)

-- the pages of a chain were reached, and the PFS page of each page of the file whose extent it marks
pub record WasRead (looked : List ℕ) (view : View) (chain : List ℕ) : Type 0 where
  pub pages : (q : ℕ) → Contains chain q → Contains looked q
  pub pfs : (p : ℕ) → p < view.shape.pages → is_marked view.shape.geometry view.now chain p ≡ true → Contains looked (pfs_page view.shape.geometry p)
