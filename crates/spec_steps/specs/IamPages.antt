-- How the pages of an object's chain change.
use Rattle.std.specs.Prelude.{◌≡◌, ◌≢◌, ℕ, ◌<◌, true, false, IsTrue, List}
use Rattle.spec_file.specs.declared.geometry.Geometry.{Geometry}
use Rattle.spec_file.specs.declared.page_type.TheConstants.{IAM_TYPE}
use Rattle.spec_file.specs.Header.{says, page_type, page_id}
use Rattle.spec_file.specs.Image.{Image, page}
use Rattle.spec_file.specs.CatalogRows.{CatalogRow}
use Rattle.spec_file.specs.Iam.{single_slot_count, iam_interval, iam_sequence, iam_slot, iam_mark, has_interval}
use Rattle.spec_chain.specs.Chains.{object_of, prev_of, next_of, pointer, IsChainPage}

-- an IAM page has the same type, number, object, neighbours, interval and sequence: all but its slots and marks
pub record SameLinks (old new : List ℕ) : Type 0 where
  pub type : page_type new ≡ page_type old
  pub number : page_id new ≡ page_id old
  pub object : object_of new ≡ object_of old
  pub prev : prev_of new ≡ prev_of old
  pub next : next_of new ≡ next_of old
  pub interval : iam_interval new ≡ iam_interval old
  pub sequence : iam_sequence new ≡ iam_sequence old

-- it has the same marks
abbrev pub SameMarks : List ℕ → List ℕ → Type 0
SameMarks old new = (n : ℕ) → iam_mark new n ≡ iam_mark old n

-- and the same slots
abbrev pub SameSlots : List ℕ → List ℕ → Type 0
SameSlots old new = (i : ℕ) → i < single_slot_count → iam_slot new i ≡ iam_slot old i

-- slot i holds page p, all else stays
pub record IsSlotSet (i p : ℕ) (old new : List ℕ) : Type 0 where
  pub here : iam_slot new i ≡ p
  pub others : (j : ℕ) → j < single_slot_count → j ≢ i → iam_slot new j ≡ iam_slot old j
  pub links : SameLinks old new
  pub marks : SameMarks old new

-- each slot that holds page p is empty, all else stays
pub record IsOutOfSlots (p : ℕ) (old new : List ℕ) : Type 0 where
  pub gone : (i : ℕ) → i < single_slot_count → iam_slot old i ≡ p → iam_slot new i ≡ 0
  pub others : (i : ℕ) → i < single_slot_count → iam_slot old i ≢ p → iam_slot new i ≡ iam_slot old i
  pub links : SameLinks old new
  pub marks : SameMarks old new

-- extent n of the page's interval is marked, all else stays
pub record IsMarkSet (n : ℕ) (old new : List ℕ) : Type 0 where
  pub here : iam_mark new n ≡ true
  pub others : (m : ℕ) → m ≢ n → iam_mark new m ≡ iam_mark old m
  pub links : SameLinks old new
  pub slots : SameSlots old new

-- extent n of interval m isn't marked, all else stays
pub record IsMarkCleared (m n : ℕ) (old new : List ℕ) : Type 0 where
  pub cleared : iam_interval old ≡ m → iam_mark new n ≡ false
  pub others : (k : ℕ) → ((iam_interval old ≡ m) × (k ≡ n) → ⊥) → iam_mark new k ≡ iam_mark old k
  pub links : SameLinks old new
  pub slots : SameSlots old new

-- the page names page p as next, all else stays
pub record IsNextSet (p : ℕ) (old new : List ℕ) : Type 0 where
  pub here : next_of new ≡ p
  pub type : page_type new ≡ page_type old
  pub number : page_id new ≡ page_id old
  pub object : object_of new ≡ object_of old
  pub prev : prev_of new ≡ prev_of old
  pub interval : iam_interval new ≡ iam_interval old
  pub sequence : iam_sequence new ≡ iam_sequence old
  pub marks : SameMarks old new
  pub slots : SameSlots old new

-- page p is the last IAM page of the object of this id, behind page `before`: its sequence is the count of the pages
-- before it, its interval is one that a file of so many pages has, and it has no marks
pub record IsLastIam (g : Geometry) (pages id before count p : ℕ) (bytes : List ℕ) : Type 0 where
  pub says : says IAM_TYPE p bytes ≡ true
  pub object : object_of bytes ≡ id
  pub prev : prev_of bytes ≡ before
  pub next : next_of bytes ≡ 0
  pub interval : IsTrue (has_interval g pages (iam_interval bytes))
  pub sequence : iam_sequence bytes ≡ count
  pub marks : (n : ℕ) → iam_mark bytes n ≡ false

-- page p is the one IAM page of the object of this id, which owns nothing else
pub record IsOnlyIam (id p : ℕ) (bytes : List ℕ) : Type 0 where
  pub says : says IAM_TYPE p bytes ≡ true
  pub object : object_of bytes ≡ id
  pub prev : prev_of bytes ≡ 0
  pub next : next_of bytes ≡ 0
  pub interval : iam_interval bytes ≡ 0
  pub sequence : iam_sequence bytes ≡ 0
  pub slots : (i : ℕ) → i < single_slot_count → iam_slot bytes i ≡ 0
  pub marks : (n : ℕ) → iam_mark bytes n ≡ false

-- what holds of each page of the chain, before and after
abbrev pub OnChain : Geometry → Image → Image → CatalogRow → (List ℕ → List ℕ → Type 0) → Type 0
OnChain g image image' row Holds =
    (k : ℕ) → IsChainPage g image row k → Holds (page image (pointer image row k)) (page image' (pointer image row k))
