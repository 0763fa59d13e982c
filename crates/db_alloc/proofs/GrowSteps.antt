-- The chain of an object grows by a page, call by call.
use Rattle.std.proofs.Common.{◌≡◌, refl, ℕ, suc, ◌-◌, ◌*◌, ◌/◌, ◌<◌, ◌≤◌, List, [], ◌∷◌, length, get_or, Contains, sym, ap, ◌∙◌, subst, arith}
use Rattle.std.proofs.lemmas.List.{length-map}
use Rattle.std.proofs.lemmas.List.Elements.{All-contains}
use Rattle.spec_file.specs.declared.data.PageNo.{PageNo}
use Rattle.spec_file.specs.declared.geometry.Geometry.{Geometry}
use Rattle.spec_file.specs.Places.{HasShape, interval_size, interval_of_page}
use Rattle.spec_plan.specs.Changes.{last_of}
use Rattle.spec_words.specs.NetChanges.{FileShape}
use Rattle.spec_alloc.specs.Chains.{new_iam_page}
use Rattle.db_locks.specs.States.{PlanState}
use Rattle.db_locks.specs.Does.{Stays}
use Rattle.db_alloc.specs.Maps.{IsOwnable}
use Rattle.db_alloc.specs.Objects.{IsChain}
use Rattle.db_alloc.specs.Tables.{numbers}
use Rattle.db_alloc.proofs.MapPlaces.{page_low}
use Rattle.db_alloc.proofs.SlotSteps.{some_numbers}

-- ---- the last page of a chain

-- the last of a list that goes on behind page i
last_from : (i : ℕ) (ps : List PageNo) (d : PageNo) → 1 ≤ length ps → (get_or ps (length ps - 1) d).0 ≡ last_of i (numbers ps)
last_from i [] d some = absurd (omega (arith, some))
last_from i (p ∷ []) d some =
    let at : length (p ∷ []) - 1 ≡ 0 = omega arith in
    ap (λ (k : ℕ). (get_or (p ∷ []) k d).0) at
last_from i (p ∷ (q ∷ qs)) d some =
    let at : length (p ∷ (q ∷ qs)) - 1 ≡ suc (length (q ∷ qs) - 1) = omega arith in
    ap (λ (k : ℕ). (get_or (p ∷ (q ∷ qs)) k d).0) at ∙ last_from p.0 (q ∷ qs) d (omega arith)

-- it is the last item
pub last_at : (chain : List PageNo) (d : PageNo) → 1 ≤ length chain → (get_or chain (length chain - 1) d).0 ≡ last_of 0 (numbers chain)
last_at chain d some = last_from 0 chain d some

-- the last of a list is among its items
last_among : (i : ℕ) (ps : List ℕ) → 1 ≤ length ps → Contains ps (last_of i ps)
last_among i [] some = absurd (omega (arith, some))
last_among i (p ∷ []) some = (0, omega arith, refl)
last_among i (p ∷ (q ∷ qs)) some = let h = last_among p (q ∷ qs) (omega arith) in let k = h.1 in (suc h.0, omega (arith, k), h.2)

-- it is a page of the chain
pub last_contained : (shape : FileShape) (chain : List PageNo) → IsChain shape chain → Contains (numbers chain) (last_of 0 (numbers chain))
last_contained shape chain is = last_among 0 (numbers chain) (some_numbers chain is.some)

-- objects may own it
pub last_ownable : (shape : FileShape) (chain : List PageNo) → IsChain shape chain → IsOwnable shape (last_of 0 (numbers chain))
last_ownable shape chain is = All-contains (IsOwnable shape) (numbers chain) (last_of 0 (numbers chain)) is.ownable (last_contained shape chain is)

-- ---- a chain of the file

-- how many pages it has is a number of four bytes
pub chain_short : (shape : FileShape) (chain : List PageNo) → HasShape shape.geometry shape.pages → IsChain shape chain → length chain < 4294967296
chain_short shape chain file is =
    let few = is.few in
    let high = file.high in
    let low = page_low shape.geometry in
    omega (arith, few, high, low)

-- it stays one, since the file's shape stays
pub chain_stays : {a b : PlanState} (chain : List PageNo) → Stays a b → IsChain a.view.shape chain → IsChain b.view.shape chain
chain_stays chain stays is = subst (λ (s : FileShape). IsChain s chain) (sym stays.shape) is

-- the bytes of the new page name the last page and count those before it
pub iam_bytes : (id q interval : ℕ) (chain : List PageNo) (last n : ℕ) (bytes : List ℕ) → bytes ≡ new_iam_page id q last interval n → last ≡ last_of 0 (numbers chain) → n ≡ length chain
    → bytes ≡ new_iam_page id q (last_of 0 (numbers chain)) interval (length (numbers chain))
iam_bytes id q interval chain last n bytes is at count =
    is ∙ ap (λ (l : ℕ). new_iam_page id q l interval n) at
    ∙ ap (λ (k : ℕ). new_iam_page id q (last_of 0 (numbers chain)) interval k) (count ∙ sym (length-map chain (λ (p : PageNo). p.0)))

-- the interval of a page, by how many pages an interval has
pub interval_is : (g h : Geometry) (n p : ℕ) → n ≡ 8 * interval_size g → g ≡ h → p / n ≡ interval_of_page h p
interval_is g h n p is same = ap (λ (k : ℕ). p / k) (is ∙ ap (λ (k : Geometry). 8 * interval_size k) same)
