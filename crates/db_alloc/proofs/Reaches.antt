-- Which pages a plan has reached where it gave something; so a statement that has read its object's PFS bytes has reached
-- the PFS page of each page of a marked extent.
use Rattle.std.proofs.Common.{◌≡◌, refl, ℕ, zero, suc, ◌+◌, ◌<◌, ◌≤◌, Bool, true, false, List, [], ◌∷◌, ◌++◌, Contains, Option, Some, None, filter, inl, inr, sym, ap, ◌∙◌, subst, arith}
use Rattle.std.specs.Prelude.{if◌then◌else◌, ◌||◌}
use Rattle.std.specs.List.{range_with_len}
use Rattle.std.proofs.lemmas.Bool.{false≢true, cases_lt}
use Rattle.std.proofs.lemmas.List.Elements.{Contains-append_left, Contains-append_right, Contains-push}
use Rattle.spec_file.specs.declared.data.Resource.{Resource}
use Rattle.spec_file.specs.declared.data.Resource.TheVariants as resource
use Rattle.spec_file.specs.declared.page_type.TheConstants.{PFS_TYPE}
use Rattle.spec_file.specs.Header.{says}
use Rattle.spec_file.specs.Image.{page}
use Rattle.spec_file.specs.Places.{pfs_page}
use Rattle.spec_file.specs.CatalogRows.{CatalogRow}
use Rattle.spec_plan.specs.Reading.{is_single, is_marked}
use Rattle.spec_words.specs.NetChanges.{FileShape}
use Rattle.spec_words.specs.Views.{View, End, Gives, Stops, Outcome, Plan}
use Rattle.spec_words.specs.Words.{ended, gone_on, by_holder, ◌then◌, give, sees, look, where_good, for_each}
use Rattle.spec_words.specs.Tables.{chain_of, byte_pages, bytes_read, object_pages}
use Rattle.spec_alloc.specs.Chains.{chain_now}
use Rattle.law_net.specs.GoodViews.{IfGives}
use Rattle.db_alloc.specs.Tables.{byte_looked}
use Rattle.db_alloc.specs.Drops.{owned_read}

-- where the plan gives something this holds of the pages that it reached, of what it gives, and of the view then
abbrev pub Ends : {A : Type 0} → Outcome A → (List ℕ → A → View → Type 0) → Type 0
Ends o K = IfGives (K o.reached) o.ending

gone : {A B : Type 0} (reached : List ℕ) (e : End A) (next : A → Plan B) (K : List ℕ → B → View → Type 0)
    → IfGives (λ x w. Ends (next x w) (λ more y u. K (reached ++ more) y u)) e → IfGives (K (gone_on reached e next).reached) (gone_on reached e next).ending
gone reached (Gives x v) next K h = h
gone reached (Stops refusal) next K h = tt

pub ends_then : {A B : Type 0} (plan : Plan A) (next : A → Plan B) (v : View) (K : List ℕ → B → View → Type 0)
    → Ends (plan v) (λ reached x w. Ends (next x w) (λ more y u. K (reached ++ more) y u)) → Ends ((plan then next) v) K
unfolding ◌then◌
ends_then plan next v K h = gone (plan v).reached (plan v).ending next K h

pub weaker : {A : Type 0} (K L : A → View → Type 0) (e : End A) → ((x : A) (w : View) → K x w → L x w) → IfGives K e → IfGives L e
weaker K L (Gives x v) w h = w x v h
weaker K L (Stops refusal) w h = h

pub any_ends : {A : Type 0} (K : A → View → Type 0) (e : End A) → ((x : A) (w : View) → K x w) → IfGives K e
any_ends K (Gives x v) h = h x v
any_ends K (Stops refusal) h = tt

look_by : (r : Resource) (q : ℕ) (v : View) (K : List ℕ → List ℕ → View → Type 0) (o : Option ℕ) → K (q ∷ []) (page v.now q) v → Ends (by_holder r o (ended (q ∷ []) (Gives (page v.now q) v))) K
look_by r q v K None h = h
look_by r q v K (Some t) h = tt

pub ends_look : (r : Resource) (q : ℕ) (v : View) (K : List ℕ → List ℕ → View → Type 0) → K (q ∷ []) (page v.now q) v → Ends (look r q v) K
unfolding look
ends_look r q v K h = look_by r q v K (v.other r) h

pub ends_good : (good : Bool) (q : ℕ) (v : View) (K : List ℕ → Unit {0} → View → Type 0) → K [] tt v → Ends (where_good good q v) K
unfolding where_good
ends_good true q v K h = h
ends_good false q v K h = tt

byte_ends : (shape : FileShape) (p : ℕ) (v : View) → Ends (byte_looked shape p v) (λ reached u w. (w ≡ v) × Contains reached (pfs_page shape.geometry p))
byte_ends shape p v =
    let q = pfs_page shape.geometry p in
    ends_then (look (resource.Byte (record { 0 = p })) q) (λ bytes. where_good (says PFS_TYPE q bytes) q) v (λ reached u w. (w ≡ v) × Contains reached q)
    (ends_look (resource.Byte (record { 0 = p })) q v (λ reached bytes w. Ends (where_good (says PFS_TYPE q bytes) q w) (λ more u y. (y ≡ v) × Contains (reached ++ more) q))
    (ends_good (says PFS_TYPE q (page v.now q)) q v (λ more u y. (y ≡ v) × Contains ((q ∷ []) ++ more) q) (refl, Contains-append_left (q ∷ []) [] q (Contains-push [] q))))

-- this holds of each of these
abbrev AllOf : (ℕ → Type 0) → List ℕ → Type 0
AllOf P [] = Unit {0}
AllOf P (x ∷ xs) = P x × AllOf P xs

all_weaker : (P Q : ℕ → Type 0) (xs : List ℕ) → ((x : ℕ) → P x → Q x) → AllOf P xs → AllOf Q xs
all_weaker P Q [] w h = tt
all_weaker P Q (x ∷ xs) w h = (w x h.0, all_weaker P Q xs w h.1)

bytes_end : (shape : FileShape) (ps : List ℕ) (v : View) → Ends (bytes_read shape ps v) (λ reached u w. (w ≡ v) × AllOf (λ p. Contains reached (pfs_page shape.geometry p)) ps)
unfolding for_each give
bytes_end shape [] v = (refl, tt)
bytes_end shape (p ∷ ps) v =
    let g = shape.geometry in
    let K : List ℕ → Unit {0} → View → Type 0 = λ reached u w. (w ≡ v) × AllOf (λ k. Contains reached (pfs_page g k)) (p ∷ ps) in
    ends_then (byte_looked shape p) (λ _. bytes_read shape ps) v K
    (weaker _ (λ u w. Ends (bytes_read shape ps w) (λ more y x. K ((byte_looked shape p v).reached ++ more) y x)) (byte_looked shape p v).ending (λ u w first.
    let reached = (byte_looked shape p v).reached in
    weaker _ (K (reached ++ (bytes_read shape ps w).reached)) (bytes_read shape ps w).ending (λ y x rest.
    let more = (bytes_read shape ps w).reached in (
      rest.0 ∙ first.0,
      (
        Contains-append_left reached more (pfs_page g p) first.1,
        all_weaker (λ k. Contains more (pfs_page g k)) (λ k. Contains (reached ++ more) (pfs_page g k)) ps (λ k h. Contains-append_right reached more (pfs_page g k) h) rest.1,
      ),
    ))
    (bytes_end shape ps w))
    (byte_ends shape p v))

-- the PFS pages of the pages whose bytes were read
abbrev Read : FileShape → List ℕ → (List ℕ × List ℕ) → View → Type 0
Read shape reached found w = AllOf (λ p. Contains reached (pfs_page shape.geometry p)) (byte_pages shape found.0 w)

owned_end : (shape : FileShape) (row : CatalogRow) (v : View) → Ends (owned_read shape row v) (Read shape)
unfolding sees give
owned_end shape row v =
    let after : List ℕ → Plan (List ℕ × List ℕ) = λ chain. sees (object_pages shape chain) then (λ pages. give (chain, pages)) in
    let now : List ℕ → Plan (List ℕ) = λ chain. sees (byte_pages shape chain) then (λ pages. bytes_read shape pages then (λ _. give chain)) in
    ends_then (chain_now shape row) after v (Read shape)
    (ends_then (chain_of shape row) now v (λ reached chain w. Ends (after chain w) (λ more found u. Read shape (reached ++ more) found u))
    (any_ends _ (chain_of shape row v).ending (λ chain u.
    let first = (chain_of shape row v).reached in
    let ps = byte_pages shape chain u in
    ends_then (sees (byte_pages shape chain)) (λ pages. bytes_read shape pages then (λ _. give chain)) u (λ reached c w. Ends (after c w) (λ more found x. Read shape ((first ++ reached) ++ more) found x))
    (ends_then (bytes_read shape ps) (λ _. give chain) u (λ reached c w. Ends (after c w) (λ more found x. Read shape ((first ++ ([] ++ reached)) ++ more) found x))
    (weaker _ _ (bytes_read shape ps u).ending (λ s w done.
    let reached = (bytes_read shape ps u).reached in
    ends_then (sees (object_pages shape chain)) (λ pages. give (chain, pages)) w (λ more found x. Read shape ((first ++ ([] ++ (reached ++ []))) ++ more) found x)
    (subst (λ (x : View). AllOf (λ p. Contains ((first ++ ([] ++ (reached ++ []))) ++ ([] ++ [])) (pfs_page shape.geometry p)) (byte_pages shape chain x)) (sym done.0)
    (all_weaker _ _ ps (λ p h.
    Contains-append_left (first ++ ([] ++ (reached ++ []))) ([] ++ []) (pfs_page shape.geometry p)
    (Contains-append_right first ([] ++ (reached ++ [])) (pfs_page shape.geometry p) (Contains-append_left reached [] (pfs_page shape.geometry p) h))) done.1)))
    (bytes_end shape ps u))))))

pub by_ending : {A : Type 0} (K : A → View → Type 0) (e : End A) (x : A) (w : View) → e ≡ Gives x w → IfGives K e → K x w
by_ending K e x w same h = subst (IfGives K) same h

-- ---- a page of those that pass a test

picked_by : (P : ℕ → Type 0) (f : ℕ → Bool) (a n p : ℕ) (b : Bool) → f a ≡ b → a ≤ p → f p ≡ true → AllOf P (if b then a ∷ filter f (range_with_len (a + 1) n) else filter f (range_with_len (a + 1) n))
    → (a < p → AllOf P (filter f (range_with_len (a + 1) n)) → P p) → P p
picked_by P f a n p true e low passes all later = elim (cases_lt a p) [
  | inl less ↦ later less all.1
  | inr not_less ↦ let same : a ≡ p = omega (arith, low, not_less) in subst P same all.0
]
picked_by P f a n p false e low passes all later = elim (cases_lt a p) [
  | inl less ↦ later less all
  | inr not_less ↦ let same : a ≡ p = omega (arith, low, not_less) in absurd (false≢true (sym e ∙ ap f same ∙ passes))
]

picked : (P : ℕ → Type 0) (f : ℕ → Bool) (a n p : ℕ) → a ≤ p → p < a + n → f p ≡ true → AllOf P (filter f (range_with_len a n)) → P p
picked P f a zero p low high passes all = absurd (omega (arith, low, high))
picked P f a (suc n) p low high passes all =
    picked_by P f a n p (f a) refl low passes all (λ less rest. picked P f (a + 1) n p (omega (arith, less)) (omega (arith, high)) passes rest)

-- where the pages of an object were read, the PFS page of each page of the file that is in a slot or in a marked extent was
-- reached
pub owned_reaches : (shape : FileShape) (row : CatalogRow) (v w : View) (chain pages : List ℕ) (p : ℕ) → (owned_read shape row v).ending ≡ Gives (chain, pages) w → p < shape.pages
    → (is_single w.now chain p || is_marked shape.geometry w.now chain p) ≡ true → Contains (owned_read shape row v).reached (pfs_page shape.geometry p)
owned_reaches shape row v w chain pages p given lt passes =
    picked (λ k. Contains (owned_read shape row v).reached (pfs_page shape.geometry k)) (λ k. is_single w.now chain k || is_marked shape.geometry w.now chain k) 0 shape.pages p (omega arith) (omega (arith, lt)) passes
    (by_ending (Read shape (owned_read shape row v).reached) (owned_read shape row v).ending (chain, pages) w given (owned_end shape row v))
