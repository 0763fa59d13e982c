-- Lists of pages.
use Rattle.std.proofs.Common.{◌≡◌, refl, ℕ, ◌+◌, ◌<◌, ◌≤◌, true, false, Bool, List, [], ◌∷◌, length, get_or, drop, take, map, ◌++◌, subst, All, ap, sym, ◌∙◌, arith, add-one, drop-cons, if◌then◌else◌, filter, ◌||◌, ◌&&◌}
use Rattle.std.proofs.lemmas.List.{drop_all, take_more, take_all, length-map, map-append}
use Rattle.std.proofs.Math.ListN.{get_or-map}
use Rattle.std.proofs.lemmas.List.FromFn.{length-range_with_len, get_or-range_with_len}
use Rattle.std.proofs.lemmas.List.Elements.{All-filter, filter-append}
use Rattle.std.specs.List.{list_any, range_with_len}
use Rattle.spec_file.specs.declared.data.PageNo.{PageNo}
use Rattle.spec_file.specs.declared.geometry.Geometry.{Geometry}
use Rattle.spec_file.specs.Image.{Image, page}
use Rattle.spec_chain.specs.Uses.{is_allocated}
use Rattle.spec_plan.specs.Reading.{is_single, is_marked}
use Rattle.spec_words.specs.Tables.{byte_pages, object_pages}
use Rattle.spec_words.specs.Views.{View}
use Rattle.spec_words.specs.NetChanges.{FileShape}
use Rattle.db_alloc.specs.Marks.{marks, first_slots, is_in_slot, has_byte}
use Rattle.db_alloc.specs.Tables.{numbers}

pub drop_at : (ps : List PageNo) (i : ℕ) (d : PageNo) → i < length ps → numbers (drop i ps) ≡ (get_or ps i d).0 ∷ numbers (drop (i + 1) ps)
drop_at ps i d lt = ap numbers (drop-cons ps i d lt) ∙ ap (λ n. (get_or ps i d).0 ∷ numbers (drop n ps)) (sym (add-one i))

pub take_at : (ps : List PageNo) (i : ℕ) (d : PageNo) → i < length ps → numbers (take (i + 1) ps) ≡ numbers (take i ps) ++ (get_or ps i d).0 ∷ []
take_at ps i d lt = ap numbers (take_more ps i d lt) ∙ map-append (λ (p : PageNo). p.0) (take i ps) (get_or ps i d ∷ [])

pub drop_none : (ps : List PageNo) (i : ℕ) → length ps ≤ i → numbers (drop i ps) ≡ []
drop_none ps i le = ap numbers (drop_all i ps le)

pub take_whole : (ps : List PageNo) (i : ℕ) → length ps ≤ i → numbers (take i ps) ≡ numbers ps
take_whole ps i le = ap numbers (take_all i ps le)

-- the page at i of a list, whose numbers have a fact each
pub all_at : (P : ℕ → Type 0) (ps : List PageNo) (i : ℕ) (d : PageNo) → i < length ps → All P (numbers ps) → P (get_or ps i d).0
all_at P ps i d lt h =
    let below : i < length (numbers ps) = subst (λ n. i < n) (sym (length-map ps (λ (p : PageNo). p.0))) lt in
    subst P (get_or-map (λ (p : PageNo). p.0) ps i d) (h i d.0 below)

filter_one : (f : ℕ → Bool) (x : ℕ) (b : Bool) → f x ≡ b → filter f (x ∷ []) ≡ (if b then x ∷ [] else [])
filter_one f x true e = rw e refl
filter_one f x false e = rw e refl

-- a number more is filtered
pub filter_more : (f : ℕ → Bool) (xs ys : List ℕ) (x : ℕ) (b : Bool) (kept more : List ℕ) → ys ≡ xs ++ x ∷ [] → b ≡ f x → kept ≡ filter f xs
    → more ≡ kept ++ (if b then x ∷ [] else []) → more ≡ filter f ys
filter_more f xs ys x b kept more e is h m =
    m ∙ ap (λ ks. ks ++ (if b then x ∷ [] else [])) h ∙ ap (λ ks. filter f xs ++ ks) (sym (filter_one f x b (sym is)))
    ∙ sym (filter-append f xs (x ∷ [])) ∙ ap (filter f) (sym e)

all_range : (n : ℕ) → All (λ p. p < n) (range_with_len 0 n)
all_range n k d lt =
    let below : k < n = subst (λ m. k < m) (length-range_with_len 0 n) lt in
    let is : get_or (range_with_len 0 n) k d ≡ 0 + k = get_or-range_with_len 0 n k d below in
    omega arith

pub all_filtered : (f : ℕ → Bool) (ps : List ℕ) (n m : ℕ) → ps ≡ filter f (range_with_len 0 n) → n ≡ m → All (λ p. p < m) ps
all_filtered f ps n m e same = subst (λ k. All (λ p. p < k) ps) same (subst (All (λ p. p < n)) (sym e) (All-filter f (λ p. p < n) (range_with_len 0 n) (all_range n)))

short_step : (f : ℕ → Bool) (x : ℕ) (xs : List ℕ) → length (filter f xs) ≤ length xs → (b : Bool) → f x ≡ b → length (filter f (x ∷ xs)) ≤ length (x ∷ xs)
short_step f x xs le true e = rw e (omega (arith, le))
short_step f x xs le false e = rw e (omega (arith, le))

length_kept : (f : ℕ → Bool) (xs : List ℕ) → length (filter f xs) ≤ length xs
length_kept f [] = omega arith
length_kept f (x ∷ xs) = short_step f x xs (length_kept f xs) (f x) refl

-- as many pages as numbers that are kept
pub few_filtered : (f : ℕ → Bool) (ps : List PageNo) (n : ℕ) → numbers ps ≡ filter f (range_with_len 0 n) → length ps ≤ n
few_filtered f ps n e =
    let count : length ps ≡ length (filter f (range_with_len 0 n)) = sym (length-map ps (λ (p : PageNo). p.0)) ∙ ap length e in
    let kept : length (filter f (range_with_len 0 n)) ≤ length (range_with_len 0 n) = length_kept f (range_with_len 0 n) in
    let all : length (range_with_len 0 n) ≡ n = length-range_with_len 0 n in
    omega arith

finer_step : (f g h : ℕ → Bool) (x : ℕ) (xs : List ℕ) → filter g (filter f xs) ≡ filter h xs → (a b : Bool) → f x ≡ a → g x ≡ b → (f x && g x) ≡ h x
    → filter g (filter f (x ∷ xs)) ≡ filter h (x ∷ xs)
finer_step f g h x xs rest true true ea eb e = let eh : h x ≡ true = sym e ∙ rw (ea, eb) refl in rw (ea, eb, eh) (ap (λ ks. x ∷ ks) rest)
finer_step f g h x xs rest true false ea eb e = let eh : h x ≡ false = sym e ∙ rw (ea, eb) refl in rw (ea, eb, eh) rest
finer_step f g h x xs rest false b ea eb e = let eh : h x ≡ false = sym e ∙ rw ea refl in rw (ea, eh) rest

-- a finer test of what another test has kept
filter_finer : (f g h : ℕ → Bool) (xs : List ℕ) → ((x : ℕ) → (f x && g x) ≡ h x) → filter g (filter f xs) ≡ filter h xs
filter_finer f g h [] e = refl
filter_finer f g h (x ∷ xs) e = finer_step f g h x xs (filter_finer f g h xs e) (f x) (g x) refl refl (e x)

pub filter_same : (f g : ℕ → Bool) (xs : List ℕ) → ((x : ℕ) → f x ≡ g x) → filter f xs ≡ filter g xs
filter_same f g xs e = ap (λ (h : ℕ → Bool). filter h xs) (λ i x. e x i)

-- a page in a slot, or an allocated one of a marked extent
object_test : (single marked allocated : Bool) → ((single || marked) && (single || allocated)) ≡ (single || (marked && allocated))
object_test true marked allocated = refl
object_test false marked allocated = refl

pub any_of_map : {X Y : Type 0} (p : Y → Bool) (f : X → Y) (xs : List X) → list_any p (map f xs) ≡ list_any (λ x. p (f x)) xs
any_of_map p f [] = refl
any_of_map p f (x ∷ xs) = ap (λ b. p (f x) || b) (any_of_map p f xs)

-- ---- what the pages of a chain say

pub single_as : (image : Image) (chain : List ℕ) (p : ℕ) → 1 ≤ length chain → is_in_slot (first_slots (map (page image) chain)) p ≡ is_single image chain p
single_as image [] p some = absurd (omega (arith, some))
single_as image (q ∷ rest) p some = refl

has_byte_as : (g : Geometry) (image : Image) (chain : List ℕ) (p : ℕ) → 1 ≤ length chain → has_byte g (map (page image) chain) p ≡ (is_single image chain p || is_marked g image chain p)
has_byte_as g image chain p some =
    ap (λ b. b || list_any (marks g p) (map (page image) chain)) (single_as image chain p some)
    ∙ ap (λ b. is_single image chain p || b) (any_of_map (marks g p) (page image) chain)

-- the pages whose PFS bytes are read are those of the plan
pub byte_pages_as : (shape : FileShape) (view : View) (chain : List ℕ) (iams : List (List ℕ)) (g : Geometry) (n : ℕ) (pages : List ℕ) → 1 ≤ length chain → iams ≡ map (page view.now) chain
    → g ≡ shape.geometry → n ≡ shape.pages → pages ≡ filter (has_byte g iams) (range_with_len 0 n) → pages ≡ byte_pages shape chain view
byte_pages_as shape view chain iams g n pages some same same_g same_n is =
    is ∙ ap (λ all. filter (has_byte g all) (range_with_len 0 n)) same
    ∙ ap (λ h. filter (has_byte h (map (page view.now) chain)) (range_with_len 0 n)) same_g
    ∙ ap (λ m. filter (has_byte shape.geometry (map (page view.now) chain)) (range_with_len 0 m)) same_n
    ∙ filter_same (has_byte shape.geometry (map (page view.now) chain)) (λ p. is_single view.now chain p || is_marked shape.geometry view.now chain p) (range_with_len 0 shape.pages)
    (λ p. has_byte_as shape.geometry view.now chain p some)

-- and so are those that are allocated
pub object_pages_as : (shape : FileShape) (view : View) (chain : List ℕ) (iams : List (List ℕ)) (slots pages found : List ℕ) → 1 ≤ length chain → iams ≡ map (page view.now) chain
    → slots ≡ first_slots iams → pages ≡ byte_pages shape chain view → found ≡ filter (λ p. is_in_slot slots p || is_allocated shape.geometry view.now p) pages → found ≡ object_pages shape chain view
object_pages_as shape view chain iams slots pages found some same same_slots same_pages is =
    is ∙ ap (λ s. filter (λ p. is_in_slot s p || is_allocated shape.geometry view.now p) pages) (same_slots ∙ ap first_slots same)
    ∙ filter_same (λ p. is_in_slot (first_slots (map (page view.now) chain)) p || is_allocated shape.geometry view.now p) (λ p. is_single view.now chain p || is_allocated shape.geometry view.now p) pages
    (λ p. ap (λ b. b || is_allocated shape.geometry view.now p) (single_as view.now chain p some))
    ∙ ap (filter (λ p. is_single view.now chain p || is_allocated shape.geometry view.now p)) same_pages
    ∙ filter_finer (λ p. is_single view.now chain p || is_marked shape.geometry view.now chain p) (λ p. is_single view.now chain p || is_allocated shape.geometry view.now p) _ (range_with_len 0 shape.pages)
    (λ p. object_test (is_single view.now chain p) (is_marked shape.geometry view.now chain p) (is_allocated shape.geometry view.now p))
