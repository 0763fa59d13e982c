-- The PFS bytes of a table's pages were read.
use Rattle.std.proofs.Common.{◌≡◌, refl, ℕ, zero, suc, Bool, true, false, List, [], ◌∷◌, ◌++◌, All, get_or, Contains, filter, sym, ap, ◌∙◌, subst, arith}
use Rattle.std.specs.Prelude.{◌&&◌, ◌||◌, Option, Some, None}
use Rattle.std.proofs.lemmas.Bool.{true≢false}
use Rattle.std.proofs.lemmas.List.Elements.{Contains-append_left, Contains-append_right, Contains-push, All-filter}
use Rattle.spec_file.specs.declared.data.Resource.TheVariants as resource
use Rattle.spec_file.specs.declared.page_type.TheConstants.{PFS_TYPE}
use Rattle.spec_file.specs.Header.{says}
use Rattle.spec_file.specs.Image.{page}
use Rattle.spec_file.specs.Places.{pfs_page}
use Rattle.spec_file.specs.CatalogRows.{CatalogRow}
use Rattle.spec_chain.specs.Uses.{is_allocated}
use Rattle.spec_plan.specs.Reading.{is_single, is_marked}
use Rattle.spec_words.specs.NetChanges.{FileShape, pages_of}
use Rattle.spec_words.specs.Views.{View, End, Gives, Stops}
use Rattle.spec_words.specs.Words.{gone_on, ◌then◌, give, sees, look, where_good, for_each}
use Rattle.spec_words.specs.Tables.{table_pages, chain_of, bytes_read, byte_pages, object_pages}
use Rattle.db_alloc.specs.Tables.{byte_looked}
use Rattle.db_heap.proofs.RoomLooks.{is_given, view_or}

-- a byte that nobody else holds, on a page that was looked at
pub record IsFree (shape : FileShape) (view : View) (reached : List ℕ) (p : ℕ) : Type 0 where
  pub free : view.other (resource.Byte (record { 0 = p })) ≡ None
  pub looked : Contains reached (pfs_page shape.geometry p)

record OneRead (shape : FileShape) (view after : View) (p : ℕ) (reached : List ℕ) : Type 0 where
  pub stays : after ≡ view
  pub free : IsFree shape view reached p

one_read : (shape : FileShape) (p : ℕ) (view after : View) → (byte_looked shape p view).ending ≡ Gives tt after → OneRead shape view after p (byte_looked shape p view).reached
unfolding ◌then◌ look where_good
one_read shape p view after e = by_cases (view.other (resource.Byte (record { 0 = p }))) (says PFS_TYPE (pfs_page shape.geometry p) (page view.now (pfs_page shape.geometry p))) refl refl
  where
    by_cases : (o : Option ℕ) (good : Bool) → view.other (resource.Byte (record { 0 = p })) ≡ o → says PFS_TYPE (pfs_page shape.geometry p) (page view.now (pfs_page shape.geometry p)) ≡ good
        → OneRead shape view after p (byte_looked shape p view).reached
    by_cases None true free is =
        let given = rw (free, is) at e in
        record { stays = sym (ap (view_or view) given); free = record { free = free; looked = rw free (Contains-append_left (pfs_page shape.geometry p ∷ []) _ (pfs_page shape.geometry p) (Contains-push [] (pfs_page shape.geometry p))) } }
    by_cases None false free is = let given = rw (free, is) at e in absurd (true≢false (sym (ap is_given given)))
    by_cases (Some t) good free is = let given = rw free at e in absurd (true≢false (sym (ap is_given given)))

all_cons : (P : ℕ → Type 0) (x : ℕ) (xs : List ℕ) → P x → All P xs → All P (x ∷ xs)
all_cons P x xs h hs zero d lt = h
all_cons P x xs h hs (suc k) d lt = hs k d (omega (arith, lt))

record AllRead (shape : FileShape) (view after : View) (ps reached : List ℕ) : Type 0 where
  pub stays : after ≡ view
  pub free : All (IsFree shape view reached) ps

free_later : (shape : FileShape) (view v : View) (before reached : List ℕ) (p : ℕ) → v ≡ view → IsFree shape v reached p → IsFree shape view (before ++ reached) p
free_later shape view v before reached p same h = record {
  free = ap (λ (w : View). w.other (resource.Byte (record { 0 = p }))) (sym same) ∙ h.free;
  looked = Contains-append_right before reached (pfs_page shape.geometry p) h.looked;
}

free_before : (shape : FileShape) (view : View) (reached more : List ℕ) (p : ℕ) → IsFree shape view reached p → IsFree shape view (reached ++ more) p
free_before shape view reached more p h = record { free = h.free; looked = Contains-append_left reached more (pfs_page shape.geometry p) h.looked }

reads_by : (shape : FileShape) (p : ℕ) (ps : List ℕ) (view after : View)
    → ((v : View) → (bytes_read shape ps v).ending ≡ Gives tt after → AllRead shape v after ps (bytes_read shape ps v).reached)
    → (reached : List ℕ) (ending : End (Unit {0})) → ((v : View) → ending ≡ Gives tt v → OneRead shape view v p reached)
    → (gone_on reached ending (λ _. bytes_read shape ps)).ending ≡ Gives tt after → AllRead shape view after (p ∷ ps) (gone_on reached ending (λ _. bytes_read shape ps)).reached
reads_by shape p ps view after later reached (Stops refusal) is e = absurd (true≢false (sym (ap is_given e)))
reads_by shape p ps view after later reached (Gives x v) is e =
    let one = is v refl in
    let rest = later v e in
    record {
      stays = rest.stays ∙ one.stays;
      free = all_cons (IsFree shape view (reached ++ (bytes_read shape ps v).reached)) p ps (free_before shape view reached (bytes_read shape ps v).reached p one.free)
          (λ k d lt. free_later shape view v reached (bytes_read shape ps v).reached (get_or ps k d) one.stays (rest.free k d lt));
    }

all_read : (shape : FileShape) (ps : List ℕ) (view after : View) → (bytes_read shape ps view).ending ≡ Gives tt after → AllRead shape view after ps (bytes_read shape ps view).reached
unfolding for_each ◌then◌ give
all_read shape [] view after e = record { stays = sym (ap (view_or view) e); free = λ k d lt. absurd (omega (arith, lt)) }
all_read shape (p ∷ ps) view after e =
    reads_by shape p ps view after (λ v given. all_read shape ps v after given) (byte_looked shape p view).reached (byte_looked shape p view).ending (λ v given. one_read shape p view v given) e

-- ---- the pages of a table are among those whose bytes were read

finer_step : (f g h : ℕ → Bool) (x : ℕ) (xs : List ℕ) → filter g (filter f xs) ≡ filter h xs → (a b : Bool) → f x ≡ a → g x ≡ b → (f x && g x) ≡ h x
    → filter g (filter f (x ∷ xs)) ≡ filter h (x ∷ xs)
finer_step f g h x xs rest true true ea eb e = let eh : h x ≡ true = sym e ∙ rw (ea, eb) refl in rw (ea, eb, eh) (ap (λ ks. x ∷ ks) rest)
finer_step f g h x xs rest true false ea eb e = let eh : h x ≡ false = sym e ∙ rw (ea, eb) refl in rw (ea, eb, eh) rest
finer_step f g h x xs rest false b ea eb e = let eh : h x ≡ false = sym e ∙ rw ea refl in rw (ea, eh) rest

filter_finer : (f g h : ℕ → Bool) (xs : List ℕ) → ((x : ℕ) → (f x && g x) ≡ h x) → filter g (filter f xs) ≡ filter h xs
filter_finer f g h [] e = refl
filter_finer f g h (x ∷ xs) e = finer_step f g h x xs (filter_finer f g h xs e) (f x) (g x) refl refl (e x)

object_test : (single marked allocated : Bool) → ((single || marked) && (single || allocated)) ≡ (single || (marked && allocated))
object_test true marked allocated = refl
object_test false marked allocated = refl

objects_among : (shape : FileShape) (chain : List ℕ) (view : View) (P : ℕ → Type 0) → All P (byte_pages shape chain view) → All P (object_pages shape chain view)
objects_among shape chain view P h =
    subst (All P)
    (filter_finer (λ p. is_single view.now chain p || is_marked shape.geometry view.now chain p) (λ p. is_single view.now chain p || is_allocated shape.geometry view.now p) _ (pages_of shape)
    (λ p. object_test (is_single view.now chain p) (is_marked shape.geometry view.now chain p) (is_allocated shape.geometry view.now p)))
    (All-filter (λ p. is_single view.now chain p || is_allocated shape.geometry view.now p) P (byte_pages shape chain view) h)

abbrev given_or : List ℕ → End (List ℕ) → List ℕ
given_or other (Gives x view) = x
given_or other (Stops refusal) = other

all_free : (shape : FileShape) (view v : View) (before reached more : List ℕ) (ps : List ℕ) → v ≡ view → All (IsFree shape v reached) ps → All (IsFree shape view (before ++ (reached ++ more))) ps
all_free shape view v before reached more ps same h k d lt = free_later shape view v before (reached ++ more) (get_or ps k d) same (free_before shape v reached more (get_or ps k d) (h k d lt))

by_bytes : (shape : FileShape) (chain : List ℕ) (v after : View) (pages before reached : List ℕ) (ending : End (Unit {0}))
    → ((w : View) → ending ≡ Gives tt w → AllRead shape v w (byte_pages shape chain v) reached)
    → (gone_on reached ending (λ _. sees (object_pages shape chain))).ending ≡ Gives pages after
    → All (IsFree shape after (before ++ (gone_on reached ending (λ _. sees (object_pages shape chain))).reached)) pages
unfolding sees
by_bytes shape chain v after pages before reached (Stops refusal) is e = absurd (true≢false (sym (ap is_given e)))
by_bytes shape chain v after pages before reached (Gives x w) is e =
    let all = is w refl in
    let ends : w ≡ after = ap (view_or v) e in
    let same : object_pages shape chain v ≡ pages = ap (object_pages shape chain) (sym all.stays) ∙ ap (given_or []) e in
    subst (All (IsFree shape after (before ++ (reached ++ [])))) same
    (all_free shape after v before reached [] (object_pages shape chain v) (sym all.stays ∙ ends) (objects_among shape chain v (IsFree shape v reached) all.free))

by_chain : (shape : FileShape) (after : View) (pages reached : List ℕ) (ending : End (List ℕ))
    → (gone_on reached ending (λ chain. sees (byte_pages shape chain) then (λ all. bytes_read shape all then (λ _. sees (object_pages shape chain))))).ending ≡ Gives pages after
    → All (IsFree shape after (gone_on reached ending (λ chain. sees (byte_pages shape chain) then (λ all. bytes_read shape all then (λ _. sees (object_pages shape chain))))).reached) pages
unfolding ◌then◌ sees
by_chain shape after pages reached (Stops refusal) e = absurd (true≢false (sym (ap is_given e)))
by_chain shape after pages reached (Gives chain v) e =
    by_bytes shape chain v after pages reached (bytes_read shape (byte_pages shape chain v) v).reached (bytes_read shape (byte_pages shape chain v) v).ending (λ w given. all_read shape (byte_pages shape chain v) v w given) e

-- where a plan has given the pages of a table, it has read their PFS bytes
pub table_read : (shape : FileShape) (row : CatalogRow) (view after : View) (pages : List ℕ) → (table_pages shape row view).ending ≡ Gives pages after
    → All (IsFree shape after (table_pages shape row view).reached) pages
unfolding ◌then◌
table_read shape row view after pages e = by_chain shape after pages (chain_of shape row view).reached (chain_of shape row view).ending e
