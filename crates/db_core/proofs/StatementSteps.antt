-- What a view keeps through its calls.
use Rattle.std.proofs.Common.{◌≡◌, ℕ, ◌<◌, true, List, ◌∷◌, length, None, refl, sym, ap, ◌∙◌, subst, arith, inl, inr, All}
use Rattle.std.specs.Prelude.{slice_index, slice_set, Result, Ok, Err, OnOk, OnErr, take as front}
use Rattle.std.specs.List.{list_any}
use Rattle.std.proofs.lemmas.Bool.{or_cases}
use Rattle.spec_file.specs.declared.data.PageNo.{PageNo}
use Rattle.spec_file.specs.declared.data.Resource.{Resource}
use Rattle.spec_file.specs.Image.{Image, page, maps_start}
use Rattle.spec_log.specs.Items.{is_same}
use Rattle.pg_base.specs.declared.page.Page.{Page}
use Rattle.spec_words.specs.NetChanges.{FileShape}
use Rattle.spec_words.specs.Views.{View}
use Rattle.law_net.specs.Files.{DifferUnder}
use Rattle.law_net.proofs.Takes.{same_resource}
use Rattle.db_locks.specs.Guards.{DifferOnPage, tells_header}
use Rattle.db_locks.specs.States.{with_page}
use Rattle.db_locks.proofs.Differing.{page_differs}
use Rattle.db_locks.proofs.MemoryImages.{with_page-cases, rise_put}
use Rattle.db_core.specs.declared.statement_view.StatementView.{StatementView}
use Rattle.db_core.specs.SeenPages.{with_pages, ArePut, AreFree, IsWholePage}
use Rattle.db_core.specs.SeenLaws.{byte_shown, page_long, seen_page}
use Rattle.db_core.specs.PutLaws.{with_long}
use Rattle.db_core.specs.StatementViews.{shown_of, state_of}
use Rattle.db_core.specs.StatementViewLaws.{header_by, images_of}
use Rattle.db_core.proofs.HeaderGuards.{only_guard, same_front}

-- one resource more that nobody else holds
free_more : (view : View) (r : Resource) (taken : List Resource) → view.other r ≡ None → AreFree view taken → AreFree view (r ∷ taken)
free_more view r taken free all s h = elim (or_cases (is_same s r) (list_any (is_same s) taken) h) [
  | inl e ↦ ap view.other (same_resource s r e) ∙ free
  | inr e ↦ all s e
]

pub free_or_not : {T E : Type 0} (result : Result T E) (view : View) (r : Resource) (old new : List Resource) → OnOk result (new ≡ r ∷ old) → OnErr result (new ≡ old) →
    view.other r ≡ None → AreFree view old → AreFree view new
free_or_not (Ok _) view r old new more same free all = subst (AreFree view) (sym more) (free_more view r old free all)
free_or_not (Err _) view r old new more same free all = subst (AreFree view) (sym same) all

put_more : (p : PageNo) (put : List PageNo) (pages after : List Page) (size : ℕ) → p.0 < size → length after ≡ length (with_page p put) → All IsWholePage after → ArePut put pages size →
    ArePut (with_page p put) after size
put_more p put pages after size inside long whole are = record {
  long = long;
  rising = rise_put p put are.rising;
  inside = λ q h. elim (with_page-cases p put q h) [
    | inl e ↦ subst (λ (z : PageNo). z.0 < size) e inside
    | inr r ↦ are.inside q r
  ];
  whole = whole;
}

pub are_put_or_not : {T E : Type 0} (result : Result T E) (p : PageNo) (put new : List PageNo) (pages after : List Page) (size : ℕ) → p.0 < size → OnOk result (new ≡ with_page p put) → OnErr result (new ≡ put) →
    length after ≡ length new → (All IsWholePage pages → All IsWholePage after) → ArePut put pages size → ArePut new after size
are_put_or_not (Ok _) p put new pages after size inside more same long whole are =
    subst (λ l. ArePut l after size) (sym more) (put_more p put pages after size inside (long ∙ ap length more) (whole are.whole) are)
are_put_or_not (Err _) p put new pages after size inside more same long whole are =
    subst (λ l. ArePut l after size) (sym same) (record { long = long ∙ ap length same; rising = are.rising; inside = are.inside; whole = whole are.whole })

pub differ_or_not : {T E : Type 0} (result : Result T E) (shape : FileShape) (taken : List Resource) (image : Image) (p : PageNo) (bytes : List ℕ) (put new : List PageNo) (pages after : List Page) →
    p.0 < length image → DifferOnPage taken shape p.0 (page (with_pages put pages image) p.0) bytes →
    OnOk result ((image : Image) → with_pages new after image ≡ slice_set (with_pages put pages image) p.0 bytes) → OnErr result (new ≡ put) → OnErr result (after ≡ pages) →
    DifferUnder shape taken image (with_pages put pages image) → DifferUnder shape taken image (with_pages new after image)
differ_or_not (Ok _) shape taken image p bytes put new pages after inside here more same kept differ =
    subst (λ m. DifferUnder shape taken image m) (sym (more image))
    (page_differs shape taken image (with_pages put pages image) p.0 bytes (subst (λ n. p.0 < n) (sym (with_long put pages image)) inside) differ here)
differ_or_not (Err _) shape taken image p bytes put new pages after inside here more same kept differ =
    subst (λ l. DifferUnder shape taken image (with_pages l after image)) (sym same) (subst (λ l. DifferUnder shape taken image (with_pages put l image)) (sym kept) differ)

-- the header of a page is seen as it is shown, by whoever is told of it
pub header_seen : (v : StatementView) (r : Resource) (p : ℕ) → (state_of v).view.other r ≡ None → p < (state_of v).view.shape.pages →
    tells_header (state_of v).view.shape.geometry r p ≡ true → front maps_start (page (shown_of v) p) ≡ front maps_start (page (state_of v).view.now p)
header_seen v r p free inside tells =
    let st = v.state.now in
    let view = (state_of v).view in
    let images = images_of v refl in
    let shown_long = page_long view.shape (shown_of v) p images.shown inside in
    let now_long = page_long view.shape view.now p images.now inside in
    let start_long = page_long view.shape view.start p images.start inside in
    same_front maps_start (page (shown_of v) p) (page view.now p) (omega (arith, shown_long)) (omega (arith, now_long))
    (λ i low.
    byte_shown (page st.frames p) (page (shown_of v) p) (page view.start p) i (omega (arith, low, start_long))
    (header_by st v.at r v.good free p i low (only_guard view.shape.geometry view.shape.pages r p i low tells))
    ∙ ap (λ bytes. slice_index bytes i) (sym (seen_page st.frames (shown_of v) view.start p)))
