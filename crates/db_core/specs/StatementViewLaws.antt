-- A view over a good state is one of a file, whose pages are shown where nobody else holds them.
use Rattle.std.proofs.Common.{◌≡◌, ℕ, ◌<◌, List, [], length, None, IsTrue, sym, ap, ◌∙◌, subst}
use Rattle.std.specs.Prelude.{MatchOption, slice_index}
use Rattle.std.specs.Int.{bit_at}
use Rattle.std.specs.Coded.{Coded-set, coded_ℕ, le_prop}
use Rattle.std.proofs.Props.{props}
use Rattle.std.proofs.Math.Logic.{∥∥₁_elim, ∥∥₁_map}
use Rattle.spec_file.specs.declared.data.PageNo.{PageNo}
use Rattle.spec_file.specs.declared.data.Resource.{Resource}
use Rattle.spec_file.specs.Image.{Image, page, maps_start}
use Rattle.spec_file.specs.Places.{HasShape}
use Rattle.spec_log.specs.Cover.{byte_guard}
use Rattle.spec_log.specs.Images.{final_image}
use Rattle.law_undo.proofs.Shapes.{final_shape, view_shape, whole_shape}
use Rattle.law_net.specs.Files.{IsImageOf}
use Rattle.pg_base.specs.declared.page.Page.{Page}
use Rattle.law_pages.proofs.Agreement.{file_agrees_under, headers_are_shown}
use Rattle.law_pages.proofs.Bytes.{images_are_of_bytes}
use Rattle.spec_run.specs.Begun.{shape_of}
use Rattle.db_locks.specs.Guards.{AgreeUnder}
use Rattle.db_locks.specs.States.{AreImages}
use Rattle.db_core.specs.declared.state.State.{State}
use Rattle.db_core.specs.declared.statement_view.StatementView.{StatementView}
use Rattle.db_core.specs.Store.{run_is, log_of, IsGood}
use Rattle.db_core.specs.Views.{tran_at}
use Rattle.db_core.specs.ViewLaws.{right_of, tran_ongoing}
use Rattle.db_core.specs.SeenPages.{began_at, with_pages, seen_pages, AreFree}
use Rattle.db_core.specs.SeenLaws.{seen_first, seen_image, seen_agrees, seen_differs}
use Rattle.db_core.specs.PutLaws.{image_with}
use Rattle.db_core.specs.StatementViews.{shown_of, state_of}

start_is : (st : State) (at : ℕ) → IsGood st → IsImageOf (shape_of (run_is st)) (began_at st at).start
start_is st at good =
    let run = run_is st in
    let view = (began_at st at).start in
    let shape = view_shape run.geometry run.opened (log_of st) run.image (tran_at st.sessions.items at) (right_of st good).sound in
    record {
      file = good.state.start.shape;
      pages = shape.pages;
      whole = whole_shape run.image view shape good.state.start.whole;
      bytes = (images_are_of_bytes run (log_of st) (tran_at st.sessions.items at) good.state.start good.state.legal).1;
    }

frames_are : (st : State) → IsGood st → IsImageOf (shape_of (run_is st)) st.frames
frames_are st good =
    let run = run_is st in
    let shape = final_shape run.opened (log_of st) run.image in
    subst (IsImageOf (shape_of run)) (sym good.state.pages_are) (record {
      file = good.state.start.shape;
      pages = shape.pages;
      whole = whole_shape run.image (final_image run.opened (log_of st) run.image) shape good.state.start.whole;
      bytes = (images_are_of_bytes run (log_of st) 0 good.state.start good.state.legal).0;
    })

-- the file has as many pages as it was found with
pub frames_count : (st : State) → ∥ IsGood st ∥₁ → length st.frames ≡ length st.base.value
frames_count st good = ∥∥₁_elim good (Coded-set coded_ℕ _ _) (λ g. (frames_are st g).pages)

-- where nobody else holds a resource, the file has what the transaction sees
frames_agree : (st : State) (at : ℕ) (r : Resource) → IsGood st → (began_at st at).other r ≡ None → (p : ℕ) →
    AgreeUnder r (shape_of (run_is st)) p (page st.frames p) (page (began_at st at).start p)
frames_agree st at r good free p i j here low guarded =
    ap (λ image. bit_at (slice_index (page image p) i) j) good.state.pages_are
    ∙ file_agrees_under (run_is st) (log_of st) (tran_at st.sessions.items at) r p i j (right_of st good).sound (tran_ongoing st at good) free guarded

pub agrees_by : (st : State) (at : ℕ) (r : Resource) → ∥ IsGood st ∥₁ → (began_at st at).other r ≡ None → (p : ℕ) →
    AgreeUnder r (shape_of (run_is st)) p (page st.frames p) (page (began_at st at).start p)
agrees_by st at r good free p i j here low guarded =
    ∥∥₁_elim good (Coded-set coded_ℕ _ _) (λ g. frames_agree st at r g free p i j here low guarded)

-- and so has a byte of a page's header that nothing else guards
pub header_by : (st : State) (at : ℕ) (r : Resource) → ∥ IsGood st ∥₁ → (began_at st at).other r ≡ None → (p i : ℕ) → i < maps_start →
    MatchOption (byte_guard (shape_of (run_is st)).geometry (shape_of (run_is st)).pages p i) (Unit {0}) (λ s. s ≡ r) →
    slice_index (page st.frames p) i ≡ slice_index (page (began_at st at).start p) i
header_by st at r good free p i low only = ∥∥₁_elim good (Coded-set coded_ℕ _ _) (λ g.
    ap (λ image. slice_index (page image p) i) g.state.pages_are
    ∙ headers_are_shown (run_is st) (log_of st) (tran_at st.sessions.items at) r p i (right_of st g).sound (tran_ongoing st at g) free low only)

pub size_of : (v : StatementView) → HasShape (state_of v).view.shape.geometry (state_of v).view.shape.pages
size_of v = record {
  low = ∥∥₁_elim v.good le_prop (λ g. g.state.start.shape.low);
  high = ∥∥₁_elim v.good le_prop (λ g. g.state.start.shape.high);
  whole = ∥∥₁_elim v.good (Coded-set coded_ℕ _ _) (λ g. g.state.start.shape.whole);
}

image_prop : (v : StatementView) → IsProp (AreImages (state_of v))
image_prop v = hlevel props

images_are : (v : StatementView) → IsGood v.state.now → AreFree (began_at v.state.now v.at) v.taken.items → AreImages (state_of v)
images_are v good free =
    let st = v.state.now in
    let shape = shape_of (run_is st) in
    let start = (began_at st v.at).start in
    let s = start_is st v.at good in
    let f = frames_are st good in
    let h = image_with shape v.put.items v.pages.items st.frames v.are_put.whole f in
    record {
      start = s;
      now = seen_image shape st.frames (shown_of v) start f h s;
      first = f;
      shown = h;
      taken = λ r mine p. seen_agrees shape r st.frames (shown_of v) start p h s (frames_agree st v.at r good (free r mine) p);
      before = λ r mine p. frames_agree st v.at r good (free r mine) p;
      moved = ∥∥₁_map v.only (seen_differs shape v.taken.items st.frames (shown_of v) start s);
      written = v.only;
    }

pub images_of : (v : StatementView) → IsTrue (state_of v).told → AreImages (state_of v)
images_of v told = ∥∥₁_elim v.good (image_prop v) (λ good. ∥∥₁_elim v.free (image_prop v) (images_are v good))

-- a view that nothing was put into or taken by is that of the beginning
pub begins_so : (st : State) (at : ℕ) (put : List PageNo) (pages : List Page) (taken : List Resource) → put ≡ [] → taken ≡ [] →
    record (began_at st at) { now = seen_pages st.frames (with_pages put pages st.frames) (began_at st at).start; taken = taken } ≡ began_at st at
begins_so st at put pages taken none nothing =
    let began = began_at st at in
    ap (λ (ts : List Resource). record began { now = seen_pages st.frames (with_pages put pages st.frames) began.start; taken = ts }) nothing
    ∙ ap (λ (ps : List PageNo). record began { now = seen_pages st.frames (with_pages ps pages st.frames) began.start }) none
    ∙ ap (λ (image : Image). record began { now = image }) (seen_first st.frames began.start)
