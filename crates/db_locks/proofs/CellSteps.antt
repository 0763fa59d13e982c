-- What each call on a view says, put together to what a cell of a page is.
use Rattle.std.proofs.Common.{◌≡◌, ℕ, ◌<◌, ◌%◌, true, IsTrue, List, [], ◌∷◌, length, Contains, Some, Result, Ok, Err, refl, sym, ap, ◌∙◌, subst}
use Rattle.std.specs.Prelude.{slice_index, slice_set, IsErrAnd}
use Rattle.std.proofs.lemmas.Bool.{cond_both}
use Rattle.spec_file.specs.declared.data.Resource.{Resource}
use Rattle.spec_file.specs.declared.data.Resource.TheVariants as resource
use Rattle.spec_file.specs.Image.{Image, AreBytes, page, page_size}
use Rattle.spec_file.specs.Places.{Place, HasShape, pfs_place}
use Rattle.spec_file.specs.Roles.{is_ordinary}
use Rattle.spec_log.specs.declared.item.Cell.{Cell}
use Rattle.spec_log.specs.declared.item.Cell.TheVariants.{Bytes, Bit}
use Rattle.spec_log.specs.Cells.{with_bytes, with_map_bit}
use Rattle.spec_log.specs.Cover.{bit_guard}
use Rattle.spec_file.specs.declared.sizes.TheConstants.{BIT_COUNT}
use Rattle.std.specs.Int.{bit_at}
use Rattle.db_locks.proofs.BitLaws.{byte_of, bit_inside, told_bit, bit_differs, carried_bit}
use Rattle.spec_words.specs.NetChanges.{FileShape}
use Rattle.spec_words.specs.Takes.{is_among}
use Rattle.spec_words.specs.Views.{View, Plan, Gives}
use Rattle.spec_words.specs.Words.{◌then◌, give, look, take, with_taken, write, put_pfs, put_page}
use Rattle.law_net.specs.Files.{IsImageOf}
use Rattle.law_net.proofs.GoodViews.{taken_mine}
use Rattle.db_locks.specs.declared.plan_pages.PageStop.{PageStop}
use Rattle.db_locks.specs.Guards.{AgreeUnder, DifferOnPage, carried}
use Rattle.db_locks.specs.States.{PlanState, AreImages, KeepsShown}
use Rattle.db_locks.specs.Does.{Stop, DoesAs, Does, DoesAfter, carry}
use Rattle.db_locks.specs.Cells.{pfs_byte_read}
use Rattle.db_locks.proofs.PlanLaws.{does_after, does_then, does_give, does_more, does_exit}
use Rattle.db_locks.proofs.LoopLaws.{does_further}
use Rattle.db_locks.proofs.WordLaws.{does_write, does_write_after_look, does_put}
use Rattle.db_locks.proofs.PageLaws.{carried_byte, carried_page, told_byte, told_page, told_catalog, byte_differs, page_differs}

-- a value that is the plan's where the view is told
pub does_valued : {A E : Type 0} {meaning : E → Stop} {looked : List ℕ} {a b : PlanState} {plan : Plan A} {x : A} (y : A) → (IsTrue a.told → y ≡ x)
    → DoesAs meaning looked a b plan (Ok x) → DoesAs meaning looked a b plan (Ok y)
does_valued {b = b} y same d = record { exact = λ told. d.exact told ∙ ap (λ z. Gives z b.view) (sym (same told)); stays = d.stays; cause = tt }

-- a page that the file has
pub seen_long : (shape : FileShape) (image : Image) (p : ℕ) → IsImageOf shape image → p < shape.pages → length (page image p) ≡ page_size
seen_long shape image p is lt = is.whole p [] (subst (λ n. p < n) (sym is.pages) lt)

-- ---- an ordinary page

pub page_shown : (a : PlanState) (p : ℕ) (bytes : List ℕ) → (IsTrue a.told → AreImages a) → p < a.view.shape.pages → is_ordinary a.view.shape.geometry p ≡ true → AreBytes bytes → length bytes ≡ page_size
    → (IsTrue a.told → AgreeUnder (resource.Page (record { 0 = p })) a.view.shape p bytes (page a.view.now p)) → IsTrue a.told → bytes ≡ page a.view.now p
page_shown a p bytes images lt ordinary low long agree told =
    let now = (images told).now in
    told_page a.view.shape p bytes (page a.view.now p) lt ordinary low (now.bytes p) long (seen_long a.view.shape a.view.now p now lt) (agree told)

pub catalog_shown : (a : PlanState) (bytes : List ℕ) → (IsTrue a.told → AreImages a) → 9 < a.view.shape.pages → AreBytes bytes → length bytes ≡ page_size
    → (IsTrue a.told → AgreeUnder resource.Catalog a.view.shape 9 bytes (page a.view.now 9)) → IsTrue a.told → bytes ≡ page a.view.now 9
catalog_shown a bytes images lt low long agree told =
    let now = (images told).now in
    told_catalog a.view.shape bytes (page a.view.now 9) lt low (now.bytes 9) long (seen_long a.view.shape a.view.now 9 now lt) (agree told)

-- ---- a PFS byte

pub byte_shown : (a : PlanState) (p q at : ℕ) (bytes : List ℕ) → (IsTrue a.told → AreImages a) → p < a.view.shape.pages → HasShape a.view.shape.geometry a.view.shape.pages
    → q ≡ (pfs_place a.view.shape.geometry p).page → at ≡ (pfs_place a.view.shape.geometry p).at → AreBytes bytes
    → (IsTrue a.told → AgreeUnder (resource.Byte (record { 0 = p })) a.view.shape q bytes (page a.view.now q)) → IsTrue a.told → slice_index bytes at ≡ slice_index (page a.view.now q) at
byte_shown a p q at bytes images lt file eq ea low agree told =
    let now = (images told).now in
    let place = pfs_place a.view.shape.geometry p in
    let here = told_byte a.view.shape p bytes (page a.view.now q) file lt low (now.bytes q) (subst (λ k. AgreeUnder (resource.Byte (record { 0 = p })) a.view.shape k bytes (page a.view.now q)) eq (agree told)) in
    subst (λ k. slice_index bytes k ≡ slice_index (page a.view.now q) k) (sym ea) here

pub byte_read : (a b : PlanState) (p q at : ℕ) (bytes : List ℕ) → (IsTrue a.told → AreImages a) → p < a.view.shape.pages → HasShape a.view.shape.geometry a.view.shape.pages
    → q ≡ (pfs_place a.view.shape.geometry p).page → at ≡ (pfs_place a.view.shape.geometry p).at → AreBytes bytes
    → (IsTrue a.told → AgreeUnder (resource.Byte (record { 0 = p })) a.view.shape q bytes (page a.view.now q))
    → Does a b (look (resource.Byte (record { 0 = p })) q) (Ok (page a.view.now q)) → Does a b (pfs_byte_read a.view.shape p) (Ok (slice_index bytes at))
byte_read a b p q at bytes images lt file eq ea low agree d =
    subst (λ k. Does a b (look (resource.Byte (record { 0 = p })) k then (λ found. give (slice_index found (pfs_place a.view.shape.geometry p).at))) (Ok (slice_index bytes at))) eq
    (subst (λ k. Does a b (look (resource.Byte (record { 0 = p })) q then (λ found. give (slice_index found k))) (Ok (slice_index bytes at))) ea
    (does_then (λ found. give (slice_index found at)) d
    (does_valued (slice_index bytes at) (λ told. byte_shown a p q at bytes images lt file eq ea low agree (subst IsTrue d.stays.told told))
    (does_give [] b (slice_index (page a.view.now q) at)))))

pub byte_unread : (a b : PlanState) (p q : ℕ) {stop : PageStop} (result : Result ℕ PageStop) → q ≡ (pfs_place a.view.shape.geometry p).page
    → Does a b (look (resource.Byte (record { 0 = p })) q) (Err stop) → IsErrAnd result (λ s. s ≡ stop) → Does a b (pfs_byte_read a.view.shape p) result
byte_unread a b p q result eq d h =
    subst (λ k. Does a b (look (resource.Byte (record { 0 = p })) k then (λ found. give (slice_index found (pfs_place a.view.shape.geometry p).at))) result) eq (does_exit _ d h)

-- ---- writing

-- a look gave page p, under a resource
pub record LooksAt (a b : PlanState) (r : Resource) (p : ℕ) (bytes : List ℕ) : Type 0 where
  pub look : Does a b (look r p) (Ok (page a.view.now p))
  pub shown : IsTrue a.told → bytes ≡ page a.shown p
  pub guarded : IsTrue a.told → AgreeUnder r a.view.shape p bytes (page a.view.now p)
  pub view : b.view ≡ a.view
  pub same : KeepsShown a b
  pub low : AreBytes bytes
  pub long : length bytes ≡ page_size

-- a resource was taken
pub record Takes (b c : PlanState) (r : Resource) : Type 0 where
  pub take : Does b c (take r) (Ok tt)
  pub taken : c.view ≡ with_taken r b.view
  pub same : KeepsShown b c

taken_keeps : {X : Type 0} (f : View → X) (r : Resource) (view : View) → f (record view { taken = r ∷ view.taken }) ≡ f view → f (with_taken r view) ≡ f view
taken_keeps f r view same = cond_both (is_among view.taken r) view (record view { taken = r ∷ view.taken }) (λ v. f v ≡ f view) (λ e. refl) (λ e. same)

pub mine : {b c : PlanState} (r : Resource) → Takes b c r → is_among c.view.taken r ≡ true
mine {b} r t = subst (λ (v : View). is_among v.taken r ≡ true) (sym t.taken) (taken_mine r b.view)

now_kept : {b c : PlanState} (r : Resource) → Takes b c r → c.view.now ≡ b.view.now
now_kept {b} r t = ap (λ (v : View). v.now) t.taken ∙ taken_keeps (λ v. v.now) r b.view refl

pub shape_kept : {b c : PlanState} (r : Resource) → Takes b c r → c.view.shape ≡ b.view.shape
shape_kept {b} r t = ap (λ (v : View). v.shape) t.taken ∙ taken_keeps (λ v. v.shape) r b.view refl

-- the page that was looked at is still shown, and seen, once the resource is taken
still_shown : {a b c : PlanState} (r : Resource) (p : ℕ) (bytes : List ℕ) → LooksAt a b r p bytes → Takes b c r → IsTrue c.told → bytes ≡ page c.shown p
still_shown {a} {b} {c} r p bytes l t told = l.shown (subst IsTrue l.look.stays.told (subst IsTrue t.take.stays.told told)) ∙ ap (λ (m : Image). page m p) (sym (t.same.shown ∙ l.same.shown))

still_seen : {a b c : PlanState} (r : Resource) (p : ℕ) (bytes : List ℕ) → LooksAt a b r p bytes → Takes b c r → page a.view.now p ≡ page c.view.now p
still_seen r p bytes l t = ap (λ (m : Image). page m p) (sym (now_kept r t ∙ ap (λ (v : View). v.now) l.view))

early : {a b c : PlanState} (r : Resource) (p : ℕ) (bytes : List ℕ) → LooksAt a b r p bytes → Takes b c r → IsTrue c.told → IsTrue a.told
early r p bytes l t told = subst IsTrue l.look.stays.told (subst IsTrue t.take.stays.told told)

-- what may be put of a PFS page whose byte was taken
pub byte_may_be_put : (a b c : PlanState) (p q at byte : ℕ) (bytes : List ℕ) → p < a.view.shape.pages → HasShape a.view.shape.geometry a.view.shape.pages
    → q ≡ (pfs_place a.view.shape.geometry p).page → at ≡ (pfs_place a.view.shape.geometry p).at
    → LooksAt a b (resource.Byte (record { 0 = p })) q bytes → Takes b c (resource.Byte (record { 0 = p }))
    → IsTrue c.told → DifferOnPage c.view.taken c.view.shape q (page c.shown q) (slice_set bytes at byte)
byte_may_be_put a b c p q at byte bytes lt file eq ea l t told =
    let r = resource.Byte (record { 0 = p }) in
    let at_place = byte_differs a.view.shape p byte c.view.taken bytes file lt (mine r t) in
    let here : DifferOnPage c.view.taken a.view.shape q bytes (slice_set bytes at byte) =
    subst (λ k. DifferOnPage c.view.taken a.view.shape k bytes (slice_set bytes at byte)) (sym eq)
    (subst (λ k. DifferOnPage c.view.taken a.view.shape (pfs_place a.view.shape.geometry p).page bytes (slice_set bytes k byte)) (sym ea) at_place) in
    subst (λ s. DifferOnPage c.view.taken s q (page c.shown q) (slice_set bytes at byte)) (sym (shape_kept r t ∙ ap (λ (v : View). v.shape) l.view))
    (subst (λ s. DifferOnPage c.view.taken a.view.shape q s (slice_set bytes at byte)) (still_shown r q bytes l t told) here)

-- a PFS byte was read once more, taken and put
pub byte_written : (a b c d : PlanState) (p q at byte : ℕ) (bytes looked : List ℕ) (result : Result (Unit {0}) PageStop) → (IsTrue a.told → AreImages a)
    → p < a.view.shape.pages → HasShape a.view.shape.geometry a.view.shape.pages
    → q ≡ (pfs_place a.view.shape.geometry p).page → at ≡ (pfs_place a.view.shape.geometry p).at → at < length bytes
    → (IsTrue a.told → Contains looked q)
    → LooksAt a b (resource.Byte (record { 0 = p })) q bytes → Takes b c (resource.Byte (record { 0 = p }))
    → Does c d (carry q (page c.shown q) (slice_set bytes at byte)) result → DoesAfter looked a d (write (resource.Byte (record { 0 = p })) (Bytes (record { 0 = q }) at) (byte ∷ [])) result
byte_written a b c d p q at byte bytes looked result images lt file eq ea inside before l t put =
    let r = resource.Byte (record { 0 = p }) in
    let cell = Bytes (record { 0 = q }) at in
    does_write_after_look r q cell (byte ∷ []) before
    (does_after (λ _. write r cell (byte ∷ [])) (does_more looked l.look)
    (does_further _ (does_write r cell (byte ∷ []) (does_after _ (does_more looked t.take)
    (does_further _ (does_put q (page c.shown q) (slice_set bytes at byte) cell (byte ∷ []) (λ told. before (early r q bytes l t told))
    (λ told. ap (λ (page : List ℕ). slice_set c.view.now q page)
    (subst (λ shown. carried shown (slice_set bytes at byte) (page c.view.now q) ≡ with_bytes (page c.view.now q) at (byte ∷ [])) (still_shown r q bytes l t told)
    (carried_byte bytes (page c.view.now q) at byte inside
    (byte_shown a p q at bytes images lt file eq ea l.low l.guarded (early r q bytes l t told) ∙ ap (λ m. slice_index m at) (still_seen r q bytes l t)))))
    (does_more looked put)))))))

-- the words of writing a PFS byte name its place
pub as_pfs : (a d : PlanState) (p q at byte : ℕ) (looked : List ℕ) (result : Result (Unit {0}) PageStop)
    → q ≡ (pfs_place a.view.shape.geometry p).page → at ≡ (pfs_place a.view.shape.geometry p).at
    → DoesAfter looked a d (write (resource.Byte (record { 0 = p })) (Bytes (record { 0 = q }) at) (byte ∷ [])) result → DoesAfter looked a d (put_pfs a.view.shape p byte) result
as_pfs a d p q at byte looked result eq ea h =
    subst (λ k. DoesAfter looked a d (write (resource.Byte (record { 0 = p })) (Bytes (record { 0 = k }) (pfs_place a.view.shape.geometry p).at) (byte ∷ [])) result) eq
    (subst (λ k. DoesAfter looked a d (write (resource.Byte (record { 0 = p })) (Bytes (record { 0 = q }) k) (byte ∷ [])) result) ea h)

-- a stop of the look, or of the take, ends the write
pub write_unlooked : (a b : PlanState) (r : Resource) (q : ℕ) (cell : Cell) (bytes looked : List ℕ) {stop : PageStop} (result : Result (Unit {0}) PageStop) → (IsTrue a.told → Contains looked q)
    → Does a b (look r q) (Err stop) → IsErrAnd result (λ s. s ≡ stop) → DoesAfter looked a b (write r cell bytes) result
write_unlooked a b r q cell bytes looked result before d h = does_write_after_look r q cell bytes before (does_exit (λ _. write r cell bytes) (does_more looked d) h)

pub write_untaken : (b c : PlanState) (r : Resource) (cell : Cell) (bytes looked : List ℕ) {stop : PageStop} (result : Result (Unit {0}) PageStop)
    → Does b c (take r) (Err stop) → IsErrAnd result (λ s. s ≡ stop) → DoesAfter looked b c (write r cell bytes) result
write_untaken b c r cell bytes looked result d h = does_write r cell bytes (does_exit _ (does_more looked d) h)

pub write_looked : (a b c : PlanState) (r : Resource) (q : ℕ) (cell : Cell) (bytes looked : List ℕ) {x : List ℕ} (result : Result (Unit {0}) PageStop) → (IsTrue a.told → Contains looked q)
    → Does a b (look r q) (Ok x) → DoesAfter looked b c (write r cell bytes) result → DoesAfter looked a c (write r cell bytes) result
write_looked a b c r q cell bytes looked result before d w = does_write_after_look r q cell bytes before (does_after (λ _. write r cell bytes) (does_more looked d) (does_further _ w))

-- what may be put of a page that was taken
pub page_may_be_put : (b c : PlanState) (p : ℕ) (after : List ℕ) → p < b.view.shape.pages → is_ordinary b.view.shape.geometry p ≡ true → Takes b c (resource.Page (record { 0 = p }))
    → IsTrue c.told → DifferOnPage c.view.taken c.view.shape p (page c.shown p) after
page_may_be_put b c p after lt ordinary t told =
    let r = resource.Page (record { 0 = p }) in
    subst (λ s. DifferOnPage c.view.taken s p (page c.shown p) after) (sym (shape_kept r t)) (page_differs b.view.shape p c.view.taken (page c.shown p) after lt ordinary (mine r t))

-- a page that was taken is shown as it is seen
taken_shown : (b c : PlanState) (p : ℕ) → p < b.view.shape.pages → is_ordinary b.view.shape.geometry p ≡ true → AreImages c → Takes b c (resource.Page (record { 0 = p })) → page c.shown p ≡ page c.view.now p
taken_shown b c p lt ordinary images t =
    let r = resource.Page (record { 0 = p }) in
    let lt' = subst (λ (s : FileShape). p < s.pages) (sym (shape_kept r t)) lt in
    let ordinary' = subst (λ (s : FileShape). is_ordinary s.geometry p ≡ true) (sym (shape_kept r t)) ordinary in
    told_page c.view.shape p (page c.shown p) (page c.view.now p) lt' ordinary' (images.shown.bytes p) (images.now.bytes p)
    (seen_long c.view.shape c.shown p images.shown lt') (seen_long c.view.shape c.view.now p images.now lt') (images.taken r (mine r t) p)

-- an ordinary page was taken and put
pub page_written : (b c d : PlanState) (p : ℕ) (after looked : List ℕ) (result : Result (Unit {0}) PageStop) → (IsTrue c.told → AreImages c)
    → p < b.view.shape.pages → is_ordinary b.view.shape.geometry p ≡ true → length after ≡ page_size → (IsTrue b.told → Contains looked p)
    → Takes b c (resource.Page (record { 0 = p })) → Does c d (carry p (page c.shown p) after) result → DoesAfter looked b d (put_page p after) result
page_written b c d p after looked result images lt ordinary long before t put =
    let r = resource.Page (record { 0 = p }) in
    let cell = Bytes (record { 0 = p }) 0 in
    does_write r cell after (does_after _ (does_more looked t.take)
    (does_further _ (does_put p (page c.shown p) after cell after (λ told. before (subst IsTrue t.take.stays.told told))
    (λ told.
    let now = (images told).now in
    let lt' = subst (λ (s : FileShape). p < s.pages) (sym (shape_kept r t)) lt in
    ap (λ (page : List ℕ). slice_set c.view.now p page)
    (ap (λ (shown : List ℕ). carried shown after (page c.view.now p)) (taken_shown b c p lt ordinary (images told) t)
    ∙ carried_page (page c.view.now p) after (long ∙ sym (seen_long c.view.shape c.view.now p now lt'))))
    (does_more looked put))))

-- ---- a bit of an extent

pub bit_may_be_put : (a b c : PlanState) (q n v : ℕ) (r : Resource) (bytes : List ℕ) → n < BIT_COUNT → bit_guard a.view.shape.geometry a.view.shape.pages q n ≡ Some r
    → LooksAt a b r q bytes → Takes b c r → IsTrue c.told → DifferOnPage c.view.taken c.view.shape q (page c.shown q) (with_map_bit bytes n v)
bit_may_be_put a b c q n v r bytes lt guard l t told =
    let here = bit_differs a.view.shape q n v r c.view.taken bytes guard (mine r t) (subst (λ k. byte_of n < k) (sym l.long) (bit_inside n lt)) in
    subst (λ s. DifferOnPage c.view.taken s q (page c.shown q) (with_map_bit bytes n v)) (sym (shape_kept r t ∙ ap (λ (v : View). v.shape) l.view))
    (subst (λ s. DifferOnPage c.view.taken a.view.shape q s (with_map_bit bytes n v)) (still_shown r q bytes l t told) here)

pub bit_written : (a b c d : PlanState) (q n v : ℕ) (r : Resource) (bytes looked : List ℕ) (result : Result (Unit {0}) PageStop) → n < BIT_COUNT
    → bit_guard a.view.shape.geometry a.view.shape.pages q n ≡ Some r → (IsTrue a.told → Contains looked q) → LooksAt a b r q bytes → Takes b c r
    → Does c d (carry q (page c.shown q) (with_map_bit bytes n v)) result → DoesAfter looked a d (write r (Bit (record { 0 = q }) n) (v ∷ [])) result
bit_written a b c d q n v r bytes looked result lt guard before l t put =
    let cell = Bit (record { 0 = q }) n in
    write_looked a b d r q cell (v ∷ []) looked result before l.look
    (does_write r cell (v ∷ [])
    (does_after _ (does_more looked t.take)
    (does_further _
    (does_put q (page c.shown q) (with_map_bit bytes n v) cell (v ∷ []) (λ told. before (early r q bytes l t told))
    (λ told. ap (λ (page : List ℕ). slice_set c.view.now q page)
    (subst (λ shown. carried shown (with_map_bit bytes n v) (page c.view.now q) ≡ with_map_bit (page c.view.now q) n v) (still_shown r q bytes l t told)
    (carried_bit bytes (page c.view.now q) n v (subst (λ k. byte_of n < k) (sym l.long) (bit_inside n lt))
    (told_bit a.view.shape q n r bytes (page a.view.now q) lt guard (l.guarded (early r q bytes l t told)) ∙ ap (λ m. bit_at (slice_index m (byte_of n)) (n % 8)) (still_seen r q bytes l t)))))
    (does_more looked put)))))

-- the words of writing a bit name its place
pub as_place : (a d : PlanState) (r : Resource) (q at v : ℕ) (place : Place) (looked : List ℕ) (result : Result (Unit {0}) PageStop) → q ≡ place.page → at ≡ place.at
    → DoesAfter looked a d (write r (Bit (record { 0 = q }) at) (v ∷ [])) result → DoesAfter looked a d (write r (Bit (record { 0 = place.page }) place.at) (v ∷ [])) result
as_place a d r q at v place looked result eq ea h =
    subst (λ k. DoesAfter looked a d (write r (Bit (record { 0 = k }) place.at) (v ∷ [])) result) eq
    (subst (λ k. DoesAfter looked a d (write r (Bit (record { 0 = q }) k) (v ∷ [])) result) ea h)
