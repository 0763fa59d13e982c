-- What the close of a run wrote, said of its history.
use Rattle.std.proofs.Common.{◌≡◌, ℕ, ◌*◌, ◌^◌, ◌<◌, ◌≤◌, Bool, List, [], length, reverse, Option, Some, None, IfSome, option_map, refl, sym, ap, ◌∙◌, subst, arith}
use Rattle.std.specs.Option.{ForSome}
use Rattle.std.specs.List.{list_any}
use Rattle.std.proofs.lemmas.List.{reverse-reverse}
use Rattle.spec_file.specs.declared.geometry.Geometry.{Geometry}
use Rattle.spec_file.specs.declared.geometry.Geometry.TheVariants.{Standard, Small}
use Rattle.spec_file.specs.Places.{HasShape}
use Rattle.spec_file.specs.Image.{Image, page_size}
use Rattle.spec_file.specs.Image.{bytes_of}
use Rattle.spec_log.specs.declared.item.Record.{Record}
use Rattle.spec_log.specs.Bytes.{log_bytes}
use Rattle.spec_log.specs.Images.{final_image}
use Rattle.spec_script.specs.declared.reply.Reply.{Reply}
use Rattle.spec_script.specs.Replies.{text_of}
use Rattle.spec_run.specs.Begun.{Setting}
use Rattle.spec_run.specs.Turns.{IsLegalRun}
use Rattle.spec_run.specs.Entries.{Entry, items_of}
use Rattle.spec_run.specs.ChangedPages.{changes_page, is_changed}
use Rattle.db_core.proofs.Reports.{any_reverse}
use Rattle.vol_pool.specs.Writing.{Leaves, SameUnmarked, StopsWriting, is_marked, written_bytes}
use Rattle.spec_start.specs.Files.{AreAllPages}
use Rattle.run_close.specs.declared.close.Close.{Close}
use Rattle.run_close.specs.Close.{IsCloseOf, MayClose}
use Rattle.run_close.proofs.Closing.{length_final, may_close}
use Rattle.checkdb_top.specs.declared.status.Status.{Status}
use Rattle.checkdb_top.specs.Runs.{ended_as, replies_to, AreAllAnswered, last_of, StayUnchanged, Closes}
use Rattle.checkdb_top.specs.Writes.{StopsAtPage, Writes, AllWritten, AtSink, AtVolume, AtLog}

-- a told file of whole pages whose pages are all written has the bytes of the image
pub whole_file : (image : Image) (file file_now : Option (List ℕ)) → ForSome file (λ bytes. length bytes ≡ page_size * length image)
    → Leaves (λ before. image) file file_now → file_now ≡ option_map (λ _. bytes_of image) file
whole_file image None None size left = refl
whole_file image None (Some new) size left = let no_ = left.size in cc
whole_file image (Some old) None size left = let no_ = left.size in cc
whole_file image (Some old) (Some new) size left = ap (λ l. Some l) (written_bytes image old new (size old refl) left)

final_size : (run : Setting) (entries : List Entry) → run.opened ≡ [] → length (last_of run entries) ≡ length run.image
final_size run entries opened = ap (λ o. length (final_image o (items_of entries) run.image)) opened ∙ length_final (items_of entries) run.image

marked : (items log : List Record) (pages : ℕ) (close : Close) → reverse log ≡ items → IsCloseOf items pages close → (p : ℕ) → p < pages → is_marked close.changed.items p ≡ is_changed log p
marked items log pages close is of p inside =
    of.marks p inside ∙ ap (list_any (changes_page p)) (sym is) ∙ any_reverse (changes_page p) log

stays : (run : Setting) (entries : List Entry) (items : List Record) (close : Close) → run.opened ≡ [] → reverse (items_of entries) ≡ items
    → IsCloseOf items (length run.image) close → StayUnchanged run entries
stays run entries items close opened is of p inside none =
    let size = final_size run entries opened in
    (subst (λ o. SameUnmarked close.changed.items (final_image o (items_of entries) run.image) run.image) (sym opened)
    (of.stay run.image (items_of entries) is (length_final (items_of entries) run.image))) p (omega (arith, size, inside)) (marked items (items_of entries) (length run.image) close is of p inside ∙ none)

-- what stops at a marked page stops at a changed one
pub stops_at : (marks : List Bool) (image : Image) (old new : Option (List ℕ)) → StopsWriting marks image old new → StopsAtPage (is_marked marks) image old new
stops_at marks image old new h = record { at = h.at; held = h.held; below = h.below; is_one = h.marked; size = h.size; pages = h.left.pages; whole = h.left.size }

-- the marks are those of the changed pages
writes_changed : (added : List ℕ) (one other : ℕ → Bool) (image : Image) (text : List ℕ) (whole : Status) (file file_now log log_now out out_now : Option (List ℕ)) (s : Status)
    → ((p : ℕ) → p < length image → one p ≡ other p) → Writes added one image text whole file file_now log log_now out out_now s
    → Writes added other image text whole file file_now log log_now out out_now s
writes_changed added one other image text whole file file_now log log_now out out_now s same (AllWritten is in_log in_file in_out) = AllWritten is in_log in_file in_out
writes_changed added one other image text whole file file_now log log_now out out_now s same (AtSink is in_log in_file in_out) = AtSink is in_log in_file in_out
writes_changed added one other image text whole file file_now log log_now out out_now s same (AtVolume is in_log in_file in_out) =
    AtVolume is in_log (record { at = in_file.at; held = in_file.held; below = in_file.below; is_one = sym (same in_file.at in_file.below) ∙ in_file.is_one; size = in_file.size; pages = in_file.pages; whole = in_file.whole }) in_out
writes_changed added one other image text whole file file_now log log_now out out_now s same (AtLog is in_log in_file in_out) = AtLog is in_log in_file in_out

pub closed : (run : Setting) (entries : List Entry) (items : List Record) (close : Close) (replies : List (List Reply)) (known : Status)
    (file file_now log log_now out out_now : Option (List ℕ)) (s : Status) → run.opened ≡ [] → reverse (items_of entries) ≡ items
    → IsCloseOf items (length run.image) close → length replies ≡ length run.scripts → IsLegalRun run entries (replies_to replies)
    → AreAllAnswered run (items_of entries)
    → known ≡ ended_as run.scripts replies
    → Writes close.bytes.items (is_marked close.changed.items) (last_of run entries) (text_of replies) known file file_now log log_now out out_now s
    → Closes run entries file file_now log log_now out out_now s
closed run entries items close replies known file file_now log log_now out out_now s opened is of count legal answered knows writes = record {
  replies = replies;
  count = count;
  legal = legal;
  answered = answered;
  stay = stays run entries items close opened is of;
  writes = writes_changed (log_bytes (items_of entries)) (is_marked close.changed.items) (is_changed (items_of entries)) (last_of run entries) (text_of replies) (ended_as run.scripts replies)
      file file_now log log_now out out_now s
      (λ p inside. (let size = final_size run entries opened in marked items (items_of entries) (length run.image) close is of p (omega (arith, size, inside))))
      (subst (λ added. Writes added (is_marked close.changed.items) (last_of run entries) (text_of replies) (ended_as run.scripts replies)
      file file_now log log_now out out_now s) (of.bytes (items_of entries) is)
      (subst (λ whole. Writes close.bytes.items (is_marked close.changed.items) (last_of run entries) (text_of replies) whole file file_now log log_now out out_now s)
      knows writes));
}

pub close_of : (run : Setting) (entries : List Entry) (items : List Record) (close : Close) (pages : ℕ) (frames : Image) → run.opened ≡ []
    → frames ≡ last_of run entries → pages ≡ length frames → IsCloseOf items pages close → IsCloseOf items (length run.image) close
close_of run entries items close pages frames opened is many of =
    subst (λ n. IsCloseOf items n close) (many ∙ ap length is ∙ final_size run entries opened) of

pub items_order : (items log : List Record) → reverse items ≡ log → reverse log ≡ items
items_order items log is = ap reverse (sym is) ∙ reverse-reverse items

few_pages : (g : Geometry) (pages : ℕ) → HasShape g pages → pages ≤ 2 ^ 32
few_pages Standard pages shape = let high = shape.high in omega (arith, high)
few_pages Small pages shape = let high = shape.high in omega (arith, high)

pub may_write : (run : Setting) (entries : List Entry) (items : List Record) (close : Close) (frames : Image) (told : Option (List ℕ)) → run.opened ≡ []
    → frames ≡ last_of run entries → reverse (items_of entries) ≡ items → IsCloseOf items (length run.image) close → HasShape run.geometry (length run.image)
    → IfSome told (AreAllPages run.image) → MayClose close frames told
may_write run entries items close frames told opened is order of shape pages =
    let same : frames ≡ final_image [] (items_of entries) run.image = is ∙ ap (λ o. final_image o (items_of entries) run.image) opened in
    subst (λ i. MayClose close i told) (sym same) (may_close items (items_of entries) run.image close told order of (few_pages run.geometry (length run.image) shape) pages)
