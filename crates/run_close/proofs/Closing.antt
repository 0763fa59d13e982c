-- When the close of a run may be written.
use Rattle.std.specs.Prelude.{◌≡◌, ℕ, ◌*◌, ◌^◌, ◌≤◌, List, [], ◌∷◌, ◌++◌, length, reverse, Option, Some, None, IfSome, refl}
use Rattle.std.proofs.Common.{sym, ap, subst, ◌∙◌, length-set}
use Rattle.std.proofs.lemmas.Option.{same_Some}
use Rattle.spec_file.specs.Image.{Image, page_size, pages_of}
use Rattle.spec_log.specs.declared.item.Cell.{Cell}
use Rattle.spec_log.specs.declared.item.Cell.TheVariants.{Bytes, Bit}
use Rattle.spec_log.specs.declared.item.Record.{Record}
use Rattle.spec_log.specs.declared.item.Record.TheVariants.{Start, Change, Undo, Commit, Abort, Snap, Failed, CheckEnd}
use Rattle.spec_log.specs.Cells.{put}
use Rattle.spec_log.specs.Images.{put_before, apply, final_image}
use Rattle.spec_log.specs.Log.{item_at}
use Rattle.run_close.specs.declared.close.Close.{Close}
use Rattle.vol_pool.specs.Writing.{SameUnmarked}
use Rattle.run_close.specs.Close.{IsCloseOf, MayClose}

-- the bytes of a file are those of an image
abbrev pub IsFileOf : Image → List ℕ → Type 0
IsFileOf image bytes = (length bytes ≡ page_size * length image) × (image ≡ pages_of bytes)

length_put : (image : Image) (cell : Cell) (bytes : List ℕ) → length (put image cell bytes) ≡ length image
length_put image (Bytes p off) bytes = length-set image p.0 _
length_put image (Bit p n) bytes = length-set image p.0 _

length_before : (x : Option Record) (image : Image) → length (put_before x image) ≡ length image
length_before None image = refl
length_before (Some (Change tran cell before after)) image = length_put image cell before
length_before (Some (Start session index tran number changes size takes)) image = refl
length_before (Some (Undo tran change)) image = refl
length_before (Some (Commit tran)) image = refl
length_before (Some (Abort tran)) image = refl
length_before (Some (Snap session index)) image = refl
length_before (Some (Failed session index page)) image = refl
length_before (Some (CheckEnd session index outcome)) image = refl

length_applied : (older : List Record) (x : Record) (image : Image) → length (apply older x image) ≡ length image
length_applied older (Change tran cell before after) image = length_put image cell after
length_applied older (Undo tran change) image = length_before (item_at older change.0) image
length_applied older (Start session index tran number changes size takes) image = refl
length_applied older (Commit tran) image = refl
length_applied older (Abort tran) image = refl
length_applied older (Snap session index) image = refl
length_applied older (Failed session index page) image = refl
length_applied older (CheckEnd session index outcome) image = refl

-- a log changes no number of pages
pub length_final : (log : List Record) (image : Image) → length (final_image [] log image) ≡ length image
length_final [] image = refl
length_final (x ∷ older) image = length_applied (older ++ []) x (final_image [] older image) ∙ length_final older image

-- after a run over a file whose pages were those of an image, its close may be written
pub may_close : (items log : List Record) (image : Image) (close : Close) (told : Option (List ℕ)) → reverse log ≡ items
    → IsCloseOf items (length image) close → length image ≤ 2 ^ 32 → IfSome told (IsFileOf image)
    → MayClose close (final_image [] log image) told
may_close items log image close None is of few file = record {
  count = of.count ∙ sym (length_final log image);
  few = subst (λ n. n ≤ 2 ^ 32) (sym (length_final log image)) few;
  size = λ bytes told_is. cc;
  same = tt;
}
may_close items log image close (Some bytes) is of few file = record {
  count = of.count ∙ sym (length_final log image);
  few = subst (λ n. n ≤ 2 ^ 32) (sym (length_final log image)) few;
  size = λ b told_is. ap length (sym (same_Some bytes b told_is)) ∙ file.0 ∙ ap (λ n. page_size * n) (sym (length_final log image));
  same = subst (SameUnmarked close.changed.items (final_image [] log image)) file.1 (of.stay image log is (length_final log image));
}
