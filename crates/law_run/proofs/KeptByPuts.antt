-- What puts keep of an image, a log's items keep, whatever is applied or taken back of them.
use Rattle.std.proofs.Common.{◌≡◌, ℕ, ◌+◌, Bool, true, false, eqb, List, [], ◌∷◌, ◌++◌, length, Option, Some, None}
use Rattle.std.specs.Prelude.{if◌then◌else◌, IfSome}
use Rattle.std.proofs.lemmas.Bool.{cond_both}
use Rattle.spec_file.specs.Image.{Image}
use Rattle.spec_log.specs.declared.item.Cell.{Cell}
use Rattle.spec_log.specs.declared.item.Record.{Record}
use Rattle.spec_log.specs.declared.item.Record.TheVariants.{Start, Change, Undo, Commit, Abort, Snap, Failed, CheckEnd}
use Rattle.spec_log.specs.Items.{tran_of}
use Rattle.spec_log.specs.Log.{item_at, has_committed, is_unfinished}
use Rattle.spec_log.specs.Cells.{put}
use Rattle.spec_log.specs.Images.{put_before, put_after, apply, take_back, applied, changed, taken_back, start_image, committed_image, view_of, final_image}

-- both puts of a change are such
abbrev pub Puts : (Cell → List ℕ → Type 0) → Record → Type 0
Puts Fits (Change tran cell before after) = Fits cell before × Fits cell after
Puts Fits other = Unit {0}

abbrev pub AllPuts : (Cell → List ℕ → Type 0) → List Record → Type 0
AllPuts Fits [] = Unit {0}
AllPuts Fits (x ∷ log) = Puts Fits x × AllPuts Fits log

module _ (Holds : Image → Type 0) (Fits : Cell → List ℕ → Type 0) (keep : (image : Image) (cell : Cell) (bytes : List ℕ) → Holds image → Fits cell bytes → Holds (put image cell bytes)) where
  named_keeps : (log : List Record) (n : ℕ) → AllPuts Fits log → IfSome (item_at log n) (Puts Fits)
  named_keeps [] n all = tt
  named_keeps (x ∷ log) n all =
      cond_both (eqb n (length log + 1)) (Some x) (item_at log n) (λ o. IfSome o (Puts Fits)) (λ e. all.0) (λ e. named_keeps log n all.1)

  before_keeps : (o : Option Record) (image : Image) → IfSome o (Puts Fits) → Holds image → Holds (put_before o image)
  before_keeps None image puts low = low
  before_keeps (Some (Change tran cell before after)) image puts low = keep image cell before low puts.0
  before_keeps (Some (Start session index tran number changes size takes)) image puts low = low
  before_keeps (Some (Undo tran change)) image puts low = low
  before_keeps (Some (Commit tran)) image puts low = low
  before_keeps (Some (Abort tran)) image puts low = low
  before_keeps (Some (Snap session index)) image puts low = low
  before_keeps (Some (Failed session index page)) image puts low = low
  before_keeps (Some (CheckEnd session index outcome)) image puts low = low

  after_keeps : (o : Option Record) (image : Image) → IfSome o (Puts Fits) → Holds image → Holds (put_after o image)
  after_keeps None image puts low = low
  after_keeps (Some (Change tran cell before after)) image puts low = keep image cell after low puts.1
  after_keeps (Some (Start session index tran number changes size takes)) image puts low = low
  after_keeps (Some (Undo tran change)) image puts low = low
  after_keeps (Some (Commit tran)) image puts low = low
  after_keeps (Some (Abort tran)) image puts low = low
  after_keeps (Some (Snap session index)) image puts low = low
  after_keeps (Some (Failed session index page)) image puts low = low
  after_keeps (Some (CheckEnd session index outcome)) image puts low = low

  apply_keeps : (older : List Record) (x : Record) (image : Image) → AllPuts Fits older → Puts Fits x → Holds image → Holds (apply older x image)
  apply_keeps older (Change tran cell before after) image all puts low = keep image cell after low puts.1
  apply_keeps older (Undo tran change) image all puts low = before_keeps (item_at older change.0) image (named_keeps older change.0 all) low
  apply_keeps older (Start session index tran number changes size takes) image all puts low = low
  apply_keeps older (Commit tran) image all puts low = low
  apply_keeps older (Abort tran) image all puts low = low
  apply_keeps older (Snap session index) image all puts low = low
  apply_keeps older (Failed session index page) image all puts low = low
  apply_keeps older (CheckEnd session index outcome) image all puts low = low

  pub back_keeps : (older : List Record) (x : Record) (image : Image) → AllPuts Fits older → Puts Fits x → Holds image → Holds (take_back older x image)
  back_keeps older (Change tran cell before after) image all puts low = keep image cell before low puts.0
  back_keeps older (Undo tran change) image all puts low = after_keeps (item_at older change.0) image (named_keeps older change.0 all) low
  back_keeps older (Start session index tran number changes size takes) image all puts low = low
  back_keeps older (Commit tran) image all puts low = low
  back_keeps older (Abort tran) image all puts low = low
  back_keeps older (Snap session index) image all puts low = low
  back_keeps older (Failed session index page) image all puts low = low
  back_keeps older (CheckEnd session index outcome) image all puts low = low

  applied_keeps : (chosen : ℕ → Bool) (opened log : List Record) (b : Image) → AllPuts Fits (log ++ opened) → Holds b → Holds (applied chosen opened log b)
  applied_keeps chosen opened [] b all low = low
  applied_keeps chosen opened (x ∷ log) b all low =
      cond_both (chosen (tran_of x)) (apply (log ++ opened) x (applied chosen opened log b)) (applied chosen opened log b) Holds
      (λ e. apply_keeps (log ++ opened) x (applied chosen opened log b) all.1 all.0 (applied_keeps chosen opened log b all.1 low))
      (λ e. applied_keeps chosen opened log b all.1 low)

  changed_keeps : (chosen : ℕ → Bool) (opened log : List Record) (b : Image) → AllPuts Fits (log ++ opened) → Holds b → Holds (changed chosen log b)
  changed_keeps chosen opened [] b all low = low
  changed_keeps chosen opened (Change tran cell before after ∷ log) b all low =
      cond_both (chosen tran.0) (put (changed chosen log b) cell after) (changed chosen log b) Holds
      (λ e. keep (changed chosen log b) cell after (changed_keeps chosen opened log b all.1 low) all.0.1)
      (λ e. changed_keeps chosen opened log b all.1 low)
  changed_keeps chosen opened (Start session index tran number changes size takes ∷ log) b all low = changed_keeps chosen opened log b all.1 low
  changed_keeps chosen opened (Undo tran change ∷ log) b all low = changed_keeps chosen opened log b all.1 low
  changed_keeps chosen opened (Commit tran ∷ log) b all low = changed_keeps chosen opened log b all.1 low
  changed_keeps chosen opened (Abort tran ∷ log) b all low = changed_keeps chosen opened log b all.1 low
  changed_keeps chosen opened (Snap session index ∷ log) b all low = changed_keeps chosen opened log b all.1 low
  changed_keeps chosen opened (Failed session index page ∷ log) b all low = changed_keeps chosen opened log b all.1 low
  changed_keeps chosen opened (CheckEnd session index outcome ∷ log) b all low = changed_keeps chosen opened log b all.1 low

  taken_keeps : (chosen : ℕ → Bool) (log : List Record) (b : Image) → AllPuts Fits log → Holds b → Holds (taken_back chosen log b)
  taken_keeps chosen [] b all low = low
  taken_keeps chosen (x ∷ log) b all low =
      taken_keeps chosen log (if chosen (tran_of x) then take_back log x b else b) all.1
      (cond_both (chosen (tran_of x)) (take_back log x b) b Holds (λ e. back_keeps log x b all.1 all.0 low) (λ e. low))

  older_keeps : (log opened : List Record) → AllPuts Fits (log ++ opened) → AllPuts Fits opened
  older_keeps [] opened all = all
  older_keeps (x ∷ log) opened all = older_keeps log opened all.1

  -- the file as it stands
  pub final_keeps : (opened log : List Record) (b : Image) → AllPuts Fits (log ++ opened) → Holds b → Holds (final_image opened log b)
  final_keeps opened log b items pages = applied_keeps (λ u. true) opened log b items pages

  -- what a transaction sees
  pub view_keeps : (opened log : List Record) (b : Image) (t : ℕ) → AllPuts Fits (log ++ opened) → Holds b → Holds (view_of t opened log b)
  view_keeps opened log b t items pages =
      applied_keeps (λ u. eqb u t) opened log (committed_image opened log b) items
      (changed_keeps (has_committed log) opened log (start_image opened b) items
      (taken_keeps (is_unfinished opened) opened b (older_keeps log opened items) pages))
