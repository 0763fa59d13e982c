-- The record of a planned statement may come, and what the core keeps of the session behind it.
use Rattle.std.proofs.Common.{◌≡◌, ℕ, ◌+◌, ◌<◌, Bool, true, false, eqb, not, List, [], ◌∷◌, ◌++◌, length, Some, ◌⊎◌, inl, inr, refl, sym, ap, ◌∙◌, subst, arith}
use Rattle.std.specs.Prelude.{if◌then◌else◌}
use Rattle.std.proofs.lemmas.Bool.{eq-eqb, ne_eqb, eqb-true, eqb-false, lt-ltb, or_left, cases_Bool}
use Rattle.spec_file.specs.Image.{Image}
use Rattle.spec_file.specs.declared.data.Resource.{Resource}
use Rattle.spec_log.specs.declared.item.Record.{Record}
use Rattle.spec_log.specs.declared.item.Record.TheVariants.{Start, Change, Undo, Commit, Abort, Snap, Failed, CheckEnd}
use Rattle.spec_log.specs.Log.{has_started, is_unfinished, greatest_of}
use Rattle.spec_log.specs.Limits.{changes_of, all_changes, all_bytes, passes_limit}
use Rattle.spec_log.specs.Images.{apply}
use Rattle.spec_script.specs.declared.reply.Reply.{Reply}
use Rattle.spec_script.specs.declared.reply.Reply.TheVariants.{Refused}
use Rattle.spec_script.specs.declared.statement.Statement.{Statement}
use Rattle.spec_plan.specs.declared.plan.Planned.{Planned}
use Rattle.spec_plan.specs.Planned.{planned_size}
use Rattle.spec_script.specs.Refusals.{plain_refusal}
use Rattle.spec_run.specs.Shapes.{Writing as WritingShape, plain_start, tran_to_write}
use Rattle.spec_run.specs.Begun.{Setting, Answers, Begun, with_memory, begun_by}
use Rattle.spec_run.specs.Progress.{is_short, work_of, MayCome}
use Rattle.spec_run.specs.Sessions.{open_after}
use Rattle.law_undo.proofs.Holders.{unfinished_from}
use Rattle.law_undo.proofs.Views.{sound_rules}
use Rattle.law_run.proofs.Fresh.{not_started_above, not_ended_above}
use Rattle.law_run.specs.Doing.{change_items}
use Rattle.law_run.proofs.Legal.{legal_right, doing_opens}
use Rattle.db_core.specs.declared.session.Session.{Session}
use Rattle.db_core.specs.declared.starts.StatementNo.{StatementNo}
use Rattle.db_core.specs.States.{whole_log, IsAt, IsOpen, IsSession, GoesOnWith}
use Rattle.db_plan.specs.Limits.{exceeds}
use Rattle.db_core.specs.Plans.{used_now, IsWriting, Writes, announced_by, bytes_by}
use Rattle.db_core.specs.Words.{IsEnded}
use Rattle.db_core.proofs.Opens.{none_used, open_start, open_fresh}
use Rattle.db_core.proofs.Records.{IsBegun, begun_comes, want_comes, begun_ends, begun_goes, begun_short}
use Rattle.db_core.proofs.Stepped.{at_changing, some_changes, some_commit}
use Rattle.db_core.proofs.Words.{kept_opens}

-- a record that may come, the session behind it, and the pages, which stay
pub record HasBegun (run : Setting) (log : List Record) (s : ℕ) (new : Session) (pages : Image) (x : Record) : Type 0 where
  pub comes : MayCome (work_of run s log) x
  pub mine : IsSession run (x ∷ log) s new
  pub still : pages ≡ apply (whole_log run log) x pages

-- a statement that ends with its Start
pub ended_step : (run : Setting) (log : List Record) (s number : ℕ) (place : StatementNo) (reply : Reply) (old new : Session) (st : Statement) (b : Begun) (pages : Image) (x : Record) → IsBegun run log s old st b →
    place.session ≡ s → place.index ≡ length old.replies.items + 1 → eqb number 701 ≡ false →
    b.items ≡ plain_start s (length old.replies.items + 1) old.tran number ∷ [] → b.telling ≡ Answers reply → IsEnded place number reply old new x → HasBegun run log s new pages x
ended_step run log s number place reply old new st b pages x h ps pi whole items telling r =
    let y = plain_start s (length old.replies.items + 1) old.tran number in
    let item : x ≡ y = r.item ∙ ap (λ m. plain_start m place.index old.tran number) ps ∙ ap (λ m. plain_start s m old.tran number) pi in
    let opens = subst (λ m. (new.tran ≡ 0) ⊎ IsOpen (m ∷ whole_log run log) new.tran new.left.items new.held.items new.used) (sym r.item ∙ item)
    (kept_opens run log s number place old new h.start h.legal h.mine r.kept r.left) in
    subst (HasBegun run log s new pages) (sym item) (record {
      comes = begun_comes run log s old st b y [] h items;
      mine = begun_ends run log s old new st b y reply h items whole telling r.kept.script r.replies r.kept.tran r.doing opens;
      still = refl;
    })

-- want of memory at its Start
pub short_step : (run : Setting) (log : List Record) (s : ℕ) (place : StatementNo) (old new : Session) (st : Statement) (b : Begun) (pages : Image) (x : Record) → IsBegun run log s old st b →
    place.session ≡ s → place.index ≡ length old.replies.items + 1 → b.want ≡ Some (plain_start s (length old.replies.items + 1) old.tran 701) →
    IsEnded place 701 (Refused (plain_refusal 701)) old new x → HasBegun run log s new pages x
short_step run log s place old new st b pages x h ps pi want r =
    let y = plain_start s (length old.replies.items + 1) old.tran 701 in
    let item : x ≡ y = r.item ∙ ap (λ m. plain_start m place.index old.tran 701) ps ∙ ap (λ m. plain_start s m old.tran 701) pi in
    let opens = subst (λ m. (new.tran ≡ 0) ⊎ IsOpen (m ∷ whole_log run log) new.tran new.left.items new.held.items new.used) (sym r.item ∙ item)
    (kept_opens run log s 701 place old new h.start h.legal h.mine r.kept r.left) in
    subst (HasBegun run log s new pages) (sym item) (record {
      comes = want_comes run log s old st b y h want;
      mine = begun_short run log s old new st b y h want refl r.kept.script r.replies r.kept.tran r.doing opens;
      still = refl;
    })

-- the Start of changes, which come next
going_on : (run : Setting) (log : List Record) (s u : ℕ) (reply : Reply) (takes : List Resource) (old new : Session) (st : Statement) (b : Begun) (y : Record) (changes : List Planned) (own : Bool) → IsBegun run log s old st b →
    y ≡ Start s (length old.replies.items + 1) (record { 0 = u }) 0 (length changes) (planned_size changes) takes → b.items ≡ y ∷ change_items u changes own → b.telling ≡ Answers reply →
    new.script.items ≡ old.script.items → new.tran ≡ u → IsOpen (y ∷ whole_log run log) u new.left.items new.held.items new.used → GoesOnWith changes own reply old new →
    IsSession run (y ∷ log) s new
going_on run log s u reply takes old new st b y [] true h is items telling script tran opens goes =
    begun_goes run log s old new st b y (change_items u [] true) h items (some_commit u) (ap is_short is) script goes.1 (tran ∙ sym (ap (open_after old.tran) is))
    (λ p due tell. subst (IsAt run (y ∷ log) s (length old.replies.items + 1) new.tran p) (sym goes.0)
    (due ∙ ap (λ v. change_items v [] true) (sym tran), tell ∙ telling))
    (inr (subst (λ v. IsOpen (y ∷ whole_log run log) v new.left.items new.held.items new.used) (sym tran) opens))
going_on run log s u reply takes old new st b y [] false h is items telling script tran opens goes =
    begun_ends run log s old new st b y reply h items (ap is_short is) telling script goes.1 (tran ∙ sym (ap (open_after old.tran) is)) goes.0
    (inr (subst (λ v. IsOpen (y ∷ whole_log run log) v new.left.items new.held.items new.used) (sym tran) opens))
going_on run log s u reply takes old new st b y (c ∷ cs) own h is items telling script tran opens goes =
    begun_goes run log s old new st b y (change_items u (c ∷ cs) own) h items (some_changes u c cs own) (ap is_short is) script goes.1 (tran ∙ sym (ap (open_after old.tran) is))
    (λ p due tell. at_changing run (y ∷ log) s (length old.replies.items + 1) new.tran p (c ∷ cs) own reply new.doing goes.0
    (due ∙ ap (λ v. change_items v (c ∷ cs) own) (sym tran)) (tell ∙ telling))
    (inr (subst (λ v. IsOpen (y ∷ whole_log run log) v new.left.items new.held.items new.used) (sym tran) opens))

-- the transaction that is greater than all is unfinished behind its first Start
fresh_unfinished : (g : List Record) (s i u number changes size : ℕ) (takes : List Resource) → greatest_of g < u → is_unfinished (Start s i (record { 0 = u }) number changes size takes ∷ g) u ≡ true
fresh_unfinished g s i u number changes size takes above =
    unfinished_from (Start s i (record { 0 = u }) number changes size takes ∷ g) u (record {
      above = lt-ltb 0 u (omega (arith, above));
      started = or_left (eqb u u) (has_started g u) (eq-eqb u u refl);
      not_ended = ap not (not_ended_above g u above);
    })

-- what a writing statement appends
abbrev pub writing_of : ℕ → ℕ → ℕ → ℕ → Reply → List Resource → List Planned → Bool → Begun
writing_of s i t u reply takes changes own = begun_by s i t (with_memory (WritingShape u takes changes own) reply)

own_step : (run : Setting) (log : List Record) (s last : ℕ) (place : StatementNo) (reply : Reply) (takes : List Resource) (changes : List Planned) (old new : Session) (st : Statement) (b : Begun) (pages : Image) (x : Record) →
    IsBegun run log s old st b → place.session ≡ s → place.index ≡ length old.replies.items + 1 → last ≡ greatest_of (whole_log run log) →
    b ≡ writing_of s (length old.replies.items + 1) old.tran (greatest_of (whole_log run log) + 1) reply takes changes true →
    IsWriting place (last + 1) reply takes changes [] [] 0 true old new x → HasBegun run log s new pages x
own_step run log s last place reply takes changes old new st b pages x h ps pi last_is is_b r =
    let g = whole_log run log in
    let u = greatest_of g + 1 in
    let n = length changes in
    let size = planned_size changes in
    let y = Start s (length old.replies.items + 1) (record { 0 = u }) 0 n size takes in
    let item : x ≡ y = r.item ∙ ap (λ m. Start m place.index (record { 0 = last + 1 }) 0 n size takes) ps ∙ ap (λ m. Start s m (record { 0 = last + 1 }) 0 n size takes) pi
    ∙ ap (λ m. Start s (length old.replies.items + 1) (record { 0 = m + 1 }) 0 n size takes) last_is in
    let items : b.items ≡ y ∷ change_items u changes true = ap (λ (c : Begun). c.items) is_b in
    let right = legal_right run log h.start h.legal in
    let rules = sound_rules run.geometry (length run.image) run.opened run.image log right.sound in
    let fresh = open_fresh run.geometry (length run.image) g u s (length old.replies.items + 1) 0 n size takes rules (omega arith)
    (fresh_unfinished g s (length old.replies.items + 1) u 0 n size takes (omega arith)) in
    subst (HasBegun run log s new pages) (sym item) (record {
      comes = begun_comes run log s old st b y (change_items u changes true) h items;
      mine = going_on run log s u reply takes old new st b y changes true h refl items (ap (λ (c : Begun). c.telling) is_b) r.script (r.tran_is ∙ ap (λ m. m + 1) last_is)
          (subst (λ l. IsOpen (y ∷ g) u l new.held.items new.used) (sym r.left_is)
          (subst (λ t. IsOpen (y ∷ g) u [] t new.used) (sym r.held_is) (subst (IsOpen (y ∷ g) u [] takes) (omega arith ∙ sym r.used_is) fresh))) r.goes;
      still = refl;
    })

open_step : (run : Setting) (log : List Record) (s : ℕ) (place : StatementNo) (reply : Reply) (takes : List Resource) (changes : List Planned) (old new : Session) (st : Statement) (b : Begun) (pages : Image) (x : Record) →
    IsBegun run log s old st b → place.session ≡ s → place.index ≡ length old.replies.items + 1 → (old.tran ≡ 0 → ⊥) →
    b ≡ writing_of s (length old.replies.items + 1) old.tran old.tran reply takes changes false →
    IsWriting place old.tran reply takes changes old.left.items old.held.items old.used false old new x → HasBegun run log s new pages x
open_step run log s place reply takes changes old new st b pages x h ps pi some is_b r =
    let g = whole_log run log in
    let u = old.tran in
    let n = length changes in
    let size = planned_size changes in
    let y = Start s (length old.replies.items + 1) (record { 0 = u }) 0 n size takes in
    let item : x ≡ y = r.item ∙ ap (λ m. Start m place.index (record { 0 = u }) 0 n size takes) ps ∙ ap (λ m. Start s m (record { 0 = u }) 0 n size takes) pi in
    let items : b.items ≡ y ∷ change_items u changes false = ap (λ (c : Begun). c.items) is_b in
    let right = legal_right run log h.start h.legal in
    let unfinished : is_unfinished g u ≡ true = elim (doing_opens run log s _ (right.doing s)) [
      | inl none ↦ absurd (some (sym h.mine.tran_is ∙ none))
      | inr owns ↦ subst (λ t. is_unfinished g t ≡ true) h.mine.tran_is owns.unfinished
    ] in
    let before : IsOpen g u old.left.items old.held.items old.used = elim h.mine.opens [ inl none ↦ absurd (some none) | inr o ↦ o ] in
    let more = open_start g u s (length old.replies.items + 1) 0 n size takes old.left.items old.held.items old.used unfinished before in
    subst (HasBegun run log s new pages) (sym item) (record {
      comes = begun_comes run log s old st b y (change_items u changes false) h items;
      mine = going_on run log s u reply takes old new st b y changes false h refl items (ap (λ (c : Begun). c.telling) is_b) r.script r.tran_is
          (subst (λ l. IsOpen (y ∷ g) u l new.held.items new.used) (sym r.left_is)
          (subst (λ t. IsOpen (y ∷ g) u old.left.items t new.used) (sym r.held_is) (subst (IsOpen (y ∷ g) u old.left.items (old.held.items ++ takes)) (sym r.used_is) more))) r.goes;
      still = refl;
    })

-- the transaction that writes, and whose it is
writer_own : (g : List Record) (t : ℕ) → t ≡ 0 → (tran_to_write g t ≡ greatest_of g + 1) × (eqb t 0 ≡ true)
writer_own g t e = let b = eq-eqb t 0 e in (ap (λ c. if c then greatest_of g + 1 else t) b, b)

writer_open : (g : List Record) (t : ℕ) → (t ≡ 0 → ⊥) → (tran_to_write g t ≡ t) × (eqb t 0 ≡ false)
writer_open g t n = let b = ne_eqb t 0 n in (ap (λ c. if c then greatest_of g + 1 else t) b, b)

pub writing_step : (run : Setting) (log : List Record) (s last : ℕ) (place : StatementNo) (reply : Reply) (takes : List Resource) (changes : List Planned) (old new : Session) (st : Statement) (b : Begun) (pages : Image) (x : Record) →
    IsBegun run log s old st b → place.session ≡ s → place.index ≡ length old.replies.items + 1 → last ≡ greatest_of (whole_log run log) →
    b ≡ writing_of s (length old.replies.items + 1) old.tran (tran_to_write (whole_log run log) old.tran) reply takes changes (eqb old.tran 0) →
    Writes last place reply takes changes old new x → HasBegun run log s new pages x
writing_step run log s last place reply takes changes old new st b pages x h ps pi last_is is_b (inl w) =
    let i = length old.replies.items + 1 in
    let own = writer_own (whole_log run log) old.tran w.0 in
    own_step run log s last place reply takes changes old new st b pages x h ps pi last_is
    (is_b ∙ ap (λ u. writing_of s i old.tran u reply takes changes (eqb old.tran 0)) own.0 ∙ ap (writing_of s i old.tran (greatest_of (whole_log run log) + 1) reply takes changes) own.1) w.1
writing_step run log s last place reply takes changes old new st b pages x h ps pi last_is is_b (inr w) =
    let i = length old.replies.items + 1 in
    let open_is = writer_open (whole_log run log) old.tran w.0 in
    open_step run log s place reply takes changes old new st b pages x h ps pi w.0
    (is_b ∙ ap (λ u. writing_of s i old.tran u reply takes changes (eqb old.tran 0)) open_is.0 ∙ ap (writing_of s i old.tran old.tran reply takes changes) open_is.1) w.1

-- what the writing transaction has announced
pub used_is : (run : Setting) (log : List Record) (s : ℕ) (x : Session) → IsSession run log s x → changes_of (tran_to_write (whole_log run log) x.tran) (whole_log run log) ≡ used_now x
used_is run log s x mine =
    let g = whole_log run log in
    elim (cases_Bool (eqb x.tran 0)) [
      | inl e ↦
          let fresh : changes_of (greatest_of g + 1) g ≡ 0 = none_used g (greatest_of g + 1) (not_started_above g (greatest_of g + 1) (omega arith)) in
          ap (λ u. changes_of u g) (writer_own g x.tran (eqb-true x.tran 0 e)).0 ∙ fresh ∙ sym (ap (λ c. if c then 0 else x.used) e)
      | inr e ↦
          let none = eqb-false x.tran 0 e in
          ap (λ u. changes_of u g) (writer_open g x.tran none).0
          ∙ elim mine.opens [ inl is ↦ absurd (none is) | inr o ↦ o.used_is ]
          ∙ sym (ap (λ c. if c then 0 else x.used) e)
    ]

-- the limits by the sums that the core keeps
pub passes_is : (g : List Record) (u used all size n bytes : ℕ) → changes_of u g ≡ used → all ≡ all_changes g → size ≡ all_bytes g → passes_limit g u n bytes ≡ exceeds used all size n bytes
passes_is g u used all size n bytes eu ea es =
    ap (λ m. exceeds m (all_changes g) (all_bytes g) n bytes) eu ∙ ap (λ m. exceeds used m (all_bytes g) n bytes) (sym ea) ∙ ap (λ m. exceeds used all m n bytes) (sym es)

-- the sums behind an item
pub all_more : (x : Record) (g : List Record) → all_changes (x ∷ g) ≡ announced_by x + all_changes g
all_more (Start session index tran number changes size takes) g = omega arith
all_more (Change tran cell before after) g = omega arith
all_more (Undo tran change) g = omega arith
all_more (Commit tran) g = omega arith
all_more (Abort tran) g = omega arith
all_more (Snap session index) g = omega arith
all_more (Failed session index page) g = omega arith
all_more (CheckEnd session index outcome) g = omega arith

pub bytes_more : (x : Record) (g : List Record) → all_bytes (x ∷ g) ≡ bytes_by x + all_bytes g
bytes_more (Start session index tran number changes size takes) g = omega arith
bytes_more (Change tran cell before after) g = omega arith
bytes_more (Undo tran change) g = omega arith
bytes_more (Commit tran) g = omega arith
bytes_more (Abort tran) g = omega arith
bytes_more (Snap session index) g = omega arith
bytes_more (Failed session index page) g = omega arith
bytes_more (CheckEnd session index outcome) g = omega arith
