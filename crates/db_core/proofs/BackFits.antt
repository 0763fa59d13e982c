-- What a check takes back fits into its pages.
use Rattle.std.proofs.Common.{◌≡◌, ℕ, ◌+◌, ◌<◌, ◌≤◌, eqb, List, [], ◌∷◌, ◌++◌, length, reverse, take, drop, take-append-drop, Some, refl, sym, ap, ◌∙◌, subst, arith}
use Rattle.std.specs.Prelude.{slice_get}
use Rattle.std.proofs.lemmas.List.{reverse-append, reverse-reverse, length-reverse}
use Rattle.std.proofs.lemmas.Bool.{eqb-true, cond_both}
use Rattle.spec_file.specs.declared.data.Tran.{Tran}
use Rattle.spec_file.specs.declared.geometry.Geometry.{Geometry}
use Rattle.spec_file.specs.Image.{Image}
use Rattle.spec_log.specs.declared.item.Cell.{Cell}
use Rattle.spec_log.specs.declared.item.Record.{Record}
use Rattle.spec_log.specs.declared.item.Record.TheVariants.{Start, Change, Undo, Commit, Abort, Snap, Failed, CheckEnd}
use Rattle.spec_log.specs.Log.{item_at}
use Rattle.spec_log.specs.Images.{page_of_cell}
use Rattle.spec_log.specs.Rules.{KeepsRules, HaveForm}
use Rattle.spec_log.proofs.RulesLaws.{older_rules, older_forms}
use Rattle.law_undo.proofs.ReadLogs.{cell_form}
use Rattle.law_undo.proofs.Views.{sound_rules, sound_forms}
use Rattle.law_run.proofs.Legal.{legal_is_sound}
use Rattle.spec_run.specs.Begun.{Setting}
use Rattle.vol_pool.specs.Cells.{FitsCell}
use Rattle.db_core.specs.declared.session.Check.{Check}
use Rattle.db_core.specs.declared.session.Doing.TheVariants.{Checking}
use Rattle.db_core.specs.declared.session.Session.{Session}
use Rattle.db_core.specs.States.{whole_log, IsState}
use Rattle.db_core.specs.Back.{first_back, MayPutLeft, MayTakeBack, MayGoBack}
use Rattle.db_core.proofs.CheckSteps.{checking_due}
use Rattle.db_core.proofs.Backwards.{up_to}
use Rattle.db_core.proofs.Stepped.{cell_inside, cell_some, cell_fits}

-- bytes as long as those of the newest Change may stand in its cell
change_fits : (g : Geometry) (pages : ℕ) (older : List Record) (tran : Tran) (cell : Cell) (before after bytes : List ℕ) (image : Image) → length image ≡ pages →
    KeepsRules g pages (Change tran cell before after ∷ older) → HaveForm (Change tran cell before after ∷ older) → length bytes ≡ length after → (page_of_cell cell < length image) × FitsCell cell bytes
change_fits g pages older tran cell before after bytes image long rules forms e = (
  subst (λ n. page_of_cell cell < n) (sym long) (cell_inside g pages older tran.0 cell (length after) (cell_some cell before after forms.0) rules.0.1),
  cell_fits cell before after bytes forms.0 e,
)

-- what the newest Change had left fits
put_left_item : (g : Geometry) (pages : ℕ) (older : List Record) (x : Record) (image : Image) → length image ≡ pages → KeepsRules g pages (x ∷ older) → HaveForm (x ∷ older) → MayPutLeft image (Some x)
put_left_item g pages older (Start session index tran number changes size takes) image long rules forms = tt
put_left_item g pages older (Change tran cell before after) image long rules forms = change_fits g pages older tran cell before after after image long rules forms refl
put_left_item g pages older (Undo tran change) image long rules forms = tt
put_left_item g pages older (Commit tran) image long rules forms = tt
put_left_item g pages older (Abort tran) image long rules forms = tt
put_left_item g pages older (Snap session index) image long rules forms = tt
put_left_item g pages older (Failed session index page) image long rules forms = tt
put_left_item g pages older (CheckEnd session index outcome) image long rules forms = tt

-- so does what any Change of the log had left
may_put_left : (g : Geometry) (pages : ℕ) (log : List Record) (n : ℕ) (x : Record) (image : Image) → length image ≡ pages → KeepsRules g pages log → HaveForm log → item_at log n ≡ Some x → MayPutLeft image (Some x)
may_put_left g pages [] n x image long rules forms e = absurd (cc)
may_put_left g pages (y ∷ older) n x image long rules forms e =
    cond_both (eqb n (length older + 1)) (Some y) (item_at older n) (λ o. o ≡ Some x → MayPutLeft image (Some x))
    (λ b h. subst (MayPutLeft image) h (put_left_item g pages older y image long rules forms))
    (λ b h. may_put_left g pages older n x image long rules.1 forms.1 h) e

-- an item that is named stands in the log
named_inside : (log : List Record) (n : ℕ) (x : Record) → item_at log n ≡ Some x → (0 < n) × (n ≤ length log)
named_inside [] n x e = absurd (cc)
named_inside (y ∷ older) n x e =
    cond_both (eqb n (length older + 1)) (Some y) (item_at older n) (λ o. o ≡ Some x → (0 < n) × (n ≤ length (y ∷ older)))
    (λ b h. let same = eqb-true n (length older + 1) b in (omega (arith, same), omega (arith, same)))
    (λ b h. let inside = named_inside older n x h in let low = inside.1 in (inside.0, omega (arith, low))) e

-- the newest item may be taken back
take_back_item : (g : Geometry) (pages : ℕ) (older : List Record) (x : Record) (image : Image) → length image ≡ pages → KeepsRules g pages (x ∷ older) → HaveForm (x ∷ older) → MayTakeBack image older x
take_back_item g pages older (Start session index tran number changes size takes) image long rules forms = tt
take_back_item g pages older (Change tran cell before after) image long rules forms =
    change_fits g pages older tran cell before after before image long rules forms (cell_form cell before after forms.0).as_long
take_back_item g pages older (Undo tran change) image long rules forms =
    let named = rules.0.1.is_named in
    let inside = named_inside older change.0 rules.0.1.change named in
    (inside.0, inside.1, subst (MayPutLeft image) (sym named) (may_put_left g pages older change.0 rules.0.1.change image long rules.1 forms.1 named))
take_back_item g pages older (Commit tran) image long rules forms = tt
take_back_item g pages older (Abort tran) image long rules forms = tt
take_back_item g pages older (Snap session index) image long rules forms = tt
take_back_item g pages older (Failed session index page) image long rules forms = tt
take_back_item g pages older (CheckEnd session index outcome) image long rules forms = tt

-- a check's next step fits into its pages
pub back_fits : (run : Setting) (log : List Record) (pages : Image) (sessions : List Session) (last all size : ℕ) (k : ℕ) (old : Session) (check : Check) →
    IsState run log pages sessions last all size → slice_get sessions k ≡ Some old → old.doing ≡ Checking check → MayGoBack (reverse (whole_log run log)) check
back_fits run log pages sessions last all size k old check state here doing =
    let g = whole_log run log in
    let items = reverse g in
    let snap = (checking_due run log (k + 1) old check (state.each k old here) doing).1 in
    let sound = legal_is_sound run log state.start state.legal in
    let rules = sound_rules run.geometry (length run.image) run.opened run.image log sound in
    let forms = sound_forms run.geometry (length run.image) run.opened run.image log sound in
    let inside = snap.inside in
    let placed = snap.placed in
    let count = length-reverse g in
    record {
      inside = omega (arith, inside, placed, count);
      each = λ n x lt e.
          let whole : g ≡ reverse (drop (n + 1) items) ++ x ∷ first_back items n = sym (reverse-reverse g) ∙ up_to items n x e in
          take_back_item run.geometry (length run.image) (first_back items n) x check.pages snap.long
          (older_rules run.geometry (length run.image) (reverse (drop (n + 1) items)) (x ∷ first_back items n) (subst (KeepsRules run.geometry (length run.image)) whole rules))
          (older_forms (reverse (drop (n + 1) items)) (x ∷ first_back items n) (subst HaveForm whole forms));
    }
