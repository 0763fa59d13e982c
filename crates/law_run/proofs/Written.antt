-- The record of a writing statement, from its plan.
use Rattle.std.proofs.Common.{◌≡◌, ℕ, suc, ◌+◌, ◌<◌, ◌≤◌, All, true, false, eqb, ltb, not, ◌||◌, List, [], ◌∷◌, ◌++◌, length, Option, None, ◌⊎◌, inl, inr, refl, sym, ap, ◌∙◌, subst, arith}
use Rattle.std.specs.List.{list_any}
use Rattle.std.proofs.lemmas.Bool.{false≢true, cases_Bool, and_parts, and_from, or_cases, or_left, or_right, eq-eqb, eqb-true, eqb-false, both_ways, ltb-true, ltb-false, cond_both}
use Rattle.spec_file.specs.declared.data.Resource.{Resource}
use Rattle.spec_log.specs.declared.item.Record.{Record}
use Rattle.spec_log.specs.declared.item.Record.TheVariants.{Start}
use Rattle.spec_log.specs.Items.{has_form, is_same}
use Rattle.spec_log.specs.Log.{takes_it, has_started, has_ended, has_taken, has_undone, is_unfinished, holds, IsFreeFor, greatest_of, holder_of}
use Rattle.spec_log.specs.Limits.{passes_limit, changes_of}
use Rattle.spec_log.specs.Images.{view_of, final_image}
use Rattle.spec_log.specs.Sound.{is_old}
use Rattle.law_undo.proofs.Holders.{unfinished_parts, holds_parts, holds_older}
use Rattle.law_undo.proofs.HolderLaws.{none_other, holders_are_one}
use Rattle.law_undo.proofs.LawAtAtom.{not_true}
use Rattle.law_undo.specs.Laws.{IsOngoing}
use Rattle.law_undo.proofs.Views.{sound_rules}
use Rattle.law_undo.proofs.Shapes.{view_final_shape}
use Rattle.law_net.specs.Plans.{Find, HaveCells, AreCoveredBy}
use Rattle.law_net.specs.NetLaw.{HaveBytes, IsHeldOrTaken}
use Rattle.law_statements.specs.Statements.{IsGoodEnd, HasSameBeginning}
use Rattle.law_net.proofs.Takes.{same_resource}
use Rattle.spec_words.specs.NetChanges.{FileShape}
use Rattle.spec_words.specs.Takes.{takes_at, changes_at}
use Rattle.spec_words.specs.Views.{View}
use Rattle.law_net.proofs.PlannedCells.{AreCovered, all_covered_by, size_bound}
use Rattle.spec_plan.specs.declared.plan.Planned.{Planned}
use Rattle.spec_plan.specs.Planned.{planned_size}
use Rattle.spec_run.specs.Shapes.{tran_to_write}
use Rattle.spec_run.specs.Begun.{Setting, view_at}
use Rattle.law_undo.proofs.Law.{zero_open}
use Rattle.law_run.proofs.Fresh.{not_started_above}
use Rattle.law_run.proofs.Plans.{find_same}
use Rattle.law_run.proofs.Doing.{Owns, Opens, ArePlannedIn}
use Rattle.law_run.proofs.Shows.{view_shows}
use Rattle.law_run.proofs.Steps.{IsSoundIn}
use Rattle.law_run.proofs.Begins.{Begins, Started, started, start_form}

-- the transaction u that writes for a session whose open transaction is t
abbrev pub WritesFor : List Record → ℕ → ℕ → Type 0
WritesFor g t u = ((t ≡ 0) × (u ≡ greatest_of g + 1)) ⊎ ((t ≡ 0 → ⊥) × (u ≡ t))

pub writes_for : (g : List Record) (t : ℕ) → WritesFor g t (tran_to_write g t)
writes_for g t = cond_both (eqb t 0) (greatest_of g + 1) t (WritesFor g t)
    (λ e. inl (eqb-true t 0 e, refl))
    (λ e. inr (eqb-false t 0 e, refl))

writer_begins : (run : Setting) (log : List Record) (s t u : ℕ) → Opens run log s t → WritesFor (log ++ run.opened) t u → Begins run log s u
writer_begins run log s t u opens (inl w) = inr (inr w.1)
writer_begins run log s t u (inl none) (inr w) = absurd (w.0 none)
writer_begins run log s t u (inr o) (inr w) = inr (inl (subst (λ v. Owns run log s v × (has_undone log v ≡ false)) (sym w.1) o))

writer_above : (run : Setting) (log : List Record) (s t u : ℕ) → Opens run log s t → WritesFor (log ++ run.opened) t u → 0 < u
writer_above run log s t u opens (inl w) = let e = w.1 in omega (arith, e)
writer_above run log s t u (inl none) (inr w) = absurd (w.0 none)
writer_above run log s t u (inr o) (inr w) =
    let a = ltb-true 0 t (unfinished_parts (log ++ run.opened) t o.0.unfinished).above in
    let e = w.1 in omega (arith, a, e)

above_zero : (g : List Record) (v : ℕ) (r : Resource) → holds g v r ≡ true → v ≡ 0 → ⊥
above_zero g v r held e = both_ways (ltb 0 v) (ap (ltb 0) e) (unfinished_parts g v (holds_parts g v r held).0).above

-- what nobody else holds for t is free for the writer
writer_free : (g : List Record) (t u : ℕ) (r : Resource) → WritesFor g t u → IsFreeFor g t r → IsFreeFor g u r
writer_free g t u r (inl w) free v held = absurd (above_zero g v r held (free v held ∙ w.0))
writer_free g t u r (inr w) free v held = free v held ∙ sym w.1

pub ongoing : (run : Setting) (log : List Record) (s t : ℕ) → IsSoundIn run log → Opens run log s t → IsOngoing run.opened log t
ongoing run log s t sound (inl none) = (
  ap (is_old run.opened) none,
  ap (has_ended (log ++ run.opened)) none ∙ zero_open run.geometry (length run.image) (log ++ run.opened) (sound_rules run.geometry (length run.image) run.opened run.image log sound),
)
ongoing run log s t sound (inr o) = (o.0.is_new, not_true (has_ended (log ++ run.opened) t) (unfinished_parts (log ++ run.opened) t o.0.unfinished).not_ended)

-- what the writer holds after its Start was free for t
held_was_free : (run : Setting) (log : List Record) (s i t u n size : ℕ) (takes : List Resource) → IsSoundIn run log → WritesFor (log ++ run.opened) t u →
    ((r : Resource) → list_any (is_same r) takes ≡ true → IsFreeFor (log ++ run.opened) t r) →
    (r : Resource) → holds (Start s i (record { 0 = u }) 0 n size takes ∷ (log ++ run.opened)) u r ≡ true → IsFreeFor (log ++ run.opened) t r
held_was_free run log s i t u n size takes sound w free r held =
    let g = log ++ run.opened in
    let rules = sound_rules run.geometry (length run.image) run.opened run.image log sound in
    elim (holds_older (Start s i (record { 0 = u }) 0 n size takes) g u r held) [
      | inl before ↦ elim w [
        | inl fresh ↦
            let above : greatest_of g < u = let e = fresh.1 in omega (arith, e) in
            absurd (both_ways (has_started g u) (not_started_above g u above) (unfinished_parts g u (holds_parts g u r before).0).started)
        | inr same ↦ λ v theirs. holders_are_one run.geometry (length run.image) g r v t rules theirs (subst (λ x. holds g x r ≡ true) same.1 before)
      ]
      | inr taken ↦ free r (and_parts (eqb u u) (list_any (is_same r) takes) taken).1
    ]

now_held : (run : Setting) (log : List Record) (s i t u n size : ℕ) (takes : List Resource) → WritesFor (log ++ run.opened) t u →
    is_unfinished (Start s i (record { 0 = u }) 0 n size takes ∷ (log ++ run.opened)) u ≡ true →
    (r : Resource) → IsHeldOrTaken (λ s. holds (log ++ run.opened) t s) takes r → holds (Start s i (record { 0 = u }) 0 n size takes ∷ (log ++ run.opened)) u r ≡ true
now_held run log s i t u n size takes w unfinished r (inl own) =
    let g = log ++ run.opened in
    let x = Start s i (record { 0 = u }) 0 n size takes in
    elim w [
      | inl fresh ↦ absurd (above_zero g t r own fresh.0)
      | inr same ↦ and_from (is_unfinished (x ∷ g) u) (has_taken (x ∷ g) u r) unfinished
          (or_right (takes_it u r x) (has_taken g u r) (subst (λ v. has_taken g v r ≡ true) (sym same.1) (holds_parts g t r own).1))
    ]
now_held run log s i t u n size takes w unfinished r (inr taken) =
    let g = log ++ run.opened in
    let x = Start s i (record { 0 = u }) 0 n size takes in
    and_from (is_unfinished (x ∷ g) u) (has_taken (x ∷ g) u r) unfinished
    (or_left (takes_it u r x) (has_taken g u r) (and_from (eqb u u) (list_any (is_same r) takes) (eq-eqb u u refl) taken))

-- a limit that isn't passed bounds the changes
pub few_changes : (g : List Record) (u n bytes : ℕ) → passes_limit g u n bytes ≡ false → n ≤ 8192
few_changes g u n bytes h = elim (cases_Bool (eqb n 0)) [
  | inl none ↦ let e = eqb-true n 0 none in omega (arith, e)
  | inr some ↦ elim (cases_Bool (ltb 8192 (changes_of u g + n))) [
    | inl over ↦ absurd (both_ways _ h (and_from (not (eqb n 0)) _ (ap not some) (or_left (ltb 8192 (changes_of u g + n) || _) _ (or_left (ltb 8192 (changes_of u g + n)) _ over))))
    | inr within ↦ let e = ltb-false 8192 (changes_of u g + n) within in omega (arith, e)
  ]
]

-- what a statement takes and changes, after these items, for a session whose open transaction is t: nobody else holds what it
-- takes, which an item can name; and its changes have their form, put bytes, find what the transaction sees, and are
-- covered by what it holds or takes
pub record IsWritable (run : Setting) (log : List Record) (t : ℕ) (takes : List Resource) (changes : List Planned) : Type 0 where
  pub free : (r : Resource) → list_any (is_same r) takes ≡ true → holder_of (log ++ run.opened) r t ≡ None
  pub few : length takes < 4294967296
  pub cells : HaveCells changes
  pub bytes : HaveBytes changes
  pub covered : AreCoveredBy (IsHeldOrTaken (λ r. holds (log ++ run.opened) t r) takes) run.geometry (length run.image) changes
  pub find : Find (view_of t run.opened log run.image) changes

among_holds : (P : Resource → Type 0) (rs : List Resource) (r : Resource) → All P rs → list_any (is_same r) rs ≡ true → P r
among_holds P [] r all h = absurd (false≢true h)
among_holds P (s ∷ rs) r all h = elim (or_cases (is_same r s) (list_any (is_same r) rs) h) [
  | inl e ↦ subst P (sym (same_resource r s e)) (all 0 s (omega arith))
  | inr e ↦ among_holds P rs r (λ k d lt. all (suc k) d (omega (arith, lt))) e
]

-- so is a plan's good end
pub end_is_writable : (run : Setting) (log : List Record) (t : ℕ) (view : View) → HasSameBeginning (view_at run log t) view → IsGoodEnd view →
    IsWritable run log t (takes_at view) (changes_at view)
end_is_writable run log t view same good =
    let takes = takes_at view in
    let changes = changes_at view in
    let net = good.net in
    record {
      free = λ r h. ap (λ (other : Resource → Option ℕ). other r) (sym same.other) ∙ among_holds (λ s. view.other s ≡ None) takes r good.free h;
      few = good.few_takes;
      cells = net.cells;
      bytes = net.bytes;
      covered = subst (λ (shape : FileShape). AreCoveredBy (IsHeldOrTaken (λ r. holds (log ++ run.opened) t r) takes) shape.geometry shape.pages changes) same.shape
          (subst (λ own. AreCoveredBy (IsHeldOrTaken own takes) view.shape.geometry view.shape.pages changes) same.own net.covered);
      find = subst (λ image. Find image changes) same.start net.find;
    }

pub record IsWritten (run : Setting) (log : List Record) (s i u : ℕ) (takes : List Resource) (changes : List Planned) : Type 0 where
  pub started : Started run log s u (Start s i (record { 0 = u }) 0 (length changes) (planned_size changes) takes)
  pub above : 0 < u
  pub form : has_form (Start s i (record { 0 = u }) 0 (length changes) (planned_size changes) takes) ≡ true
  pub planned : ArePlannedIn run (Start s i (record { 0 = u }) 0 (length changes) (planned_size changes) takes ∷ log) u changes

pub is_written : (run : Setting) (log : List Record) (s i t u : ℕ) (takes : List Resource) (changes : List Planned) → IsSoundIn run log → Opens run log s t →
    WritesFor (log ++ run.opened) t u → 0 < s → 0 < i → length changes ≤ 8192 → IsWritable run log t takes changes →
    IsWritten run log s i u takes changes
is_written run log s i t u takes changes sound opens w hs hi few good =
    let g = log ++ run.opened in
    let x = Start s i (record { 0 = u }) 0 (length changes) (planned_size changes) takes in
    let above = writer_above run log s t u opens w in
    let free : (r : Resource) → list_any (is_same r) takes ≡ true → IsFreeFor g t r = λ r h. none_other g r t (good.free r h) in
    let st = started run log s i u 0 (length changes) (planned_size changes) takes (writer_begins run log s t u opens w)
    (λ r h. writer_free g t u r w (free r h)) (λ none. absurd (omega (arith, none, above))) in
    let size = size_bound changes good.cells in
    let few_takes = good.few in
    let unfinished : is_unfinished (x ∷ g) u ≡ true = elim st.opens [ inl none ↦ absurd (omega (arith, none, above)) | inr o ↦ o.0.unfinished ] in
    let covered : AreCovered run.geometry (length run.image) (x ∷ g) u changes =
    all_covered_by (IsHeldOrTaken (λ r. holds g t r) takes) run.geometry (length run.image) (x ∷ g) u changes
    (now_held run log s i t u (length changes) (planned_size changes) takes w unfinished) good.covered in
    record {
      started = st;
      above = above;
      form = start_form s i u 0 (length changes) (planned_size changes) takes hs hi few (omega (arith, size, few)) (omega (arith, few_takes));
      planned = record {
        cells = good.cells;
        bytes = good.bytes;
        covered = covered;
        find = find_same run.geometry (length run.image) (x ∷ g) u (view_of t run.opened log run.image) (final_image run.opened log run.image) changes good.cells covered
            (view_final_shape run.geometry run.opened log run.image t sound)
            (view_shows run.geometry run.opened log run.image t (x ∷ g) u sound (ongoing run log s t sound opens)
            (held_was_free run log s i t u (length changes) (planned_size changes) takes sound w free))
            good.find;
      };
    }
