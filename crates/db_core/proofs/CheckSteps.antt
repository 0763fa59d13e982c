-- The steps of a check, and what the core keeps of the session behind them.
use Rattle.spec_file.specs.Image.{page}
use Rattle.law_run.proofs.FirstPage.{final_first}
use Rattle.law_undo.proofs.Views.{sound_forms, sound_rules}
use Rattle.std.proofs.Common.{◌≡◌, ℕ, ◌+◌, ◌-◌, ◌<◌, ◌≤◌, Bool, true, false, List, [], ◌∷◌, ◌++◌, length, reverse, take, Some, ◌⊎◌, refl, sym, ap, ◌∙◌, subst, arith}
use Rattle.std.proofs.lemmas.List.{length-reverse, take_all, reverse-reverse}
use Rattle.spec_check.specs.declared.report.CheckReport.{CheckReport}
use Rattle.spec_tables.specs.Written.{IsCheckOf}
use Rattle.spec_log.specs.declared.item.Record.{Record}
use Rattle.spec_log.specs.declared.item.Record.TheVariants.{Snap, CheckEnd}
use Rattle.spec_log.specs.Log.{is_unfinished}
use Rattle.spec_log.specs.Images.{taken_back, final_image, committed_image, undone_image}
use Rattle.spec_script.specs.declared.reply.Reply.TheVariants.{Report}
use Rattle.spec_run.specs.Begun.{Setting, Reports, Tells}
use Rattle.spec_run.specs.Progress.{Progress, progress_of, work_of, MayCome}
use Rattle.spec_run.specs.Turns.{IsLegal}
use Rattle.law_undo.proofs.Law.{undo_gives_committed}
use Rattle.law_run.specs.Laws.{IsStart}
use Rattle.law_run.proofs.Legal.{legal_is_sound}
use Rattle.db_core.specs.declared.session.Check.{Check}
use Rattle.db_core.specs.declared.session.Doing.TheVariants.{Idle, Checking}
use Rattle.db_core.specs.declared.session.Phase.TheVariants.{Back}
use Rattle.db_core.specs.declared.session.Session.{Session}
use Rattle.db_core.specs.Reading.{is_back, IsPhaseOf}
use Rattle.db_core.specs.States.{whole_log, items_before, is_among, IsSnapshot, IsAt, IsOpen, IsSession}
use Rattle.db_core.proofs.Keeps.{steps_of, first_items}
use Rattle.db_core.proofs.Moves.{ends_with}
use Rattle.db_core.proofs.Next.{busy, busy_comes, opens_after}
use Rattle.db_core.proofs.Opens.{open_end}

-- what a session owes that checks
pub checking_due : (run : Setting) (log : List Record) (s : ℕ) (old : Session) (check : Check) → IsSession run log s old → old.doing ≡ Checking check →
    ((progress_of run s log).due ≡ CheckEnd s (length old.replies.items + 1) 0 ∷ []) × IsSnapshot run log check (progress_of run s log).telling
    × ((progress_of run s log).want ≡ Some (CheckEnd s (length old.replies.items + 1) 3))
checking_due run log s old check mine doing =
    subst (IsAt run log s (length old.replies.items + 1) old.tran (progress_of run s log)) doing mine.doing_is

pub check_comes : (run : Setting) (log : List Record) (s : ℕ) (old : Session) (check : Check) → IsSession run log s old → old.doing ≡ Checking check →
    MayCome (work_of run s log) (CheckEnd s (length old.replies.items + 1) 0)
check_comes run log s old check mine doing =
    busy_comes run log s (CheckEnd s (length old.replies.items + 1) 0) [] (checking_due run log s old check mine doing).0

-- what stays of the session's transaction
pub end_opens : (run : Setting) (log : List Record) (s i o : ℕ) (old next : Session) → IsSession run log s old → next.tran ≡ old.tran →
    next.left.items ≡ old.left.items → next.held.items ≡ old.held.items → next.used ≡ old.used →
    (next.tran ≡ 0) ⊎ IsOpen (CheckEnd s i o ∷ whole_log run log) next.tran next.left.items next.held.items next.used
end_opens run log s i o old next mine tran left held used =
    let x = CheckEnd s i o in
    opens_after run log x old.tran old next refl tran mine.opens (λ p.
    subst (λ l. IsOpen (x ∷ whole_log run log) old.tran l next.held.items next.used) (sym left)
    (subst (λ h. IsOpen (x ∷ whole_log run log) old.tran old.left.items h next.used) (sym held)
    (subst (IsOpen (x ∷ whole_log run log) old.tran old.left.items old.held.items) (sym used)
    (open_end (whole_log run log) old.tran s i o old.left.items old.held.items old.used p))))

-- everything is taken back, and the report is that of what the snapshot has
pub check_ends : (run : Setting) (log : List Record) (s : ℕ) (old next : Session) (check : Check) (report : CheckReport) → IsStart run → IsLegal run log → 0 < s →
    IsSession run log s old → old.doing ≡ Checking check → check.place ≡ 0 → IsCheckOf run.geometry check.pages report →
    next.script.items ≡ old.script.items → next.replies.items ≡ old.replies.items ++ Report (record { 0 = check.point }) report ∷ [] → next.tran ≡ old.tran → next.doing ≡ Idle →
    next.left.items ≡ old.left.items → next.held.items ≡ old.held.items → next.used ≡ old.used →
    IsSession run (CheckEnd s (length old.replies.items + 1) 0 ∷ log) s next
check_ends run log s old next check report start legal hs mine doing none right script replies tran doing_next left held used =
    let x = CheckEnd s (length old.replies.items + 1) 0 in
    let d = checking_due run log s old check mine doing in
    let tells = d.1.reports ∙ ap (λ n. Reports check.point (taken_back (is_unfinished (items_before run log check.point)) (reverse (take n (reverse (whole_log run log)))) check.pages)) none in
    let same = busy run log s x [] d.0 in
    let st = steps_of run log s x start legal hs (check_comes run log s old check mine doing) in
    ends_with run log s x (Report (record { 0 = check.point }) report) old next st.belongs (ap (λ (q : Progress). q.due) same ∙ d.0) refl
    (subst (λ tell. Tells run.geometry tell (Report (record { 0 = check.point }) report)) (sym (ap (λ (q : Progress). q.telling) same ∙ tells)) (report, refl, right))
    mine script replies tran doing_next (end_opens run log s (length old.replies.items + 1) 0 old next mine tran left held used)

first_of_more : (g : List Record) (x : Record) → take (length g) (reverse (x ∷ g)) ≡ reverse g
first_of_more g x = first_items g x (length g) (omega arith) ∙ take_all (length g) (reverse g) (subst (λ n. n ≤ length g) (sym (length-reverse g)) (omega arith))

-- the snapshot of a check, right behind its Snap: the file as it stands, with nothing taken back yet
pub fresh_snapshot : (run : Setting) (log : List Record) (s i : ℕ) (check : Check) → IsStart run → IsLegal run log → check.point ≡ length (whole_log run log) + 1 →
    check.place ≡ length (whole_log run log) → check.pages ≡ final_image run.opened log run.image → length check.pages ≡ length run.image →
    ((t : ℕ) → is_unfinished (whole_log run log) t ≡ is_among check.ongoing.items t) → check.phase ≡ Back →
    IsSnapshot run (Snap s i ∷ log) check (Reports (length (whole_log run log) + 1) (committed_image run.opened log run.image))
fresh_snapshot run log s i check start legal point place pages long ongoing fresh =
    let g = whole_log run log in
    let x = Snap s i in
    let sound = legal_is_sound run log start legal in
    let law : undone_image run.opened log run.image ≡ committed_image run.opened log run.image = undo_gives_committed run.geometry run.opened log run.image sound in
    let less : check.point - 1 ≡ length g = omega (arith, point) in
    let back : (n : ℕ) → n ≡ length g → reverse (take n (reverse (x ∷ g))) ≡ g = λ n e. ap (λ m. reverse (take m (reverse (x ∷ g)))) e ∙ ap reverse (first_of_more g x) ∙ reverse-reverse g in
    let before : items_before run (x ∷ log) check.point ≡ g = back (check.point - 1) less in
    let rest : reverse (take check.place (reverse (x ∷ g))) ≡ g = back check.place place in
    record {
      above = omega (arith, point);
      inside = omega (arith, point);
      placed = omega (arith, point, place);
      long = long;
      first = ap (λ image. page image 0) pages
          ∙ final_first run.geometry run.opened log run.image (sound_forms run.geometry (length run.image) run.opened run.image log sound)
          (sound_rules run.geometry (length run.image) run.opened run.image log sound);
      open_is = λ t. ap (λ h. is_unfinished h t) before ∙ ongoing t;
      reports = ap (λ n. Reports n (committed_image run.opened log run.image)) (sym point)
          ∙ ap (Reports check.point) (sym law
          ∙ ap (λ h. taken_back (is_unfinished g) h (final_image run.opened log run.image)) (sym rest)
          ∙ ap (λ h. taken_back (is_unfinished h) (reverse (take check.place (reverse (x ∷ g)))) (final_image run.opened log run.image)) (sym before)
          ∙ ap (taken_back (is_unfinished (items_before run (x ∷ log) check.point)) (reverse (take check.place (reverse (x ∷ g))))) (sym pages));
      undone = λ e. absurd (both (ap is_back fresh) e);
      phase_is = subst (IsPhaseOf check.pages) (sym fresh) tt;
    }
  where
    both : {b : Bool} → b ≡ true → b ≡ false → ⊥
    both e f = cc
