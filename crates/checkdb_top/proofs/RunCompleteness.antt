-- The status of a run is fixed by its sources, its file and its log, where no device fails.
use Rattle.std.proofs.Common.{◌≡◌, ◌≢◌, ◌⊎◌, ℕ, suc, ◌+◌, ◌<◌, Bool, true, false, ◌||◌, List, [], ◌∷◌, length, get_or, Option, Some, None, IfSome, refl, sym, ap, ◌∙◌, subst, inl, inr, ⊎_elim, arith, if◌then◌else◌}
use Rattle.std.specs.Prelude.{slice_get}
use Rattle.std.specs.List.{list_any, zip}
use Rattle.std.proofs.lemmas.Option.{slice_get_within, get_or_from_slice_get}
use Rattle.spec_log.specs.Bytes.{log_bytes}
use Rattle.spec_log.specs.declared.item.Record.{Record}
use Rattle.spec_script.specs.declared.reply.Reply.{Reply}
use Rattle.spec_script.specs.declared.statement.Statement.{Statement}
use Rattle.spec_script.specs.declared.stop.ScriptWhy.{ScriptWhy}
use Rattle.spec_script.specs.Replies.{text_of}
use Rattle.spec_run.specs.Begun.{Setting}
use Rattle.spec_run.specs.Entries.{Entry, items_of}
use Rattle.spec_run.specs.Answers.{is_terminated}
use Rattle.spec_run.specs.ChangedPages.{is_changed}
use Rattle.db_core.proofs.Reports.{none_terminated}
use Rattle.spec_log.specs.declared.limits.TheConstants.{LONGEST_LOG}
use Rattle.spec_start.specs.Files.{IsRunFile}
use Rattle.run_file.proofs.OpeningLaws.{not_refused, one_refusal, run_file}
use Rattle.spec_start.specs.Sources.{AreKnown, IsFirstOf}
use Rattle.run_file.proofs.SourcesLaws.{none_wrong, one_first}
use Rattle.checkdb_top.specs.declared.status.Device.{Device}
use Rattle.checkdb_top.specs.declared.status.Device.TheVariants as device
use Rattle.checkdb_top.specs.declared.status.Status.{Status}
use Rattle.checkdb_top.specs.declared.status.Status.TheVariants as status
use Rattle.checkdb_top.specs.Answers.{IsDevice, ended}
use Rattle.checkdb_top.specs.Completeness.{CompletesRun, IsWholeEnd}
use Rattle.checkdb_top.specs.Runs.{AreAllTold, replies_to, Closes, Ends, Stops, Runs, IsRunOf, last_of, ended_as, has_short, has_errors}
use Rattle.checkdb_top.specs.Writes.{Writes, AllWritten, AtSink, AtVolume, AtLog}
use Rattle.checkdb_top.specs.Start.{HaveTexts, StopsStart}

each_false : {A : Type 0} (p : A → Bool) (xs : List A) → ((k : ℕ) (x : A) → slice_get xs k ≡ Some x → p x ≡ false) → list_any p xs ≡ false
each_false p [] all = refl
each_false p (x ∷ xs) all = ap (λ b. b || list_any p xs) (all 0 x refl) ∙ each_false p xs (λ k y at. all (suc k) y at)

-- over an empty log no session is told of a check without a report
pub none_without : (run : Setting) (log : List Record) (replies : List (List Reply)) → run.opened ≡ [] → length replies ≡ length run.scripts
    → AreAllTold run log (replies_to replies) → list_any (list_any is_terminated) replies ≡ false
none_without run log replies opened count told = each_false (list_any is_terminated) replies (λ k session at.
    let below = slice_get_within replies k session at in
    let same : replies_to replies (k + 1) ≡ session = ap (λ n. get_or replies n []) (omega arith) ∙ get_or_from_slice_get replies k session [] at in
    subst (λ r. list_any is_terminated r ≡ false) same
    (none_terminated run (k + 1) log (replies_to replies (k + 1)) opened (told (k + 1) (omega arith, omega (arith, below, count)))))

whole_end : (scripts : List (List Statement)) (replies : List (List Reply)) → list_any (list_any is_terminated) replies ≡ false → IsWholeEnd (ended_as scripts replies)
whole_end scripts replies none = by_cases (list_any (list_any is_terminated) replies) (list_any has_short (zip scripts replies)) (list_any (list_any has_errors) replies) none where
  by_cases : (a b e : Bool) → a ≡ false → IsWholeEnd (if a then status.NoReport else (if b then status.Memory else ended e))
  by_cases true b e none = cc
  by_cases false true e none = inr refl
  by_cases false false true none = inl (inr refl)
  by_cases false false false none = inl (inl refl)

-- the status of a run of which all is written
closed_whole : (lefts : List (Option (List ℕ))) (file log : Option (List ℕ)) (run : Setting) (entries : List Entry) (file_now log_now out out_now : Option (List ℕ))
    (s : Status) → IsRunOf lefts file log run entries → (closes : Closes run entries file file_now log log_now out out_now s)
    → s ≡ ended_as run.scripts closes.replies → IsWholeEnd s
closed_whole lefts file log run entries file_now log_now out out_now s is closes said =
    subst IsWholeEnd (sym said)
    (whole_end run.scripts closes.replies
    (none_without run (items_of entries) closes.replies (ap (λ (r : Setting). r.opened) is.begins) closes.count closes.legal.told))

-- a run that is closed ends so, or names the device that failed
closed_as : (lefts : List (Option (List ℕ))) (file log : Option (List ℕ)) (run : Setting) (entries : List Entry) (file_now log_now out out_now : Option (List ℕ))
    (s : Status) → IsRunOf lefts file log run entries → Closes run entries file file_now log log_now out out_now s
    → IsWholeEnd s ⊎ ((d : Device) × (s ≡ status.Device d))
closed_as lefts file log run entries file_now log_now out out_now s is closes = by_writes closes.writes where
  by_writes : Writes (log_bytes (items_of entries)) (is_changed (items_of entries)) (last_of run entries) (text_of closes.replies) (ended_as run.scripts closes.replies)
      file file_now log log_now out out_now s → IsWholeEnd s ⊎ ((d : Device) × (s ≡ status.Device d))
  by_writes (AllWritten said a b c) = inl (closed_whole lefts file log run entries file_now log_now out out_now s is closes said)
  by_writes (AtSink said a b c) = inr (device.Sink, said)
  by_writes (AtVolume said a b c) = inr (device.Volume, said)
  by_writes (AtLog said a b c) = inr (device.Log, said)

not_without : (s : Status) → IsWholeEnd s → s ≢ status.NoReport
not_without s (inl (inl clean)) without = let e : status.Clean ≡ status.NoReport = sym clean ∙ without in cc
not_without s (inl (inr errors)) without = let e : status.Errors ≡ status.NoReport = sym errors ∙ without in cc
not_without s (inr memory) without = let e : status.Memory ≡ status.NoReport = sym memory ∙ without in cc

device_apart : (d : Device) (s : Status) → s ≡ status.Device d → s ≢ status.NoReport
device_apart d s is without = let e : status.Device d ≡ status.NoReport = sym is ∙ without in cc

pub never_without : (lefts lefts_now : List (Option (List ℕ))) (file file_now log log_now out out_now : Option (List ℕ)) (s : Status)
    → Ends lefts lefts_now file file_now log log_now out out_now s → s ≢ status.NoReport
never_without lefts lefts_now file file_now log log_now out out_now s (Stops stops a b c) = λ without. subst (StopsStart lefts file log) without stops
never_without lefts lefts_now file file_now log log_now out out_now s (Runs run entries is read closes) =
    ⊎_elim (λ whole. not_without s whole) (λ device. device_apart device.0 s device.1)
    (closed_as lefts file log run entries file_now log_now out out_now s is closes)

same_script : (k j line other : ℕ) (why because : ScriptWhy) → k ≡ j → line ≡ other → why ≡ because → status.Script k line why ≡ status.Script j other because
same_script k j line other why because a b c =
    ap (λ n. status.Script n line why) a ∙ ap (λ n. status.Script j n why) b ∙ ap (λ w. status.Script j other w) c

empty_short : (log : List ℕ) → log ≡ [] → LONGEST_LOG < length log → ⊥
empty_short log empty long = let none = ap length empty in omega (arith, none, long)

module _ (lefts : List (Option (List ℕ))) (bytes log : List ℕ) (some : 0 < length lefts) (known : AreKnown lefts) where
  no_fault : (k line : ℕ) (why : ScriptWhy) → HaveTexts lefts → IsFirstOf lefts k line why → ⊥
  no_fault k line why texts first = none_wrong lefts texts.0 texts.1 k line why some known texts.2 first

  -- a run that doesn't begin
  stops_completes : (s : Status) → StopsStart lefts (Some bytes) (Some log) s → ((d : Device) → IsDevice d s → ⊥) → CompletesRun lefts bytes log s
  stops_completes (status.Script k line why) first none = record {
    script = λ j other because again.
        let one = one_first lefts k j line other why because some known first again in
        inl (same_script k j line other why because one.0 one.1.0 one.1.1);
    refused = λ texts w for. absurd (no_fault k line why texts first);
    long = λ texts file long. absurd (no_fault k line why texts first);
    later = λ texts file some_ short. absurd (no_fault k line why texts first);
    runs = λ texts file empty. absurd (no_fault k line why texts first);
  }
  stops_completes (status.File w) (texts, for) none = record {
    script = λ k line why first. absurd (no_fault k line why texts first);
    refused = λ _ v again. inl (ap (λ u. status.File u) (one_refusal bytes w v for again));
    long = λ _ file long. absurd (not_refused bytes w file for);
    later = λ _ file some_ short. absurd (not_refused bytes w file for);
    runs = λ _ file empty. absurd (not_refused bytes w file for);
  }
  stops_completes status.LogSize (texts, file, over) none = record {
    script = λ k line why first. absurd (no_fault k line why texts first);
    refused = λ _ w for. absurd (not_refused bytes w file for);
    long = λ _ _ long. inl refl;
    later = λ _ _ some_ short. absurd (omega (arith, over, short));
    runs = λ _ _ empty. absurd (empty_short log empty over);
  }
  stops_completes status.LogLater (texts, file, (some_, short)) none = record {
    script = λ k line why first. absurd (no_fault k line why texts first);
    refused = λ _ w for. absurd (not_refused bytes w file for);
    long = λ _ _ long. absurd (omega (arith, long, short));
    later = λ _ _ _ _. inl refl;
    runs = λ _ _ empty. absurd (some_ empty);
  }
  stops_completes status.Memory stops none = record {
    script = λ k line why first. inr refl;
    refused = λ texts w for. inr refl;
    long = λ texts file long. inr refl;
    later = λ texts file some_ short. inr refl;
    runs = λ texts file empty. inr refl;
  }
  stops_completes (status.Device device.Volume) stops none = absurd (none device.Volume refl)
  stops_completes (status.Device device.Log) stops none = absurd (none device.Log refl)
  stops_completes (status.Device device.Source) stops none = absurd (none device.Source refl)
  stops_completes (status.Device device.Sink) stops none = absurd stops
  stops_completes status.Clean stops none = absurd stops
  stops_completes status.Errors stops none = absurd stops
  stops_completes (status.Words at) stops none = absurd stops
  stops_completes status.NoReport stops none = absurd stops

  -- a run that is closed whole
  closed_completes : (s : Status) → HaveTexts lefts → IsRunFile bytes → log ≡ [] → IsWholeEnd s → CompletesRun lefts bytes log s
  closed_completes s texts file empty whole = record {
    script = λ k line why first. absurd (no_fault k line why texts first);
    refused = λ _ w for. absurd (not_refused bytes w file for);
    long = λ _ _ long. absurd (empty_short log empty long);
    later = λ _ _ some_ short. absurd (some_ empty);
    runs = λ _ _ _. whole;
  }

  ends_completes : (lefts_now : List (Option (List ℕ))) (file_now log_now out out_now : Option (List ℕ)) (s : Status)
      → Ends lefts lefts_now (Some bytes) file_now (Some log) log_now out out_now s → ((d : Device) → IsDevice d s → ⊥) → CompletesRun lefts bytes log s
  ends_completes lefts_now file_now log_now out out_now s (Stops stops a b c) none = stops_completes s stops none
  ends_completes lefts_now file_now log_now out out_now s (Runs run entries is read closes) none =
      ⊎_elim (λ whole. closed_completes s (is.turns, run.scripts, is.texts) (run_file run.image (Some bytes) is.passes is.pages) is.empty whole)
      (λ device. absurd (none device.0 (subst (IsDevice device.0) (sym device.1) refl)))
      (closed_as lefts (Some bytes) (Some log) run entries file_now log_now out out_now s is closes)

pub completes_run : (lefts lefts_now : List (Option (List ℕ))) (file file_now log log_now out out_now : Option (List ℕ)) (s : Status)
    (RoseVolume RoseLog RoseSink RoseSource : Type 0) → 0 < length lefts → Ends lefts lefts_now file file_now log log_now out out_now s
    → (IsDevice device.Volume s → RoseVolume) → (IsDevice device.Log s → RoseLog) → (IsDevice device.Sink s → RoseSink) → (IsDevice device.Source s → RoseSource)
    → AreKnown lefts
    → IfSome file (λ bytes. IfSome log (λ items. (RoseVolume → ⊥) → (RoseLog → ⊥) → (RoseSink → ⊥) → (RoseSource → ⊥) → CompletesRun lefts bytes items s))
completes_run lefts lefts_now None file_now log log_now out out_now s RoseVolume RoseLog RoseSink RoseSource some ends volume on_log sink source known = tt
completes_run lefts lefts_now (Some bytes) file_now None log_now out out_now s RoseVolume RoseLog RoseSink RoseSource some ends volume on_log sink source known = tt
completes_run lefts lefts_now (Some bytes) file_now (Some items) log_now out out_now s RoseVolume RoseLog RoseSink RoseSource some ends volume on_log sink source known =
    λ no_volume no_log no_output no_source. ends_completes lefts bytes items some known lefts_now file_now log_now out out_now s ends (none no_volume no_log no_output no_source)
  where
    none : (RoseVolume → ⊥) → (RoseLog → ⊥) → (RoseSink → ⊥) → (RoseSource → ⊥) → (d : Device) → IsDevice d s → ⊥
    none no_volume no_log no_output no_source device.Volume is = no_volume (volume is)
    none no_volume no_log no_output no_source device.Log is = no_log (on_log is)
    none no_volume no_log no_output no_source device.Sink is = no_output (sink is)
    none no_volume no_log no_output no_source device.Source is = no_source (source is)
