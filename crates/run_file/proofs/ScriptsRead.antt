-- The scripts that were read so far.
use Rattle.std.proofs.Common.{◌≡◌, ℕ, zero, suc, ◌+◌, ◌-◌, ◌≤◌, ◌<◌, List, [], ◌∷◌, ◌++◌, length, take, drop, set, get_or, map, All, Option, None, IfSome, Result, Ok, Err, inl, inr, refl, sym, ap, ◌∙◌, subst, arith, length-set}
use Rattle.std.specs.Prelude.{IsTrue, IsErrOf}
use Rattle.std.specs.List.{list_all}
use Rattle.std.proofs.lemmas.Bool.{cases_eq}
use Rattle.std.proofs.lemmas.List.{map-set, get_or-map, length-map, get_or-drop, get_or-set_same, get_or-set_other, take_more, take_more_set, drop-set-lt}
use Rattle.std.proofs.lemmas.List.Elements.{All-push}
use Rattle.std.proofs.lemmas.Grind.{drop_more_same}
use Rattle.pg_base.specs.Faults.{Rose, Counts}
use Rattle.std.specs.Io.KnownBytes.{IsAtEnd}
use Rattle.spec_script.specs.declared.statement.Statement.{Statement}
use Rattle.spec_script.specs.Lines.{is_statement, IsStatementLine, IsTurnsLine}
use Rattle.spec_script.specs.Texts.{IsScript, IsSchedule, IsWrongAt}
use Rattle.spec_script.specs.declared.limits.TheConstants.{MOST_LINES}
use Rattle.run_file.specs.declared.stop.SourcesStop.{SourcesStop}
use Rattle.run_file.specs.declared.stop.SourcesStop.TheVariants as stop
use Rattle.run_file.specs.declared.stop.TextStop.{TextStop}
use Rattle.run_file.specs.declared.stop.TextStop.TheVariants as text
use Rattle.run_file.specs.Stops.{sources_stop}
use Rattle.spec_start.specs.Sources.{AreProper, AreScripts, AreShort, NoneFell, IsFirstWrong}
use Rattle.run_file.specs.Sources.{TextFault, FaultAt, ScriptsFault, SourcesFault}

-- the first k of the sources are read to their ends, and the others are as they were
pub record AreReadTo {S : Type 0} (left : S → Option (List ℕ)) (faults : S → ℕ) (old now : List S) (scripts : List (List Statement)) (k : ℕ) : Type 0 where
  pub size : length now ≡ length old
  pub rest : drop k now ≡ drop k old
  pub said : AreScripts (take k (map left old)) scripts
  pub ends : All IsAtEnd (take k (map left now))
  pub fell : NoneFell (map faults old) (map faults now)
  pub short : AreShort scripts
  pub proper : AreProper scripts

scripts_push : (lefts : List (Option (List ℕ))) (scripts : List (List Statement)) (left : Option (List ℕ)) (script : List Statement)
    → AreScripts lefts scripts → IfSome left (λ bytes. IsScript bytes script) → AreScripts (lefts ++ left ∷ []) (scripts ++ script ∷ [])
scripts_push [] [] left script are is = (is, tt)
scripts_push [] (s ∷ scripts) left script are is = absurd are
scripts_push (l ∷ lefts) [] left script are is = absurd are
scripts_push (l ∷ lefts) (s ∷ scripts) left script are is = (are.0, scripts_push lefts scripts left script are.1 is)

-- a source that isn't read yet is as it was
still : {S : Type 0} (old now : List S) (k : ℕ) (x : S) → drop k now ≡ drop k old → get_or now k x ≡ x → get_or old k x ≡ x
still old now k x rest is =
    let here : k + 0 ≡ k = omega arith in
    sym (ap (λ i. get_or old i x) here) ∙ sym (get_or-drop k old 0 x) ∙ sym (ap (λ l. get_or l 0 x) rest) ∙ get_or-drop k now 0 x
    ∙ ap (λ i. get_or now i x) here ∙ is

at_map : {S Y : Type 0} (f : S → Y) (xs : List S) (k : ℕ) (x : S) (d : Y) → k < length xs → get_or xs k x ≡ x → get_or (map f xs) k d ≡ f x
at_map f xs k x d below is = get_or-map f xs k x d below ∙ ap f is

module _ {S : Type 0} (left : S → Option (List ℕ)) (faults : S → ℕ) (old now : List S) (k : ℕ) (x y : S) (below : k < length now) (is : get_or now k x ≡ x) where
  -- a source whose count doesn't fall
  pub fell_next : faults x ≤ faults y → NoneFell (map faults old) (map faults now) → NoneFell (map faults old) (map faults (set now k y))
  fell_next rises fell =
      λ j. elim (cases_eq j k) [
        | inl e ↦
            let kept : get_or (map faults old) j 0 ≤ get_or (map faults now) j 0 = fell j in
            let was : get_or (map faults now) j 0 ≡ faults x = ap (λ i. get_or (map faults now) i 0) e ∙ at_map faults now k x 0 below is in
            let new : get_or (map faults (set now k y)) j 0 ≡ faults y =
            ap (λ l. get_or l j 0) (map-set faults now k y) ∙ ap (λ i. get_or (set (map faults now) k (faults y)) i 0) e
            ∙ get_or-set_same (map faults now) k (faults y) 0 (subst (λ n. k < n) (sym (length-map now faults)) below) in
            omega (arith, kept, was, new, rises)
        | inr other ↦
            let kept : get_or (map faults old) j 0 ≤ get_or (map faults now) j 0 = fell j in
            let new : get_or (map faults (set now k y)) j 0 ≡ get_or (map faults now) j 0 =
            ap (λ l. get_or l j 0) (map-set faults now k y) ∙ get_or-set_other (map faults now) k j (faults y) 0 other in
            omega (arith, kept, new)
      ]

  -- one that rose
  rose_here : length now ≡ length old → drop k now ≡ drop k old → Rose (faults x) (faults y)
      → (k < length (map faults old)) × Rose (get_or (map faults old) k 0) (get_or (map faults (set now k y)) k 0)
  rose_here size rest rises =
      let first : k < length old = omega (arith, below, size) in
      let was : get_or (map faults old) k 0 ≡ faults x = at_map faults old k x 0 first (still old now k x rest is) in
      let new : get_or (map faults (set now k y)) k 0 ≡ faults y =
      ap (λ l. get_or l k 0) (map-set faults now k y)
      ∙ get_or-set_same (map faults now) k (faults y) 0 (subst (λ n. k < n) (sym (length-map now faults)) below) in
      (subst (λ n. k < n) (sym (length-map old faults)) first, subst (λ a. Rose a (get_or (map faults (set now k y)) k 0)) (sym was) (subst (Rose (faults x)) (sym new) rises))

  -- one script more
  pub read_next : (scripts : List (List Statement)) (script : List Statement) → AreReadTo left faults old now scripts k
      → IfSome (left x) (λ bytes. IsScript bytes script) → IsAtEnd (left y) → faults x ≤ faults y → length script ≤ MOST_LINES → IsTrue (list_all is_statement script)
      → AreReadTo left faults old (set now k y) (scripts ++ script ∷ []) (k + 1)
  read_next scripts script read said end rises few allowed =
      let first : k < length old = omega (arith, below, read.size) in
      let within : k < length (map left old) = subst (λ n. k < n) (sym (length-map old left)) first in
      let inside : k < length (map left now) = subst (λ n. k < n) (sym (length-map now left)) below in
      let was : get_or (map left old) k None ≡ left x = at_map left old k x None first (still old now k x read.rest is) in
      let more : take (k + 1) (map left old) ≡ take k (map left old) ++ left x ∷ [] =
      take_more (map left old) k None within ∙ ap (λ l. take k (map left old) ++ l ∷ []) was in
      let shut : take (k + 1) (map left (set now k y)) ≡ take k (map left now) ++ left y ∷ [] =
      ap (take (k + 1)) (map-set left now k y) ∙ take_more_set (map left now) k (left y) inside in
      record {
        size = length-set now k y ∙ read.size;
        rest = drop-set-lt (k + 1) now k y (omega arith) ∙ drop_more_same now old k read.rest;
        said = subst (λ l. AreScripts l (scripts ++ script ∷ [])) (sym more) (scripts_push (take k (map left old)) scripts (left x) script read.said said);
        ends = subst (All IsAtEnd) (sym shut) (All-push IsAtEnd (take k (map left now)) (left y) read.ends end);
        fell = fell_next rises read.fell;
        short = All-push (λ s. length s ≤ MOST_LINES) scripts script read.short few;
        proper = All-push (λ s. IsTrue (list_all is_statement s)) scripts script read.proper allowed;
      }

  -- a script that is wrong
  pub fault_here : {T : Type 0} (scripts : List (List Statement)) (r : Result T SourcesStop) → AreReadTo left faults old now scripts k
      → FaultAt (k + 1) IsStatementLine (left x) r → Counts (IsErrOf r stop.Failed) (faults x) (faults y)
      → ScriptsFault (map left old) (map faults old) (map faults (set now k y)) r
  fault_here scripts (Ok v) read fault counts = tt
  fault_here scripts (Err stop.NoMemory) read fault counts = tt
  fault_here scripts (Err stop.Failed) read fault counts =
      let rose = rose_here read.size read.rest (counts.cause refl) in
      record { place = k; within = rose.0; scripts = scripts; texts = read.said; rose = rose.1 }
  fault_here scripts (Err (stop.Fault j line why)) read fault counts =
      subst (λ i. IsFirstWrong (map left old) i line why) (sym fault.0) (first_wrong (k + 1 - 1) (omega arith))
    where
      first_wrong : (i : ℕ) → i ≡ k → IsFirstWrong (map left old) (k + 1) line why
      first_wrong i same =
          let first : k < length old = omega (arith, below, read.size) in
          let was : get_or (map left old) k None ≡ left x = at_map left old k x None first (still old now k x read.rest is) in
          let back : k + 1 - 1 ≡ k = omega arith in
          record {
            above = omega arith;
            within = subst (λ n. k + 1 ≤ n) (sym (length-map old left)) (omega (arith, first));
            scripts = scripts;
            before = subst (λ n. AreScripts (take n (map left old)) scripts) (sym back) read.said;
            wrong = subst (λ n. IfSome (get_or (map left old) n None) (λ bytes. IsWrongAt IsStatementLine bytes line why)) (sym back)
                (subst (λ l. IfSome l (λ bytes. IsWrongAt IsStatementLine bytes line why)) (sym was) fault.1);
          }

-- as many scripts as sources
pub scripts_count : (lefts : List (Option (List ℕ))) (scripts : List (List Statement)) → AreScripts lefts scripts → length scripts ≡ length lefts
scripts_count [] [] are = refl
scripts_count [] (s ∷ scripts) are = absurd are
scripts_count (l ∷ lefts) [] are = absurd are
scripts_count (l ∷ lefts) (s ∷ scripts) are = ap suc (scripts_count lefts scripts are.1)

-- all but the first
others : {S : Type 0} (left : S → Option (List ℕ)) (first : S) (rest : List S) → length (map left (first ∷ rest)) - 1 ≡ length rest
others left first rest = let same = length-map rest left in omega (arith, same)

module _ {S : Type 0} (left : S → Option (List ℕ)) (faults : S → ℕ) (first new : S) (rest after : List S) where
  -- a schedule that is wrong or fails
  pub fault_first : (T U : Type 0) (r : TextStop) → TextFault {T = T} (IsTurnsLine (length rest)) (left first) (Err r)
      → Counts (IsErrOf {T = U} (Err r) text.Failed) (faults first) (faults new) → SourcesFault {T = T} (map left (first ∷ rest)) (map faults (first ∷ rest)) (map faults (new ∷ after)) (Err (sources_stop 0 r))
  fault_first T U text.NoMemory fault counts = tt
  fault_first T U text.Failed fault counts = record { place = 0; within = omega arith; texts = tt; rose = counts.cause refl }
  fault_first T U (text.Fault line why) fault counts =
      subst (λ n. IfSome (left first) (λ bytes. IsWrongAt (IsTurnsLine n) bytes line why)) (sym (others left first rest)) fault

  -- a script that is wrong behind a schedule
  pub fault_behind : {T : Type 0} (turns : List (ℕ × ℕ)) (r : Result T SourcesStop) → IfSome (left first) (λ bytes. IsSchedule (length rest) bytes turns)
      → ScriptsFault (map left rest) (map faults rest) (map faults after) r
      → SourcesFault (map left (first ∷ rest)) (map faults (first ∷ rest)) (map faults (new ∷ after)) r
  fault_behind turns (Ok v) schedule fault = tt
  fault_behind turns (Err stop.NoMemory) schedule fault = tt
  fault_behind turns (Err stop.Failed) schedule fault =
      let within = fault.within in
      record {
        place = suc fault.place;
        within = omega (arith, within);
        texts = (turns, subst (λ n. IfSome (left first) (λ bytes. IsSchedule n bytes turns)) (sym (others left first rest)) schedule, (fault.scripts, fault.texts));
        rose = fault.rose;
      }
  fault_behind turns (Err (stop.Fault zero line why)) schedule fault = absurd (let above = fault.above in omega (arith, above))
  fault_behind turns (Err (stop.Fault (suc k) line why)) schedule fault =
      (turns, subst (λ n. IfSome (left first) (λ bytes. IsSchedule n bytes turns)) (sym (others left first rest)) schedule, fault)
