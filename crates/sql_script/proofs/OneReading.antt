-- A text has one reading, or one first fault.
use Rattle.std.specs.Prelude.{◌≡◌, ℕ, ◌<◌, IsTrue, Bool, not, List, [], ◌∷◌, ◌++◌, length, drop}
use Rattle.std.specs.Str.Lines.{lines}
use Rattle.std.proofs.Common.{refl, ap, sym, ◌∙◌, arith, cond, subst, ⊎_elim}
use Rattle.std.proofs.lemmas.Bool.{cases_order}
use Rattle.std.proofs.lemmas.List.Elements.{filter-append}
use Rattle.spec_script.specs.declared.stop.ScriptWhy.{ScriptWhy}
use Rattle.spec_script.specs.declared.stop.ScriptWhy.TheVariants as why
use Rattle.spec_script.specs.Texts.{AreLines, IsWrongAt, Reaches, kept, is_skipped}
use Rattle.sql_script.specs.Laws.{SaysOne, IsNeverBoth, HasOneFault}

abbrev first_or : {A : Type 0} → A → List A → A
first_or d [] = d
first_or d (x ∷ xs) = x

module _ {X : Type 0} (IsLine : List ℕ → X → Type 0) where
  one_list : ((line : List ℕ) (a b : X) → IsLine line a → IsLine line b → a ≡ b) → (ls : List (List ℕ)) (one other : List X) → AreLines IsLine ls one → AreLines IsLine ls other → one ≡ other
  one_list unique [] [] [] p q = refl
  one_list unique [] [] (b ∷ other) p q = absurd q
  one_list unique [] (a ∷ one) other p q = absurd p
  one_list unique (l ∷ ls) [] other p q = absurd p
  one_list unique (l ∷ ls) (a ∷ one) [] p q = absurd q
  one_list unique (l ∷ ls) (a ∷ one) (b ∷ other) p q = ap (λ x. x ∷ one) (unique l a b p.0 q.0) ∙ ap (λ l. b ∷ l) (one_list unique ls one other p.1 q.1)

  pub says_one : ((line : List ℕ) (a b : X) → IsLine line a → IsLine line b → a ≡ b) → SaysOne IsLine
  says_one unique text one other p q = one_list unique (kept (lines text)) one other p.said q.said

  as_many : (ls : List (List ℕ)) (values : List X) → AreLines IsLine ls values → length ls ≡ length values
  as_many [] [] p = refl
  as_many [] (v ∷ values) p = absurd p
  as_many (l ∷ ls) [] p = absurd p
  as_many (l ∷ ls) (v ∷ values) p = omega (arith, as_many ls values p.1)

  -- lines that are those of values have one for each of them
  value_at : (before : List (List ℕ)) (line : List ℕ) (after : List (List ℕ)) (values : List X) → AreLines IsLine (before ++ line ∷ after) values
      → (v : X) × IsLine line v × (length before < length values)
  value_at [] line after [] p = absurd p
  value_at [] line after (v ∷ values) p = (v, p.0, omega arith)
  value_at (l ∷ before) line after [] p = absurd p
  value_at (l ∷ before) line after (v ∷ values) p =
      let there = value_at before line after values p.1 in
      (there.0, there.1, omega (arith, there.2))

  -- the kept lines of a text, where one that isn't skipped stands
  kept_parts : (before after : List (List ℕ)) (line : List ℕ) → IsTrue (not (is_skipped line)) → kept (before ++ line ∷ after) ≡ kept before ++ line ∷ kept after
  kept_parts before after line shown =
      filter-append (λ l. not (is_skipped l)) before (line ∷ after)
      ∙ ap (λ (t : Bool). kept before ++ cond t (line ∷ kept after) (kept after)) shown

  -- where lines are those of values, one of them isn't wrong, and stands behind fewer than all
  met : (before after : List (List ℕ)) (line : List ℕ) (told values : List X) → IsTrue (not (is_skipped line)) → AreLines IsLine (kept before) told
      → AreLines IsLine (kept (before ++ line ∷ after)) values → (v : X) × IsLine line v × (length told < length values)
  met before after line told values shown said all =
      let there = value_at (kept before) line (kept after) values (subst (λ l. AreLines IsLine l values) (kept_parts before after line shown) all) in
      (there.0, there.1, omega (arith, there.2, as_many (kept before) told said))

  pub never_both : IsNeverBoth IsLine
  never_both text values n why.Size p q = omega (arith, p.size, q.1)
  never_both text values n why.Statement p q =
      let r = q.3 in
      let there = met r.before r.after q.1 q.2 values r.shown r.said (subst (λ l. AreLines IsLine (kept l) values) r.parts p.said) in
      q.5 there.0 there.1
  never_both text values n why.Many p q =
      let r = q.3 in
      let there = met r.before r.after q.1 q.2 values r.shown r.said (subst (λ l. AreLines IsLine (kept l) values) r.parts p.said) in
      omega (arith, there.2, q.4, p.count)

  -- the shorter of two fronts of one list is a front of the longer
  longer : {A : Type 0} (xs ys : List A) (a b : A) (more others : List A) → xs ++ a ∷ more ≡ ys ++ b ∷ others → length xs < length ys
      → (mid : List A) × (ys ≡ xs ++ a ∷ mid)
  longer [] [] a b more others e h = absurd (omega (arith, h))
  longer [] (y ∷ ys) a b more others e h = (ys, ap (λ l. first_or a l ∷ ys) (sym e))
  longer (x ∷ xs) [] a b more others e h = absurd (omega (arith, h))
  longer (x ∷ xs) (y ∷ ys) a b more others e h =
      let rest = longer xs ys a b more others (ap (drop 1) e) (omega (arith, h)) in
      (rest.0, ap (λ l. first_or x l ∷ ys) (sym e) ∙ ap (λ l. x ∷ l) rest.1)

  same_place : {A : Type 0} (xs ys : List A) (a b : A) (more others : List A) → xs ++ a ∷ more ≡ ys ++ b ∷ others → length xs ≡ length ys → a ≡ b
  same_place [] [] a b more others e h = ap (first_or a) e
  same_place [] (y ∷ ys) a b more others e h = absurd (omega (arith, h))
  same_place (x ∷ xs) [] a b more others e h = absurd (omega (arith, h))
  same_place (x ∷ xs) (y ∷ ys) a b more others e h = same_place xs ys a b more others (ap (drop 1) e) (omega (arith, h))

  -- a line before a place that is reached is that of a value
  earlier : (text : List ℕ) (n m : ℕ) (line other : List ℕ) (values told : List X) → Reaches IsLine text n line values → Reaches IsLine text m other told → n < m
      → (v : X) × IsLine line v × (length values < length told)
  earlier text n m line other values told p q h =
      let front = longer p.before q.before line other p.after q.after (sym p.parts ∙ q.parts) (omega (arith, h, p.number, q.number)) in
      met p.before front.0 line values told p.shown p.said (subst (λ l. AreLines IsLine (kept l) told) front.1 q.said)

  -- where both reach the place, the lines are one
  same_line : (text : List ℕ) (n m : ℕ) (line other : List ℕ) (values told : List X) → Reaches IsLine text n line values → Reaches IsLine text m other told → n ≡ m → line ≡ other
  same_line text n m line other values told p q h =
      same_place p.before q.before line other p.after q.after (sym p.parts ∙ q.parts) (omega (arith, h, p.number, q.number))

  no_later : (text : List ℕ) (n m : ℕ) (why because : ScriptWhy) → IsWrongAt IsLine text n why → IsWrongAt IsLine text m because → n < m → ⊥
  no_later text n m why.Size why.Size p q h = omega (arith, q.0, h)
  no_later text n m why.Size why.Statement p q h = omega (arith, p.1, q.0)
  no_later text n m why.Size why.Many p q h = omega (arith, p.1, q.0)
  no_later text n m why.Statement why.Size p q h = omega (arith, p.0, q.1)
  no_later text n m why.Statement why.Statement p q h = let v = earlier text n m p.1 q.1 p.2 q.2 p.3 q.3 h in p.5 v.0 v.1
  no_later text n m why.Statement why.Many p q h = let v = earlier text n m p.1 q.1 p.2 q.2 p.3 q.3 h in p.5 v.0 v.1
  no_later text n m why.Many why.Size p q h = omega (arith, p.0, q.1)
  no_later text n m why.Many why.Statement p q h = let v = earlier text n m p.1 q.1 p.2 q.2 p.3 q.3 h in omega (arith, v.2, p.4, q.4)
  no_later text n m why.Many why.Many p q h = let v = earlier text n m p.1 q.1 p.2 q.2 p.3 q.3 h in omega (arith, v.2, p.4, q.4)

  one_why : (text : List ℕ) (n m : ℕ) (why because : ScriptWhy) → IsWrongAt IsLine text n why → IsWrongAt IsLine text m because → n ≡ m → why ≡ because
  one_why text n m why.Size why.Size p q h = refl
  one_why text n m why.Size why.Statement p q h = absurd (omega (arith, p.1, q.0))
  one_why text n m why.Size why.Many p q h = absurd (omega (arith, p.1, q.0))
  one_why text n m why.Statement why.Size p q h = absurd (omega (arith, p.0, q.1))
  one_why text n m why.Statement why.Statement p q h = refl
  one_why text n m why.Statement why.Many p q h =
      absurd (p.5 q.5 (subst (λ l. IsLine l q.5) (sym (same_line text n m p.1 q.1 p.2 q.2 p.3 q.3 h)) q.6))
  one_why text n m why.Many why.Size p q h = absurd (omega (arith, p.0, q.1))
  one_why text n m why.Many why.Statement p q h =
      absurd (q.5 p.5 (subst (λ l. IsLine l p.5) (same_line text n m p.1 q.1 p.2 q.2 p.3 q.3 h) p.6))
  one_why text n m why.Many why.Many p q h = refl

  pub one_fault : HasOneFault IsLine
  one_fault text n m why because p q =
      ⊎_elim (λ e. (e, one_why text n m why because p q e))
      (λ apart. absurd (⊎_elim (λ h. no_later text n m why because p q h) (λ h. no_later text m n because why q p h) apart))
      (cases_order n m)
