-- How lists of errors grow: by one rule after another, and by one number or member after another.
use Rattle.std.specs.Prelude.{◌≡◌, ◌⊎◌, ◌↔◌, ℕ, ◌+◌, ◌<◌, ◌≤◌, Bool, IsTrue, List, [], ◌∷◌, ◌++◌, length, take, Contains}
use Rattle.std.proofs.Common.{arith, rules, sym, ap, subst, inl, inr, ⊎_elim, ◌∙◌, get_or}
use Rattle.std.proofs.lemmas.List.{take_more}
use Rattle.std.proofs.Math.Seq.{take-length}
use Rattle.std.proofs.lemmas.List.Elements.{Contains-push, Contains-push_cases, Contains-append_left}
use Rattle.spec_check.specs.declared.report.CheckError.{CheckError}
use Rattle.spec_check.specs.Errors.{Lists, error_cmp}
use Rattle.std.specs.List.Sorted.{IsStrictlySortedBy}
use Rattle.spec_check.proofs.Members.{nothing_there}
use Rattle.ck_error.specs.Gathered.{Gathers, Adds, Below, Each}

-- one error more
pub adds_push : {Z : Type 0} (xs : List Z) (y : Z) → Adds xs (xs ++ y ∷ []) (λ x. x ≡ y)
adds_push {Z} xs y = record {
  sound = λ x c. ⊎_elim (λ old. inl old) (λ is. inr (sym is)) (Contains-push_cases xs y x c);
  kept = λ x c. Contains-append_left xs (y ∷ []) x c;
  complete = λ x is. subst (Contains (xs ++ y ∷ [])) (sym is) (Contains-push xs y);
}

pub adds_pushed : {Z : Type 0} (xs ys : List Z) (y z : Z) → ys ≡ xs ++ y ∷ [] → y ≡ z → Adds xs ys (λ x. x ≡ z)
adds_pushed {Z} xs ys y z grown is = subst (λ l. Adds xs l (λ x. x ≡ z)) (sym grown) (subst (λ w. Adds xs (xs ++ y ∷ []) (λ x. x ≡ w)) is (adds_push xs y))

-- no error more
pub adds_none : {Z : Type 0} (xs : List Z) (P : Z → Type 0) → ((x : Z) → P x → ⊥) → Adds xs xs P
adds_none {Z} xs P never = record {
  sound = λ x c. inl c;
  kept = λ x c. c;
  complete = λ x p. absurd (never x p);
}

-- the same errors by another name
pub adds_as : {Z : Type 0} (xs ys : List Z) (P Q : Z → Type 0) → ((x : Z) → P x → Q x) → ((x : Z) → Q x → P x)
    → Adds xs ys P → Adds xs ys Q
adds_as {Z} xs ys P Q there back a = record {
  sound = λ x c. ⊎_elim (λ old. inl old) (λ new. inr (there x new)) (a.sound x c);
  kept = a.kept;
  complete = λ x q. a.complete x (back x q);
}

-- one rule after another
pub adds_both : {Z : Type 0} (xs ys zs : List Z) (P Q : Z → Type 0) → Adds xs ys P → Adds ys zs Q → Adds xs zs (λ x. P x ⊎ Q x)
adds_both {Z} xs ys zs P Q a b = record {
  sound = λ x c. ⊎_elim (λ old. ⊎_elim (λ older. inl older) (λ p. inr (inl p)) (a.sound x old)) (λ q. inr (inr q)) (b.sound x c);
  kept = λ x c. b.kept x (a.kept x c);
  complete = λ x s. ⊎_elim (λ p. b.kept x (a.complete x p)) (λ q. b.complete x q) s;
}

-- a rule under a condition that holds, or doesn't
pub adds_given : {Z : Type 0} (xs ys : List Z) (P : Type 0) (E : Z → Type 0) → P → Adds xs ys E → Adds xs ys (λ x. P × E x)
adds_given {Z} xs ys P E holds a = adds_as xs ys E (λ x. P × E x) (λ x e. (holds, e)) (λ x s. s.1) a

pub adds_not : {Z : Type 0} (xs : List Z) (P : Type 0) (E : Z → Type 0) → (P → ⊥) → Adds xs xs (λ x. P × E x)
adds_not {Z} xs P E never = adds_none xs (λ x. P × E x) (λ x s. never s.0)

-- no number is below 0
pub adds_below_none : {Z : Type 0} (xs : List Z) (R : ℕ → Z → Type 0) → Adds xs xs (Below 0 R)
adds_below_none {Z} xs R = adds_none xs (Below 0 R) (λ x s. omega (arith, s.1))

upto : (i n : ℕ) → i < n + 1 → (i < n) ⊎ (i ≡ n)
upto i n h = search (rules, arith)

-- one number more
pub adds_below_more : {Z : Type 0} (xs ys zs : List Z) (n : ℕ) (R : ℕ → Z → Type 0) → Adds xs ys (Below n R) → Adds ys zs (R n)
    → Adds xs zs (Below (n + 1) R)
adds_below_more {Z} xs ys zs n R a b = adds_as xs zs (λ x. Below n R x ⊎ R n x) (Below (n + 1) R)
    (λ x s. ⊎_elim (λ old. (old.0, omega (arith, old.1), old.2)) (λ new. (n, omega arith, new)) s)
    (λ x s. ⊎_elim (λ less. inl (s.0, less, s.2)) (λ same. inr (subst (λ k. R k x) same s.2)) (upto s.0 n s.1))
    (adds_both xs ys zs (Below n R) (R n) a b)

-- no list has no member
pub adds_each_none : {T Z : Type 0} (xs : List Z) (R : T → Z → Type 0) → Adds xs xs (Each [] R)
adds_each_none {T} {Z} xs R = adds_none xs (Each [] R) (λ x s. nothing_there s.0 s.1)

-- one member more
pub adds_each_more : {T Z : Type 0} (xs ys zs : List Z) (ms : List T) (m : T) (R : T → Z → Type 0)
    → Adds xs ys (Each ms R) → Adds ys zs (R m) → Adds xs zs (Each (ms ++ m ∷ []) R)
adds_each_more {T} {Z} xs ys zs ms m R a b = adds_as xs zs (λ x. Each ms R x ⊎ R m x) (Each (ms ++ m ∷ []) R)
    (λ x s. ⊎_elim (λ old. (old.0, Contains-append_left ms (m ∷ []) old.0 old.1, old.2)) (λ new. (m, Contains-push ms m, new)) s)
    (λ x s. ⊎_elim (λ old. inl (s.0, old, s.2)) (λ same. inr (subst (λ k. R k x) (sym same) s.2)) (Contains-push_cases ms m s.0 s.1))
    (adds_both xs ys zs (Each ms R) (R m) a b)

-- one member more of those before place i
pub adds_each_next : {T Z : Type 0} (xs ys zs : List Z) (ms : List T) (i : ℕ) (d : T) (R : T → Z → Type 0) → i < length ms
    → Adds xs ys (Each (take i ms) R) → Adds ys zs (R (get_or ms i d)) → Adds xs zs (Each (take (i + 1) ms) R)
adds_each_next {T} {Z} xs ys zs ms i d R below a b =
    subst (λ l. Adds xs zs (Each l R)) (sym (take_more ms i d below)) (adds_each_more xs ys zs (take i ms) (get_or ms i d) R a b)

-- those before the end are all
pub adds_each_all : {T Z : Type 0} (xs ys : List Z) (ms : List T) (i : ℕ) (R : T → Z → Type 0) → length ms ≤ i → i ≤ length ms
    → Adds xs ys (Each (take i ms) R) → Adds xs ys (Each ms R)
adds_each_all {T} {Z} xs ys ms i R past within a =
    let end : i ≡ length ms = omega arith in
    subst (λ l. Adds xs ys (Each l R)) (ap (λ j. take j ms) end ∙ take-length ms) a

-- a list that was empty has the rule's errors
pub gathers_first : {Z : Type 0} (xs : List Z) (P : Z → Type 0) → Adds [] xs P → Gathers xs P
gathers_first {Z} xs P a = record {
  sound = λ x c. ⊎_elim (λ old. absurd (nothing_there x old)) (λ new. new) (a.sound x c);
  complete = λ x s. a.complete x s;
}

-- a list of a rule's errors that has grown by another's has both
pub gathers_more : {Z : Type 0} (xs ys : List Z) (P Q : Z → Type 0) → Gathers xs P → Adds xs ys Q → Gathers ys (λ x. P x ⊎ Q x)
gathers_more {Z} xs ys P Q h a = record {
  sound = λ x c. ⊎_elim (λ old. inl (h.sound x old)) (λ new. inr new) (a.sound x c);
  complete = λ x s. ⊎_elim (λ old. a.kept x (h.complete x old)) (λ new. a.complete x new) s;
}

-- the same errors by another name
pub gathers_as : {Z : Type 0} (xs : List Z) (P Q : Z → Type 0) → ((x : Z) → P x → Q x) → ((x : Z) → Q x → P x)
    → Gathers xs P → Gathers xs Q
gathers_as {Z} xs P Q there back h = record {
  sound = λ x c. there x (h.sound x c);
  complete = λ x q. h.complete x (back x q);
}

-- a gathered list in order, each error once
pub lists_in_order : (xs ys : List CheckError) (P : CheckError → Type 0) → IsStrictlySortedBy error_cmp ys
    → ((x : CheckError) → Contains ys x ↔ Contains xs x) → Gathers xs P → Lists ys P
lists_in_order xs ys P sorted same h = record {
  sorted = sorted;
  sound = λ x c. h.sound x ((same x).0 c);
  complete = λ x p. (same x).1 (h.complete x p);
}

-- an error under a condition that a test decides
pub adds_if : (xs ys : List CheckError) (b : Bool) (e f : CheckError) (P : Type 0) → (IsTrue b ↔ P) → e ≡ f
    → Adds xs ys (λ x. IsTrue b × (x ≡ e)) → Adds xs ys (λ x. P × (x ≡ f))
adds_if xs ys b e f P decides same a =
    adds_as xs ys (λ x. IsTrue b × (x ≡ e)) (λ x. P × (x ≡ f)) (λ x h. (decides.0 h.0, h.1 ∙ same)) (λ x h. (decides.1 h.0, h.1 ∙ sym same)) a
