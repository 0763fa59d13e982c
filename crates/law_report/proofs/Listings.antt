-- A statement about things can be listed where a list has just those things of which it holds. Most rules
-- ask for witnesses out of a list, for decided conditions, and say what the thing is: such a rule can be
-- listed too.
use Rattle.std.proofs.Common.{◌≡◌, ◌⊎◌, ℕ, ◌<◌, List, [], ◌∷◌, ◌++◌, Contains, Option, Some, None, refl, sym, subst, inl, inr, ⊎_elim}
use Rattle.std.specs.List.{range_with_len}
use Rattle.std.proofs.lemmas.List.Elements.{Contains-append_left, Contains-append_right, Contains-append_cases}
use Rattle.spec_check.proofs.Members.{nothing_there, cons_cases, cons_here, cons_there, range_in, range_from}
use Rattle.law_report.proofs.Decisions.{dec_like}

pub record Listing {X : Type 0} (R : X → Type 0) : Type 0 where
  pub members : List X
  pub sound : (x : X) → Contains members x → R x
  pub complete : (x : X) → R x → Contains members x

pub like : {X : Type 0} {R S : X → Type 0} → Listing R → ((x : X) → R x → S x) → ((x : X) → S x → R x) → Listing S
like a to from = record { members = a.members; sound = λ x h. to x (a.sound x h); complete = λ x h. a.complete x (from x h) }

pub nothing : {X : Type 0} {R : X → Type 0} → ((x : X) → R x → ⊥) → Listing R
nothing none = record { members = []; sound = λ x h. absurd (nothing_there x h); complete = λ x h. absurd (none x h) }

-- one thing alone
pub only : {X : Type 0} {R : X → Type 0} → (e : X) → R e → ((x : X) → R x → x ≡ e) → Listing R
only {R = R} e here unique = record {
  members = e ∷ [];
  sound = λ x h. ⊎_elim (λ same. subst R same here) (λ none. absurd (nothing_there x none)) (cons_cases e [] x h);
  complete = λ x h. subst (Contains (e ∷ [])) (sym (unique x h)) (cons_here e []);
}

pub one : {X : Type 0} (e : X) → Listing (λ (x : X). x ≡ e)
one e = only e refl (λ x h. h)

pub either : {X : Type 0} {R S : X → Type 0} → Listing R → Listing S → Listing (λ x. R x ⊎ S x)
either a b = record {
  members = a.members ++ b.members;
  sound = λ x h. ⊎_elim (λ l. inl (a.sound x l)) (λ r. inr (b.sound x r)) (Contains-append_cases a.members b.members x h);
  complete = λ x h. ⊎_elim (λ l. Contains-append_left a.members b.members x (a.complete x l))
      (λ r. Contains-append_right a.members b.members x (b.complete x r)) h;
}

-- where a decided condition holds
pub when : {C : Type 0} {X : Type 0} {R : X → Type 0} → Dec C → Listing R → Listing (λ x. C × R x)
when (yes c) a = like a (λ x h. (c, h)) (λ x h. h.1)
when (no other) a = nothing (λ x h. other h.0)

gather : {I X : Type 0} (R : I → X → Type 0) (is : List I) → ((i : I) → Contains is i → Listing (R i))
    → Listing (λ x. (i : I) × Contains is i × R i x)
gather R [] each = nothing (λ x h. nothing_there h.0 h.1)
gather {I} {X} R (i ∷ is) each = like (either (each i (cons_here i is)) (gather R is (λ j h. each j (cons_there i is j h)))) to from where
  to : (x : X) → (R i x ⊎ ((j : I) × Contains is j × R j x)) → (j : I) × Contains (i ∷ is) j × R j x
  to x (inl here) = (i, cons_here i is, here)
  to x (inr there) = (there.0, cons_there i is there.0 there.1, there.2)

  from : (x : X) → ((j : I) × Contains (i ∷ is) j × R j x) → R i x ⊎ ((j : I) × Contains is j × R j x)
  from x h = ⊎_elim (λ same. inl (subst (λ j. R j x) (sym same) h.2)) (λ there. inr (h.0, there, h.2)) (cons_cases i is h.0 h.1)

-- what can be listed of each thing of a list
pub among : {I X : Type 0} {P : I → Type 0} {R : I → X → Type 0} → Listing P → ((i : I) → P i → Listing (R i))
    → Listing (λ x. (i : I) × P i × R i x)
among {R = R} a each = like (gather R a.members (λ i h. each i (a.sound i h)))
    (λ x h. (h.0, a.sound h.0 h.1, h.2)) (λ x h. (h.0, a.complete h.0 h.1, h.2))

-- the things of a list for which more holds
pub such : {X : Type 0} {P Q : X → Type 0} → Listing P → ((x : X) → P x → Dec (Q x)) → Listing (λ x. P x × Q x)
such {X} {P} {Q} a each = like (among a (λ y h. when (each y h) (one y)))
    (λ x h. let same = sym h.2.1 in (subst P same h.1, subst Q same h.2.0)) (λ x h. (x, h.0, (h.1, refl)))

-- pairs of a thing of a list and of one of its own list
pub beside : {A B : Type 0} {P : A → Type 0} {K : A → B → Type 0} → Listing P → ((a : A) → P a → Listing (K a))
    → Listing (λ (t : A × B). P t.0 × K t.0 t.1)
beside {A} {B} {P} {K} a each = like (among a (λ i h. among (each i h) (λ b k. one (i, b)))) to (λ t h. (t.0, h.0, (t.1, h.1, refl))) where
  to : (t : A × B) → (i : A) × P i × ((b : B) × K i b × (t ≡ (i, b))) → P t.0 × K t.0 t.1
  to t h = subst (λ (s : A × B). P s.0 × K s.0 s.1) (sym h.2.2) (h.1, h.2.1)

pub numbers : (n : ℕ) → Listing (λ k. k < n)
numbers n = record { members = range_with_len 0 n; sound = range_from n; complete = range_in n }

-- the things of a list as it stands
pub listed : {X : Type 0} (xs : List X) → Listing (Contains xs)
listed xs = record { members = xs; sound = λ x h. h; complete = λ x h. h }

pub there_may_be : {X : Type 0} (o : Option X) → Listing (λ x. o ≡ Some x)
there_may_be None = nothing (λ x h. cc)
there_may_be (Some y) = only y refl (λ x h. cc)

-- what the first two of a list give, where it has two or more
pub two_or_more : {X Y : Type 0} (f : X → X → Y) (list : List X)
    → Listing (λ y. (first second : X) × (rest : List X) × (list ≡ first ∷ second ∷ rest) × (y ≡ f first second))
two_or_more f [] = nothing (λ y h. let none = h.3 in cc)
two_or_more f (a ∷ []) = nothing (λ y h. let alone = h.3 in cc)
two_or_more f (a ∷ b ∷ rest) = only (f a b) (a, b, rest, refl, refl) (λ y h. let these = h.3 in let is = h.4 in cc)

-- whether some thing is listed
some_of : {X : Type 0} (xs : List X) → Dec ((x : X) × Contains xs x)
some_of [] = no (λ h. nothing_there h.0 h.1)
some_of (x ∷ xs) = yes (x, cons_here x xs)

pub dec_some : {X : Type 0} {R : X → Type 0} → Listing R → Dec ((x : X) × R x)
dec_some a = dec_like (λ h. (h.0, a.sound h.0 h.1)) (λ h. (h.0, a.complete h.0 h.1)) (some_of a.members)

pub dec_exists : {X : Type 0} {P Q : X → Type 0} → Listing P → ((x : X) → P x → Dec (Q x)) → Dec ((x : X) × P x × Q x)
dec_exists a each = dec_like (λ h. (h.0, h.1.0, h.1.1)) (λ h. (h.0, (h.1, h.2))) (dec_some (such a each))

pub dec_none_is : {X : Type 0} {R : X → Type 0} → Listing R → Dec ((x : X) → R x → ⊥)
dec_none_is a = none (dec_some a) where
  none : {X : Type 0} {R : X → Type 0} → Dec ((x : X) × R x) → Dec ((x : X) → R x → ⊥)
  none (yes h) = no (λ k. k h.0 h.1)
  none (no h) = yes (λ x r. h (x, r))

all_of : {X : Type 0} (Q : X → Type 0) (xs : List X) → ((x : X) → Contains xs x → Dec (Q x)) → Dec ((x : X) → Contains xs x → Q x)
all_of Q [] each = yes (λ x h. absurd (nothing_there x h))
all_of {X} Q (x ∷ xs) each = both (each x (cons_here x xs)) (all_of Q xs (λ y h. each y (cons_there x xs y h))) where
  both : Dec (Q x) → Dec ((y : X) → Contains xs y → Q y) → Dec ((y : X) → Contains (x ∷ xs) y → Q y)
  both (yes here) (yes there) = yes (λ y h. ⊎_elim (λ same. subst Q same here) (λ t. there y t) (cons_cases x xs y h))
  both (yes here) (no other) = no (λ h. other (λ y t. h y (cons_there x xs y t)))
  both (no other) there = no (λ h. other (h x (cons_here x xs)))

-- whether all that are listed are so
pub dec_every : {X : Type 0} {P Q : X → Type 0} → Listing P → ((x : X) → P x → Dec (Q x)) → Dec ((x : X) → P x → Q x)
dec_every {X} {P} {Q} a each = dec_like (λ h x p. h x (a.complete x p)) (λ h x c. h x (a.sound x c))
    (all_of Q a.members (λ x h. each x (a.sound x h)))
