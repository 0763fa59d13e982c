-- Lists of scripts and replies, one after another.
use Rattle.std.proofs.Common.{◌≡◌, ℕ, zero, suc, ◌+◌, ◌-◌, ◌<◌, ◌≤◌, ◌⊎◌, subst, Bool, true, false, ◌||◌, List, [], ◌∷◌, ◌++◌, length, take, drop, map, get_or, Some, All, refl, sym, ap, ◌∙◌, inl, inr, ⊎_elim, append_assoc, append-nil, arith}
use Rattle.std.specs.Prelude.{slice_get}
use Rattle.std.specs.List.{list_any, list_all}
use Rattle.std.proofs.lemmas.Bool.{and_parts}
use Rattle.std.proofs.lemmas.Option.{same_Some, slice_get_within, slice_get-get_or, unwrap_or-slice_get}
use Rattle.std.specs.Prelude.{unwrap_or}
use Rattle.std.proofs.lemmas.List.{take_more, take-append-drop, length-take-le}
use Rattle.spec_script.specs.declared.reply.Reply.{Reply}
use Rattle.spec_script.specs.Replies.{session_text, texts_from, text_of}
use Rattle.checkdb_top.specs.Runs.{replies_to}
use Rattle.vol_dev.specs.declared.device.Sink.{Ghosts}
use Rattle.vol_dev.specs.Output.{Wrote}
use Rattle.vol_dev.proofs.Output.{wrote_then, wrote_front}

pub any_mapped : {A B : Type 0} (f : A → B) (p : B → Bool) (xs : List A) → list_any (λ x. p (f x)) xs ≡ list_any p (map f xs)
any_mapped f p [] = refl
any_mapped f p (x ∷ xs) = ap (λ b. p (f x) || b) (any_mapped f p xs)

-- an element of a list of which all are so
pub at_place : {A : Type 0} (P : A → Type 0) (xs : List A) (k : ℕ) (x : A) → All P xs → slice_get xs k ≡ Some x → P x
at_place P xs k x all is =
    let same : get_or xs k x ≡ x = sym (unwrap_or-slice_get xs k x) ∙ ap (λ o. unwrap_or o x) is in
    subst P same (all k x (slice_get_within xs k x is))

pub passes_at : {A : Type 0} (p : A → Bool) (xs : List A) (k : ℕ) (x : A) → list_all p xs ≡ true → slice_get xs k ≡ Some x → p x ≡ true
passes_at p [] k x all is = cc
passes_at p (y ∷ ys) zero x all is = ap p (sym (same_Some y x is)) ∙ (and_parts (p y) (list_all p ys) all).0
passes_at p (y ∷ ys) (suc k) x all is = passes_at p ys k x (and_parts (p y) (list_all p ys) all).1 is

-- an element of a list with one more behind
pub in_longer : {A : Type 0} (xs : List A) (x y : A) (k : ℕ) → slice_get (xs ++ x ∷ []) k ≡ Some y
    → (slice_get xs k ≡ Some y) ⊎ ((k ≡ length xs) × (x ≡ y))
in_longer [] x y zero is = inr (refl, same_Some x y is)
in_longer [] x y (suc k) is = cc
in_longer (z ∷ zs) x y zero is = inl is
in_longer (z ∷ zs) x y (suc k) is = ⊎_elim (λ a. inl a) (λ b. inr (ap suc b.0, b.1)) (in_longer zs x y k is)

texts_append : (s : ℕ) (xs ys : List (List Reply)) → texts_from s (xs ++ ys) ≡ texts_from s xs ++ texts_from (s + length xs) ys
texts_append s [] ys = ap (λ k. texts_from k ys) (omega arith)
texts_append s (x ∷ xs) ys =
    let same : s + 1 + length xs ≡ s + length (x ∷ xs) = omega arith in
    ap (λ l. session_text s 1 x ++ l) (texts_append (s + 1) xs ys ∙ ap (λ k. texts_from (s + 1) xs ++ texts_from k ys) same)
    ∙ sym (append_assoc (session_text s 1 x) (texts_from (s + 1) xs) (texts_from (s + length (x ∷ xs)) ys))

texts_more : (n : ℕ) (xs : List (List Reply)) (d : List Reply) → n < length xs
    → text_of (take n xs) ++ session_text (n + 1) 1 (get_or xs n d) ≡ text_of (take (n + 1) xs)
texts_more n xs d below =
    let long : length (take n xs) ≡ n = length-take-le n xs (omega (arith, below)) in
    let place : 1 + length (take n xs) ≡ n + 1 = omega (arith, long) in
    sym (ap text_of (take_more xs n d below) ∙ texts_append 1 (take n xs) (get_or xs n d ∷ [])
    ∙ ap (λ k. text_of (take n xs) ++ (session_text k 1 (get_or xs n d) ++ [])) place
    ∙ ap (λ l. text_of (take n xs) ++ l) (append-nil (session_text (n + 1) 1 (get_or xs n d))))

module _ {X : Type 0} (k : Ghosts X) (n : ℕ) (xs : List (List Reply)) (x : List Reply) (a b c : X) (below : n < length xs) (is : x ≡ get_or xs n x)
    (so_far : Wrote k a b (text_of (take n xs)) false) where
  -- the replies of one session more are written
  pub more_written : (failed : Bool) → Wrote k b c (session_text (n + 1) 1 x) failed → Wrote k a c (text_of (take (n + 1) xs)) failed
  more_written failed more =
      subst (λ l. Wrote k a c l failed) (ap (λ r. text_of (take n xs) ++ session_text (n + 1) 1 r) is ∙ texts_more n xs x below)
      (wrote_then k a b c (text_of (take n xs)) (session_text (n + 1) 1 x) failed so_far more)

  -- or in part
  pub front_written : Wrote k b c (session_text (n + 1) 1 x) true → Wrote k a c (text_of xs) true
  front_written part =
      let front = take (n + 1) xs in
      subst (λ l. Wrote k a c l true) (sym (texts_append 1 front (drop (n + 1) xs)) ∙ ap text_of (take-append-drop (n + 1) xs))
      (wrote_front k a c (text_of front) (texts_from (1 + length front) (drop (n + 1) xs)) (more_written true part))

pub mapped_here : {A B : Type 0} (f : A → B) (xs : List A) (n : ℕ) (x : A) → x ≡ get_or xs n x → f x ≡ get_or (map f xs) n (f x)
mapped_here f [] n x is = refl
mapped_here f (y ∷ ys) zero x is = ap f is
mapped_here f (y ∷ ys) (suc n) x is = mapped_here f ys n x is

pub at_index : {A : Type 0} (P : A → Type 0) (xs : List A) (n : ℕ) (x : A) → All P xs → n < length xs → x ≡ get_or xs n x → P x
at_index P xs n x all below is = subst P (sym is) (all n x below)

-- one session more was told its replies
pub told_more : (P : ℕ → List Reply → Type 0) (xs : List (List Reply)) (x : List Reply) (n : ℕ) → length xs ≡ n
    → ((k : ℕ) (r : List Reply) → slice_get xs k ≡ Some r → P k r) → P n x
    → (k : ℕ) (r : List Reply) → slice_get (xs ++ x ∷ []) k ≡ Some r → P k r
told_more P xs x n many before last k r is =
    ⊎_elim (λ at. before k r at) (λ here. subst (λ m. P m r) (sym (here.0 ∙ many)) (subst (P n) here.1 last)) (in_longer xs x r k is)

-- the same by the sessions' numbers, from 1
pub told_each : (P : ℕ → List Reply → Type 0) (xs : List (List Reply)) (n : ℕ) → length xs ≡ n
    → ((k : ℕ) (r : List Reply) → slice_get xs k ≡ Some r → P (k + 1) r) → (s : ℕ) → 0 < s → s ≤ n → P s (replies_to xs s)
told_each P xs n many each s above within =
    let same : s - 1 + 1 ≡ s = omega (arith, above) in
    let below : s - 1 < length xs = omega (arith, above, within, many) in
    subst (λ m. P m (replies_to xs s)) same (each (s - 1) (replies_to xs s) (slice_get-get_or xs (s - 1) [] below))
