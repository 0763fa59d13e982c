-- Words of a line: what is spelled is read, and what is read is spelled so.
use Rattle.std.specs.Prelude.{◌≡◌, ℕ, ◌+◌, ◌-◌, Bool, not, nat_lt, List, [], ◌∷◌, ◌++◌, length, take, drop, get_or, bytes_eq, Option, Some, None, option_map, true, false}
use Rattle.std.specs.List.{list_all, position, position_or_len}
use Rattle.std.proofs.Common.{refl, ap, sym, ◌∙◌, arith, cond, length-append}
use Rattle.std.proofs.lemmas.Bool.{and_parts, lt-ltb, eqb-true, not-true}
use Rattle.std.proofs.lemmas.Option.{cond_some, none-some, same_Some}
use Rattle.std.proofs.lemmas.List.{take-append-drop}
use Rattle.std.proofs.lemmas.List.Sums.{split_at_first, passes_at_first}
use Rattle.std.proofs.Math.Seq.{take-append_seam, drop-append_seam, drop-append-add}
use Rattle.std.proofs.lemmas.Slice.Eq.{bytes_eq-Decides}
use Rattle.sql_script.specs.Reading.{◌>>=◌, after, before, is_space, cut_at_space}
use Rattle.sql_script.proofs.FirstLines.{found_at}

pub bind_ok : {A B : Type 0} (o : Option A) (f : A → Option B) (y : B) → (o >>= f) ≡ Some y → (x : A) × (o ≡ Some x) × (f x ≡ Some y)
bind_ok None f y e = absurd (none-some y e)
bind_ok (Some x) f y e = (x, refl, e)

pub map_ok : {A B : Type 0} (f : A → B) (o : Option A) (y : B) → option_map f o ≡ Some y → (x : A) × (o ≡ Some x) × (f x ≡ y)
map_ok f None y e = absurd (none-some y e)
map_ok f (Some x) y e = (x, refl, same_Some (f x) y e)

same_bytes : (xs ys : List ℕ) → xs ≡ ys → bytes_eq xs ys ≡ true
same_bytes xs ys e = (bytes_eq-Decides xs ys).1 e

pub after_spelled : (front rest : List ℕ) → after front (front ++ rest) ≡ Some rest
unfolding after
after_spelled front rest =
    ap (λ (t : Bool). cond t (Some (drop (length front) (front ++ rest))) None) (same_bytes (take (length front) (front ++ rest)) front (take-append_seam front rest))
    ∙ ap Some (drop-append_seam front rest)

pub after_parts : (front line rest : List ℕ) → after front line ≡ Some rest → line ≡ front ++ rest
unfolding after
after_parts front line rest e =
    let parts = cond_some (bytes_eq (take (length front) line) front) (drop (length front) line) rest e in
    sym (take-append-drop (length front) line) ∙ ap (λ l. l ++ drop (length front) line) ((bytes_eq-Decides (take (length front) line) front).0 parts.0)
    ∙ ap (λ l. front ++ l) parts.1

front_length : (xs ys : List ℕ) → length (xs ++ ys) - length ys ≡ length xs
front_length xs ys = omega (arith, length-append xs ys)

pub before_spelled : (front back : List ℕ) → before back (front ++ back) ≡ Some front
unfolding before
before_spelled front back =
    ap (λ (k : ℕ). cond (bytes_eq (drop k (front ++ back)) back) (Some (take k (front ++ back))) None) (front_length front back)
    ∙ ap (λ (t : Bool). cond t (Some (take (length front) (front ++ back))) None) (same_bytes (drop (length front) (front ++ back)) back (drop-append_seam front back))
    ∙ ap Some (take-append_seam front back)

pub before_parts : (back line front : List ℕ) → before back line ≡ Some front → line ≡ front ++ back
unfolding before
before_parts back line front e =
    let at = length line - length back in
    let parts = cond_some (bytes_eq (drop at line) back) (take at line) front e in
    sym (take-append-drop at line) ∙ ap (λ l. take at line ++ l) ((bytes_eq-Decides (drop at line) back).0 parts.0)
    ∙ ap (λ l. l ++ back) parts.1

-- a word without spaces
abbrev pub HasNoSpace : List ℕ → Type 0
HasNoSpace word = list_all (λ b. not (is_space b)) word ≡ true

fails : (b : ℕ) → not (is_space b) ≡ true → is_space b ≡ false
fails b h = not-true (is_space b) h

-- the first space stands behind the word
first_space : (word rest : List ℕ) → HasNoSpace word → position_or_len is_space (word ++ 32 ∷ rest) ≡ length word
first_space [] rest h = refl
first_space (b ∷ word) rest h =
    let parts = and_parts (not (is_space b)) (list_all (λ x. not (is_space x)) word) h in
    ap (λ (t : Bool). cond t (1 + position_or_len is_space (word ++ 32 ∷ rest)) 0) parts.0
    ∙ omega (arith, first_space word rest parts.1)

pub cut_spelled : (word rest : List ℕ) → HasNoSpace word → cut_at_space (word ++ 32 ∷ rest) ≡ Some (word, rest)
unfolding cut_at_space
cut_spelled word rest h =
    let line = word ++ 32 ∷ rest in
    let place = first_space word rest h in
    let inside : nat_lt (length word) (length line) ≡ true = lt-ltb (length word) (length line) (omega (arith, length-append word (32 ∷ rest))) in
    let found : position is_space line ≡ Some (length word) =
    ap (λ (k : ℕ). cond (nat_lt k (length line)) (Some k) None) place ∙ ap (λ (t : Bool). cond t (Some (length word)) None) inside in
    let behind : drop (length word + 1) line ≡ rest = drop-append-add word (32 ∷ rest) 1 in
    ap (option_map (λ i. (take i line, drop (i + 1) line))) found
    ∙ ap (λ l. Some (l, drop (length word + 1) line)) (take-append_seam word (32 ∷ rest))
    ∙ ap (λ l. Some (word, l)) behind

pub cut_parts : (line : List ℕ) (parts : List ℕ × List ℕ) → cut_at_space line ≡ Some parts → line ≡ parts.0 ++ 32 ∷ parts.1
unfolding cut_at_space
cut_parts line parts e =
    let at = map_ok (λ i. (take i line, drop (i + 1) line)) (position is_space line) parts e in
    let found = found_at is_space line at.0 at.1 in
    let space : get_or line (position_or_len is_space line) 0 ≡ 32 =
    eqb-true (get_or line (position_or_len is_space line) 0) 32 (passes_at_first is_space line 0 found.0) in
    let whole = split_at_first is_space line 0 found.0 in
    let there : line ≡ take at.0 line ++ 32 ∷ drop (at.0 + 1) line =
    whole ∙ ap (λ (b : ℕ). take (position_or_len is_space line) line ++ b ∷ drop (position_or_len is_space line + 1) line) space
    ∙ ap (λ (k : ℕ). take k line ++ 32 ∷ drop (k + 1) line) found.1 in
    there ∙ ap (λ (p : List ℕ × List ℕ). p.0 ++ 32 ∷ p.1) at.2
