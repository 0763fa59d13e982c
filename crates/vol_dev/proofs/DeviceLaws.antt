-- What several calls of a device, one after another, do together.
use Rattle.std.specs.Prelude.{◌≡◌, ℕ, List, [], ◌++◌, take, drop, Option, Some, None, IfSome, refl}
use Rattle.std.specs.Io.KnownBytes.{append_known, prepend_known, IsAtEnd}
use Rattle.std.proofs.Common.{sym, ap, ◌∙◌, append_assoc, append-nil}
use Rattle.std.proofs.lemmas.List.{take-append-drop}
use Rattle.std.proofs.lemmas.Option.{none-some, same_Some}
use Rattle.vol_dev.specs.Devices.{WroteFront}

-- nothing added
pub append_known-nil : (told : Option (List ℕ)) → append_known told [] ≡ told
append_known-nil None = refl
append_known-nil (Some x) = ap (λ l. Some l) (append-nil x)

-- two additions
pub append_known-append_known : (told : Option (List ℕ)) (xs ys : List ℕ)
    → append_known (append_known told xs) ys ≡ append_known told (xs ++ ys)
append_known-append_known None xs ys = refl
append_known-append_known (Some x) xs ys = ap (λ l. Some l) (append_assoc x xs ys)

-- two calls that added
pub append_known-then : (a b c : Option (List ℕ)) (xs ys : List ℕ) → b ≡ append_known a xs → c ≡ append_known b ys
    → c ≡ append_known a (xs ++ ys)
append_known-then a b c xs ys p q = q ∙ ap (λ t. append_known t ys) p ∙ append_known-append_known a xs ys

-- what was taken when nothing is left is the whole
pub prepend_known-whole : (old new : Option (List ℕ)) (bytes : List ℕ) → old ≡ prepend_known bytes new → IsAtEnd new
    → IfSome old (λ whole. bytes ≡ whole)
prepend_known-whole None new bytes h e = tt
prepend_known-whole (Some x) None bytes h e = absurd (none-some x (sym h))
prepend_known-whole (Some x) (Some y) bytes h e = sym (same_Some x (bytes ++ y) h ∙ ap (λ l. bytes ++ l) e ∙ append-nil bytes)

-- a failure that added nothing
pub WroteFront-nothing : (told : Option (List ℕ)) (bytes : List ℕ) → WroteFront told told bytes
WroteFront-nothing told bytes = record { front = []; rest = bytes; parts = refl; grown = sym (append_known-nil told) }

-- a failure that added the first n bytes
pub WroteFront-take : (x new bytes : List ℕ) (n : ℕ) → new ≡ x ++ take n bytes → WroteFront (Some x) (Some new) bytes
WroteFront-take x new bytes n h =
    record { front = take n bytes; rest = drop n bytes; parts = sym (take-append-drop n bytes); grown = ap (λ l. Some l) h }

-- a failure after some whole additions leaves a front of all that was to be added
pub WroteFront-after : (a b c : Option (List ℕ)) (done bytes more all : List ℕ) → b ≡ append_known a done → WroteFront b c bytes
    → all ≡ done ++ (bytes ++ more) → WroteFront a c all
WroteFront-after a b c done bytes more all p q e = record {
  front = done ++ q.front;
  rest = q.rest ++ more;
  parts = e ∙ ap (λ l. done ++ (l ++ more)) q.parts ∙ ap (λ l. done ++ l) (append_assoc q.front q.rest more)
      ∙ sym (append_assoc done q.front (q.rest ++ more));
  grown = append_known-then a b c done q.front p q.grown;
}
