-- Plain payloads are shown as they are.
use Rattle.std.specs.Prelude.{◌≡◌, ℕ, List, [], ◌∷◌, ◌++◌, flat_map, true}
use Rattle.std.specs.List.{list_all}
use Rattle.std.proofs.Common.{refl, ap, ◌∙◌}
use Rattle.std.proofs.lemmas.Bool.{and_parts}
use Rattle.spec_script.specs.Replies.{is_plain, shown_byte}

shown_plain : (b : ℕ) → is_plain b ≡ true → shown_byte b ≡ b ∷ []
shown_plain b h = rw h refl

pub plain_shown : (payload : List ℕ) → list_all is_plain payload ≡ true → flat_map shown_byte payload ≡ payload
plain_shown [] h = refl
plain_shown (b ∷ payload) h =
    let parts = and_parts (is_plain b) (list_all is_plain payload) h in
    ap (λ l. l ++ flat_map shown_byte payload) (shown_plain b parts.0) ∙ ap (λ l. b ∷ l) (plain_shown payload parts.1)
