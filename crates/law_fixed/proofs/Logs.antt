-- The bytes of a log fix its items.
use Rattle.std.proofs.Common.{◌≡◌, ℕ, List, [], ◌∷◌, ◌++◌, refl, sym, ap, ◌∙◌, subst}
use Rattle.std.specs.Prelude.{flat_map, reverse}
use Rattle.std.proofs.lemmas.List.{append_assoc, append-nil, append_cancel_left, reverse-append, reverse-reverse}
use Rattle.std.proofs.lemmas.Grind.{flat_map-append}
use Rattle.spec_log.specs.declared.item.Record.{Record}
use Rattle.spec_log.specs.declared.item.Record.TheVariants.{Start, Change, Undo, Commit, Abort, Snap, Failed, CheckEnd}
use Rattle.spec_log.specs.Bytes.{item_bytes, log_bytes}
use Rattle.spec_log.specs.Rules.{HaveForm}
use Rattle.law_fixed.specs.Widths.{ItemsFit}
use Rattle.law_fixed.specs.Laws.{BytesFixItems, BytesFixAppended}
use Rattle.law_fixed.proofs.Items.{item_split}

-- an item has a byte
some_bytes : (x : Record) (xs : List ℕ) → [] ≡ item_bytes x ++ xs → ⊥
some_bytes (Start session index tran number changes size takes) xs same = cc
some_bytes (Change tran cell before after) xs same = cc
some_bytes (Undo tran change) xs same = cc
some_bytes (Commit tran) xs same = cc
some_bytes (Abort tran) xs same = cc
some_bytes (Snap session index) xs same = cc
some_bytes (Failed session index page) xs same = cc
some_bytes (CheckEnd session index outcome) xs same = cc

-- the items' bytes, the first item first
abbrev row_bytes : List Record → List ℕ
row_bytes items = flat_map item_bytes items

cons_same : (x y : Record) (xs ys : List Record) → x ≡ y → xs ≡ ys → x ∷ xs ≡ y ∷ ys
cons_same x y xs ys h t = cc

row_same : (items others : List Record) → HaveForm items → ItemsFit items → HaveForm others → ItemsFit others → row_bytes items ≡ row_bytes others → items ≡ others
row_same [] [] form fits form' fits' same = refl
row_same [] (y ∷ others) form fits form' fits' same = absurd (some_bytes y (row_bytes others) same)
row_same (x ∷ items) [] form fits form' fits' same = absurd (some_bytes x (row_bytes items) (sym same))
row_same (x ∷ items) (y ∷ others) form fits form' fits' same =
    let first = item_split x y (row_bytes items) (row_bytes others) form.0 fits.0 form'.0 fits'.0 same in
    cons_same x y items others first.0 (row_same items others form.1 fits.1 form'.1 fits'.1 first.1)

reverse_more : (x : Record) (older : List Record) → reverse (x ∷ older) ≡ reverse older ++ x ∷ []
reverse_more x older = reverse-append (x ∷ []) older

-- a log's bytes are those of its items, the oldest first
in_order : (log : List Record) → log_bytes log ≡ row_bytes (reverse log)
in_order [] = refl
in_order (x ∷ older) =
    ap (λ bs. bs ++ item_bytes x) (in_order older) ∙ ap (λ bs. row_bytes (reverse older) ++ bs) (sym (append-nil (item_bytes x)))
    ∙ sym (flat_map-append item_bytes (reverse older) (x ∷ [])) ∙ ap row_bytes (sym (reverse_more x older))

form_append : (xs ys : List Record) → HaveForm xs → HaveForm ys → HaveForm (xs ++ ys)
form_append [] ys f g = g
form_append (x ∷ xs) ys f g = (f.0, form_append xs ys f.1 g)

fit_append : (xs ys : List Record) → ItemsFit xs → ItemsFit ys → ItemsFit (xs ++ ys)
fit_append [] ys f g = g
fit_append (x ∷ xs) ys f g = (f.0, fit_append xs ys f.1 g)

form_reverse : (log : List Record) → HaveForm log → HaveForm (reverse log)
form_reverse [] f = f
form_reverse (x ∷ older) f = subst HaveForm (sym (reverse_more x older)) (form_append (reverse older) (x ∷ []) (form_reverse older f.1) (f.0, tt))

fit_reverse : (log : List Record) → ItemsFit log → ItemsFit (reverse log)
fit_reverse [] f = f
fit_reverse (x ∷ older) f = subst ItemsFit (sym (reverse_more x older)) (fit_append (reverse older) (x ∷ []) (fit_reverse older f.1) (f.0, tt))

pub bytes_fix_items : BytesFixItems
bytes_fix_items first second form fits form' fits' same =
    sym (reverse-reverse first)
    ∙ ap reverse (row_same (reverse first) (reverse second) (form_reverse first form) (fit_reverse first fits) (form_reverse second form') (fit_reverse second fits')
    (sym (in_order first) ∙ same ∙ in_order second))
    ∙ reverse-reverse second

log_append : (newer opened : List Record) → log_bytes (newer ++ opened) ≡ log_bytes opened ++ log_bytes newer
log_append [] opened = sym (append-nil (log_bytes opened))
log_append (x ∷ newer) opened = ap (λ bs. bs ++ item_bytes x) (log_append newer opened) ∙ append_assoc (log_bytes opened) (log_bytes newer) (item_bytes x)

pub bytes_fix_appended : BytesFixAppended
bytes_fix_appended opened first second form fits form' fits' same =
    bytes_fix_items first second form fits form' fits'
    (append_cancel_left (log_bytes opened) (log_bytes first) (log_bytes second) (sym (log_append first opened) ∙ same ∙ log_append second opened))

-- without the widths it wouldn't hold: the lowest two bytes of 65537 are those of 1
low_bytes_agree : log_bytes (Snap 65537 1 ∷ []) ≡ log_bytes (Snap 1 1 ∷ [])
low_bytes_agree = refl
