-- The bytes of an item fix it, and what stands behind them.
use Rattle.std.proofs.Common.{◌≡◌, ℕ, true, List, ◌∷◌, ◌++◌, length, sym, ap, ◌∙◌, arith}
use Rattle.std.specs.Prelude.{flat_map}
use Rattle.std.proofs.lemmas.List.{append_assoc}
use Rattle.spec_file.specs.declared.data.Resource.{Resource}
use Rattle.spec_file.specs.declared.data.PageNo.{PageNo}
use Rattle.spec_file.specs.declared.data.Tran.{Tran}
use Rattle.spec_file.specs.declared.data.Lsn.{Lsn}
use Rattle.spec_log.specs.declared.item.Cell.{Cell}
use Rattle.spec_log.specs.declared.item.Cell.TheVariants.{Bytes, Bit}
use Rattle.spec_log.specs.declared.item.Record.{Record}
use Rattle.spec_log.specs.declared.item.Record.TheVariants.{Start, Change, Undo, Commit, Abort, Snap, Failed, CheckEnd}
use Rattle.spec_log.specs.Items.{has_form}
use Rattle.spec_log.specs.Bytes.{item_bytes, resource_bytes}
use Rattle.law_fixed.specs.Widths.{ItemFits}
use Rattle.law_fixed.proofs.Numbers.{split, parts_same}
use Rattle.law_fixed.proofs.Resources.{resources_split}
use Rattle.law_fixed.proofs.Forms.{start_small, bytes_small, bit_small}

abbrev IsSplit : Record → Record → Type 0
IsSplit x y =
    (xs ys : List ℕ) → has_form x ≡ true → ItemFits x → has_form y ≡ true → ItemFits y → item_bytes x ++ xs ≡ item_bytes y ++ ys → (x ≡ y) × (xs ≡ ys)

heads : {a b : ℕ} {xs ys : List ℕ} → a ∷ xs ≡ b ∷ ys → a ≡ b
heads same = cc

tails : {a b : ℕ} {xs ys : List ℕ} → a ∷ xs ≡ b ∷ ys → xs ≡ ys
tails same = cc

abbrev tran_of : ℕ → Tran
tran_of n = record { 0 = n }

abbrev lsn_of : ℕ → Lsn
lsn_of n = record { 0 = n }

abbrev pageno_of : ℕ → PageNo
pageno_of n = record { 0 = n }

tran_same : (t u : Tran) → t.0 ≡ u.0 → t ≡ u
tran_same t u e = ap tran_of e

lsn_same : (t u : Lsn) → t.0 ≡ u.0 → t ≡ u
lsn_same t u e = ap lsn_of e

page_same : (t u : PageNo) → t.0 ≡ u.0 → t ≡ u
page_same t u e = ap pageno_of e

start_is : (session session' index index' : ℕ) (tran tran' : Tran) (number number' changes changes' size size' : ℕ) (takes takes' : List Resource) →
    session ≡ session' → index ≡ index' → tran ≡ tran' → number ≡ number' → changes ≡ changes' → size ≡ size' → takes ≡ takes' →
    Start session index tran number changes size takes ≡ Start session' index' tran' number' changes' size' takes'
start_is session session' index index' tran tran' number number' changes changes' size size' takes takes' a b c d e f g = cc

start_split : (session index : ℕ) (tran : Tran) (number changes size : ℕ) (takes : List Resource) (y : Record) → IsSplit (Start session index tran number changes size takes) y
start_split session index tran number changes size takes (Start session' index' tran' number' changes' size' takes') xs ys form fits form' fits' same =
    let small = start_small session index tran number changes size takes form in
    let small' = start_small session' index' tran' number' changes' size' takes' form' in
    let e = small.few_changes in
    let f = small'.few_changes in
    let g = small.few_bytes in
    let h = small'.few_bytes in
    let a = split 2 session session' _ _ fits.0 fits'.0 (tails same) in
    let b = split 4 index index' _ _ fits.1 fits'.1 a.1 in
    let c = split 8 tran.0 tran'.0 _ _ fits.2 fits'.2 b.1 in
    let d = split 2 number number' _ _ fits.3 fits'.3 c.1 in
    let i = split 4 changes changes' _ _ (omega (arith, e)) (omega (arith, f)) d.1 in
    let j = split 8 size size' _ _ (omega (arith, g)) (omega (arith, h)) i.1 in
    let k = split 4 (length takes) (length takes') (flat_map resource_bytes takes ++ xs) (flat_map resource_bytes takes' ++ ys) small.few_takes small'.few_takes j.1 in
    let l = resources_split takes takes' xs ys fits.4 fits'.4 k.0 k.1 in
    (start_is session session' index index' tran tran' number number' changes changes' size size' takes takes' a.0 b.0 (tran_same tran tran' c.0) d.0 i.0 j.0 l.0, l.1)
start_split session index tran number changes size takes other xs ys form fits form' fits' same = absurd (omega (arith, heads same))

undo_split : (tran : Tran) (change : Lsn) (y : Record) → IsSplit (Undo tran change) y
undo_split tran change (Undo tran' change') xs ys form fits form' fits' same =
    let a = split 8 tran.0 tran'.0 _ _ fits.0 fits'.0 (tails same) in
    let b = split 8 change.0 change'.0 xs ys fits.1 fits'.1 a.1 in
    (ap (λ t. Undo t change) (tran_same tran tran' a.0) ∙ ap (Undo tran') (lsn_same change change' b.0), b.1)
undo_split tran change other xs ys form fits form' fits' same = absurd (omega (arith, heads same))

commit_split : (tran : Tran) (y : Record) → IsSplit (Commit tran) y
commit_split tran (Commit tran') xs ys form fits form' fits' same =
    let a = split 8 tran.0 tran'.0 xs ys fits fits' (tails same) in
    (ap Commit (tran_same tran tran' a.0), a.1)
commit_split tran other xs ys form fits form' fits' same = absurd (omega (arith, heads same))

abort_split : (tran : Tran) (y : Record) → IsSplit (Abort tran) y
abort_split tran (Abort tran') xs ys form fits form' fits' same =
    let a = split 8 tran.0 tran'.0 xs ys fits fits' (tails same) in
    (ap Abort (tran_same tran tran' a.0), a.1)
abort_split tran other xs ys form fits form' fits' same = absurd (omega (arith, heads same))

snap_split : (session index : ℕ) (y : Record) → IsSplit (Snap session index) y
snap_split session index (Snap session' index') xs ys form fits form' fits' same =
    let a = split 2 session session' _ _ fits.0 fits'.0 (tails same) in
    let b = split 4 index index' xs ys fits.1 fits'.1 a.1 in
    (ap (λ s. Snap s index) a.0 ∙ ap (Snap session') b.0, b.1)
snap_split session index other xs ys form fits form' fits' same = absurd (omega (arith, heads same))

failed_split : (session index : ℕ) (page : PageNo) (y : Record) → IsSplit (Failed session index page) y
failed_split session index page (Failed session' index' page') xs ys form fits form' fits' same =
    let a = split 2 session session' _ _ fits.0 fits'.0 (tails same) in
    let b = split 4 index index' _ _ fits.1 fits'.1 a.1 in
    let c = split 4 page.0 page'.0 xs ys fits.2 fits'.2 b.1 in
    (ap (λ s. Failed s index page) a.0 ∙ ap (λ i. Failed session' i page) b.0 ∙ ap (Failed session' index') (page_same page page' c.0), c.1)
failed_split session index page other xs ys form fits form' fits' same = absurd (omega (arith, heads same))

end_split : (session index outcome : ℕ) (y : Record) → IsSplit (CheckEnd session index outcome) y
end_split session index outcome (CheckEnd session' index' outcome') xs ys form fits form' fits' same =
    let a = split 2 session session' _ _ fits.0 fits'.0 (tails same) in
    let b = split 4 index index' _ _ fits.1 fits'.1 a.1 in
    (ap (λ s. CheckEnd s index outcome) a.0 ∙ ap (λ i. CheckEnd session' i outcome) b.0 ∙ ap (CheckEnd session' index') (heads b.1), tails b.1)
end_split session index outcome other xs ys form fits form' fits' same = absurd (omega (arith, heads same))

change_is : (tran tran' : Tran) (cell cell' : Cell) (before before' after after' : List ℕ) → tran ≡ tran' → cell ≡ cell' → before ≡ before' → after ≡ after' →
    Change tran cell before after ≡ Change tran' cell' before' after'
change_is tran tran' cell cell' before before' after after' a b c d = cc

-- what a cell had and what it has, each of as many bytes
values_split : (before before' after after' xs ys : List ℕ) → length before ≡ length before' → length after ≡ length after' →
    (before ++ after) ++ xs ≡ (before' ++ after') ++ ys → (before ≡ before') × (after ≡ after') × (xs ≡ ys)
values_split before before' after after' xs ys many many' same =
    let a = parts_same before before' (after ++ xs) (after' ++ ys) many (sym (append_assoc before after xs) ∙ same ∙ append_assoc before' after' ys) in
    let b = parts_same after after' xs ys many' a.1 in
    (a.0, b.0, b.1)

bytes_split : (tran : Tran) (page : PageNo) (off : ℕ) (before after : List ℕ) (y : Record) → IsSplit (Change tran (Bytes page off) before after) y
bytes_split tran page off before after (Change tran' (Bytes page' off') before' after') xs ys form fits form' fits' same =
    let small = bytes_small page off before after form in
    let small' = bytes_small page' off' before' after' form' in
    let e = small.near in
    let f = small'.near in
    let a = split 8 tran.0 tran'.0 _ _ fits.0 fits'.0 (tails same) in
    let b = split 4 page.0 page'.0 _ _ fits.1 fits'.1 (tails a.1) in
    let c = split 4 off off' _ _ (omega (arith, e)) (omega (arith, f)) b.1 in
    let d = split 2 (length after) (length after') ((before ++ after) ++ xs) ((before' ++ after') ++ ys) small.many small'.many c.1 in
    let v = values_split before before' after after' xs ys (small.as_many ∙ d.0 ∙ sym small'.as_many) d.0 d.1 in (
      change_is tran tran' (Bytes page off) (Bytes page' off') before before' after after' (tran_same tran tran' a.0)
          (ap (λ p. Bytes p off) (page_same page page' b.0) ∙ ap (Bytes page') c.0) v.0 v.1,
      v.2,
    )
bytes_split tran page off before after (Change tran' (Bit page' n') before' after') xs ys form fits form' fits' same =
    let a = split 8 tran.0 tran'.0 _ _ fits.0 fits'.0 (tails same) in
    absurd (omega (arith, heads a.1))
bytes_split tran page off before after other xs ys form fits form' fits' same = absurd (omega (arith, heads same))

bit_split : (tran : Tran) (page : PageNo) (n : ℕ) (before after : List ℕ) (y : Record) → IsSplit (Change tran (Bit page n) before after) y
bit_split tran page n before after (Change tran' (Bit page' n') before' after') xs ys form fits form' fits' same =
    let small = bit_small page n before after form in
    let small' = bit_small page' n' before' after' form' in
    let e = small.near in
    let f = small'.near in
    let a = split 8 tran.0 tran'.0 _ _ fits.0 fits'.0 (tails same) in
    let b = split 4 page.0 page'.0 _ _ fits.1 fits'.1 (tails a.1) in
    let c = split 4 n n' _ _ (omega (arith, e)) (omega (arith, f)) b.1 in
    let d = split 2 (length after) (length after') ((before ++ after) ++ xs) ((before' ++ after') ++ ys) small.many small'.many c.1 in
    let v = values_split before before' after after' xs ys (small.as_many ∙ d.0 ∙ sym small'.as_many) d.0 d.1 in (
      change_is tran tran' (Bit page n) (Bit page' n') before before' after after' (tran_same tran tran' a.0)
          (ap (λ p. Bit p n) (page_same page page' b.0) ∙ ap (Bit page') c.0) v.0 v.1,
      v.2,
    )
bit_split tran page n before after (Change tran' (Bytes page' off') before' after') xs ys form fits form' fits' same =
    let a = split 8 tran.0 tran'.0 _ _ fits.0 fits'.0 (tails same) in
    absurd (omega (arith, heads a.1))
bit_split tran page n before after other xs ys form fits form' fits' same = absurd (omega (arith, heads same))

pub item_split : (x y : Record) → IsSplit x y
item_split (Start session index tran number changes size takes) y = start_split session index tran number changes size takes y
item_split (Change tran (Bytes page off) before after) y = bytes_split tran page off before after y
item_split (Change tran (Bit page n) before after) y = bit_split tran page n before after y
item_split (Undo tran change) y = undo_split tran change y
item_split (Commit tran) y = commit_split tran y
item_split (Abort tran) y = abort_split tran y
item_split (Snap session index) y = snap_split session index y
item_split (Failed session index page) y = failed_split session index page y
item_split (CheckEnd session index outcome) y = end_split session index outcome y
