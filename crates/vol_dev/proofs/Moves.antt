-- What a call takes from the bytes of a device in memory, and adds to them.
use Rattle.std.proofs.Common.{◌≡◌, ℕ, ◌+◌, ◌-◌, ◌*◌, List, ◌++◌, length, take, drop, Some, Bool, true, false, cond, arith, sym, ap, subst, ◌∙◌}
use Rattle.std.proofs.lemmas.List.{take-append-drop, drop-drop}
use Rattle.std.proofs.lemmas.Slice.{between_to_end}
use Rattle.std.specs.Io.KnownBytes.{prepend_known}
use Rattle.spec_file.specs.Image.{page_at}
use Rattle.vol_dev.specs.Devices.{WroteFront}
use Rattle.vol_dev.proofs.DeviceLaws.{WroteFront-nothing, WroteFront-take}

-- the slice at a page's place is that page
pub page_read : (bytes items new : List ℕ) (p : ℕ) → bytes ≡ items
    → new ≡ take (8192 * p + 8192 - 8192 * p) (drop (8192 * p) bytes) → new ≡ page_at items p
page_read bytes items new p same h =
    let whole : 8192 * p + 8192 - 8192 * p ≡ 8192 = omega arith in
    h ∙ ap (λ n. take n (drop (8192 * p) bytes)) whole ∙ ap (λ l. take 8192 (drop (8192 * p) l)) same

-- the n bytes that were moved, and then those that are left
pub moved : (bytes items new : List ℕ) (t n : ℕ) → bytes ≡ items → take n new ≡ take n (take (length bytes - t) (drop t bytes))
    → Some (drop t items) ≡ prepend_known (take n new) (Some (drop (t + n) items))
moved bytes items new t n same h =
    let rest = between_to_end bytes t (length bytes) (omega arith) ∙ ap (drop t) same in
    sym (ap (λ l. Some (l ++ drop (t + n) items)) (h ∙ ap (take n) rest)
    ∙ ap (λ l. Some (take n (drop t items) ++ l)) (sym (drop-drop n t items)) ∙ ap (λ l. Some l) (take-append-drop n (drop t items)))

-- an addition of the first n bytes, or of nothing
pub front_if : (b : Bool) (held new bytes : List ℕ) (n : ℕ) → new ≡ cond b (held ++ take n bytes) held
    → WroteFront (Some held) (Some new) bytes
front_if true held new bytes n h = WroteFront-take held new bytes n h
front_if false held new bytes n h = subst (λ l. WroteFront (Some held) (Some l) bytes) (sym h) (WroteFront-nothing (Some held) bytes)
