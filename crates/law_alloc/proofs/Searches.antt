-- A search reads, leaves the view, and finds a page of an extent of the file.
use Rattle.std.proofs.Common.{◌≡◌, ℕ, zero, suc, ◌+◌, ◌*◌, ◌/◌, ◌<◌, ◌≤◌, Bool, true, Option, Some, None, refl, sym, ◌∙◌, subst, arith}
use Rattle.std.specs.Prelude.{if◌then◌else◌}
use Rattle.std.specs.List.{range_with_len}
use Rattle.std.proofs.lemmas.Bool.{cond_both}
use Rattle.spec_file.specs.declared.data.Resource.TheVariants as resource
use Rattle.spec_file.specs.Header.{says}
use Rattle.spec_words.specs.NetChanges.{FileShape}
use Rattle.spec_words.specs.Views.{View, Plan}
use Rattle.spec_words.specs.Words.{◌then◌, give, sees, where_good, reach, or_later, first_of}
use Rattle.spec_alloc.specs.Search.{map_read, gam_read, sgam_read, pfs_read, is_held, search_at, search}
use Rattle.law_net.specs.GoodViews.{Leads}
use Rattle.law_net.proofs.WordLaws.{leads_then, leads_give, leads_sees, leads_good, leads_reach, leads_weaker}
use Rattle.law_net.proofs.ReadingLeaves.{Reads}
use Rattle.law_alloc.specs.Keeps.{IfFound}

abbrev pub Any : {A : Type 0} → A → Type 0
Any x = Unit {0}

-- reading, and then more that reads
pub reads_then : {A B : Type 0} (plan : Plan A) (next : A → Plan B) (v : View) (P : A → Type 0) (Q : B → Type 0) → Reads plan v P → ((x : A) → P x → Reads (next x) v Q) →
    Reads (plan then next) v Q
reads_then plan next v P Q first later =
    leads_then plan next v (λ x w. (w ≡ v) × Q x)
    (leads_weaker plan v (λ x w. (w ≡ v) × P x) (λ x w. Leads (next x) w (λ y u. (u ≡ v) × Q y))
    (λ x w e. subst (λ u. Leads (next x) u (λ y z. (z ≡ v) × Q y)) (sym e.0) (later x e.1)) first)

-- reading, and then what leads somewhere
pub leads_from : {A B : Type 0} (plan : Plan A) (next : A → Plan B) (v : View) (P : A → Type 0) (K : B → View → Type 0) → Reads plan v P → ((x : A) → P x → Leads (next x) v K) →
    Leads (plan then next) v K
leads_from plan next v P K first later =
    leads_then plan next v K
    (leads_weaker plan v (λ x w. (w ≡ v) × P x) (λ x w. Leads (next x) w K) (λ x w e. subst (λ u. Leads (next x) u K) (sym e.0) (later x e.1)) first)

pub sees_reads : {A : Type 0} (f : View → A) (v : View) (Q : A → Type 0) → Q (f v) → Reads (sees f) v Q
sees_reads f v Q q = leads_sees f v (λ x w. (w ≡ v) × Q x) (refl, q)

pub give_reads : {A : Type 0} (x : A) (v : View) (Q : A → Type 0) → Q x → Reads (give x) v Q
give_reads x v Q q = leads_give x v (λ x w. (w ≡ v) × Q x) (refl, q)

pub map_reads : (type p : ℕ) (v : View) → Reads (map_read type p) v Any
map_reads type p v =
    reads_then (reach p) (λ bytes. where_good (says type p bytes) p) v Any Any (leads_reach p v (λ x w. (w ≡ v) × Unit {0}) (refl, tt))
    (λ bytes u. leads_good (says type p bytes) p v (λ x w. (w ≡ v) × Unit {0}) (λ e. (refl, tt)))

-- what a search finds in one extent is what it looks for there, and the extent's bits fit
at_reads : (shape : FileShape) (fits : View → ℕ → Bool) (find : View → ℕ → Option ℕ) (Q : ℕ → Type 0) (e : ℕ) (v : View) → (fits v e ≡ true → IfFound Q (find v e)) →
    Reads (search_at shape fits find e) v (IfFound Q)
at_reads shape fits find Q e v found =
    let last : View → Option ℕ = λ view. find view e in
    let fit : View → Bool = λ view. fits view e in
    let held : View → Bool = λ view. is_held view (resource.Extent (record { 0 = e })) in
    let rest : Plan (Option ℕ) = pfs_read shape (8 * e) then (λ _. sees last) in
    let bits : Plan (Option ℕ) = sees fit then (λ (b : Bool). if b then rest else give None) in
    let maps : Plan (Option ℕ) = gam_read shape e then (λ _. sgam_read shape e then (λ _. bits)) in
    reads_then (sees held) (λ (h : Bool). if h then give None else maps) v Any (IfFound Q) (sees_reads held v Any tt)
    (λ h u. cond_both h (give None) maps (λ plan. Reads plan v (IfFound Q)) (λ b. give_reads None v (IfFound Q) tt) (λ b.
    reads_then (gam_read shape e) (λ _. sgam_read shape e then (λ _. bits)) v Any (IfFound Q) (map_reads _ _ v) (λ x y.
    reads_then (sgam_read shape e) (λ _. bits) v Any (IfFound Q) (map_reads _ _ v) (λ x y.
    reads_then (sees fit) (λ (b : Bool). if b then rest else give None) v (λ c. c ≡ fits v e) (IfFound Q) (sees_reads fit v (λ c. c ≡ fits v e) refl) (λ c same.
    cond_both c rest (give None) (λ plan. Reads plan v (IfFound Q))
    (λ b. reads_then (pfs_read shape (8 * e)) (λ _. sees last) v Any (IfFound Q) (map_reads _ _ v) (λ x y. sees_reads last v (IfFound Q) (found (sym same ∙ b))))
    (λ b. give_reads None v (IfFound Q) tt))))))

first_reads : (Q : ℕ → Type 0) (try : ℕ → Plan (Option ℕ)) (n lo most : ℕ) (v : View) → lo + n ≤ most → ((x : ℕ) → x < most → Reads (try x) v (IfFound Q)) →
    Reads (first_of try (range_with_len lo n)) v (IfFound Q)
unfolding first_of
first_reads Q try zero lo most v le each = leads_give None v (λ x w. (w ≡ v) × IfFound Q x) (refl, tt)
first_reads Q try (suc n) lo most v le each =
    leads_then (try lo) (λ found. or_later found (first_of try (range_with_len (lo + 1) n))) v (λ y w. (w ≡ v) × IfFound Q y)
    (leads_weaker (try lo) v (λ y w. (w ≡ v) × IfFound Q y) _
    (λ found w e. by_found found w e.0 e.1 (first_reads Q try n (lo + 1) most v (omega (arith, le)) each)) (each lo (omega (arith, le))))
  where
    by_found : (found : Option ℕ) (w : View) → w ≡ v → IfFound Q found → Reads (first_of try (range_with_len (lo + 1) n)) v (IfFound Q) →
        Leads (or_later found (first_of try (range_with_len (lo + 1) n))) w (λ y u. (u ≡ v) × IfFound Q y)
    by_found None w e f ih = subst (λ u. Leads (first_of try (range_with_len (lo + 1) n)) u (λ x y. (y ≡ v) × IfFound Q x)) (sym e) ih
    by_found (Some q) w e f ih = leads_give (Some q) w (λ y u. (u ≡ v) × IfFound Q y) (e, f)

-- a search finds what it looks for in some extent of the file whose bits fit
pub search_reads : (shape : FileShape) (fits : View → ℕ → Bool) (find : View → ℕ → Option ℕ) (Q : ℕ → Type 0) (v : View) →
    ((e : ℕ) → e < shape.pages / 8 → fits v e ≡ true → IfFound Q (find v e)) → Reads (search shape fits find) v (IfFound Q)
search_reads shape fits find Q v found =
    first_reads Q (search_at shape fits find) (shape.pages / 8) 0 (shape.pages / 8) v (omega arith) (λ e lt. at_reads shape fits find Q e v (found e lt))
