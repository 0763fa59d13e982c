-- One object more of those that mark an extent.
use Rattle.std.proofs.Common.{◌≡◌, refl, ℕ, ◌+◌, ◌<◌, Bool, true, false, List, [], ◌∷◌, ◌++◌, map, filter, length, get_or, ap, ◌∙◌, arith, append-nil, slice_index, cond}
use Rattle.std.proofs.lemmas.List.{map-append, map-id, get_or-map}
use Rattle.std.proofs.lemmas.List.FromFn.{filter_of_map_range_with_len_more}
use Rattle.std.specs.List.{range_with_len}
use Rattle.db_cat.specs.declared.rows.CatRow.{CatRow}
use Rattle.ck_facts.specs.declared.map.ExtentMap.{ExtentMap}
use Rattle.ck_facts.specs.Maps.{has_mark}
use Rattle.ck_facts.specs.MapOf.{ids_of}
use Rattle.ck_alloc.specs.Held.{marked_ids}

kept : (p : ℕ → Bool) (n : ℕ) → filter p (range_with_len 0 (n + 1)) ≡ filter p (range_with_len 0 n) ++ cond (p n) (n ∷ []) []
kept p n = simp map-id at (filter_of_map_range_with_len_more p (λ k. k) 0 n n (omega arith))

pub marked_more : (ids : List ℕ) (x : ExtentMap) (n : ℕ) → has_mark x n ≡ true
    → marked_ids ids x (n + 1) ≡ marked_ids ids x n ++ slice_index ids n ∷ []
marked_more ids x n marked =
    ap (map (slice_index ids)) (kept (has_mark x) n ∙ rw marked refl)
    ∙ map-append (slice_index ids) (filter (has_mark x) (range_with_len 0 n)) (n ∷ [])

pub marked_skip : (ids : List ℕ) (x : ExtentMap) (n : ℕ) → has_mark x n ≡ false → marked_ids ids x (n + 1) ≡ marked_ids ids x n
marked_skip ids x n not_marked =
    ap (map (slice_index ids)) (kept (has_mark x) n ∙ rw not_marked (append-nil (filter (has_mark x) (range_with_len 0 n))))

pub id_at : (objects : List CatRow) (i : ℕ) (d : CatRow) → i < length objects → slice_index (ids_of objects) i ≡ (get_or objects i d).id.0
id_at objects i d below = get_or-map (λ row. row.id.0) objects i d 0 below
