-- The roots of the clustered tables among the first objects, one object more.
use Rattle.std.proofs.Common.{◌≡◌, ℕ, ◌+◌, ◌<◌, Bool, true, false, cond, List, [], ◌∷◌, ◌++◌, filter, length, map, take, get_or, sym, ap, ◌∙◌, append-nil}
use Rattle.std.proofs.lemmas.List.{map-append}
use Rattle.std.proofs.lemmas.List.Elements.{filter_more}
use Rattle.spec_file.specs.Kinds.{is_clustered}
use Rattle.spec_tree.specs.declared.known.Root.{Root}
use Rattle.spec_tables.specs.KnownPages.{root_of}
use Rattle.db_cat.specs.declared.rows.CatRow.{CatRow}
use Rattle.db_cat.specs.Rows.{row_of}
use Rattle.ck_merge.specs.Held.{roots_of}

abbrev root_in : CatRow → Root
root_in row = root_of (row_of row)

roots_step : (objects : List CatRow) (i : ℕ) (row : CatRow) (b : Bool) → i < length objects → row ≡ get_or objects i row → is_clustered row.kind ≡ b
    → roots_of (take (i + 1) objects) ≡ roots_of (take i objects) ++ map root_in (cond b (row ∷ []) [])
roots_step objects i row b within is told =
    ap (map root_in) (filter_more (λ r. is_clustered r.kind) objects i row within
    ∙ (ap (λ r. filter (λ r. is_clustered r.kind) (take i objects) ++ cond (is_clustered r.kind) (r ∷ []) []) (sym is)
    ∙ ap (λ (b : Bool). filter (λ r. is_clustered r.kind) (take i objects) ++ cond b (row ∷ []) []) told))
    ∙ map-append root_in (filter (λ r. is_clustered r.kind) (take i objects)) (cond b (row ∷ []) [])

pub roots_more : (objects : List CatRow) (i : ℕ) (row : CatRow) (now next : List Root) → i < length objects → row ≡ get_or objects i row
    → is_clustered row.kind ≡ true → now ≡ roots_of (take i objects) → next ≡ now ++ root_in row ∷ [] → next ≡ roots_of (take (i + 1) objects)
roots_more objects i row now next within at told is pushed = pushed ∙ (ap (λ l. l ++ root_in row ∷ []) is ∙ sym (roots_step objects i row true within at told))

pub roots_skip : (objects : List CatRow) (i : ℕ) (row : CatRow) (now : List Root) → i < length objects → row ≡ get_or objects i row
    → is_clustered row.kind ≡ false → now ≡ roots_of (take i objects) → now ≡ roots_of (take (i + 1) objects)
roots_skip objects i row now within at told is = is ∙ sym (roots_step objects i row false within at told ∙ append-nil (roots_of (take i objects)))
