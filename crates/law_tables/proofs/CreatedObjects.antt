-- CREATE leaves clean maps clean, and that of a heap a clean file.
use Rattle.std.proofs.Common.{◌≡◌, ◌⊎◌, ℕ, ◌/◌, ◌<◌, true, length, refl, sym, ap, subst, ◌∙◌, inl, inr, ⊎_elim}
use Rattle.std.proofs.lemmas.Bool.{cases_eq}
use Rattle.spec_file.specs.declared.geometry.Geometry.{Geometry}
use Rattle.spec_file.specs.declared.data.Kind.TheVariants.{Heap}
use Rattle.spec_file.specs.declared.pfs.PfsKind.TheVariants.{Iam}
use Rattle.spec_file.specs.Image.{Image, page}
use Rattle.spec_file.specs.Kinds.{is_clustered}
use Rattle.spec_file.specs.CatalogRows.{CatalogRow}
use Rattle.spec_file.specs.Iam.{single_slot_count}
use Rattle.spec_file.specs.Roles.{is_ordinary}
use Rattle.spec_chain.specs.Chains.{IsObject}
use Rattle.spec_chain.specs.Marks.{IsMarker, IsMarked}
use Rattle.spec_chain.specs.Uses.{Use, IsUse, IsUseBy, IsAllocatedTo}
use Rattle.spec_clean.specs.CleanTables.{HasCleanPages}
use Rattle.spec_clean.specs.CleanFiles.{IsClean}
use Rattle.spec_clean.specs.KnownOfObject.{known_of_object}
use Rattle.spec_steps.specs.AtMost.{Changed, page_of, either, maps_of}
use Rattle.spec_steps.specs.Acts.{Owns, Acts, StaysClean}
use Rattle.spec_steps.specs.PartsRead.{LeavesParts}
use Rattle.spec_steps.specs.Taking.{IsTakenAs}
use Rattle.spec_steps.specs.Tables.{CreatesObject}
use Rattle.law_writes.proofs.MapPages.{boot_not, differs}
use Rattle.law_clean.proofs.ObjectTrees.{table_of}
use Rattle.law_frames.proofs.ChainRules.{HasCleanChain}
use Rattle.law_frames.proofs.Held.{IsStart, goods}
use Rattle.law_steps.proofs.Owners.{NobodyOwns, takeable_is_nobodys}
use Rattle.law_steps.proofs.OneObject.{IsNotOthers, HasNoMaps, TakesOne, acts_from, other_uses, other_marks, clean_after, single_maps, single_bytes, taken_extents}
use Rattle.law_steps.proofs.FilledSlots.{use_is}
use Rattle.law_steps.proofs.LeftParts.{tables_left, extents_left}
use Rattle.law_steps.proofs.ExactSgam.{exact_from, single_changes, taken_here}
use Rattle.spec_steps.specs.Sgam.{HasExactSgam}
use Rattle.law_tables.proofs.Entries.{GainsRow, gains}
use Rattle.law_tables.proofs.OnePageChains.{one_page, new_chain, new_use, new_unmarked, has_none}
use Rattle.law_frames.proofs.WholeFiles.{file_stays_clean}

module _ (g : Geometry) (image image' : Image) (row : CatalogRow) (p : ℕ) (start : IsStart g image) (creates : CreatesObject g image image' row p) where
  abbrev rest : Changed
  rest = either (page_of p) (page_of 9)

  abbrev changed : Changed
  changed = either (maps_of p) rest

  no_maps : HasNoMaps rest
  no_maps = record { free = λ e c. ⊎_elim (λ x. x) (λ x. x) c; mixed = λ e c. ⊎_elim (λ x. x) (λ x. x) c; bytes = λ q c. ⊎_elim (λ x. x) (λ x. x) c }

  pages_are : (q : ℕ) → changed.pages q → (q ≡ p) ⊎ (q ≡ 9)
  pages_are q c = ⊎_elim (λ a. absurd (⊎_elim (λ x. x) (λ b. ⊎_elim (λ x. x) (λ x. x) b) a)) (λ b. b) c

  byte_is : (q : ℕ) → changed.bytes q → q ≡ p
  byte_is q c = ⊎_elim (λ a. ⊎_elim (λ x. absurd x) (λ b. ⊎_elim (λ x. absurd x) (λ same. same) b) a) (λ b. absurd (⊎_elim (λ x. x) (λ x. x) b)) c

  entry : GainsRow row (page image 9) (page image' 9)
  entry = subst (λ r. GainsRow r (page image 9) (page image' 9)) (sym creates.is) (gains creates.place creates.entry (page image 9) (page image' 9) creates.adds)

  nobodys : NobodyOwns g image p
  nobodys = takeable_is_nobodys g image start p creates.takeable

  not_others : (q : ℕ) → q ≡ p → IsNotOthers g image row.id q
  not_others q new r object other owns = nobodys r object (subst (Owns g image r) new owns)

  create_acts : Acts g image image' row.id
  create_acts = acts_from g image image' row.id changed (record {
    most = creates.most;
    catalog = entry.passes;
    rows = entry.rows;
    boot = creates.adds.set.header;
    whole = λ q c. ⊎_elim (λ new. inr (subst (λ r. is_ordinary g r ≡ true) (sym new) creates.takeable.ordinary)) (λ nine. inl nine) (pages_are q c);
    pages = λ q c inside ordinary. ⊎_elim (λ new. not_others q new) (λ nine. absurd (differs g q 9 ordinary (boot_not g) nine)) (pages_are q c);
    bytes = λ q c inside. not_others q (byte_is q c);
  })

  inside' : p < length image'
  inside' = subst (λ n. p < n) (sym creates.most.size) creates.takeable.inside

  abbrev new_one : Use
  new_one = record { object = row.id; place = single_slot_count }

  own_use : (q place : ℕ) → IsUseBy g image' q row place → (q ≡ p) × (place ≡ single_slot_count)
  own_use = new_use g image' row p creates.first inside' creates.takeable.ordinary creates.new

  use_from : (q : ℕ) (v : Use) → IsUse g image' q v → IsUse g image q v ⊎ ((q ≡ p) × (v ≡ new_one))
  use_from q v h = ⊎_elim
      (λ own. let at = own_use q v.place (subst (λ r. IsUseBy g image' q r v.place) (entry.only h.0 h.1 (h.2 ∙ own)) h.3) in
      inr (at.0, use_is v row.id single_slot_count own at.1))
      (λ other. inl ((other_uses g image image' row.id start create_acts q v other).0 h))
      (cases_eq v.object row.id)

  use_in : (q : ℕ) (v : Use) → IsUse g image q v ⊎ ((q ≡ p) × (v ≡ new_one)) → IsUse g image' q v
  use_in q v (inl h) = (other_uses g image image' row.id start create_acts q v (λ same. entry.fresh h.0 h.1 (h.2 ∙ same))).1 h
  use_in q v (inr (at, is)) =
      let own : IsUse g image' p new_one = (
        row,
        entry.there,
        refl,
        inr (refl, (0, (one_page g image' row p creates.first inside' creates.takeable.ordinary creates.new).pages, creates.first)),
      ) in
      subst (λ r. IsUse g image' r v) (sym at) (subst (IsUse g image' p) (sym is) own)

  mark_from : (e m : ℕ) → IsMarker g image' e m → IsMarker g image e m
  mark_from e m h = ⊎_elim
      (λ own. absurd (new_unmarked g image' row p creates.first inside' creates.takeable.ordinary creates.new e (subst (λ r. IsMarked g image' r e) (entry.only h.0 h.1 (h.2 ∙ own)) h.3)))
      (λ other. (other_marks g image image' row.id start create_acts e m other).0 h) (cases_eq m row.id)

  adds : TakesOne g image image' p new_one
  adds = record {
    takeable = creates.takeable;
    changes = single_maps g image image' p rest no_maps creates.most;
    free = creates.taken.free;
    byte = record { kind = Iam; is = inr (refl, refl); fits = creates.taken.byte };
    bytes = single_bytes g image image' p rest no_maps creates.most;
    uses = λ q v. (use_from q v, use_in q v);
    marks = λ e m. (mark_from e m, λ h. (other_marks g image image' row.id start create_acts e m (λ same. entry.fresh h.0 h.1 (h.2 ∙ same))).1 h);
  }

  -- the parts of other tables and of other extents read the same
  pub create_parts : LeavesParts g image image' row.id (λ e. e ≡ p / 8)
  create_parts = record {
    extents = extents_left g image image' (p / 8) adds.changes
        (λ q u other. (λ h. ⊎_elim (λ old. old) (λ new. absurd (other (ap (λ n. n / 8) new.0))) (use_from q u h), λ h. use_in q u (inl h))) (λ f m other. adds.marks f m);
    tables = tables_left g image image' row.id create_acts;
  }

  own_chain : (r : CatalogRow) → IsObject image' r → r.id ≡ row.id → HasCleanChain g image' r
  own_chain r object same = subst (HasCleanChain g image') (sym (entry.only r object same)) (new_chain g image' row p creates.first inside' creates.takeable.ordinary creates.new)

  pub create_maps : StaysClean g image image' row.id
  create_maps = record {
    acts = create_acts;
    maps = clean_after g image image' row.id start create_acts own_chain
        (taken_extents g image image' p new_one (goods g image start) start.shape.whole creates.most.size adds);
  }

  -- a heap has no page, and no tree
  own_pages : row.kind ≡ Heap → (r : CatalogRow) → IsObject image' r → r.id ≡ row.id → HasCleanPages g image' r
  own_pages heap r object same =
      let is = entry.only r object same in record {
        alone = λ q x allocated error_. has_none g image' row p creates.first inside' creates.takeable.ordinary creates.new q (subst (λ s. IsAllocatedTo g image' s q) is allocated);
        tree = λ x error_. let t = (table_of (known_of_object g image' r) error_.0 x error_.1).table in
            let clustered : is_clustered Heap ≡ true = subst (λ kind. is_clustered kind ≡ true) (ap (λ (s : CatalogRow). s.kind) is ∙ heap) t.known.clustered in cc;
      }

  pub create_clean : IsClean g image → row.kind ≡ Heap → IsClean g image'
  create_clean clean heap = file_stays_clean g image image' row.id start.shape clean create_maps (own_pages heap)

  pub create_exact : IsTakenAs g image' p Iam → HasExactSgam g image → HasExactSgam g image'
  create_exact taken = exact_from g image image' (p / 8) creates.most.size (single_changes g image image' p p 9 creates.most)
      (λ q u other h. ⊎_elim (λ old. old) (λ new. absurd (other (ap (λ n. n / 8) new.0))) (use_from q u h)) (taken_here g image' p Iam taken)
