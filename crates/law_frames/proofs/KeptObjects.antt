-- An object of which a check reads the same keeps its chain, uses and marks, and its pages with what is wrong with them.
use Rattle.std.proofs.Common.{◌≡◌, ◌↔◌, ℕ, zero, ◌/◌, ◌<◌, true, List, length, refl, sym, ap, subst, ◌∙◌, inl, inr, ⊎_elim, arith}
use Rattle.spec_file.specs.declared.geometry.Geometry.{Geometry}
use Rattle.spec_file.specs.Image.{Image, page}
use Rattle.spec_file.specs.CatalogRows.{CatalogRow}
use Rattle.spec_file.specs.Pfs.{is_allocated_byte}
use Rattle.spec_file.specs.Roles.{is_ordinary}
use Rattle.spec_chain.specs.Chains.{pointer}
use Rattle.spec_chain.specs.Marks.{IsMarked}
use Rattle.spec_chain.specs.Uses.{IsUseBy, IsAllocatedTo, pfs_byte}
use Rattle.spec_chain.proofs.Pointers.{goes_good, inside_below}
use Rattle.spec_rows.specs.PageTest.{PassesTest}
use Rattle.spec_check.specs.declared.report.CheckError.{CheckError}
use Rattle.spec_tree.specs.declared.known.PageHead.{PageHead}
use Rattle.spec_tree.specs.Trees.{StandsAt}
use Rattle.spec_tree.proofs.AgreeLaws.{Agrees, stands_where}
use Rattle.spec_tables.specs.Seen.{IsSeen}
use Rattle.spec_tables.specs.Heads.{head_of, index_row, index_rows}
use Rattle.spec_tables.specs.PageRules.{IsErrorOf, IsErrorOn}
use Rattle.spec_extents.specs.Extents.{FitsUse, FitsMark}
use Rattle.spec_clean.specs.CleanTables.{IsCleanTable}
use Rattle.spec_clean.specs.KnownOfObject.{IsHeadOf, known_of_object}
use Rattle.spec_steps.specs.IamPages.{SameLinks, SameMarks, SameSlots, OnChain}
use Rattle.spec_steps.specs.Acts.{Owns, IsKept}
use Rattle.spec_steps.specs.PartsRead.{ReadsSameObject}
use Rattle.law_clean.proofs.CleanParts.{used_inside}
use Rattle.law_frames.proofs.SameChain.{SameChain, chain_kept, marks_kept, uses_kept, slots_kept}
use Rattle.law_frames.proofs.ChainRules.{HasCleanChain, HasMarksInside, HasSlotsInside, clean_whole, chain_clean}

module _ (g : Geometry) (image image' : Image) (row : CatalogRow) (size : length image' ≡ length image) (reads : ReadsSameObject g image image' row) (clean : HasCleanChain g image row) where
  -- a page of the chain has the same bytes
  same_page : OnChain g image image' row (λ old new. new ≡ old)
  same_page k is =
      let good = goes_good g image row k (is k (omega arith)) in
      reads.pages (pointer image row k) (inr (k, is, refl)) (inside_below (length image) (pointer image row k) good.inside) good.ordinary

  pub on_other : (P : List ℕ → List ℕ → Type 0) → ((b : List ℕ) → P b b) → OnChain g image image' row P
  on_other P same k is = subst (P (page image (pointer image row k))) (sym (same_page k is)) (same (page image (pointer image row k)))

  pub same_chain : SameChain g image image' row
  same_chain = chain_kept g image image' row size (clean_whole g image row clean)
      (on_other SameLinks (λ b. record { type = refl; number = refl; object = refl; prev = refl; next = refl; interval = refl; sequence = refl }))

  pub kept_chain : HasCleanChain g image' row
  kept_chain = chain_clean g image image' row clean same_chain
      (on_other (HasMarksInside g (length image')) (λ b. record { inside = λ n low marked. inl marked }))
      (on_other (HasSlotsInside (length image')) (λ b. record { inside = λ j low. inl refl }) zero)

  -- its uses, its marks, and the pages that are allocated to it
  pub same_uses : (p place : ℕ) → IsUseBy g image' p row place ↔ IsUseBy g image p row place
  same_uses p place = uses_kept g image image' row p place same_chain (on_other SameSlots (λ b j low. refl))

  pub same_marks : (e : ℕ) → IsMarked g image' row e ↔ IsMarked g image row e
  same_marks e = marks_kept g image image' row e same_chain (on_other SameMarks (λ b n. refl))

  same_byte : (p : ℕ) → Owns g image row p → p < length image → pfs_byte g image' p ≡ pfs_byte g image p
  same_byte p owns inside = reads.bytes p owns inside

  pub same_allocated : (p : ℕ) → IsAllocatedTo g image' row p ↔ IsAllocatedTo g image row p
  same_allocated p =
      let slot = λ (i : ℕ). slots_kept g image image' row i p same_chain (on_other SameSlots (λ b j low. refl)) in
      let marks = same_marks (p / 8) in (
        λ h. ⊎_elim (λ s. inl (s.0, (slot s.0).0 s.1))
            (λ m. let low = subst (λ n. p < n) size m.0 in let old = marks.0 m.1 in
            inr (low, old, subst (λ b. is_allocated_byte b ≡ true) (same_byte p (inr old) low) m.2)) h,
        λ h. ⊎_elim (λ s. inl (s.0, (slot s.0).1 s.1))
            (λ m. inr (subst (λ n. p < n) (sym size) m.0, marks.1 m.1, subst (λ b. is_allocated_byte b ≡ true) (sym (same_byte p (inr m.1) m.0)) m.2)) h,
      )

  allocated_inside : (p : ℕ) → IsAllocatedTo g image row p → p < length image
  allocated_inside p (inl slot) = inside_below (length image) p slot.1.1
  allocated_inside p (inr marked) = marked.0

  allocated_owned : (p : ℕ) → IsAllocatedTo g image row p → Owns g image row p
  allocated_owned p (inl slot) = inl (slot.0, inl slot.1)
  allocated_owned p (inr marked) = inr marked.1

  -- what stands on such a page
  same_bytes : (p : ℕ) → IsAllocatedTo g image row p → is_ordinary g p ≡ true → page image' p ≡ page image p
  same_bytes p allocated ordinary = reads.pages p (inl allocated) (allocated_inside p allocated) ordinary

  pub same_seen : (p : ℕ) → IsSeen g image' row p ↔ IsSeen g image row p
  same_seen p = (
    λ seen. let allocated = (same_allocated p).0 seen.allocated in record {
      allocated = allocated;
      ordinary = seen.ordinary;
      passes = subst (PassesTest p row.id row.kind) (same_bytes p allocated seen.ordinary) seen.passes;
    },
    λ seen. record {
      allocated = (same_allocated p).1 seen.allocated;
      ordinary = seen.ordinary;
      passes = subst (PassesTest p row.id row.kind) (sym (same_bytes p seen.allocated seen.ordinary)) seen.passes;
    },
  )

  pub same_errors : (p : ℕ) (x : CheckError) → IsAllocatedTo g image row p → IsErrorOf g image' row p x ↔ IsErrorOf g image row p x
  same_errors p x allocated =
      let byte = same_byte p (allocated_owned p allocated) (allocated_inside p allocated) in (
        λ h. ⊎_elim (λ strange. inl strange) (λ own. inr (
          own.0,
          subst (λ b. IsErrorOn row p b (page image p) x) byte
              (subst (λ b. IsErrorOn row p (pfs_byte g image' p) b x) (same_bytes p allocated own.0) own.1),
        )) h,
        λ h. ⊎_elim (λ strange. inl strange) (λ own. inr (
          own.0,
          subst (λ b. IsErrorOn row p (pfs_byte g image' p) b x) (sym (same_bytes p allocated own.0))
              (subst (λ b. IsErrorOn row p b (page image p) x) (sym byte) own.1),
        )) h,
      )

  pub is_kept : IsKept g image image' row
  is_kept = record {
    chain = same_chain.pages;
    pointers = same_chain.pointers;
    uses = same_uses;
    marks = same_marks;
    allocated = same_allocated;
    seen = same_seen;
    errors = same_errors;
  }

  -- so the same is known of it
  seen_bytes : (p : ℕ) → IsSeen g image row p → page image' p ≡ page image p
  seen_bytes p seen = same_bytes p seen.allocated seen.ordinary

  same_heads : (s : PageHead) → IsHeadOf g image' row s ↔ IsHeadOf g image row s
  same_heads s = (
    λ h. let old = (same_seen h.number).0 h.seen in record { number = h.number; seen = old; is = h.is ∙ ap (head_of row.id h.number) (seen_bytes h.number old) },
    λ h. record { number = h.number; seen = (same_seen h.number).1 h.seen; is = h.is ∙ ap (head_of row.id h.number) (sym (seen_bytes h.number h.seen)) },
  )

  agrees : (k : ℕ) → Agrees (known_of_object g image' row) (known_of_object g image row) k
  agrees k = record {
    tables = λ r. (λ h. h, λ h. h);
    pages = λ s at. same_heads s;
    index = λ s high. same_heads s;
    links = λ l at. (
      λ h. record { head = h.head; known = (same_heads h.head).0 h.known; is = h.is },
      λ h. record { head = h.head; known = (same_heads h.head).1 h.known; is = h.is },
    );
    rows = λ c at. (
      λ h. let old = (same_seen h.number).0 h.seen in let bytes = seen_bytes h.number old in record {
        number = h.number;
        slot = h.slot;
        seen = old;
        stands = subst (λ b. h.slot < index_rows b) bytes h.stands;
        is = h.is ∙ ap (λ b. index_row row.id h.number b h.slot) bytes;
      },
      λ h. let bytes = seen_bytes h.number h.seen in record {
        number = h.number;
        slot = h.slot;
        seen = (same_seen h.number).1 h.seen;
        stands = subst (λ b. h.slot < index_rows b) (sym bytes) h.stands;
        is = h.is ∙ ap (λ b. index_row row.id h.number b h.slot) (sym bytes);
      },
    );
  }

  pub same_trees : (x : CheckError) (k : ℕ) → StandsAt (known_of_object g image' row) k x → StandsAt (known_of_object g image row) k x
  same_trees x k stands = stands_where (known_of_object g image' row) (known_of_object g image row) k x (agrees k) stands

pub kept_clean : (g : Geometry) (image image' : Image) (row : CatalogRow) → length image' ≡ length image → ReadsSameObject g image image' row → IsCleanTable g image row → IsCleanTable g image' row
kept_clean g image image' row size reads clean =
    let uses = same_uses g image image' row size reads clean.chain in
    let marks = same_marks g image image' row size reads clean.chain in record {
      chain = kept_chain g image image' row size reads clean.chain;
      used = λ p place ordinary is.
          let old = (uses p place).0 is in
          subst (λ b. FitsUse b place) (sym (reads.bytes p (inl (place, old)) (used_inside g image row p place old))) (clean.used p place ordinary old);
      marked = λ p inside ordinary is.
          let old = (marks (p / 8)).0 is in
          let low = subst (λ n. p < n) size inside in
          subst FitsMark (sym (reads.bytes p (inr old) low)) (clean.marked p low ordinary old);
      pages = record {
        alone = λ p x allocated is.
            let old = (same_allocated g image image' row size reads clean.chain p).0 allocated in
            clean.pages.alone p x old ((same_errors g image image' row size reads clean.chain p x old).0 is);
        tree = λ x error_. clean.pages.tree x (error_.0, same_trees g image image' row size reads clean.chain x error_.0 error_.1);
      };
    }
