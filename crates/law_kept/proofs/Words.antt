-- What each word that takes or writes makes of a view.
use Rattle.std.proofs.Common.{◌≡◌, ℕ, ◌/◌, ◌<◌, Bool, List, [], ◌∷◌, None, refl, sym, ap, subst, ◌∙◌}
use Rattle.std.specs.List.{list_any}
use Rattle.std.proofs.lemmas.Bool.{cond_both, or_right}
use Rattle.spec_file.specs.declared.data.Resource.{Resource}
use Rattle.spec_file.specs.declared.data.Resource.TheVariants as resource
use Rattle.spec_file.specs.Image.{Image, page}
use Rattle.spec_file.specs.Places.{is_free, is_mixed, gam_place, sgam_place, pfs_place}
use Rattle.spec_chain.specs.Uses.{pfs_byte}
use Rattle.spec_log.specs.declared.item.Cell.{Cell}
use Rattle.spec_log.specs.declared.item.Cell.TheVariants.{Bytes}
use Rattle.spec_log.specs.Cells.{put, with_bytes}
use Rattle.spec_log.specs.Items.{is_same}
use Rattle.spec_words.specs.NetChanges.{FileShape}
use Rattle.spec_words.specs.Takes.{is_among}
use Rattle.spec_words.specs.Views.{View}
use Rattle.spec_words.specs.Words.{take, write, put_gam, put_sgam, put_pfs, with_taken}
use Rattle.spec_steps.specs.AtMost.{Changed, AtMost, IsWhole, free_bit, mixed_bit, byte_of, page_of}
use Rattle.law_undo.proofs.Reading.{shape_put}
use Rattle.law_undo.proofs.Shapes.{whole_shape}
use Rattle.law_net.specs.GoodViews.{Leads}
use Rattle.law_net.proofs.GoodViews.{taken_mine}
use Rattle.law_net.proofs.WordLaws.{leads_take, leads_write, leads_weaker}
use Rattle.law_writes.specs.Laws.{bit_number, bit_cell, byte_cell}
use Rattle.law_writes.proofs.Puts.{put_sets_free, put_sets_mixed, put_sets_byte, put_sets_page}
use Rattle.law_writes.proofs.WritesAtMost.{word_free, word_mixed, word_byte, word_page}
use Rattle.law_kept.proofs.Steps.{IsFile, file_shape, page_in, extent_in, Took, Goes, nothing, goes_nowhere}

-- a view that takes a resource has the same image, and the same others
taken_is : {X : Type 0} (part : View → X) (r : Resource) (v : View) → part (record v { taken = r ∷ v.taken }) ≡ part v → part (with_taken r v) ≡ part v
taken_is part r v same = cond_both (is_among v.taken r) v (record v { taken = r ∷ v.taken }) (λ w. part w ≡ part v) (λ e. refl) (λ e. same)

-- and what was taken stays taken
taken_more : (r s : Resource) (v : View) → Took v s → Took (with_taken r v) s
taken_more r s v took = cond_both (is_among v.taken r) v (record v { taken = r ∷ v.taken }) (λ w. Took w s) (λ e. took) (λ e. or_right (is_same s r) (list_any (is_same s) v.taken) took)

pub take_goes : (shape : FileShape) (r : Resource) (v : View) → IsFile shape v.now → Leads (take r) v (λ u w. Goes shape nothing v w × (w.now ≡ v.now) × (v.other r ≡ None) × Took w r)
take_goes shape r v f =
    leads_take r v _ (λ free.
    let now = taken_is (λ w. w.now) r v refl in
    let there = goes_nowhere shape v f in (
      record {
        file = subst (IsFile shape) (sym now) f;
        same = taken_is (λ w. w.shape) r v refl;
        other = taken_is (λ w. w.other) r v refl;
        most = subst (AtMost shape.geometry nothing v.now) (sym now) there.most;
        taken = λ s took. taken_more r s v took;
      },
      now,
      free,
      taken_mine r v,
    ))

-- bytes are put into a cell
record IsPut (shape : FileShape) (cell : Cell) (bytes : List ℕ) (v w : View) : Type 0 where
  file : IsFile shape w.now
  same : w.shape ≡ v.shape
  other : w.other ≡ v.other
  now : w.now ≡ put v.now cell bytes
  taken : (s : Resource) → Took v s → Took w s

pub file_put : (shape : FileShape) (image : Image) (cell : Cell) (bytes : List ℕ) → IsFile shape image → IsFile shape (put image cell bytes)
file_put shape image cell bytes f =
    let form = shape_put image cell bytes in
    record { file = f.file; pages = form.pages ∙ f.pages; whole = whole_shape image (put image cell bytes) form f.whole }

write_puts : (shape : FileShape) (r : Resource) (cell : Cell) (bytes : List ℕ) (v : View) → IsFile shape v.now →
    Leads (write r cell bytes) v (λ u w. IsPut shape cell bytes v w × (v.other r ≡ None) × Took w r)
write_puts shape r cell bytes v f =
    leads_write r cell bytes v _ (λ free.
    let now = taken_is (λ w. w.now) r v refl in (
      record {
        file = subst (λ i. IsFile shape (put i cell bytes)) (sym now) (file_put shape v.now cell bytes f);
        same = taken_is (λ w. w.shape) r v refl;
        other = taken_is (λ w. w.other) r v refl;
        now = ap (λ i. put i cell bytes) now;
        taken = λ s took. taken_more r s v took;
      },
      free,
      taken_mine r v,
    ))

put_goes : (shape : FileShape) (cell : Cell) (bytes : List ℕ) (changed : Changed) (v w : View) → IsPut shape cell bytes v w → AtMost shape.geometry changed v.now (put v.now cell bytes) →
    Goes shape changed v w
put_goes shape cell bytes changed v w is most = record { file = is.file; same = is.same; other = is.other; most = subst (AtMost shape.geometry changed v.now) (sym is.now) most; taken = is.taken }

-- the GAM bit of extent e
pub gam_goes : (shape : FileShape) (e : ℕ) (b : Bool) (v : View) → e < shape.pages / 8 → IsFile shape v.now →
    Leads (put_gam shape e (bit_number b)) v (λ u w. Goes shape (free_bit e) v w × (is_free shape.geometry w.now e ≡ b) × (v.other (resource.Extent (record { 0 = e })) ≡ None) × Took w (resource.Extent (record { 0 = e })))
gam_goes shape e b v inside f =
    let g = shape.geometry in
    let cell = bit_cell (gam_place g e) in
    let bytes = bit_number b ∷ [] in
    leads_weaker (put_gam shape e (bit_number b)) v _ _ (λ u w h.
    let form = file_shape shape v.now f in
    let low = extent_in shape v.now e f inside in
    let sets = word_free g v.now form (put v.now cell bytes) e b low (put_sets_free g v.now e b form f.whole low) in
    (put_goes shape cell bytes (free_bit e) v w h.0 sets.0, ap (λ i. is_free g i e) h.0.now ∙ sets.1, h.1, h.2))
    (write_puts shape (resource.Extent (record { 0 = e })) cell bytes v f)

-- its SGAM bit
pub sgam_goes : (shape : FileShape) (e : ℕ) (b : Bool) (v : View) → e < shape.pages / 8 → IsFile shape v.now →
    Leads (put_sgam shape e (bit_number b)) v (λ u w. Goes shape (mixed_bit e) v w × (is_mixed shape.geometry w.now e ≡ b) × (v.other (resource.Extent (record { 0 = e })) ≡ None) × Took w (resource.Extent (record { 0 = e })))
sgam_goes shape e b v inside f =
    let g = shape.geometry in
    let cell = bit_cell (sgam_place g e) in
    let bytes = bit_number b ∷ [] in
    leads_weaker (put_sgam shape e (bit_number b)) v _ _ (λ u w h.
    let form = file_shape shape v.now f in
    let low = extent_in shape v.now e f inside in
    let sets = word_mixed g v.now form (put v.now cell bytes) e b low (put_sets_mixed g v.now e b form f.whole low) in
    (put_goes shape cell bytes (mixed_bit e) v w h.0 sets.0, ap (λ i. is_mixed g i e) h.0.now ∙ sets.1, h.1, h.2))
    (write_puts shape (resource.Extent (record { 0 = e })) cell bytes v f)

-- the PFS byte of page p
pub pfs_goes : (shape : FileShape) (p byte : ℕ) (v : View) → p < shape.pages → IsFile shape v.now →
    Leads (put_pfs shape p byte) v (λ u w. Goes shape (byte_of p) v w × (pfs_byte shape.geometry w.now p ≡ byte) × (v.other (resource.Byte (record { 0 = p })) ≡ None))
pfs_goes shape p byte v inside f =
    let g = shape.geometry in
    let cell = byte_cell (pfs_place g p) in
    let bytes = byte ∷ [] in
    leads_weaker (put_pfs shape p byte) v _ _ (λ u w h.
    let form = file_shape shape v.now f in
    let low = page_in shape v.now p f inside in
    let sets = word_byte g v.now form (put v.now cell bytes) p byte low (put_sets_byte g v.now p byte form f.whole low) in
    (put_goes shape cell bytes (byte_of p) v w h.0 sets.0, ap (λ i. pfs_byte g i p) h.0.now ∙ sets.1, h.1))
    (write_puts shape (resource.Byte (record { 0 = p })) cell bytes v f)

-- bytes of page p, from one on, which a resource guards
pub page_goes : (shape : FileShape) (r : Resource) (p at : ℕ) (bytes : List ℕ) (v : View) → p < shape.pages → IsWhole shape.geometry p → IsFile shape v.now →
    Leads (write r (Bytes (record { 0 = p }) at) bytes) v (λ u w. Goes shape (page_of p) v w × (page w.now p ≡ with_bytes (page v.now p) at bytes) × Took w r)
page_goes shape r p at bytes v inside whole f =
    let g = shape.geometry in
    let cell = Bytes (record { 0 = p }) at in
    leads_weaker (write r cell bytes) v _ _ (λ u w h.
    let form = file_shape shape v.now f in
    let low = page_in shape v.now p f inside in
    let sets = word_page g v.now form (put v.now cell bytes) p (with_bytes (page v.now p) at bytes) low whole (put_sets_page v.now p at bytes) in
    (put_goes shape cell bytes (page_of p) v w h.0 sets.0, ap (λ i. page i p) h.0.now ∙ sets.1, h.2))
    (write_puts shape r cell bytes v f)
