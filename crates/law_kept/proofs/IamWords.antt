-- What the words that write an IAM page make of a view.
use Rattle.std.proofs.Common.{◌≡◌, ℕ, ◌+◌, ◌*◌, ◌%◌, ◌^◌, ◌<◌, Bool, List, [], ◌∷◌, length, refl, sym, ap, subst, ◌∙◌, inr}
use Rattle.std.specs.Prelude.{IsTrue, slice_index}
use Rattle.byteorder.specs.Endian.{little_bytes}
use Rattle.spec_file.specs.declared.data.Resource.TheVariants as resource
use Rattle.spec_file.specs.Iam.{single_slot_count}
use Rattle.spec_file.specs.Image.{page}
use Rattle.spec_file.specs.Places.{interval_size}
use Rattle.spec_file.specs.Roles.{is_ordinary}
use Rattle.spec_log.specs.Cells.{with_bytes, with_bit}
use Rattle.spec_plan.specs.Reading.{first_page}
use Rattle.spec_words.specs.NetChanges.{FileShape}
use Rattle.spec_words.specs.Views.{View}
use Rattle.spec_words.specs.Words.{sees}
use Rattle.spec_alloc.specs.Chains.{put_iam, put_slot, mark_at, put_mark, put_next}
use Rattle.spec_steps.specs.AtMost.{page_of}
use Rattle.spec_steps.specs.IamPages.{IsSlotSet, IsNextSet}
use Rattle.law_writes.specs.Laws.{bit_number}
use Rattle.law_writes.proofs.Puts.{in_interval}
use Rattle.law_net.specs.GoodViews.{Leads}
use Rattle.law_net.proofs.WordLaws.{leads_weaker}
use Rattle.law_alloc.proofs.Searches.{sees_reads, leads_from}
use Rattle.law_kept.proofs.Steps.{IsFile, page_in, Goes}
use Rattle.law_kept.proofs.Words.{page_goes}
use Rattle.law_kept.proofs.NewChains.{number_low}
use Rattle.law_kept.proofs.IamWrites.{slot_set, next_set, PutsMark, mark_put}

-- a page of the file that objects may own
pub record IsOwnPage (shape : FileShape) (q : ℕ) : Type 0 where
  pub inside : q < shape.pages
  pub ordinary : IsTrue (is_ordinary shape.geometry q)

pub page_low : (shape : FileShape) (v : View) (p : ℕ) → IsFile shape v.now → p < shape.pages → p < 256 ^ 4
page_low shape v p f inside = let file = f.file in number_low shape.geometry p shape.pages inside file.high

module _ (shape : FileShape) (q : ℕ) (own : IsOwnPage shape q) (v : View) (f : IsFile shape v.now) where
  -- bytes of the page
  pub iam_goes : (at : ℕ) (bytes : List ℕ) → Leads (put_iam q at bytes) v (λ u w. Goes shape (page_of q) v w × (page w.now q ≡ with_bytes (page v.now q) at bytes))
  iam_goes at bytes = leads_weaker (put_iam q at bytes) v _ _ (λ u w h. (h.0, h.1)) (page_goes shape (resource.Page (record { 0 = q })) q at bytes v own.inside (inr own.ordinary) f)

  long : length (page v.now q) ≡ 8192
  long = f.whole q [] (page_in shape v.now q f own.inside)

  -- a slot of a chain whose first page this is
  pub slot_goes : (chain : List ℕ) (p i : ℕ) → first_page chain ≡ q → i < single_slot_count → p < 256 ^ 4
      → Leads (put_slot chain p i) v (λ u w. Goes shape (page_of q) v w × IsSlotSet i p (page v.now q) (page w.now q))
  slot_goes chain p i first within low =
      subst (λ r. Leads (put_iam r (104 + 4 * i) (little_bytes 4 p)) v (λ u w. Goes shape (page_of q) v w × IsSlotSet i p (page v.now q) (page w.now q))) (sym first)
      (leads_weaker (put_iam q (104 + 4 * i) (little_bytes 4 p)) v _ _ (λ u w h. (h.0, subst (IsSlotSet i p (page v.now q)) (sym h.1) (slot_set i p (page v.now q) within low long)))
      (iam_goes (104 + 4 * i) (little_bytes 4 p)))

  -- its next
  pub next_goes : (next : ℕ) → next < 256 ^ 4 → Leads (put_next q next) v (λ u w. Goes shape (page_of q) v w × IsNextSet next (page v.now q) (page w.now q))
  next_goes next low =
      leads_weaker (put_next q next) v _ _ (λ u w h. (h.0, subst (IsNextSet next (page v.now q)) (sym h.1) (next_set next (page v.now q) low long))) (iam_goes 16 (little_bytes 4 next))

  -- a mark
  pub mark_goes : (e : ℕ) (value : Bool)
      → Leads (put_mark shape e (bit_number value) q) v (λ u w. Goes shape (page_of q) v w × PutsMark (e % interval_size shape.geometry) value (page v.now q) (page w.now q))
  mark_goes e value =
      let n = e % interval_size shape.geometry in
      let at = mark_at shape e in
      let K : Unit {0} → View → Type 0 = λ u w. Goes shape (page_of q) v w × PutsMark n value (page v.now q) (page w.now q) in
      let old : View → ℕ = λ view. slice_index (page view.now q) at in
      leads_from (sees old) (λ byte. put_iam q at (with_bit byte (n % 8) (bit_number value) ∷ [])) v (λ byte. byte ≡ old v) K (sees_reads old v (λ byte. byte ≡ old v) refl) (λ byte same.
      leads_weaker (put_iam q at (with_bit byte (n % 8) (bit_number value) ∷ [])) v _ K (λ u w h. (
        h.0,
        subst (PutsMark n value (page v.now q)) (sym (h.1 ∙ ap (λ b. with_bytes (page v.now q) at (with_bit b (n % 8) (bit_number value) ∷ [])) same))
            (mark_put n value (page v.now q) (in_interval shape.geometry e) long),
      )) (iam_goes at (with_bit byte (n % 8) (bit_number value) ∷ [])))
