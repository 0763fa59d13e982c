-- The status of a command is fixed by the file, where no device fails.
use Rattle.std.proofs.Common.{◌≡◌, ℕ, IsTrue, false, List, Option, Some, None, IfSome, length, refl, sym, ap, ◌∙◌, subst, inl, inr}
use Rattle.spec_file.specs.Image.{pages_of}
use Rattle.spec_file.specs.FileForm.{size_passes}
use Rattle.spec_start.specs.declared.why.FileWhy.{FileWhy}
use Rattle.spec_start.specs.declared.why.FileWhy.TheVariants as why
use Rattle.spec_start.specs.Files.{file_fault}
use Rattle.checkdb_top.specs.declared.status.Device.TheVariants as device
use Rattle.checkdb_top.specs.declared.status.Status.{Status}
use Rattle.checkdb_top.specs.declared.status.Status.TheVariants as status
use Rattle.checkdb_top.specs.Form.{IsRefusedFor, Passes}
use Rattle.checkdb_top.specs.Answers.{IsDevice, Printing, Refused, Unread, OutOfMemory, Answers, Printed, Lacking, Stopped, AllPrinted, FrontPrinted}
use Rattle.checkdb_top.specs.Completeness.{Completes, Tells, OfValue, OfNone}
use Rattle.checkdb_top.proofs.Forms.{wrong_size}

same_fault : (fault : Option FileWhy) (w v : FileWhy) → fault ≡ Some w → fault ≡ Some v → w ≡ v
same_fault fault w v a b = let same : Some w ≡ Some v = sym a ∙ b in cc

no_fault : (fault : Option FileWhy) (w : FileWhy) → fault ≡ Some w → fault ≡ None → ⊥
no_fault fault w a b = let same : Some w ≡ None = sym a ∙ b in cc

-- a file is refused for one reason
one_reason : (file : List ℕ) (w v : FileWhy) → IsRefusedFor w file → IsRefusedFor v file → w ≡ v
one_reason file w v a b = same_fault (file_fault file) w v a b

-- and none that passes is refused
not_refused : (file : List ℕ) (w : FileWhy) → Passes file → IsRefusedFor w file → ⊥
not_refused file w passes refused = no_fault (file_fault file) w refused passes

passed : (c : Printing) (file : List ℕ) (s : Status) → Passes file → Tells c (pages_of file) s → Completes c file s
passed c file s passes tells = record {
  size = λ wrong. absurd (not_refused file why.Size passes (wrong_size file wrong));
  refused = λ w for. absurd (not_refused file w passes for);
  passes = λ _. inl tells;
}

refused : (c : Printing) (file : List ℕ) (w : FileWhy) → IsRefusedFor w file → Completes c file (status.File w)
refused c file w for = record {
  size = λ wrong. ap (λ v. status.File v) (one_reason file w why.Size for (wrong_size file wrong));
  refused = λ v other. inl (ap (λ u. status.File u) (one_reason file w v for other));
  passes = λ passes. absurd (not_refused file w passes for);
}

right_size : (file : List ℕ) → IsTrue (size_passes (length file)) → size_passes (length file) ≡ false → ⊥
right_size file right wrong = cc

out_of_memory : (c : Printing) (file : List ℕ) → IsTrue (size_passes (length file)) → Completes c file status.Memory
out_of_memory c file right = record {
  size = λ wrong. absurd (right_size file right wrong);
  refused = λ _ _. inr refl;
  passes = λ _. inr refl;
}

pub completes : (c : Printing) (told before after : Option (List ℕ)) (s : Status) (RoseVolume RoseSink : Type 0) → Answers c told before after s
    → (IsDevice device.Volume s → RoseVolume) → (IsDevice device.Sink s → RoseSink)
    → IfSome told (λ file. (RoseVolume → ⊥) → (RoseSink → ⊥) → Completes c file s)
completes c None before after s RoseVolume RoseSink answers volume sink = tt
completes c (Some file) before after s RoseVolume RoseSink (Printed x has (AllPrinted said wrote)) volume sink =
    λ _ _. passed c file s has.passes (OfValue x has.has said)
completes c (Some file) before after s RoseVolume RoseSink (Printed x has (FrontPrinted said wrote)) volume sink =
    λ _ none. absurd (none (sink (subst (IsDevice device.Sink) (sym said) refl)))
completes c (Some file) before after s RoseVolume RoseSink (Lacking at word has said kept) volume sink =
    λ _ _. passed c file s has.passes (OfNone at word has.none said)
completes c (Some file) before after s RoseVolume RoseSink (Stopped (Refused w said for) kept) volume sink =
    λ _ _. subst (Completes c file) (sym said) (refused c file w for)
completes c (Some file) before after s RoseVolume RoseSink (Stopped (Unread said) kept) volume sink =
    λ none _. absurd (none (volume (subst (IsDevice device.Volume) (sym said) refl)))
completes c (Some file) before after s RoseVolume RoseSink (Stopped (OutOfMemory said right) kept) volume sink =
    λ _ _. subst (Completes c file) (sym said) (out_of_memory c file right)
