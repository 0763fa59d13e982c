-- The replies of a session, one after another.
use Rattle.std.proofs.Common.{◌≡◌, ℕ, ◌+◌, ◌<◌, List, [], ◌∷◌, ◌++◌, length, take, drop, get_or, Bool, true, false, sym, ap, subst, ◌∙◌, append_assoc, append-nil, arith}
use Rattle.std.proofs.lemmas.List.{take_more, take-append-drop, length-take-le}
use Rattle.spec_script.specs.declared.reply.Reply.{Reply}
use Rattle.spec_script.specs.Replies.{reply_text, session_text}
use Rattle.vol_dev.specs.declared.device.Sink.{Ghosts}
use Rattle.vol_dev.specs.Output.{Wrote}
use Rattle.vol_dev.proofs.Output.{wrote_then, wrote_front}

text_append : (s i : ℕ) (xs ys : List Reply) → session_text s i (xs ++ ys) ≡ session_text s i xs ++ session_text s (i + length xs) ys
text_append s i [] ys = ap (λ k. session_text s k ys) (omega arith)
text_append s i (x ∷ xs) ys =
    let same : i + 1 + length xs ≡ i + length (x ∷ xs) = omega arith in
    ap (λ l. reply_text s i x ++ l) (text_append s (i + 1) xs ys ∙ ap (λ k. session_text s (i + 1) xs ++ session_text s k ys) same)
    ∙ sym (append_assoc (reply_text s i x) (session_text s (i + 1) xs) (session_text s (i + length (x ∷ xs)) ys))

-- the first n replies, and the one behind them
text_more : (s n : ℕ) (xs : List Reply) (d : Reply) → n < length xs
    → session_text s 1 (take n xs) ++ reply_text s (n + 1) (get_or xs n d) ≡ session_text s 1 (take (n + 1) xs)
text_more s n xs d below =
    let long : length (take n xs) ≡ n = length-take-le n xs (omega (arith, below)) in
    let place : 1 + length (take n xs) ≡ n + 1 = omega (arith, long) in
    sym (ap (session_text s 1) (take_more xs n d below) ∙ text_append s 1 (take n xs) (get_or xs n d ∷ [])
    ∙ ap (λ k. session_text s 1 (take n xs) ++ (reply_text s k (get_or xs n d) ++ [])) place
    ∙ ap (λ l. session_text s 1 (take n xs) ++ l) (append-nil (reply_text s (n + 1) (get_or xs n d))))

module _ {X : Type 0} (k : Ghosts X) (s n : ℕ) (xs : List Reply) (x : Reply) (a b c : X) (below : n < length xs) (is : x ≡ get_or xs n x)
    (so_far : Wrote k a b (session_text s 1 (take n xs)) false) where
  -- one reply more is written
  pub more_written : (failed : Bool) → Wrote k b c (reply_text s (n + 1) x) failed → Wrote k a c (session_text s 1 (take (n + 1) xs)) failed
  more_written failed more =
      subst (λ l. Wrote k a c l failed) (ap (λ r. session_text s 1 (take n xs) ++ reply_text s (n + 1) r) is ∙ text_more s n xs x below)
      (wrote_then k a b c (session_text s 1 (take n xs)) (reply_text s (n + 1) x) failed so_far more)

  -- or in part
  pub front_written : Wrote k b c (reply_text s (n + 1) x) true → Wrote k a c (session_text s 1 xs) true
  front_written part =
      let front = take (n + 1) xs in
      subst (λ l. Wrote k a c l true) (sym (text_append s 1 front (drop (n + 1) xs)) ∙ ap (session_text s 1) (take-append-drop (n + 1) xs))
      (wrote_front k a c (session_text s 1 front) (session_text s (1 + length front) (drop (n + 1) xs)) (more_written true part))
