-- A write behind a gate, and one of the gate.
use Rattle.std.proofs.Common.{◌≡◌, ℕ, ◌+◌, ◌-◌, min, List, [], ◌∷◌, ◌++◌, length, get_or, take, drop, replicate, sym, ◌∙◌, ap, subst, arith, append_assoc, length-append, take-append-drop}
use Rattle.std.proofs.lemmas.List.{take_at, drop_at, drop_more, append-nil}
use Rattle.disk_model.specs.Files.{Torn, written}

module _ (front : List ℕ) (gate p : ℕ) (place : p ≡ length front) where
  abbrev file : List ℕ → List ℕ
  file junk = front ++ gate ∷ junk

  long : (junk : List ℕ) → length (file junk) ≡ p + 1 + length junk
  long junk = omega (arith, place, length-append front (gate ∷ junk))

  regroup : (junk : List ℕ) → file junk ≡ (front ++ gate ∷ []) ++ junk
  regroup junk = sym (append_assoc front (gate ∷ []) junk)

  size : length (front ++ gate ∷ []) ≡ p + 1
  size = omega (arith, place, length-append front (gate ∷ []))

  front_is : (junk : List ℕ) → take (p + 1) (file junk) ≡ front ++ gate ∷ []
  front_is junk = ap (λ (l : List ℕ). take (p + 1) l) (regroup junk) ∙ take_at (front ++ gate ∷ []) junk (p + 1) size

  -- torn behind the gate, the front and the gate stay
  pub torn_behind : (junk c : List ℕ) (to : ℕ) → Torn (min (p + 1) (length (file junk))) to (file junk) c → c ≡ front ++ gate ∷ drop (p + 1) c
  torn_behind junk c to torn =
      let from : min (p + 1) (length (file junk)) ≡ p + 1 = omega (arith, long junk) in
      let same : take (p + 1) c ≡ front ++ gate ∷ [] = subst (λ (n : ℕ). take n c ≡ take n (file junk)) from torn.before ∙ front_is junk in
      sym (take-append-drop (p + 1) c) ∙ ap (λ (l : List ℕ). l ++ drop (p + 1) c) same ∙ append_assoc front (gate ∷ []) (drop (p + 1) c)

  -- written behind the gate
  pub written_behind : (junk room : List ℕ) → written (file junk) (p + 1) room ≡ front ++ gate ∷ (room ++ drop (p + 1 + length room) (file junk))
  written_behind junk room =
      let none : p + 1 - length (file junk) ≡ 0 = omega (arith, long junk) in
      let back = drop (p + 1 + length room) (file junk) in
      ap (λ (n : ℕ). (take (p + 1) (file junk) ++ replicate n 0) ++ room ++ back) none
      ∙ ap (λ (l : List ℕ). l ++ room ++ back) (append-nil (take (p + 1) (file junk)) ∙ front_is junk)
      ∙ append_assoc (front ++ gate ∷ []) room back
      ∙ append_assoc front (gate ∷ []) (room ++ back)

  -- torn at the gate, all but the gate stays
  pub torn_gate : (tail c : List ℕ) → Torn (min p (length (file tail))) (p + 1) (file tail) c → c ≡ front ++ get_or c p 0 ∷ tail
  torn_gate tail c torn =
      let from : min p (length (file tail)) ≡ p = omega (arith, long tail) in
      let same : take p c ≡ front = subst (λ (n : ℕ). take n c ≡ take n (file tail)) from torn.before ∙ take_at front (gate ∷ tail) p (sym place) in
      let rest : drop (p + 1) c ≡ tail = torn.after ∙ ap (λ (l : List ℕ). drop (p + 1) l) (regroup tail) ∙ drop_at (front ++ gate ∷ []) tail (p + 1) size in
      sym (take-append-drop p c) ∙ ap (λ (l : List ℕ). l ++ drop p c) same ∙ ap (λ (l : List ℕ). front ++ l) (drop_more c p 0 (omega (arith, torn.no_shorter, long tail)))
      ∙ ap (λ (l : List ℕ). front ++ get_or c p 0 ∷ l) rest

  -- a gate that was written over
  pub written_gate : (byte : ℕ) (tail : List ℕ) → written (file tail) p (byte ∷ []) ≡ front ++ byte ∷ tail
  written_gate byte tail =
      let none : p - length (file tail) ≡ 0 = omega (arith, long tail) in
      let back = drop (p + 1) (file tail) in
      ap (λ (n : ℕ). (take p (file tail) ++ replicate n 0) ++ (byte ∷ []) ++ back) none
      ∙ ap (λ (l : List ℕ). l ++ (byte ∷ []) ++ back) (append-nil (take p (file tail)) ∙ take_at front (gate ∷ tail) p (sym place))
      ∙ append_assoc front (byte ∷ []) back
      ∙ ap (λ (l : List ℕ). front ++ byte ∷ l) (ap (λ (l : List ℕ). drop (p + 1) l) (regroup tail) ∙ drop_at (front ++ gate ∷ []) tail (p + 1) size)
