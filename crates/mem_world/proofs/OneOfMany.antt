-- One of many values is changed.
use Rattle.std.proofs.Common.{◌≡◌, ℕ, ◌<◌, List, length, map, get_or, set, sym, ◌∙◌, ap, subst}
use Rattle.std.proofs.lemmas.List.{get_or-map, get_or-set_other, get_or-set_same, length-map, map-set, set-get_or}
use Rattle.disk_model.specs.Files.{Alone}

within : {X Y : Type 0} (see : X → Y) (xs : List X) (k : ℕ) → k < length xs → k < length (map see xs)
within see xs k lt = subst (λ (n : ℕ). k < n) (sym (length-map xs see)) lt

-- as they are seen
pub alone-set : {X Y : Type 0} (see : X → Y) (d : Y) (xs : List X) (k : ℕ) (old new : X) (change : Y → Y) → k < length xs → see new ≡ change (see (get_or xs k old))
    → Alone k (λ was is. is ≡ change was) (λ j. get_or (map see xs) j d) (λ j. get_or (map see (set xs k new)) j d)
alone-set {X} {Y} see d xs k old new change lt made = record {
  here = ap (λ (l : List Y). get_or l k d) (map-set see xs k new) ∙ get_or-set_same (map see xs) k (see new) d (within see xs k lt) ∙ made ∙ ap change (sym (get_or-map see xs k old d lt));
  others = λ other ne. ap (λ (l : List Y). get_or l other d) (map-set see xs k new) ∙ get_or-set_other (map see xs) k other (see new) d ne;
}

-- a change that is not seen
pub same-set : {X Y : Type 0} (see : X → Y) (xs : List X) (k : ℕ) (old new : X) → k < length xs → see new ≡ see (get_or xs k old) → map see (set xs k new) ≡ map see xs
same-set {X} {Y} see xs k old new lt same =
    map-set see xs k new ∙ ap (λ (y : Y). set (map see xs) k y) (same ∙ sym (get_or-map see xs k old (see old) lt)) ∙ set-get_or (map see xs) k (see old)
