use Rattle.std.proofs.Common.{◌≡◌, ℕ, ◌+◌, List, [], ◌∷◌, ◌++◌, map, ◌∙◌, ap, sym, arith}
use Rattle.std.proofs.lemmas.List.FromFn.{map-range_with_len_more}
use Rattle.std.specs.List.{range_with_len}
use Rattle.mem_world.specs.Picks.{noise_at}
use Rattle.mem_world.specs.Seen.{file_of}
use Rattle.mem_world.proofs.file.MemFile.noise.Goals as goal

-- one byte more
one_more : (f : ℕ → ℕ) (bytes new : List ℕ) (place byte : ℕ) → new ≡ bytes ++ byte ∷ [] → bytes ≡ map f (range_with_len 0 place) → byte ≡ f place → new ≡ map f (range_with_len 0 (place + 1))
one_more f bytes new place byte pushed are is =
    pushed ∙ ap (λ (l : List ℕ). l ++ byte ∷ []) are ∙ ap (λ (b : ℕ). map f (range_with_len 0 place) ++ b ∷ []) is ∙ sym (map-range_with_len_more f 0 place place (omega arith))

pub loop-place-preserved : goal.loop-place-preserved
loop-place-preserved c = one_more (noise_at c.args.seed (file_of c.args.self.now).unsynced) _ _ c.loop-place.place c.noise_at.result c.in_ok-push.ensures.items c.loop-place.invariant c.noise_at.ensures
