-- What a crash leaves after a cut.
use Rattle.std.proofs.Common.{◌≡◌, ⊎_elim, ℕ, ◌≤◌, ◌<◌, max, Bool, false, ◌||◌, nat_lt, List, length, get_or, sym, ◌∙◌, arith}
use Rattle.std.proofs.lemmas.List.{length-take}
use Rattle.std.proofs.lemmas.Bool.{cases_lt}
use Rattle.std.proofs.lemmas.Bool.Decides.{nat_tests}
use Rattle.disk_model.specs.Files.{IsFile, HalfCut}
use Rattle.disk_model.specs.Crash.{Unsynced, IsImage, after_cut, is_open}
use Rattle.disk_model.proofs.Bytes.{same_front, front_place}
use Rattle.disk_model.proofs.Touched.{closed_at}
use Rattle.disk_model.proofs.MixedBytes.{mix, mix_at, length-mix, mix_bytes, mixed_free, mixed_closed}

-- a half cut image is one after the cut
pub image_after_cut : (file : Unsynced) (n : ℕ) (before image : List ℕ) → IsFile image → IsImage file before → HalfCut n before image → IsImage (after_cut n file) image
image_after_cut file n before image is_file is half = record {
  is_file = is_file;
  no_shorter = omega (arith, is.no_shorter, half.no_shorter);
  no_longer = omega (arith, is.no_longer, half.no_longer);
  untouched = λ i lt none. front_place n image before half.before i (omega (arith, lt)) ∙ is.untouched i (omega (arith, lt)) none;
}

not_shut : (n i : ℕ) (o : Bool) → i < n → (nat_lt i n || o) ≡ false → ⊥
not_shut n i o lt shut = grind (arith, nat_tests)

still_shut : (n i : ℕ) (o : Bool) → n ≤ i → o ≡ false → (nat_lt i n || o) ≡ false
still_shut n i o le shut = grind (arith, nat_tests)

-- an image after the cut is one before it, half cut
module _ (file : Unsynced) (seen image : List ℕ) (n : ℕ) (real : IsImage file seen) (is : IsImage (after_cut n file) image) where
  abbrev free : ℕ → Bool
  free i = nat_lt i n || is_open file i

  abbrev former : List ℕ
  former = mix free image seen (max (length image) file.least)

  size : length former ≡ max (length image) file.least
  size = length-mix free image seen (max (length image) file.least)

  front : (i : ℕ) → i < n → i < max (length image) file.least → get_or former i 0 ≡ get_or image i 0
  front i low lt = mix_at free image seen (max (length image) file.least) i lt ∙ mixed_free free image seen i (λ shut. absurd (not_shut n i (is_open file i) low shut))

  former_image : IsImage file former
  former_image = record {
    is_file = record { bytes = mix_bytes free image seen (max (length image) file.least) is.is_file.bytes real.is_file.bytes; fits = omega (arith, size, is.is_file.fits, real.is_file.fits, real.no_shorter) };
    no_shorter = omega (arith, size);
    no_longer = omega (arith, size, is.no_longer, real.no_shorter, real.no_longer);
    untouched = λ i lt none. ⊎_elim
        (λ (low : i < n). front i low (omega (arith, lt)) ∙ is.untouched i (omega (arith, low, lt)) none)
        (λ (high : n ≤ i). mix_at free image seen (max (length image) file.least) i (omega (arith, lt)) ∙ mixed_closed free image seen i (still_shut n i (is_open file i) high (closed_at file i lt none)) ∙ real.untouched i lt none)
        (cases_lt i n);
  }

  former_half : HalfCut n former image
  former_half = record {
    before = same_front n image former (omega (arith, length-take n image, length-take n former, size, is.no_shorter)) (λ i low lt. sym (front i low (omega (arith, size, lt))));
    no_shorter = omega (arith, size, is.no_shorter);
    no_longer = omega (arith, size);
  }

  pub half_cut_from : (before : List ℕ) × IsImage file before × HalfCut n before image
  half_cut_from = (former, former_image, former_half)
