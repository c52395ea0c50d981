-- What a crash leaves after a write.
use Rattle.std.proofs.Common.{◌≡◌, ◌⊎◌, inl, inr, ⊎_elim, ℕ, ◌≤◌, ◌<◌, min, List, length, get_or, sym, ◌∙◌, arith}
use Rattle.std.proofs.lemmas.List.{length-take, drop_all}
use Rattle.std.proofs.lemmas.Bool.{cases_lt}
use Rattle.disk_model.specs.Files.{IsFile, Torn}
use Rattle.disk_model.specs.Crash.{Unsynced, IsImage, after_write, is_open}
use Rattle.disk_model.proofs.Bytes.{same_front, same_back, front_place, back_place}
use Rattle.disk_model.proofs.MixedBytes.{mix, mix_at, length-mix, mix_bytes, mixed_free, mixed_closed}
use Rattle.disk_model.proofs.Touched.{untouched, touched_by_none, closed, closed_at}

-- a torn image is one after the write
pub image_after_write : (file : Unsynced) (from to : ℕ) (before image : List ℕ) → IsFile image → IsImage file before → Torn from to before image → IsImage (after_write from to file) image
image_after_write file from to before image is_file is torn = record {
  is_file = is_file;
  no_shorter = omega (arith, is.no_shorter, torn.no_shorter);
  no_longer = omega (arith, is.no_longer, torn.no_longer);
  untouched = λ i lt none.
      let parts = untouched file.touched from to i none in
      ⊎_elim (λ (low : i < from). front_place from image before torn.before i low) (λ (high : to ≤ i). back_place to image before torn.after i high) parts.1 ∙ is.untouched i lt parts.0;
}

-- an image after the write is torn from one before it
module _ (file : Unsynced) (seen image : List ℕ) (from to : ℕ) (real : IsImage file seen) (inside : from ≤ length seen) (is : IsImage (after_write from to file) image) where
  abbrev former : List ℕ
  former = mix (is_open file) image seen (min (length image) file.greatest)

  same : (i : ℕ) → i < min (length image) file.greatest → (i < from) ⊎ (to ≤ i) → get_or image i 0 ≡ get_or former i 0
  same i lt out =
      sym (mix_at (is_open file) image seen (min (length image) file.greatest) i lt ∙ mixed_free (is_open file) image seen i (λ shut.
      let rest = closed file i shut in
      real.untouched i rest.0 rest.1 ∙ sym (is.untouched i rest.0 (touched_by_none file.touched from to i rest.1 out))))

  former_image : IsImage file former
  former_image =
      let n = length-mix (is_open file) image seen (min (length image) file.greatest) in
      record {
        is_file = record { bytes = mix_bytes (is_open file) image seen (min (length image) file.greatest) is.is_file.bytes real.is_file.bytes; fits = omega (arith, n, is.is_file.fits) };
        no_shorter = omega (arith, n, is.no_shorter, real.no_shorter, real.no_longer);
        no_longer = omega (arith, n);
        untouched = λ i lt none.
            mix_at (is_open file) image seen (min (length image) file.greatest) i (omega (arith, lt, is.no_shorter, real.no_shorter, real.no_longer))
            ∙ mixed_closed (is_open file) image seen i (closed_at file i lt none) ∙ real.untouched i lt none;
      }

  former_torn : Torn from to former image
  former_torn =
      let n = length-mix (is_open file) image seen (min (length image) file.greatest) in
      record {
        before = same_front from image former (omega (arith, length-take from image, length-take from former, n, inside, real.no_longer)) (λ i low lt. same i (omega (arith, n, lt)) (inl low));
        after = ⊎_elim
            (λ (long : file.greatest < length image). drop_all to image (omega (arith, is.no_longer, long)) ∙ sym (drop_all to former (omega (arith, n, is.no_longer, long))))
            (λ (short : length image ≤ file.greatest). same_back to image former (omega (arith, n, short)) (λ i high lt. same i (omega (arith, n, lt)) (inr high)))
            (cases_lt file.greatest (length image));
        no_shorter = omega (arith, n);
        no_longer = omega (arith, n, is.no_longer);
      }

  pub torn_from : (before : List ℕ) × IsImage file before × Torn from to before image
  torn_from = (former, former_image, former_torn)
