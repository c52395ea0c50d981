-- What a crash leaves of steps, one after another.
use Rattle.std.proofs.Common.{ℕ, ◌+◌, ◌≤◌, min, List, [], ◌++◌, length, take, Option, refl, sym, ◌∙◌, ap, subst, arith}
use Rattle.std.proofs.Math.Seq.{take-append-add}
use Rattle.std.proofs.Math.Nat.{min-le_left, min-le_right}
use Rattle.std.proofs.lemmas.List.{take_all, take_min, take-append-le}
use Rattle.std.specs.Io.KnownBytes.{Appends}
use Rattle.base_model.specs.Streams.{AppendsPrefix}
use Rattle.disk_model.specs.Files.{Files}
use Rattle.disk_model.specs.Moments.{Moments, LeavesOnly, Meanwhile}
use Rattle.disk_model.proofs.Meanwhile.{joined, weaker, none_yet}
use Rattle.trie_model.specs.Maps.{Map, limits}
use Rattle.store_model.specs.Journal.{Stands}
use Rattle.session_model.specs.Session.{Step}
use Rattle.session_model.specs.Script.{text_of, after_steps}
use Rattle.session_model.proofs.PlayedLines.{text_of-append, after_steps-append}
use Rattle.run_model.specs.Script.{HasSteps, Keeps}
use Rattle.run_model.proofs.PrintedText.{nothing_yet, then_prefix, same_prefix}

-- ---- files that stand for the map after some of the steps

-- none yet
pub none_done : (m : Map) (xs : List Step) (image : Files) → Stands limits image m → HasSteps m xs 0 image
none_done m xs image stands = record { count = 0; at_least = omega arith; stands = stands }

-- all of them
pub all_done : (m : Map) (xs : List Step) (image : Files) → Stands limits image (after_steps m xs) → HasSteps m xs (length xs) image
all_done m xs image stands = record {
  count = length xs;
  at_least = omega arith;
  stands = subst (Stands limits image) (ap (after_steps m) (sym (take_all (length xs) xs (omega arith)))) stands;
}

pub fewer : (m : Map) (xs : List Step) (n k : ℕ) → n ≤ k → (image : Files) → HasSteps m xs k image → HasSteps m xs n image
fewer m xs n k le image has = record { count = has.count; at_least = omega (arith, has.at_least); stands = has.stands }

-- with others before them, which are done
pub further : (m : Map) (xs ys : List Step) (n : ℕ) (image : Files) → HasSteps (after_steps m xs) ys n image → HasSteps m (xs ++ ys) (length xs + n) image
further m xs ys n image has = record {
  count = length xs + has.count;
  at_least = omega (arith, has.at_least);
  stands = subst (Stands limits image) (sym (ap (after_steps m) (take-append-add xs ys has.count) ∙ after_steps-append m xs (take has.count ys))) has.stands;
}

-- with others behind them, of which none is done
pub with_more : (m : Map) (xs ys : List Step) (n : ℕ) → n ≤ length xs → (image : Files) → HasSteps m xs n image → HasSteps m (xs ++ ys) n image
with_more m xs ys n le image has =
    let k = min has.count (length xs) in record {
      count = k;
      at_least = omega (arith, has.at_least);
      stands = subst (Stands limits image) (ap (after_steps m) (sym (take-append-le k xs ys (min-le_right has.count (length xs)) ∙ take_min has.count xs))) has.stands;
    }

-- ---- steps that are kept

-- nothing was begun
pub idle : (m : Map) (xs : List Step) (taken : Option (List ℕ)) (now : Moments) → LeavesOnly (λ image. Stands limits image m) now.now → Keeps m xs taken taken now now
idle m xs taken now left = record {
  meanwhile = none_yet (HasSteps m xs 0) now now refl;
  told = 0;
  text = nothing_yet taken [];
  left = λ image is. none_done m xs image (left image is);
}

-- all steps are done
pub all_kept : (m : Map) (xs : List Step) (taken taken' : Option (List ℕ)) (old now : Moments) → Meanwhile (HasSteps m xs 0) old now → LeavesOnly (λ image. Stands limits image (after_steps m xs)) now.now → AppendsPrefix taken taken' (text_of xs) → Keeps m xs taken taken' old now
all_kept m xs taken taken' old now run left text = record {
  meanwhile = run;
  told = length xs;
  text = same_prefix taken taken' (ap text_of (sym (take_all (length xs) xs (omega arith)))) text;
  left = λ image is. all_done m xs image (left image is);
}

-- the moments of steps, and then of others
pub meanwhile_on : (m : Map) (xs ys : List Step) (old mid now : Moments) → Meanwhile (HasSteps m xs 0) old mid → Meanwhile (HasSteps (after_steps m xs) ys 0) mid now → Meanwhile (HasSteps m (xs ++ ys) 0) old now
meanwhile_on m xs ys old mid now first second =
    joined (weaker first (with_more m xs ys 0 (omega arith))) (weaker second (λ image has. fewer m (xs ++ ys) 0 (length xs + 0) (omega arith) image (further m xs ys 0 image has)))

-- steps that were done and printed, and then others
pub stops : (m : Map) (xs ys : List Step) (taken taken' taken'' : Option (List ℕ)) (old mid now : Moments) → Meanwhile (HasSteps m xs 0) old mid → Appends taken taken' (text_of xs) → Keeps (after_steps m xs) ys taken' taken'' mid now → Keeps m (xs ++ ys) taken taken'' old now
stops m xs ys taken taken' taken'' old mid now run text kept = record {
  meanwhile = meanwhile_on m xs ys old mid now run kept.meanwhile;
  told = length xs + kept.told;
  text = same_prefix taken taken'' (sym (ap text_of (take-append-add xs ys kept.told) ∙ text_of-append xs (take kept.told ys))) (then_prefix (text_of xs) (text_of (take kept.told ys)) taken taken' taken'' text kept.text);
  left = λ image is. further m xs ys kept.told image (kept.left image is);
}

-- with others behind them, which are not begun
pub kept_of_more : (m : Map) (xs ys : List Step) (taken taken' : Option (List ℕ)) (old now : Moments) → Keeps m xs taken taken' old now → Keeps m (xs ++ ys) taken taken' old now
kept_of_more m xs ys taken taken' old now kept =
    let k = min kept.told (length xs) in record {
      meanwhile = weaker kept.meanwhile (with_more m xs ys 0 (omega arith));
      told = k;
      text = same_prefix taken taken' (ap text_of (sym (take-append-le k xs ys (min-le_right kept.told (length xs)) ∙ take_min kept.told xs))) kept.text;
      left = λ image is. with_more m xs ys k (min-le_right kept.told (length xs)) image (fewer m xs k kept.told (min-le_left kept.told (length xs)) image (kept.left image is));
    }
