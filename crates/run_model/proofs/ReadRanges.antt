-- What is read as a range proof, or as a change proof, is what a check asks for.
use Rattle.std.proofs.Common.{◌≡◌, ℕ, List, [], ◌∷◌, ◌++◌, length, subst}
use Rattle.std.specs.List.{AllByRecursion, flat_map}
use Rattle.std.proofs.lemmas.List.Concat.{flat_map-cons}
use Rattle.base_model.specs.Bytes.{AreBytes}
use Rattle.base_model.specs.Fields.{flag_form}
use Rattle.base_model.specs.Uvarint.{uvarint}
use Rattle.batch_model.specs.Sized.{sized_form}
use Rattle.trie_model.specs.Maps.{limits}
use Rattle.proof_model.specs.Paths.{ProofNode, IsProofNode}
use Rattle.proof_model.specs.Proofs.{Pair}
use Rattle.proof_model.specs.RangeProofs.{RangeProof}
use Rattle.proof_model.specs.RangeLaws.{HasKey, IsKey, IsRangeClaim}
use Rattle.proof_model.specs.RangeWire.{IsWirePair, IsRangeProof, pair_form, pairs_form, range_form}
use Rattle.proof_model.specs.Wire.{IsPathNode, path_form}
use Rattle.batch_model.specs.Batch.{Change, IsChange, change_form, value_form}
use Rattle.proof_model.specs.ChangeProofs.{ChangeProof}
use Rattle.proof_model.specs.ChangeLaws.{IsChangeClaim}
use Rattle.proof_model.specs.ChangeWire.{IsChangeProof, changes_form}

-- ---- bytes in two parts

pub front : (xs ys : List ℕ) → AreBytes (xs ++ ys) → AreBytes xs
front [] ys h = tt
front (x ∷ xs) ys h = (h.0, front xs ys h.1)

pub back : (xs ys : List ℕ) → AreBytes (xs ++ ys) → AreBytes ys
back [] ys h = h
back (x ∷ xs) ys h = back xs ys h.1

-- ---- proofs

pub nodes_of_path : (w : ℕ) (ns : List ProofNode) → AllByRecursion (IsPathNode limits w) ns → AllByRecursion (IsProofNode w) ns
nodes_of_path w [] h = tt
nodes_of_path w (n ∷ ns) h = (h.0.node, nodes_of_path w ns h.1)

-- the keys of pairs that are spelled are bytes
have_keys : (es : List Pair) → AreBytes (flat_map pair_form es) → AllByRecursion (IsWirePair limits) es → AllByRecursion (HasKey limits) es
have_keys [] h fits = tt
have_keys (e ∷ es) h fits =
    let all : AreBytes (pair_form e ++ flat_map pair_form es) = subst AreBytes (flat_map-cons pair_form e es) h in
    let key : AreBytes (sized_form e.0) = front (sized_form e.0) (sized_form e.1) (front (pair_form e) (flat_map pair_form es) all) in
    (record { bytes = back (uvarint (length e.0)) e.0 key; short = fits.0.key }, have_keys es (back (pair_form e) (flat_map pair_form es) all) fits.1)

-- a proof in the grammar that is spelled by bytes is one that a check asks for
pub spelled_claim : (w : ℕ) (p : RangeProof) (bytes : List ℕ) → AreBytes bytes → IsRangeProof limits w p → bytes ≡ range_form p → IsRangeClaim limits w p
spelled_claim w p bytes are fits e =
    let paths = path_form p.start ++ path_form p.end in
    let whole : AreBytes (range_form p) = subst AreBytes e are in
    let pairs = front (pairs_form p.pairs) paths (back (flag_form p.cut) (pairs_form p.pairs ++ paths) whole.1.1) in
    record {
      listed = have_keys p.pairs (back (uvarint (length p.pairs)) (flat_map pair_form p.pairs) pairs) fits.pairs.each;
      start = nodes_of_path w p.start fits.start.nodes;
      end = nodes_of_path w p.end fits.end.nodes;
    }

-- the keys of changes that are spelled are bytes
have_change_keys : (cs : List Change) → AreBytes (flat_map change_form cs) → AllByRecursion (IsChange limits) cs → AllByRecursion (λ (c : Change). IsKey limits c.key) cs
have_change_keys [] h fits = tt
have_change_keys (c ∷ cs) h fits =
    let all : AreBytes (change_form c ++ flat_map change_form cs) = subst AreBytes (flat_map-cons change_form c cs) h in
    let key : AreBytes (sized_form c.key) = front (sized_form c.key) (value_form c.value) (front (change_form c) (flat_map change_form cs) all) in
    (record { bytes = back (uvarint (length c.key)) c.key key; short = fits.0.key }, have_change_keys cs (back (change_form c) (flat_map change_form cs) all) fits.1)

-- so of a change proof
pub spelled_changes : (w : ℕ) (p : ChangeProof) (bytes : List ℕ) → AreBytes bytes → IsChangeProof limits w p → bytes ≡ changes_form p → IsChangeClaim limits w p
spelled_changes w p bytes are fits e =
    let paths = path_form p.start ++ path_form p.end in
    let listed = uvarint (length p.changes) ++ flat_map change_form p.changes in
    let whole : AreBytes (changes_form p) = subst AreBytes e are in
    let changes = front listed paths (back (flag_form p.cut) (listed ++ paths) whole.1.1) in
    record {
      listed = have_change_keys p.changes (back (uvarint (length p.changes)) (flat_map change_form p.changes) changes) fits.changes.each;
      start = nodes_of_path w p.start fits.start.nodes;
      end = nodes_of_path w p.end fits.end.nodes;
    }
