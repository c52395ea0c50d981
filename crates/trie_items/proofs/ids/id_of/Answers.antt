use Rattle.std.proofs.Common.{[], sym, ap, ◌∙◌, length}
use Rattle.sha2.specs.Sha256.{sha256}
use Rattle.std.specs.Option.{option_copied}
use Rattle.std.proofs.lemmas.List.{length-map}
use Rattle.trie_items.specs.Children.{children_of}
use Rattle.trie_items.proofs.NodePieces.{pieces}
use Rattle.trie_items.proofs.ids.id_of.Goals as goal

pub returns-clause-id : goal.returns-clause-id
returns-clause-id g c =
    c.finalize.ensures _ (c.hash_key.ensures _ (c.hash_digest.ensures _ (c.hash_children.ensures _ (c.hash_uvarint.ensures [] c.new-hasher.ensures))))
    ∙ ap sha256 (pieces [] c.args.key.now (option_copied c.args.digest) (children_of c.args.children.now) (length c.args.children.now) (sym (length-map c.args.children.now _)))
