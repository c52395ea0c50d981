use Rattle.std.proofs.Common.{sym, length}
use Rattle.std.specs.Option.{option_copied}
use Rattle.std.proofs.lemmas.List.{length-map}
use Rattle.trie_items.specs.Children.{children_of}
use Rattle.trie_items.proofs.NodePieces.{written}
use Rattle.trie_items.proofs.hashed_string.write_node.Goals as goal

pub returns-clause-ok : goal.returns-clause-ok
returns-clause-ok c =
    written _ _ _ _ _ c.args.key.now (option_copied c.args.digest) (children_of c.args.children.now) (length c.args.children.now) (sym (length-map c.args.children.now _))
    c.in_ok-write_uvarint.ensures.ok c.in_ok-write_children.ensures.ok c.in_ok-write_digest.ensures.ok c.in_ok-write_key.ensures.ok
