-- What is known of a source over a table of nodes and pairs in memory.
use Rattle.std.specs.Prelude.{◌≡◌, ℕ, refl, false, List, [], ◌∷◌, map}
use Rattle.std.proofs.Common.{sym, ap, ◌∙◌, subst}
use Rattle.std.specs.FinMap as map_of
use Rattle.trie_model.specs.Maps.{Map}
use Rattle.trie_model.specs.Table.{table}
use Rattle.bit_keys.specs.Branch.{width_of}
use Rattle.trie_items.specs.Sources.{SourceWords, IsSource}
use Rattle.node_table.specs.declared.source.TableSource.{TableSource}
use Rattle.node_table.specs.Pairs.{KeptPair, keys_of, pairs_of}

-- the table and the pairs are those of the map
pub record IsTableOf (s : TableSource) (m : Map) : Type 0 where
  pub pairs : map_of.entries m ≡ pairs_of s.pairs.items
  pub rows : s.table ≡ table (width_of s.branch) m

-- it never fails, and no call changes it
abbrev pub table_words : SourceWords TableSource
table_words = record {
  told = IsTableOf;
  keys = λ s. keys_of s.pairs.items;
  width = λ s. width_of s.branch;
  faults = λ _. 0;
  failed = λ _. false;
  calm = λ a b. b ≡ a;
}

pub table_words-IsSource : IsSource table_words
table_words-IsSource = record {
  told_keys = λ s m t. same_keys s.pairs.items ∙ ap (map (λ (e : List ℕ × List ℕ). e.0)) (sym t.pairs);
  ascending = λ s. s.in_order;
  short = λ s. s.short;
  calm_itself = λ s. refl;
  calm_through = λ a b c p q. q ∙ p;
  calm_told = λ a b m e t. subst (λ s. IsTableOf s m) (sym e) t;
  calm_keys = λ a b e. ap (λ (s : TableSource). keys_of s.pairs.items) e;
  calm_width = λ a b e. ap (λ (s : TableSource). width_of s.branch) e;
}
  where
    same_keys : (ps : List KeptPair) → keys_of ps ≡ map (λ (e : List ℕ × List ℕ). e.0) (pairs_of ps)
    same_keys [] = refl
    same_keys (p ∷ ps) = ap (λ r. p.0.items ∷ r) (same_keys ps)
