-- What opening a store finds, by what opening its values found.
use Rattle.std.proofs.Common.{◌≡◌, ℕ, false, Result, Ok, Err, IfOk, OnOk, sym, subst}
use Rattle.disk_model.specs.Files.{Files}
use Rattle.disk_model.specs.Moments.{Moments, LeavesOnly}
use Rattle.trie_model.specs.Maps.{Map, limits}
use Rattle.store_model.specs.Journal.{Stands}
use Rattle.value_store.specs.Values.{ValueState, Keeps as ValuesKeep}
use Rattle.value_store.specs.StoreOpenings.{Opened as ValuesOpened}
use Rattle.value_store.proofs.KeptMaps.{keeps_stands, keeps_same, opened_map}
use Rattle.view_model.specs.Forest.{no_views}
use Rattle.mdb_core.specs.Stores.{DbState, Keeps, is_failed}
use Rattle.mdb_core.specs.StoreOpenings.{Opened}
use Rattle.mdb_core.specs.declared.fault.DbFault.{DbFault}

-- values that are the same keep the same files
pub values_same : (s t : ValueState) (m : Map) (files now : Files) → t ≡ s → now ≡ files → ValuesKeep s m files → ValuesKeep t m now
values_same s t m files now same same' k = keeps_same t m files now same' (subst (λ (x : ValueState). ValuesKeep x m files) (sym same) k)

module _ (width : ℕ) (was mid is : Files) (v : ValueState) (o : ValuesOpened width was mid v) where
  -- where all is read, it is the store
  pub opened_store : (r : Result DbState DbFault) → ((m : Map) → ValuesKeep v m mid → IfOk r (λ d. Keeps d m is)) → IfOk r (λ d. (is_failed d ≡ false) × (d.forest ≡ no_views) × (d.width ≡ width)) → IfOk r (Opened width was is)
  opened_store (Ok d) keeps works = record { map = o.map; stands = o.stands; width_was = o.width_was; width_is = works.2; keeps = keeps o.map o.keeps }
  opened_store (Err fault) keeps works = tt

  -- and whatever comes of it, the files stand for what they stood for
  pub opened_stands : (m : Map) → is ≡ mid → Stands limits was m → Stands limits is m
  opened_stands m same stands = keeps_stands v m is (keeps_same v m mid is same (opened_map width was mid v m o stands))

-- what a crash leaves after the reads is what it left before them
pub still_left : {T E : Type 0} (r : Result T E) (m : Map) (mid new : Moments) → new ≡ mid → LeavesOnly (λ image. Stands limits image m) mid.now → OnOk r (LeavesOnly (λ image. Stands limits image m) new.now)
still_left (Ok x) m mid new same left = subst (λ (n : Moments). LeavesOnly (λ image. Stands limits image m) n.now) (sym same) left
still_left (Err e) m mid new same left = tt
