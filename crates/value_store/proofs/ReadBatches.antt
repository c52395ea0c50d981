-- A batch that is read in pieces is read as a whole.
use Rattle.std.proofs.Common.{◌≡◌, ◌≢◌, ℕ, suc, ◌+◌, ◌-◌, ◌<◌, ◌≤◌, min, Bool, true, false, cond, List, [], ◌∷◌, length, take, drop, Option, Some, None, option_map, Result, Ok, Err, refl, sym, ap, ◌∙◌, arith, subst, ltb, eqb, inl, inr, length-take, length-drop}
use Rattle.std.specs.Prelude.{unwrap_or, IfSome}
use Rattle.std.specs.Ordering.{eq_by_cmp}
use Rattle.std.specs.FinMap.{get, insert, remove, get-insert, get-remove}
use Rattle.std.proofs.lemmas.Cmp.{nat_list_cmp_total}
use Rattle.std.proofs.lemmas.Bool.{cases_lt}
use Rattle.std.proofs.lemmas.Bool.Decides.{nat_tests}
use Rattle.std.proofs.lemmas.List.{drop-drop, drop-take, take-take, nil_from_length}
use Rattle.base_model.specs.Bytes.{bytes_cmp}
use Rattle.base_model.specs.ReadUvarint.{UvarintFault, uvarint_at}
use Rattle.base_model.specs.Fields.{Field, ◌>>=◌, number_or_fault, number_at, bytes_at, flag_at}
use Rattle.base_model.proofs.Fields.{got}
use Rattle.base_model.proofs.Results.{ok_is}
use Rattle.trie_model.specs.Maps.{Limits, Map, limits}
use Rattle.batch_model.specs.Sized.{sized_at}
use Rattle.batch_model.specs.Batch.{Change, BatchFault, Outside, put_or_removed, after_batch, key_at, value_at, changes_at, batch_of}
use Rattle.store_model.specs.Header.{first_gate}
use Rattle.value_store.specs.Values.{Place, value_in}
use Rattle.value_store.specs.Index.{Places, AreInFile, IsInFile}
use Rattle.value_store.specs.ChangeHeads.{Head, limited_at, count_at, head_at, value_behind}
use Rattle.value_store.specs.PayloadPieces.{PieceState, IsPieceOf, AreAt}
use Rattle.value_store.specs.BatchReading.{laid, Shows, Midway, Counted, BatchRead, changes_into, batch_into, payload_at, place_behind}
use Rattle.value_store.proofs.LocalFields.{IsWindow, shifted, local-number, local-head}

start : (x : List ℕ) → drop 0 x ≡ x
start [] = refl
start (b ∷ x) = refl

take-none : (x : List ℕ) → take 0 x ≡ []
take-none [] = refl
take-none (b ∷ x) = refl

-- ---- pieces of a payload

module _ (file : List ℕ) where
  -- at the beginning nothing was read
  pub at_start : (place count : ℕ) → place + count ≤ length file → AreAt file (payload_at file place count) 0 (record { place = place; left = count; piece = [] })
  at_start place count fits = record {
    rest = start (payload_at file place count);
    left = omega (arith, fits, length-take count (drop place file), length-drop place file);
    piece = sym (take-none (drop place file));
  }

  module _ (payload : List ℕ) (at : ℕ) where
    -- with another piece
    pub at_filled : (p q : PieceState) → AreAt file payload at p → q.place ≡ p.place → q.left ≡ p.left → IsPieceOf file q → AreAt file payload at q
    at_filled p q a place left piece = record {
      rest = a.rest ∙ ap (λ n. take n (drop p.place file)) (sym left) ∙ ap (λ n. take q.left (drop n file)) (sym place);
      left = ap (λ n. at + n) left ∙ a.left;
      piece = piece;
    }

    -- the piece is a window of the payload
    pub at_window : (m : ℕ) (p : PieceState) → AreAt file payload at p → length p.piece ≤ p.left → min m p.left ≤ length p.piece → IsWindow m payload at p.piece
    at_window m p a fits enough = record {
      is = a.piece ∙ sym (take-take (length p.piece) p.left (drop p.place file) fits) ∙ ap (take (length p.piece)) (sym a.rest);
      long = omega (arith, enough, a.left, length-drop at payload);
    }

    -- behind so many bytes
    pub at_behind : (p : PieceState) (k : ℕ) → AreAt file payload at p → k ≤ p.left → AreAt file payload (at + k) (record { place = p.place + k; left = p.left - k; piece = drop k p.piece })
    at_behind p k a fits = record {
      rest =
          let e : k + (p.left - k) ≡ p.left = omega arith in
          sym (drop-drop k at payload)
          ∙ ap (drop k) (a.rest ∙ ap (λ n. take n (drop p.place file)) (sym e))
          ∙ drop-take k (p.left - k) (drop p.place file)
          ∙ ap (take (p.left - k)) (drop-drop k p.place file);
      left = omega (arith, a.left);
      piece = elim (cases_lt (length p.piece) k) [
        | inl less ↦
            let none : drop k p.piece ≡ [] = nil_from_length (drop k p.piece) (omega (arith, length-drop k p.piece)) in
            none ∙ sym (take-none (drop (p.place + k) file)) ∙ ap (λ n. take n (drop (p.place + k) file)) (sym (ap length none))
        | inr more ↦
            let e : k + (length p.piece - k) ≡ length p.piece = omega arith in
            ap (drop k) (a.piece ∙ ap (λ n. take n (drop p.place file)) (sym e))
            ∙ drop-take k (length p.piece - k) (drop p.place file)
            ∙ ap (take (length p.piece - k)) (drop-drop k p.place file)
            ∙ ap (λ n. take n (drop (p.place + k) file)) (sym (length-drop k p.piece))
      ];
    }

    -- bytes of the payload are bytes of the file
    pub at_value : (p : PieceState) (k n : ℕ) → AreAt file payload at p → k + n ≤ p.left → take n (drop (at + k) payload) ≡ value_in file (record { start = p.place + k; count = n })
    at_value p k n a fits =
        let r = at_behind p k a (omega arith) in
        ap (take n) r.rest ∙ take-take n (p.left - k) (drop (p.place + k) file) (omega arith)

-- ---- places that show a map

pub shows-laid : (file : List ℕ) (m : Map) (index : Places) (key : List ℕ) (v : Option (List ℕ)) (p : Option Place) → Shows file m index → v ≡ option_map (value_in file) p → Shows file (put_or_removed m key v) (laid index key p)
shows-laid file m index key v None s e = subst (λ v. Shows file (put_or_removed m key v) (remove index key)) (sym e) (record {
  at = λ q. get-remove nat_list_cmp_total m key q ∙ pick (eq_by_cmp bytes_cmp q key) (get m q) (get index q) (s.at q) ∙ ap (option_map (value_in file)) (sym (get-remove nat_list_cmp_total index key q));
})
  where
    pick : (b : Bool) (x : Option (List ℕ)) (y : Option Place) → x ≡ option_map (value_in file) y → cond b None x ≡ option_map (value_in file) (cond b None y)
    pick true x y e = refl
    pick false x y e = e
shows-laid file m index key v (Some p) s e = subst (λ v. Shows file (put_or_removed m key v) (insert index key p)) (sym e) (record {
  at = λ q. get-insert nat_list_cmp_total m key (value_in file p) q ∙ pick (eq_by_cmp bytes_cmp q key) (get m q) (get index q) (s.at q) ∙ ap (option_map (value_in file)) (sym (get-insert nat_list_cmp_total index key p q));
})
  where
    pick : (b : Bool) (x : Option (List ℕ)) (y : Option Place) → x ≡ option_map (value_in file) y → cond b (Some (value_in file p)) x ≡ option_map (value_in file) (cond b (Some p) y)
    pick true x y e = refl
    pick false x y e = e

pub in_file-laid : (end : ℕ) (index : Places) (key : List ℕ) (p : Option Place) → AreInFile end index → IfSome p (IsInFile end) → AreInFile end (laid index key p)
in_file-laid end index key None all one = λ q. subst (λ o. IfSome o (IsInFile end)) (sym (get-remove nat_list_cmp_total index key q)) (pick (eq_by_cmp bytes_cmp q key) (get index q) (all q))
  where
    pick : (b : Bool) (x : Option Place) → IfSome x (IsInFile end) → IfSome (cond b None x) (IsInFile end)
    pick true x h = tt
    pick false x h = h
in_file-laid end index key (Some p) all one = λ q. subst (λ o. IfSome o (IsInFile end)) (sym (get-insert nat_list_cmp_total index key p q)) (pick (eq_by_cmp bytes_cmp q key) (get index q) (all q))
  where
    pick : (b : Bool) (x : Option Place) → IfSome x (IsInFile end) → IfSome (cond b (Some p) x) (IsInFile end)
    pick true x h = one
    pick false x h = h

-- a value that fits stands in the file
pub in_file-behind : (end start : ℕ) (count : Option ℕ) → first_gate ≤ start → start + unwrap_or count 0 ≤ end → IfSome (place_behind start count) (IsInFile end)
in_file-behind end start None low high = tt
in_file-behind end start (Some n) low high = (low, high)

-- ---- a change by its head

-- what is made of what was read
abbrev some_value : List ℕ × ℕ → Field BatchFault (Option (List ℕ))
some_value v = Ok (Some v.0, v.1)

abbrev some_count : ℕ × ℕ → Field BatchFault (Option ℕ)
some_count n = Ok (Some n.0, n.1)

abbrev head_of : List ℕ → Option ℕ × ℕ → Field BatchFault Head
head_of key c = Ok (record { key = key; count = c.0 }, c.1)

abbrev one_more : List ℕ → Option (List ℕ) → List Change × ℕ → Field BatchFault (List Change)
one_more key v others = Ok (record { key = key; value = v } ∷ others.0, others.1)

abbrev laid_on : Map → List Change × ℕ → Field BatchFault Map
laid_on m x = Ok (after_batch m x.0, x.1)

value-count : (l : Limits) (bytes : List ℕ) (at : ℕ) → value_at l bytes at ≡ (count_at l bytes at >>= λ c. value_behind c.0 bytes c.1)
unfolding value_at count_at limited_at sized_at
value-count l bytes at = by_flag (flag_at (λ _. Outside) (λ _. Outside) bytes at)
  where
    by_test : (b : Bool) (n : ℕ × ℕ) → (cond b (Err Outside) (bytes_at (λ _. Outside) n.0 bytes n.1) >>= some_value) ≡ ((cond b (Err Outside) (Ok n) >>= some_count) >>= λ c. value_behind c.0 bytes c.1)
    by_test true n = refl
    by_test false n = refl

    by_number : (r : Field BatchFault ℕ) → ((r >>= λ n. cond (ltb l.value n.0) (Err Outside) (bytes_at (λ _. Outside) n.0 bytes n.1)) >>= some_value) ≡ (((r >>= λ n. cond (ltb l.value n.0) (Err Outside) (Ok n)) >>= some_count) >>= λ c. value_behind c.0 bytes c.1)
    by_number (Ok n) = by_test (ltb l.value n.0) n
    by_number (Err why) = refl

    by_bit : (b : Bool) (p : ℕ) → cond b (sized_at Outside l.value bytes p >>= some_value) (Ok (None, p)) ≡ (cond b (limited_at l.value bytes p >>= some_count) (Ok (None, p)) >>= λ c. value_behind c.0 bytes c.1)
    by_bit true p = by_number (number_at (λ _ _. Outside) bytes p)
    by_bit false p = refl

    by_flag : (r : Field BatchFault Bool) → (r >>= λ flag. cond flag.0 (sized_at Outside l.value bytes flag.1 >>= some_value) (Ok (None, flag.1)))
        ≡ ((r >>= λ flag. cond flag.0 (limited_at l.value bytes flag.1 >>= some_count) (Ok (None, flag.1))) >>= λ c. value_behind c.0 bytes c.1)
    by_flag (Ok flag) = by_bit flag.0 flag.1
    by_flag (Err why) = refl

-- what is made of a map by a change whose head was read, and those behind it
abbrev behind_head : ℕ → List ℕ → Map → Head × ℕ → Field BatchFault Map
behind_head n bytes m h = value_behind h.0.count bytes h.1 >>= λ v. changes_into n (Some h.0.key) bytes v.1 (put_or_removed m h.0.key v.0)

changes_into-head : (n : ℕ) (last : Option (List ℕ)) (bytes : List ℕ) (at : ℕ) (m : Map) → changes_into (suc n) last bytes at m ≡ (head_at limits last bytes at >>= behind_head n bytes m)
unfolding changes_at head_at
changes_into-head n last bytes at m = by_key (key_at limits last bytes at)
  where
    by_others : (key : List ℕ) (v : Option (List ℕ)) (r : Field BatchFault (List Change)) → ((r >>= one_more key v) >>= laid_on m) ≡ (r >>= laid_on (put_or_removed m key v))
    by_others key v (Ok x) = refl
    by_others key v (Err why) = refl

    by_value : (key : List ℕ) (r : Field BatchFault (Option (List ℕ)))
        → ((r >>= λ v. changes_at limits n (Some key) bytes v.1 >>= one_more key v.0) >>= laid_on m)
        ≡ (r >>= λ v. changes_into n (Some key) bytes v.1 (put_or_removed m key v.0))
    by_value key (Ok v) = by_others key v.0 (changes_at limits n (Some key) bytes v.1)
    by_value key (Err why) = refl

    by_count : (key : List ℕ) (r : Field BatchFault (Option ℕ))
        → (((r >>= λ c. value_behind c.0 bytes c.1) >>= λ v. changes_at limits n (Some key) bytes v.1 >>= one_more key v.0) >>= laid_on m)
        ≡ ((r >>= head_of key) >>= behind_head n bytes m)
    by_count key (Ok c) = by_value key (value_behind c.0 bytes c.1)
    by_count key (Err why) = refl

    by_key : (r : Field BatchFault (List ℕ))
        → ((r >>= λ key. value_at limits bytes key.1 >>= λ v. changes_at limits n (Some key.0) bytes v.1 >>= one_more key.0 v.0) >>= laid_on m)
        ≡ ((r >>= λ key. count_at limits bytes key.1 >>= head_of key.0) >>= behind_head n bytes m)
    by_key (Ok key) =
        ap (λ r. (r >>= λ v. changes_at limits n (Some key.0) bytes v.1 >>= one_more key.0 v.0) >>= laid_on m) (value-count limits bytes key.1)
        ∙ by_count key.0 (count_at limits bytes key.1)
    by_key (Err why) = refl

-- the value behind a head, where it is all there
value-there : (file payload : List ℕ) (at : ℕ) (p : PieceState) (k : ℕ) (count : Option ℕ) → AreAt file payload at p → k + unwrap_or count 0 ≤ p.left
    → value_behind count payload (at + k) ≡ got (option_map (value_in file) (place_behind (p.place + k) count)) (at + (k + unwrap_or count 0))
unfolding bytes_at
value-there file payload at p k None a fits = let e : at + k ≡ at + (k + 0) = omega arith in ap (λ n. got None n) e
value-there file payload at p k (Some n) a fits =
    let room : ltb (length payload - (at + k)) n ≡ false = enough (length payload - (at + k)) n (omega (arith, a.left)) in
    let e : at + k + n ≡ at + (k + n) = omega arith in
    rw room (ap (λ v. got (Some v) (at + k + n)) (at_value file payload at p k n a fits) ∙ ap (λ j. got (Some (value_in file (record { start = p.place + k; count = n }))) j) e)
  where
    enough : (a b : ℕ) → b ≤ a → ltb a b ≡ false
    enough a b h = grind (arith, nat_tests)

-- where it is not
value-short : (file payload : List ℕ) (at : ℕ) (p : PieceState) (k : ℕ) (count : Option ℕ) → AreAt file payload at p → k ≤ p.left → p.left < k + unwrap_or count 0 → value_behind count payload (at + k) ≡ Err Outside
unfolding bytes_at
value-short file payload at p k None a inside short = absurd (omega (arith, inside, short))
value-short file payload at p k (Some n) a inside short =
    let room : ltb (length payload - (at + k)) n ≡ true = fewer (length payload - (at + k)) n (omega (arith, a.left)) in
    rw room refl
  where
    fewer : (a b : ℕ) → a < b → ltb a b ≡ true
    fewer a b h = grind (arith, nat_tests)

module _ (file payload : List ℕ) (n : ℕ) (last : Option (List ℕ)) (p q : PieceState) (index : Places) (whole : Field BatchFault Map) (m : Midway file payload (suc n) last p index whole) (place : q.place ≡ p.place) (left : q.left ≡ p.left) (piece : IsPieceOf file q) (fits : length q.piece ≤ q.left) (enough : min 300 q.left ≤ length q.piece) where
  filled : AreAt file payload m.at q
  filled = at_filled file payload m.at p q m.are_at place left piece

  -- the head that was read of the piece is that of the payload
  head_is : head_at limits last payload m.at ≡ shifted m.at (head_at limits last q.piece 0)
  head_is = (local-head limits last).same payload m.at q.piece (at_window file payload m.at 277 q filled fits (omega (arith, enough)))

  -- a head outside the grammar
  pub wrong_head : head_at limits last q.piece 0 ≡ Err Outside → whole ≡ Err Outside
  wrong_head e = m.whole_is ∙ changes_into-head n last payload m.at m.map ∙ ap (λ r. r >>= behind_head n payload m.map) (head_is ∙ ap (shifted m.at) e)

  module _ (h : Head) (k : ℕ) (read : head_at limits last q.piece 0 ≡ Ok (h, k)) where
    whole_at : whole ≡ behind_head n payload m.map (h, m.at + k)
    whole_at = m.whole_is ∙ changes_into-head n last payload m.at m.map ∙ ap (λ r. r >>= behind_head n payload m.map) (head_is ∙ ap (shifted m.at) read)

    -- a value that is not all there
    pub wrong_value : k ≤ q.left → q.left < k + unwrap_or h.count 0 → whole ≡ Err Outside
    wrong_value inside short = whole_at ∙ ap (λ r. r >>= λ v. changes_into n (Some h.key) payload v.1 (put_or_removed m.map h.key v.0)) (value-short file payload m.at q k h.count filled inside short)

    -- one change more was read
    pub next_change : k + unwrap_or h.count 0 ≤ q.left
        → Midway file payload n (Some h.key) (record { place = q.place + (k + unwrap_or h.count 0); left = q.left - (k + unwrap_or h.count 0); piece = drop (k + unwrap_or h.count 0) q.piece }) (laid index h.key (place_behind (q.place + k) h.count)) whole
    next_change room =
        let v = option_map (value_in file) (place_behind (q.place + k) h.count) in
        record {
          at = m.at + (k + unwrap_or h.count 0);
          map = put_or_removed m.map h.key v;
          are_at = at_behind file payload m.at q (k + unwrap_or h.count 0) filled room;
          shows = shows-laid file m.map index h.key v (place_behind (q.place + k) h.count) m.shows refl;
          whole_is = whole_at ∙ ap (λ r. r >>= λ v. changes_into n (Some h.key) payload v.1 (put_or_removed m.map h.key v.0)) (value-there file payload m.at q k h.count filled room);
        }

-- the same, of what is equal
pub same_midway : (file payload : List ℕ) (n : ℕ) (last last' : Option (List ℕ)) (p p' : PieceState) (index index' : Places) (whole : Field BatchFault Map)
    → last ≡ last' → p ≡ p' → index ≡ index' → Midway file payload n last p index whole → Midway file payload n last' p' index' whole
same_midway file payload n last last' p p' index index' whole a b d m =
    subst (λ (x : Option (List ℕ)). Midway file payload n x p' index' whole) a (subst (λ (x : PieceState). Midway file payload n last x index' whole) b (subst (λ (x : Places). Midway file payload n last p x whole) d m))

-- ---- the number of changes

module _ (file : List ℕ) (place count : ℕ) (inside : place + count ≤ length file) (q : PieceState) (q_place : q.place ≡ place) (q_left : q.left ≡ count) (piece : IsPieceOf file q) (fits : length q.piece ≤ q.left) (enough : min 300 q.left ≤ length q.piece) where
  abbrev payload : List ℕ
  payload = payload_at file place count

  at_front : AreAt file payload 0 q
  at_front = at_filled file payload 0 (record { place = place; left = count; piece = [] }) q (at_start file place count inside) q_place q_left piece

  number_is : number_at (λ _ _. Outside) payload 0 ≡ shifted 0 (number_at (λ _ _. Outside) q.piece 0)
  number_is = local-number.same payload 0 q.piece (at_window file payload 0 10 q at_front fits (omega (arith, enough)))

  pub counted : (n k : ℕ) → uvarint_at q.piece 0 ≡ Ok (n, k) → k ≤ q.left → Counted file payload n (record { place = q.place + k; left = q.left - k; piece = drop k q.piece })
  unfolding number_at
  counted n k e room = record {
    at = 0 + k;
    is = number_is ∙ ap (λ r. shifted 0 (number_or_fault (λ _ _. Outside) 0 r)) e;
    are_at = at_behind file payload 0 q k at_front room;
  }

  pub uncounted : (why : UvarintFault) → uvarint_at q.piece 0 ≡ Err why → number_at (λ _ _. Outside) payload 0 ≡ Err Outside
  unfolding number_at
  uncounted why e = number_is ∙ ap (λ r. shifted 0 (number_or_fault (λ _ _. Outside) 0 r)) e

-- ---- all of a batch

-- a payload without a number in front is no batch
pub no_number : (payload : List ℕ) → number_at (λ _ _. Outside) payload 0 ≡ Err Outside → batch_of limits payload ≡ Err Outside
unfolding batch_of
no_number payload e = rw e refl

module _ (payload : List ℕ) (count k : ℕ) (number : number_at (λ _ _. Outside) payload 0 ≡ Ok (count, k)) (m : Map) where
  abbrev ends : Field BatchFault (List Change) → Result (List Change) BatchFault
  ends r = r >>= λ changes. cond (eqb changes.1 (length payload)) (Ok changes.0) (Err Outside)

  batch_is : batch_of limits payload ≡ ends (changes_at limits count None payload k)
  unfolding batch_of
  batch_is = rw number refl

  -- where a change is wrong, so is the batch
  pub wrong_changes : changes_into count None payload k m ≡ Err Outside → batch_of limits payload ≡ Err Outside
  wrong_changes e = batch_is ∙ tell (changes_at limits count None payload k) e
    where
      tell : (r : Field BatchFault (List Change)) → (r >>= laid_on m) ≡ Err Outside → ends r ≡ Err Outside
      tell (Ok x) e = absurd cc
      tell (Err Outside) e = refl

  -- where bytes are left behind the last change
  pub wrong_end : (map : Map) (at : ℕ) → changes_into count None payload k m ≡ Ok (map, at) → at ≢ length payload → batch_of limits payload ≡ Err Outside
  wrong_end map at e ne = batch_is ∙ tell (changes_at limits count None payload k) e
    where
      tell : (r : Field BatchFault (List Change)) → (r >>= laid_on m) ≡ Ok (map, at) → ends r ≡ Err Outside
      tell (Ok x) e =
          let same : x.1 ≡ at = ap (λ (p : Map × ℕ). p.1) (ok_is (after_batch m x.0, x.1) (map, at) e) in
          let test : eqb x.1 (length payload) ≡ false = grind (arith, nat_tests) in
          rw test refl
      tell (Err why) e = absurd cc

  -- where none are
  pub right_end : (map : Map) (at : ℕ) → changes_into count None payload k m ≡ Ok (map, at) → at ≡ length payload → batch_into payload m ≡ Ok map
  right_end map at e eq = ap (λ r. r >>= λ cs. Ok (after_batch m cs)) batch_is ∙ tell (changes_at limits count None payload k) e
    where
      tell : (r : Field BatchFault (List Change)) → (r >>= laid_on m) ≡ Ok (map, at) → (ends r >>= λ cs. Ok (after_batch m cs)) ≡ Ok map
      tell (Ok x) e =
          let p = ok_is (after_batch m x.0, x.1) (map, at) e in
          let same : x.1 ≡ at = ap (λ (p : Map × ℕ). p.1) p in
          let made : after_batch m x.0 ≡ map = ap (λ (p : Map × ℕ). p.0) p in
          let test : eqb x.1 (length payload) ≡ true = grind (arith, nat_tests) in
          rw test (ap (λ m. Ok m) made)
      tell (Err why) e = absurd cc

-- no more changes are left
pub changes_into-none : (last : Option (List ℕ)) (bytes : List ℕ) (at : ℕ) (m : Map) → changes_into 0 last bytes at m ≡ Ok (m, at)
unfolding changes_at
changes_into-none last bytes at m = refl

-- where the number was read, all changes are left
pub started : (file payload : List ℕ) (count : ℕ) (last : Option (List ℕ)) (p : PieceState) (index : Places) (m : Map) → (n : Counted file payload count p) → last ≡ None → Shows file m index → Midway file payload count last p index (changes_into count None payload n.at m)
started file payload count last p index m n none shows = record {
  at = n.at;
  map = m;
  are_at = n.are_at;
  shows = shows;
  whole_is = ap (λ (l : Option (List ℕ)). changes_into count l payload n.at m) (sym none);
}

module _ (file payload : List ℕ) (count : ℕ) (first : PieceState) (n : Counted file payload count first) (m : Map) (last : Option (List ℕ)) (p : PieceState) (index : Places) (end : Midway file payload 0 last p index (changes_into count None payload n.at m)) where
  all_read : changes_into count None payload n.at m ≡ Ok (end.map, end.at)
  all_read = end.whole_is ∙ changes_into-none last payload end.at end.map

  -- nothing is left
  pub batch_read : p.left ≡ 0 → BatchRead file payload m index
  batch_read none = record { map = end.map; is = right_end payload count n.at n.is m end.map end.at all_read (omega (arith, end.are_at.left, none)); shows = end.shows }

  -- something is left
  pub bytes_left : 0 < p.left → batch_of limits payload ≡ Err Outside
  bytes_left some = wrong_end payload count n.at n.is m end.map end.at all_read (λ e. absurd (omega (arith, e, end.are_at.left, some)))
