-- What is found under a name in a list, and in the items of a text.
use Rattle.std.proofs.Common.{◌≡◌, ℕ, zero, suc, Bool, true, false, not, List, [], ◌∷◌, ◌++◌, map, Option, Some, None, refl, sym, ap, ◌∙◌, subst}
use Rattle.std.specs.Prelude.{cond, find, slice_get, bytes_eq}
use Rattle.std.proofs.lemmas.List.Folds.{list_any-append}
use Rattle.std.proofs.lemmas.Slice.Eq.{bytes_eq-Decides}
use Rattle.wf_ast.proofs.Arena.{both_true}
use Rattle.c_text.specs.CTree.{TypeTree, Code, FieldTree, ParamTree, LocalTree, ItemTree, struct_item, text_item, function_item}
use Rattle.c_text.specs.declared.kinds.Linkage.{Linkage}
use Rattle.c_meaning.specs.CTypes.{structs_of, texts_of, functions_of, struct_named, function_named}
use Rattle.c_meaning.specs.UnitForm.{is_among, all_distinct, item_name}
use Rattle.wf_lower_laws.proofs.Apart.{neither, left_or, right_or, not_true}
use Rattle.wf_lower_laws.proofs.Surfaces.{stands}
use Rattle.wf_lower_laws.proofs.Frames.{same_bytes}

module _ {X : Type 0} (name : X → List ℕ) where
  abbrev pub found : List X → List ℕ → Option X
  found xs l = find (λ x. bytes_eq (name x) l) xs

  abbrev names : List X → List (List ℕ)
  names xs = map name xs

  -- At the front, or after that where it isn't at the front.
  pub found_front : (xs ys : List X) (l : List ℕ) (x : X) → found xs l ≡ Some x → found (xs ++ ys) l ≡ Some x
  found_front [] ys l x h = absurd (cc h)
  found_front (y ∷ xs) ys l x h = by (bytes_eq (name y) l) h (found_front xs ys l x)
    where
      by : (b : Bool) → cond b (Some y) (found xs l) ≡ Some x → (found xs l ≡ Some x → found (xs ++ ys) l ≡ Some x) → cond b (Some y) (found (xs ++ ys) l) ≡ Some x
      by true k more = k
      by false k more = more k

  pub found_behind : (xs ys : List X) (l : List ℕ) → is_among (names xs) l ≡ false → found (xs ++ ys) l ≡ found ys l
  found_behind [] ys l h = refl
  found_behind (x ∷ xs) ys l h =
      let p = neither (bytes_eq l (name x)) (is_among (names xs) l) h in
      by (bytes_eq (name x) l) refl p.0 (found_behind xs ys l p.1)
    where
      by : (b : Bool) → bytes_eq (name x) l ≡ b → bytes_eq l (name x) ≡ false → found (xs ++ ys) l ≡ found ys l → cond b (Some x) (found (xs ++ ys) l) ≡ found ys l
      by true e n k =
          let same : name x ≡ l = (bytes_eq-Decides (name x) l).0 e in
          absurd (cc (n, (bytes_eq-Decides l (name x)).1 (sym same)))
      by false e n k = k

  pub found_none : (xs : List X) (l : List ℕ) → is_among (names xs) l ≡ false → found xs l ≡ None
  found_none [] l h = refl
  found_none (x ∷ xs) l h =
      let p = neither (bytes_eq l (name x)) (is_among (names xs) l) h in
      by (bytes_eq (name x) l) refl p.0 (found_none xs l p.1)
    where
      by : (b : Bool) → bytes_eq (name x) l ≡ b → bytes_eq l (name x) ≡ false → found xs l ≡ None → cond b (Some x) (found xs l) ≡ None
      by true e n k =
          let same : name x ≡ l = (bytes_eq-Decides (name x) l).0 e in
          absurd (cc (n, (bytes_eq-Decides l (name x)).1 (sym same)))
      by false e n k = k

  -- After what is alike for the name.
  pub found_alike : (xs zs ys : List X) (l : List ℕ) → found xs l ≡ found zs l → found (xs ++ ys) l ≡ found (zs ++ ys) l
  found_alike xs zs ys l h = parts xs ∙ (ap (λ o. or_else o (found ys l)) h ∙ sym (parts zs))
    where
      or_else : Option X → Option X → Option X
      or_else None other = other
      or_else (Some x) other = Some x

      parts : (xs : List X) → found (xs ++ ys) l ≡ or_else (found xs l) (found ys l)
      parts [] = refl
      parts (x ∷ xs) = by (bytes_eq (name x) l) (parts xs)
        where
          by : (b : Bool) → found (xs ++ ys) l ≡ or_else (found xs l) (found ys l) → cond b (Some x) (found (xs ++ ys) l) ≡ or_else (cond b (Some x) (found xs l)) (found ys l)
          by true k = refl
          by false k = k

  pub found_both : (xs ys zs : List X) (l : List ℕ) → found ys l ≡ found zs l → found (xs ++ ys) l ≡ found (xs ++ zs) l
  found_both [] ys zs l h = h
  found_both (x ∷ xs) ys zs l h = ap (λ o. cond (bytes_eq (name x) l) (Some x) o) (found_both xs ys zs l h)

  stands_name : (xs : List X) (i : ℕ) (x : X) → slice_get xs i ≡ Some x → is_among (names xs) (name x) ≡ true
  stands_name [] i x e = absurd (cc e)
  stands_name (y ∷ xs) zero x e =
      let same : y ≡ x = cc e in
      left_or (bytes_eq (name x) (name y)) (is_among (names xs) (name x)) ((bytes_eq-Decides (name x) (name y)).1 (ap name (sym same)))
  stands_name (y ∷ xs) (suc i) x e = right_or (bytes_eq (name x) (name y)) (is_among (names xs) (name x)) (stands_name xs i x e)

  -- Where names differ, each is found.
  pub found_at : (xs : List X) (i : ℕ) (x : X) → all_distinct (names xs) ≡ true → slice_get xs i ≡ Some x → found xs (name x) ≡ Some x
  found_at [] i x d e = absurd (cc e)
  found_at (y ∷ xs) zero x d e =
      let same : y ≡ x = cc e in
      let P : X → Type 0 = λ z. cond (bytes_eq (name z) (name x)) (Some z) (found xs (name x)) ≡ Some x in
      subst P (sym same) (rw (same_bytes (name x)) refl)
  found_at (y ∷ xs) (suc i) x d e =
      let p = both_true (not (is_among (names xs) (name y))) (all_distinct (names xs)) d in
      by (bytes_eq (name y) (name x)) refl (not_true (is_among (names xs) (name y)) p.0) (stands_name xs i x e) (found_at xs i x p.1 e)
    where
      by : (b : Bool) → bytes_eq (name y) (name x) ≡ b → is_among (names xs) (name y) ≡ false → is_among (names xs) (name x) ≡ true → found xs (name x) ≡ Some x → cond b (Some y) (found xs (name x)) ≡ Some x
      by true g n a k =
          let P : List ℕ → Type 0 = λ l. is_among (names xs) l ≡ false in
          absurd (cc (subst P ((bytes_eq-Decides (name y) (name x)).0 g) n, a))
      by false g n a k = k

pub distinct_front : (ls ms : List (List ℕ)) → all_distinct (ls ++ ms) ≡ true → all_distinct ls ≡ true
distinct_front [] ms d = refl
distinct_front (l ∷ ls) ms d =
    let p = both_true (not (is_among (ls ++ ms) l)) (all_distinct (ls ++ ms)) d in
    rw ((neither (is_among ls l) (is_among ms l) (sym (list_any-append (bytes_eq l) ls ms) ∙ not_true (is_among (ls ++ ms) l) p.0)).0, distinct_front ls ms p.1) refl

-- ---- items

pub texts_both : (xs ys : List ItemTree) → texts_of (xs ++ ys) ≡ texts_of xs ++ texts_of ys
texts_both [] ys = refl
texts_both (struct_item fields name ∷ xs) ys = texts_both xs ys
texts_both (text_item name bytes ∷ xs) ys = ap (λ zs. record { name = name; bytes = bytes } ∷ zs) (texts_both xs ys)
texts_both (function_item linkage result_type name params locals body ∷ xs) ys = texts_both xs ys

pub functions_both : (xs ys : List ItemTree) → functions_of (xs ++ ys) ≡ functions_of xs ++ functions_of ys
functions_both [] ys = refl
functions_both (struct_item fields name ∷ xs) ys = functions_both xs ys
functions_both (text_item name bytes ∷ xs) ys = functions_both xs ys
functions_both (function_item linkage result_type name params locals body ∷ xs) ys =
    ap (λ zs. record { linkage = linkage; result_type = result_type; name = name; params = params; locals = locals; body = body } ∷ zs) (functions_both xs ys)

other_name : (items : List ItemTree) (i : ℕ) (item : ItemTree) (l : List ℕ) → slice_get items i ≡ Some item → not (is_among (map item_name items) l) ≡ true → bytes_eq l (item_name item) ≡ false
other_name items i item l e n = by (bytes_eq l (item_name item)) refl
  where
    by : (b : Bool) → bytes_eq l (item_name item) ≡ b → bytes_eq l (item_name item) ≡ false
    by false g = g
    by true g = absurd (cc (stands i items item l e (sym ((bytes_eq-Decides l (item_name item)).0 g)), not_true (is_among (map item_name items) l) n))

pub struct_found : (items : List ItemTree) (i : ℕ) (fields : List FieldTree) (name : List ℕ) → all_distinct (map item_name items) ≡ true → slice_get items i ≡ Some (struct_item fields name)
    → struct_named (structs_of items) name ≡ Some (record { fields = fields; name = name })
struct_found [] i fields name d e = absurd (cc e)
struct_found (x ∷ items) zero fields name d e =
    let same : x ≡ struct_item fields name = cc e in
    let P : ItemTree → Type 0 = λ z. struct_named (structs_of (z ∷ items)) name ≡ Some (record { fields = fields; name = name }) in
    subst P (sym same) (rw (same_bytes name) refl)
struct_found (text_item other bytes ∷ items) (suc i) fields name d e = struct_found items i fields name (both_true (not (is_among (map item_name items) other)) (all_distinct (map item_name items)) d).1 e
struct_found (function_item linkage result_type other params locals body ∷ items) (suc i) fields name d e = struct_found items i fields name (both_true (not (is_among (map item_name items) other)) (all_distinct (map item_name items)) d).1 e
struct_found (struct_item own other ∷ items) (suc i) fields name d e =
    let p = both_true (not (is_among (map item_name items) other)) (all_distinct (map item_name items)) d in
    let n : bytes_eq other name ≡ false = other_name items i (struct_item fields name) other e p.0 in
    rw n (struct_found items i fields name p.1 e)

pub function_found : (items : List ItemTree) (i : ℕ) (linkage : Linkage) (result_type : Option TypeTree) (name : List ℕ) (params : List ParamTree) (locals : List LocalTree) (body : Code) → all_distinct (map item_name items) ≡ true
    → slice_get items i ≡ Some (function_item linkage result_type name params locals body)
    → function_named (functions_of items) name ≡ Some (record { linkage = linkage; result_type = result_type; name = name; params = params; locals = locals; body = body })
function_found [] i linkage result_type name params locals body d e = absurd (cc e)
function_found (x ∷ items) zero linkage result_type name params locals body d e =
    let same : x ≡ function_item linkage result_type name params locals body = cc e in
    let P : ItemTree → Type 0 = λ z. function_named (functions_of (z ∷ items)) name ≡ Some (record { linkage = linkage; result_type = result_type; name = name; params = params; locals = locals; body = body }) in
    subst P (sym same) (rw (same_bytes name) refl)
function_found (text_item other bytes ∷ items) (suc i) linkage result_type name params locals body d e =
    function_found items i linkage result_type name params locals body (both_true (not (is_among (map item_name items) other)) (all_distinct (map item_name items)) d).1 e
function_found (struct_item fields other ∷ items) (suc i) linkage result_type name params locals body d e =
    function_found items i linkage result_type name params locals body (both_true (not (is_among (map item_name items) other)) (all_distinct (map item_name items)) d).1 e
function_found (function_item own_linkage own_result other own_params own_locals own_body ∷ items) (suc i) linkage result_type name params locals body d e =
    let p = both_true (not (is_among (map item_name items) other)) (all_distinct (map item_name items)) d in
    let n : bytes_eq other name ≡ false = other_name items i (function_item linkage result_type name params locals body) other e p.0 in
    rw n (function_found items i linkage result_type name params locals body p.1 e)

-- ---- what stands in a list

abbrev pub There : {X : Type 0} → X → List X → Type 0
There x xs = (i : ℕ) × (slice_get xs i ≡ Some x)

pub there_first : {X : Type 0} (x : X) (xs : List X) → There x (x ∷ xs)
there_first x xs = (0, refl)

pub there_later : {X : Type 0} (x y : X) (xs : List X) → There x xs → There x (y ∷ xs)
there_later x y xs h = (suc h.0, h.1)

pub there_front : {X : Type 0} (x : X) (xs ys : List X) → There x xs → There x (xs ++ ys)
there_front x [] ys h = absurd (cc h.1)
there_front x (y ∷ xs) ys h = by h.0 h.1 (there_front x xs ys)
  where
    by : (i : ℕ) → slice_get (y ∷ xs) i ≡ Some x → (There x xs → There x (xs ++ ys)) → There x (y ∷ (xs ++ ys))
    by zero e more = (0, e)
    by (suc i) e more = there_later x y (xs ++ ys) (more (i, e))

pub there_behind : {X : Type 0} (x : X) (xs ys : List X) → There x ys → There x (xs ++ ys)
there_behind x [] ys h = h
there_behind x (y ∷ xs) ys h = there_later x y (xs ++ ys) (there_behind x xs ys h)

pub there_map : {X Y : Type 0} (g : X → Y) (x : X) (xs : List X) → There x xs → There (g x) (map g xs)
there_map g x [] h = absurd (cc h.1)
there_map g x (y ∷ xs) h = by h.0 h.1 (there_map g x xs)
  where
    by : (i : ℕ) → slice_get (y ∷ xs) i ≡ Some x → (There x xs → There (g x) (map g xs)) → There (g x) (g y ∷ map g xs)
    by zero e more =
        let same : y ≡ x = cc e in
        (0, ap (λ z. Some (g z)) same)
    by (suc i) e more = there_later (g x) (g y) (map g xs) (more (i, e))

pub there_found : {X : Type 0} (name : X → List ℕ) (xs : List X) (x : X) → all_distinct (map name xs) ≡ true → There x xs → find (λ y. bytes_eq (name y) (name x)) xs ≡ Some x
there_found name xs x d h = found_at name xs h.0 x d h.1
