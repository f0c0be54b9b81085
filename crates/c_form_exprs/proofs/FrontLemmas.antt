-- What a table finds is what is to be found.
use Rattle.std.proofs.Common.{◌≡◌, ◌<◌, ℕ, Bool, true, false, List, [], ◌∷◌, ◌||◌, map, take, length, find, Option, Some, None, is_some, refl, sym, ◌∙◌, ap, subst, nat_eq}
use Rattle.std.specs.List.{slice_get}
use Rattle.std.specs.Option.{option_and_then}
use Rattle.std.specs.Str.{bytes_eq}
use Rattle.std.proofs.lemmas.Bool.{eqb-true, eq-eqb}
use Rattle.std.proofs.lemmas.Option.{slice_get_within}
use Rattle.c_text.specs.declared.nodes.CField.{CField}
use Rattle.c_text.specs.CTree.{ItemTree, struct_item, text_item, function_item}
use Rattle.c_text.specs.CNodes.{Nodes, bytes_at, unit_tree}
use Rattle.c_meaning.specs.CTypes.{StructDecl, structs_of, texts_of, functions_of, struct_named, function_named, field_named}
use Rattle.c_meaning.specs.UnitForm.{is_among, item_name}
use Rattle.c_form_exprs.specs.declared.front.Head.{Head}
use Rattle.c_form_exprs.specs.Tables.{Table, named}
use Rattle.c_form_exprs.specs.Front.{Lists, Finds, IsText, IsField, IsStruct, IsHead, TellsFront}

nat_eq-swap : (m n : ℕ) → nat_eq m n ≡ nat_eq n m
nat_eq-swap m n =
    let one : (b c : Bool) → nat_eq m n ≡ b → nat_eq n m ≡ c → nat_eq m n ≡ nat_eq n m = elim [
      | true ↦ elim [
        | true ↦ λ p q. p ∙ sym q
        | false ↦ λ p q. absurd (let r = eq-eqb n m (sym (eqb-true m n p)) in cc (r, q))
      ]
      | false ↦ elim [
        | true ↦ λ p q. absurd (let r = eq-eqb m n (sym (eqb-true n m q)) in cc (r, p))
        | false ↦ λ p q. p ∙ sym q
      ]
    ] in
    one (nat_eq m n) (nat_eq n m) refl refl

pub bytes_eq-swap : (xs ys : List ℕ) → bytes_eq xs ys ≡ bytes_eq ys xs
bytes_eq-swap [] [] = refl
bytes_eq-swap [] (y ∷ ys) = refl
bytes_eq-swap (x ∷ xs) [] = refl
bytes_eq-swap (x ∷ xs) (y ∷ ys) = rw (nat_eq-swap x y, bytes_eq-swap xs ys) refl

pub find_listed : {V X : Type 0} (tells : V → X → Type 0) (name : X → List ℕ) (es : List (List ℕ × V)) (xs : List X) → Lists tells name es xs → (q : List ℕ) → Finds tells (named es q) (find (λ x. bytes_eq (name x) q) xs)
find_listed tells name [] [] h q = refl
find_listed tells name [] (x ∷ xs) h q = absurd h
find_listed tells name (e ∷ es) [] h q = absurd h
find_listed {V} {X} tells name (e ∷ es) (x ∷ xs) h q =
    let same : bytes_eq (name x) q ≡ bytes_eq q e.0 = ap (λ n. bytes_eq n q) (sym h.0) ∙ bytes_eq-swap e.0 q in
    let by : (b : Bool) → bytes_eq q e.0 ≡ b → Finds tells (named (e ∷ es) q) (find (λ y. bytes_eq (name y) q) (x ∷ xs)) = elim [
      | true ↦ λ p. rw (same, p) (x, refl, h.1)
      | false ↦ λ p. rw (same, p) (find_listed tells name es xs h.2 q)
    ] in
    by (bytes_eq q e.0) refl

pub found_alike : {V X : Type 0} (tells : V → X → Type 0) (v : Option V) (x : Option X) → Finds tells v x → is_some v ≡ is_some x
found_alike tells None x h = rw h refl
found_alike tells (Some v) x h = rw h.1 refl

-- The unit's names are those of each table.
pub in_structs : (nodes : Nodes) (count : ℕ) (structs : Table ℕ) (fields : List (Table CField)) (texts : Table (Unit {0})) (functions : Table Head) → TellsFront nodes count structs fields texts functions → (n : ℕ) → n < length nodes.names → n < length structs.names
in_structs nodes count structs fields texts functions h n has = rw h.structs.names has

pub in_texts : (nodes : Nodes) (count : ℕ) (structs : Table ℕ) (fields : List (Table CField)) (texts : Table (Unit {0})) (functions : Table Head) → TellsFront nodes count structs fields texts functions → (n : ℕ) → n < length nodes.names → n < length texts.names
in_texts nodes count structs fields texts functions h n has = rw h.texts.names has

pub in_functions : (nodes : Nodes) (count : ℕ) (structs : Table ℕ) (fields : List (Table CField)) (texts : Table (Unit {0})) (functions : Table Head) → TellsFront nodes count structs fields texts functions → (n : ℕ) → n < length nodes.names → n < length functions.names
in_functions nodes count structs fields texts functions h n has = rw h.functions.names has

pub struct_listed : (nodes : Nodes) (count : ℕ) (structs : Table ℕ) (fields : List (Table CField)) (texts : Table (Unit {0})) (functions : Table Head) → TellsFront nodes count structs fields texts functions → (n : ℕ) → is_some (named structs.entries (bytes_at structs.names n)) ≡ is_some (struct_named (structs_of (take count (unit_tree nodes))) (bytes_at nodes.names n))
struct_listed nodes count structs fields texts functions h n = rw h.structs.names (found_alike (IsStruct nodes fields) (named structs.entries (bytes_at nodes.names n)) (struct_named (structs_of (take count (unit_tree nodes))) (bytes_at nodes.names n)) (h.structs.tells_all (bytes_at nodes.names n)))

pub text_listed : (nodes : Nodes) (count : ℕ) (structs : Table ℕ) (fields : List (Table CField)) (texts : Table (Unit {0})) (functions : Table Head) → TellsFront nodes count structs fields texts functions → (n : ℕ) → is_some (named texts.entries (bytes_at texts.names n)) ≡ is_some (find (λ it. bytes_eq it.name (bytes_at nodes.names n)) (texts_of (take count (unit_tree nodes))))
text_listed nodes count structs fields texts functions h n = rw h.texts.names (found_alike IsText (named texts.entries (bytes_at nodes.names n)) (find (λ it. bytes_eq it.name (bytes_at nodes.names n)) (texts_of (take count (unit_tree nodes)))) (h.texts.tells_all (bytes_at nodes.names n)))

pub function_listed : (nodes : Nodes) (count : ℕ) (structs : Table ℕ) (fields : List (Table CField)) (texts : Table (Unit {0})) (functions : Table Head) → TellsFront nodes count structs fields texts functions → (n : ℕ) → Finds (IsHead nodes) (named functions.entries (bytes_at functions.names n)) (function_named (functions_of (take count (unit_tree nodes))) (bytes_at nodes.names n))
function_listed nodes count structs fields texts functions h n = rw h.functions.names (h.functions.tells_all (bytes_at nodes.names n))

pub function_known : (nodes : Nodes) (count : ℕ) (structs : Table ℕ) (fields : List (Table CField)) (texts : Table (Unit {0})) (functions : Table Head) → TellsFront nodes count structs fields texts functions → (n : ℕ) → is_some (named functions.entries (bytes_at functions.names n)) ≡ is_some (function_named (functions_of (take count (unit_tree nodes))) (bytes_at nodes.names n))
function_known nodes count structs fields texts functions h n = rw h.functions.names (found_alike (IsHead nodes) (named functions.entries (bytes_at nodes.names n)) (function_named (functions_of (take count (unit_tree nodes))) (bytes_at nodes.names n)) (h.functions.tells_all (bytes_at nodes.names n)))

-- Where a struct isn't found, no field is; where it is, its table tells.
pub no_struct : (nodes : Nodes) (fields : List (Table CField)) (x : Option StructDecl) (q : List ℕ) → Finds (IsStruct nodes fields) None x → Finds (IsField nodes) None (option_and_then (λ it. field_named it.fields q) x)
no_struct nodes fields x q h = rw h refl

pub field_listed : (nodes : Nodes) (fields : List (Table CField)) (k : ℕ) (x : Option StructDecl) (table : Table CField) (q : List ℕ) → Finds (IsStruct nodes fields) (Some k) x → slice_get fields k ≡ Some table → Finds (IsField nodes) (named table.entries q) (option_and_then (λ it. field_named it.fields q) x)
field_listed nodes fields k x table q h is =
    let same : table ≡ h.2.fields = (let p = h.2.stands in cc (is, p)) in
    rw (h.1, same) (h.2.tells q)

pub struct_at : (nodes : Nodes) (count : ℕ) (structs : Table ℕ) (fields : List (Table CField)) (texts : Table (Unit {0})) (functions : Table Head) → TellsFront nodes count structs fields texts functions → (q : List ℕ) (r o : Option ℕ) → r ≡ named structs.entries q → r ≡ o → Finds (IsStruct nodes fields) o (struct_named (structs_of (take count (unit_tree nodes))) q)
struct_at nodes count structs fields texts functions h q r o is some = subst (λ (x : Option ℕ). Finds (IsStruct nodes fields) x (struct_named (structs_of (take count (unit_tree nodes))) q)) (sym is ∙ some) (h.structs.tells_all q)

pub index_within : (nodes : Nodes) (fields : List (Table CField)) (k : ℕ) (x : Option StructDecl) → Finds (IsStruct nodes fields) (Some k) x → k < length fields
index_within nodes fields k x h = slice_get_within fields k h.2.fields h.2.stands

pub field_names : (nodes : Nodes) (fields : List (Table CField)) (k : ℕ) (x : Option StructDecl) (table : Table CField) → Finds (IsStruct nodes fields) (Some k) x → slice_get fields k ≡ Some table → table.names ≡ nodes.names
field_names nodes fields k x table h is =
    let same : table ≡ h.2.fields = (let p = h.2.stands in cc (is, p)) in
    ap (λ (t : Table CField). t.names) same ∙ h.2.names

-- Each item is a struct, a string or a function.
is_some_find : {X : Type 0} (p : X → Bool) (x : X) (xs : List X) → is_some (find p (x ∷ xs)) ≡ (p x || is_some (find p xs))
is_some_find p x xs = by (p x) refl
  where
    by : (b : Bool) → p x ≡ b → is_some (find p (x ∷ xs)) ≡ (p x || is_some (find p xs))
    by true h = rw h refl
    by false h = rw h refl

or_middle : (a b c d : Bool) → (a || (b || (c || d))) ≡ (b || ((a || c) || d))
or_middle true true c d = refl
or_middle true false c d = refl
or_middle false true c d = refl
or_middle false false c d = refl

or_last : (a b c d : Bool) → (a || (b || (c || d))) ≡ (b || (c || (a || d)))
or_last true true c d = refl
or_last true false true d = refl
or_last true false false d = refl
or_last false b c d = refl

or_first : (a b c : Bool) → (a || (b || c)) ≡ ((a || b) || c)
or_first true b c = refl
or_first false b c = refl

abbrev pub is_listed : List ItemTree → List ℕ → Bool
is_listed items q = is_some (struct_named (structs_of items) q) || (is_some (find (λ it. bytes_eq it.name q) (texts_of items)) || is_some (function_named (functions_of items) q))

pub among_items : (items : List ItemTree) (q : List ℕ) → is_among (map item_name items) q ≡ is_listed items q
among_items [] q = refl
among_items (struct_item fields name ∷ items) q =
    let one = is_some_find (λ it. bytes_eq it.name q) (record { fields = fields; name = name }) (structs_of items) in
    rw (one, bytes_eq-swap q name, among_items items q) (or_first (bytes_eq name q) (is_some (struct_named (structs_of items) q)) (is_some (find (λ it. bytes_eq it.name q) (texts_of items)) || is_some (function_named (functions_of items) q)))
among_items (text_item name bytes ∷ items) q =
    let one = is_some_find (λ it. bytes_eq it.name q) (record { name = name; bytes = bytes }) (texts_of items) in
    rw (one, bytes_eq-swap q name, among_items items q) (or_middle (bytes_eq name q) (is_some (struct_named (structs_of items) q)) (is_some (find (λ it. bytes_eq it.name q) (texts_of items))) (is_some (function_named (functions_of items) q)))
among_items (function_item linkage result_type name params locals body ∷ items) q =
    let one = is_some_find (λ it. bytes_eq it.name q) (record { linkage = linkage; result_type = result_type; name = name; params = params; locals = locals; body = body }) (functions_of items) in
    rw (one, bytes_eq-swap q name, among_items items q) (or_last (bytes_eq name q) (is_some (struct_named (structs_of items) q)) (is_some (find (λ it. bytes_eq it.name q) (texts_of items))) (is_some (function_named (functions_of items) q)))
