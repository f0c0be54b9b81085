-- Tables grow with the items that are known.
use Rattle.std.proofs.Common.{◌≡◌, ◌<◌, ◌≤◌, ◌+◌, ℕ, zero, suc, Bool, true, false, if◌then◌else◌, List, [], ◌∷◌, ◌++◌, map, take, drop, get_or, length, find, Option, Some, None, is_none, refl, sym, ◌∙◌, ap, subst, arith, add-one}
use Rattle.std.specs.List.{slice_get}
use Rattle.std.specs.Option.{option_or, option_map, IfSome}
use Rattle.std.specs.Str.{bytes_eq}
use Rattle.std.proofs.lemmas.List.{append-nil, length-map, map-append}
use Rattle.std.proofs.lemmas.Option.{slice_get_within, slice_get-get_or}
use Rattle.std.proofs.lemmas.List.Folds.{find-append}
use Rattle.c_text.proofs.Names.{bytes_eq-true}
use Rattle.c_text.proofs.Arena.{slice_get-front, slice_get-seam}
use Rattle.c_text.specs.declared.ids.CNameId.{CNameId}
use Rattle.c_text.specs.declared.ids.CStmtId.{CStmtId}
use Rattle.c_text.specs.declared.kinds.Linkage.{Linkage}
use Rattle.c_text.specs.declared.nodes.CType.{CType}
use Rattle.c_text.specs.declared.nodes.CParam.{CParam}
use Rattle.c_text.specs.declared.nodes.CLocal.{CLocal}
use Rattle.c_text.specs.declared.nodes.CItem.TheVariants as item
use Rattle.c_text.specs.declared.nodes.CField.{CField}
use Rattle.c_text.specs.CTree.{ItemTree, struct_item, text_item, function_item, FieldTree}
use Rattle.c_text.specs.CNodes.{Nodes, bytes_at, type_in, field_tree, param_tree, local_tree, expr_of, code_of, made_item, unit_tree}
use Rattle.c_text.specs.CFits.{HasType, HasFields, HasParams, FitsItem}
use Rattle.c_text.proofs.Parts.{no_field, fields_here}
use Rattle.c_meaning.specs.CTypes.{StructDecl, Function, structs_of, texts_of, functions_of, is_expression}
use Rattle.c_form_exprs.specs.declared.front.Head.{Head}
use Rattle.c_form_exprs.specs.Tables.{Table, named}
use Rattle.c_form_exprs.specs.Front.{Tells, TellsOf, Finds, IsText, IsField, IsStruct, IsHead, IsNextFunction, TellsFront}
use Rattle.c_form_exprs.proofs.FrontLemmas.{bytes_eq-swap}

pub named_end : {V : Type 0} (es : List (List ℕ × V)) (n : List ℕ) (v : V) (q : List ℕ) → named (es ++ (n, v) ∷ []) q ≡ option_or (named es q) (if bytes_eq q n then Some v else None)
named_end {V} [] n v q = by (bytes_eq q n) refl
  where
    by : (b : Bool) → bytes_eq q n ≡ b → named ((n, v) ∷ []) q ≡ option_or (named [] q) (if bytes_eq q n then Some v else None)
    by true p = rw p refl
    by false p = rw p refl
named_end {V} (e ∷ es) n v q = by (bytes_eq q e.0) refl (named_end es n v q)
  where
    by : (b : Bool) → bytes_eq q e.0 ≡ b → named (es ++ (n, v) ∷ []) q ≡ option_or (named es q) (if bytes_eq q n then Some v else None) → named (e ∷ (es ++ (n, v) ∷ [])) q ≡ option_or (named (e ∷ es) q) (if bytes_eq q n then Some v else None)
    by true p rest = rw p refl
    by false p rest = rw p rest

found_before : {V X : Type 0} (tells : V → X → Type 0) (o : Option V) (p : Option X) (w : Option V) (y : Option X) → Finds tells o p → (o ≡ None → Finds tells w y) → Finds tells (option_or o w) (option_or p y)
found_before tells None p w y h k = rw h (k refl)
found_before tells (Some v) p w y h k = rw h.1 (h.0, refl, h.2)

one_found : {V X : Type 0} (tells : V → X → Type 0) (name : X → List ℕ) (n : List ℕ) (v : V) (x : X) (q : List ℕ) → name x ≡ n → tells v x → Finds tells (if bytes_eq q n then Some v else None) (find (λ y. bytes_eq (name y) q) (x ∷ []))
one_found {V} {X} tells name n v x q is t =
    let same : bytes_eq (name x) q ≡ bytes_eq q n = ap (λ m. bytes_eq m q) is ∙ bytes_eq-swap n q in
    by (bytes_eq q n) refl same
  where
    by : (b : Bool) → bytes_eq q n ≡ b → bytes_eq (name x) q ≡ bytes_eq q n → Finds tells (if bytes_eq q n then Some v else None) (find (λ y. bytes_eq (name y) q) (x ∷ []))
    by true p same = rw (same, p) (x, refl, t)
    by false p same = rw (same, p) refl

grown_fresh : {V X : Type 0} (tells : V → X → Type 0) (name : X → List ℕ) (es : List (List ℕ × V)) (xs : List X) (n : List ℕ) (v : V) (x : X) → Tells tells name es xs → name x ≡ n → tells v x → Tells tells name (es ++ (n, v) ∷ []) (xs ++ x ∷ [])
grown_fresh {V} {X} tells name es xs n v x h is t q =
    rw (named_end es n v q, find-append (λ y. bytes_eq (name y) q) xs (x ∷ [])) (found_before tells (named es q) (find (λ y. bytes_eq (name y) q) xs) (if bytes_eq q n then Some v else None) (find (λ y. bytes_eq (name y) q) (x ∷ [])) (h q) (λ e. one_found tells name n v x q is t))

-- A name that the table has already is found where it was.
pub taken_not : {V : Type 0} (es : List (List ℕ × V)) (n q : List ℕ) → false ≡ is_none (named es n) → named es q ≡ None → bytes_eq q n ≡ false
taken_not {V} es n q taken none = by (bytes_eq q n) refl
  where
    by : (b : Bool) → bytes_eq q n ≡ b → bytes_eq q n ≡ false
    by true p = absurd (let e : named es q ≡ named es n = ap (named es) (bytes_eq-true q n p) in let f : named es n ≡ None = sym e ∙ none in let g : is_none (named es n) ≡ true = ap is_none f in cc (g, taken))
    by false p = p

grown_taken : {V X : Type 0} (tells : V → X → Type 0) (name : X → List ℕ) (es : List (List ℕ × V)) (xs : List X) (n : List ℕ) (x : X) → Tells tells name es xs → name x ≡ n → false ≡ is_none (named es n) → Tells tells name es (xs ++ x ∷ [])
grown_taken {V} {X} tells name es xs n x h is taken q = by (named es q) (h q) refl
  where
    by : (o : Option V) → Finds tells o (find (λ y. bytes_eq (name y) q) xs) → named es q ≡ o → Finds tells o (find (λ y. bytes_eq (name y) q) (xs ++ x ∷ []))
    by None k e =
        let same : bytes_eq (name x) q ≡ false = ap (λ m. bytes_eq m q) is ∙ (bytes_eq-swap n q ∙ taken_not es n q taken e) in
        rw (find-append (λ y. bytes_eq (name y) q) xs (x ∷ []), k, same) refl
    by (Some v) k e = rw (find-append (λ y. bytes_eq (name y) q) xs (x ∷ []), k.1) (k.0, refl, k.2)

pub tells_grow : {V X : Type 0} (tells : V → X → Type 0) (name : X → List ℕ) (es new : List (List ℕ × V)) (xs : List X) (n : List ℕ) (v : V) (x : X) (fresh : Bool) → Tells tells name es xs → name x ≡ n → tells v x → fresh ≡ is_none (named es n) → new ≡ (if fresh then es ++ (n, v) ∷ [] else es) → Tells tells name new (xs ++ x ∷ [])
tells_grow tells name es new xs n v x true h is t f g = rw g (grown_fresh tells name es xs n v x h is t)
tells_grow tells name es new xs n v x false h is t f g = rw g (grown_taken tells name es xs n x h is f)

-- A table of the unit's names grows by one more.
pub tells_more : {V X : Type 0} (nodes : Nodes) (tells : V → X → Type 0) (name : X → List ℕ) (old new : Table V) (xs : List X) (n : List ℕ) (v : V) (x : X) (fresh : Bool) → TellsOf nodes tells name old xs → name x ≡ n → tells v x → new.names ≡ old.names → fresh ≡ is_none (named old.entries n) → new.entries ≡ (if fresh then old.entries ++ (n, v) ∷ [] else old.entries) → TellsOf nodes tells name new (xs ++ x ∷ [])
tells_more nodes tells name old new xs n v x fresh h is t same f g = record {
  names = same ∙ h.names;
  tells_all = tells_grow tells name old.entries new.entries xs n v x fresh h.tells_all is t f g;
}

pub structs_append : (xs ys : List ItemTree) → structs_of (xs ++ ys) ≡ structs_of xs ++ structs_of ys
structs_append [] ys = refl
structs_append (struct_item fields name ∷ xs) ys = ap (λ zs. record { fields = fields; name = name } ∷ zs) (structs_append xs ys)
structs_append (text_item name bytes ∷ xs) ys = structs_append xs ys
structs_append (function_item linkage result_type name params locals body ∷ xs) ys = structs_append xs ys

pub texts_append : (xs ys : List ItemTree) → texts_of (xs ++ ys) ≡ texts_of xs ++ texts_of ys
texts_append [] ys = refl
texts_append (struct_item fields name ∷ xs) ys = texts_append xs ys
texts_append (text_item name bytes ∷ xs) ys = ap (λ zs. record { name = name; bytes = bytes } ∷ zs) (texts_append xs ys)
texts_append (function_item linkage result_type name params locals body ∷ xs) ys = texts_append xs ys

pub functions_append : (xs ys : List ItemTree) → functions_of (xs ++ ys) ≡ functions_of xs ++ functions_of ys
functions_append [] ys = refl
functions_append (struct_item fields name ∷ xs) ys = functions_append xs ys
functions_append (text_item name bytes ∷ xs) ys = functions_append xs ys
functions_append (function_item linkage result_type name params locals body ∷ xs) ys = ap (λ zs. record { linkage = linkage; result_type = result_type; name = name; params = params; locals = locals; body = body } ∷ zs) (functions_append xs ys)

pub take_one_more : {A : Type 0} (xs : List A) (n : ℕ) (x : A) → slice_get xs n ≡ Some x → take (n + 1) xs ≡ take n xs ++ x ∷ []
take_one_more [] n x h = absurd (cc (h))
take_one_more (a ∷ xs) zero x h = ap (λ y. y ∷ []) (cc (h))
take_one_more (a ∷ xs) (suc n) x h = ap (λ m. take m (a ∷ xs)) (add-one (suc n)) ∙ ap (λ ys. a ∷ ys) (ap (λ m. take m xs) (sym (add-one n)) ∙ take_one_more xs n x h)

-- A table of fields grows by the next one.
pub fields_grow : (nodes : Nodes) (fs : List CField) (i : ℕ) (old new : List (List ℕ × CField)) (fresh : Bool) → i < length fs → HasFields nodes (drop i fs) → Tells (IsField nodes) (λ f. f.name) old (map (field_tree nodes.names) (take i fs)) → fresh ≡ is_none (named old (bytes_at nodes.names (get_or fs i no_field).name.0)) → new ≡ (if fresh then old ++ (bytes_at nodes.names (get_or fs i no_field).name.0, get_or fs i no_field) ∷ [] else old) → Tells (IsField nodes) (λ f. f.name) new (map (field_tree nodes.names) (take (i + 1) fs))
fields_grow nodes fs i old new fresh within has h f g =
    let x : CField = get_or fs i no_field in
    let more : map (field_tree nodes.names) (take (i + 1) fs) ≡ map (field_tree nodes.names) (take i fs) ++ field_tree nodes.names x ∷ [] = ap (map (field_tree nodes.names)) (take_one_more fs i x (slice_get-get_or fs i no_field within)) ∙ map-append (field_tree nodes.names) (take i fs) (x ∷ []) in
    subst (Tells (IsField nodes) (λ f. f.name) new) (sym more) (tells_grow (IsField nodes) (λ f. f.name) old new (map (field_tree nodes.names) (take i fs)) (bytes_at nodes.names x.name.0) x (field_tree nodes.names x) fresh h refl (record { same = refl; has = fields_here nodes fs i within has }) f g)

-- The tables of fields stay where they are when one is added.
struct_stays : (nodes : Nodes) (tables : List (Table CField)) (more : Table CField) (k : ℕ) (s : StructDecl) → IsStruct nodes tables k s → IsStruct nodes (tables ++ more ∷ []) k s
struct_stays nodes tables more k s h = record { fields = h.fields; stands = slice_get-front tables (more ∷ []) k (slice_get_within tables k h.fields h.stands) ∙ h.stands; names = h.names; tells = h.tells }

pub finds_more : {V X : Type 0} (P Q : V → X → Type 0) → ((v : V) (x : X) → P v x → Q v x) → (o : Option V) (p : Option X) → Finds P o p → Finds Q o p
finds_more P Q more None p h = h
finds_more P Q more (Some v) p h = (h.0, h.1, more v h.0 h.2)

pub tree_length : (nodes : Nodes) → length (unit_tree nodes) ≡ length nodes.items
unfolding unit_tree
tree_length nodes = length-map nodes.items (made_item nodes)

module _ (nodes : Nodes) (count : ℕ) (structs : Table ℕ) (fields : List (Table CField)) (texts : Table (Unit {0})) (functions : Table Head) (h : TellsFront nodes count structs fields texts functions) where
  next_within : (x : ItemTree) → slice_get (unit_tree nodes) count ≡ Some x → count + 1 ≤ length nodes.items
  next_within x is = let w : count < length (unit_tree nodes) = slice_get_within (unit_tree nodes) count x is in let l : length (unit_tree nodes) ≡ length nodes.items = tree_length nodes in omega (arith, w, l)

  -- A further table of fields that no struct has yet.
  pub fields_more : (more : Table CField) → TellsFront nodes count structs (fields ++ more ∷ []) texts functions
  fields_more more = record {
    within = h.within;
    structs = record {
      names = h.structs.names;
      tells_all = λ q. finds_more (IsStruct nodes fields) (IsStruct nodes (fields ++ more ∷ [])) (struct_stays nodes fields more) (named structs.entries q) (find (λ s. bytes_eq s.name q) (structs_of (take count (unit_tree nodes)))) (h.structs.tells_all q);
    };
    texts = h.texts;
    functions = h.functions;
  }

  pub after_struct : (trees : List FieldTree) (name : List ℕ) (k : ℕ) (fresh : Bool) (new : Table ℕ) → slice_get (unit_tree nodes) count ≡ Some (struct_item trees name) → IsStruct nodes fields k (record { fields = trees; name = name }) → new.names ≡ structs.names → fresh ≡ is_none (named structs.entries name) → new.entries ≡ (if fresh then structs.entries ++ (name, k) ∷ [] else structs.entries) → TellsFront nodes (count + 1) new fields texts functions
  after_struct trees name k fresh new is tells same f g =
      let one : List ItemTree = struct_item trees name ∷ [] in
      let more : take (count + 1) (unit_tree nodes) ≡ take count (unit_tree nodes) ++ one = take_one_more (unit_tree nodes) count (struct_item trees name) is in
      record {
        within = next_within (struct_item trees name) is;
        structs = subst (TellsOf nodes (IsStruct nodes fields) (λ s. s.name) new) (sym (ap structs_of more ∙ structs_append (take count (unit_tree nodes)) one)) (tells_more nodes (IsStruct nodes fields) (λ s. s.name) structs new (structs_of (take count (unit_tree nodes))) name k (record { fields = trees; name = name }) fresh h.structs refl tells same f g);
        texts = subst (TellsOf nodes IsText (λ t. t.name) texts) (sym (ap texts_of more ∙ (texts_append (take count (unit_tree nodes)) one ∙ append-nil (texts_of (take count (unit_tree nodes)))))) h.texts;
        functions = subst (TellsOf nodes (IsHead nodes) (λ f. f.name) functions) (sym (ap functions_of more ∙ (functions_append (take count (unit_tree nodes)) one ∙ append-nil (functions_of (take count (unit_tree nodes)))))) h.functions;
      }

  pub after_text : (name bytes : List ℕ) (fresh : Bool) (new : Table (Unit {0})) → slice_get (unit_tree nodes) count ≡ Some (text_item name bytes) → new.names ≡ texts.names → fresh ≡ is_none (named texts.entries name) → new.entries ≡ (if fresh then texts.entries ++ (name, tt) ∷ [] else texts.entries) → TellsFront nodes (count + 1) structs fields new functions
  after_text name bytes fresh new is same f g =
      let one : List ItemTree = text_item name bytes ∷ [] in
      let more : take (count + 1) (unit_tree nodes) ≡ take count (unit_tree nodes) ++ one = take_one_more (unit_tree nodes) count (text_item name bytes) is in
      record {
        within = next_within (text_item name bytes) is;
        structs = subst (TellsOf nodes (IsStruct nodes fields) (λ s. s.name) structs) (sym (ap structs_of more ∙ (structs_append (take count (unit_tree nodes)) one ∙ append-nil (structs_of (take count (unit_tree nodes)))))) h.structs;
        texts = subst (TellsOf nodes IsText (λ t. t.name) new) (sym (ap texts_of more ∙ texts_append (take count (unit_tree nodes)) one)) (tells_more nodes IsText (λ t. t.name) texts new (texts_of (take count (unit_tree nodes))) name tt (record { name = name; bytes = bytes }) fresh h.texts refl tt same f g);
        functions = subst (TellsOf nodes (IsHead nodes) (λ f. f.name) functions) (sym (ap functions_of more ∙ (functions_append (take count (unit_tree nodes)) one ∙ append-nil (functions_of (take count (unit_tree nodes)))))) h.functions;
      }

  pub after_function : (it : Function) (name : List ℕ) (head : Head) (fresh : Bool) (new : Table Head) → it.name ≡ name → slice_get (unit_tree nodes) count ≡ Some (function_item it.linkage it.result_type it.name it.params it.locals it.body) → IsHead nodes head it → new.names ≡ functions.names → fresh ≡ is_none (named functions.entries name) → new.entries ≡ (if fresh then functions.entries ++ (name, head) ∷ [] else functions.entries) → TellsFront nodes (count + 1) structs fields texts new
  after_function it name head fresh new spelt is tells same f g =
      let one : List ItemTree = function_item it.linkage it.result_type it.name it.params it.locals it.body ∷ [] in
      let more : take (count + 1) (unit_tree nodes) ≡ take count (unit_tree nodes) ++ one = take_one_more (unit_tree nodes) count (function_item it.linkage it.result_type it.name it.params it.locals it.body) is in
      record {
        within = next_within (function_item it.linkage it.result_type it.name it.params it.locals it.body) is;
        structs = subst (TellsOf nodes (IsStruct nodes fields) (λ s. s.name) structs) (sym (ap structs_of more ∙ (structs_append (take count (unit_tree nodes)) one ∙ append-nil (structs_of (take count (unit_tree nodes)))))) h.structs;
        texts = subst (TellsOf nodes IsText (λ t. t.name) texts) (sym (ap texts_of more ∙ (texts_append (take count (unit_tree nodes)) one ∙ append-nil (texts_of (take count (unit_tree nodes)))))) h.texts;
        functions = subst (TellsOf nodes (IsHead nodes) (λ f. f.name) new) (sym (ap functions_of more ∙ functions_append (take count (unit_tree nodes)) one)) (tells_more nodes (IsHead nodes) (λ f. f.name) functions new (functions_of (take count (unit_tree nodes))) name head it fresh h.functions spelt tells same f g);
      }

-- A struct whose table of fields is the last one.
pub after_new_struct : (nodes : Nodes) (count : ℕ) (structs : Table ℕ) (fields : List (Table CField)) (texts : Table (Unit {0})) (functions : Table Head) → TellsFront nodes count structs fields texts functions → (trees : List FieldTree) (name : List ℕ) (table : Table CField) (tables : List (Table CField)) (k : ℕ) (fresh : Bool) (new : Table ℕ) → slice_get (unit_tree nodes) count ≡ Some (struct_item trees name) → table.names ≡ nodes.names → Tells (IsField nodes) (λ f. f.name) table.entries trees → tables ≡ fields ++ table ∷ [] → k ≡ length fields → new.names ≡ structs.names → fresh ≡ is_none (named structs.entries name) → new.entries ≡ (if fresh then structs.entries ++ (name, k) ∷ [] else structs.entries) → TellsFront nodes (count + 1) new tables texts functions
after_new_struct nodes count structs fields texts functions h trees name table tables k fresh new is of_unit tells more at same f g =
    let known : TellsFront nodes count structs tables texts functions = subst (λ (xs : List (Table CField)). TellsFront nodes count structs xs texts functions) (sym more) (fields_more nodes count structs fields texts functions h table) in
    let stands : slice_get tables k ≡ Some table = ap (λ (xs : List (Table CField)). slice_get xs k) more ∙ (ap (slice_get (fields ++ table ∷ [])) at ∙ slice_get-seam fields table []) in
    after_struct nodes count structs tables texts functions known trees name k fresh new is (record { fields = table; stands = stands; names = of_unit; tells = tells }) same f g

-- The next item, where it is a function.
pub next_function : (nodes : Nodes) (count : ℕ) (linkage : Linkage) (t : Option CType) (name : CNameId) (params : List CParam) (locals : List CLocal) (body : CStmtId) (head : Head) → slice_get (unit_tree nodes) count ≡ Some (made_item nodes (item.Function linkage t name params locals body)) → FitsItem nodes (item.Function linkage t name params locals body) → head.params.now ≡ params → head.result ≡ t → head.in_expressions ≡ is_expression (record { linkage = linkage; result_type = option_map (type_in nodes.names) t; name = bytes_at nodes.names name.0; params = map (param_tree nodes.names) params; locals = map (local_tree nodes.names (expr_of nodes)) locals; body = code_of nodes body.0 }) → IsNextFunction (record { nodes = nodes; count = count }) (bytes_at nodes.names name.0) head
next_function nodes count linkage t name params locals body head is fits p r e = record {
  it = record { linkage = linkage; result_type = option_map (type_in nodes.names) t; name = bytes_at nodes.names name.0; params = map (param_tree nodes.names) params; locals = map (local_tree nodes.names (expr_of nodes)) locals; body = code_of nodes body.0 };
  named = refl;
  is = is;
  tells = record {
    params = ap (map (param_tree nodes.names)) p;
    result_type = ap (option_map (type_in nodes.names)) r;
    in_expressions = e;
    has_params = subst (λ (ps : List CParam). HasParams nodes ps) (sym p) fits.2;
    has_result = subst (λ (o : Option CType). IfSome o (HasType nodes)) (sym r) fits.0;
  };
}
