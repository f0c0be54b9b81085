-- What a typed package whose names are words has of its structs, methods and variables.
use Rattle.std.proofs.Common.{◌≡◌, ◌∙◌, ap, sym, subst, ℕ, zero, suc, ◌<◌, Bool, true, not, ◌&&◌, List, [], ◌∷◌, Option, Some, get_or, length, map, refl, arith}
use Rattle.std.proofs.lemmas.List.{length-map}
use Rattle.std.specs.Prelude.{slice_get, unwrap_or, option_map, nat_lt, nat_eq}
use Rattle.std.specs.List.{list_all}
use Rattle.std.proofs.lemmas.Bool.Decides.{nat_tests}
use Rattle.std.proofs.lemmas.Option.{same_Some, slice_get-map, slice_get_within}
use Rattle.wf_ast.specs.declared.declarations.Method.{Method}
use Rattle.wf_ast.specs.declared.declarations.Struct.{Struct}
use Rattle.wf_ast.specs.declared.declarations.Var.{Var}
use Rattle.wf_ast.specs.declared.numbers.TextId.{TextId}
use Rattle.wf_ast.specs.declared.typed_code.Block.{Block}
use Rattle.wf_ast.specs.declared.typed_nodes.TypedNodes.{TypedNodes}
use Rattle.wf_ast.specs.TypedInvariant.{IsTyped, block_below}
use Rattle.wf_ast.specs.TypedPackage.{Variable, StructTree, MethodTree, PackageTree, package_of, struct_of, method_of, methods_of, variable_of}
use Rattle.wf_ast.specs.TypedTrees.{block_of, text_of}
use Rattle.wf_ast.specs.WellTyped.{all_structs_whole, calls_in_front, calls_known, has_struct_order, is_among, is_whole, is_whole_struct, may_be_field, structs_in_front, well_method, well_typed}
use Rattle.wf_ast.proofs.Arena.{both_true}
use Rattle.wf_meaning.specs.SourceState.{fields_of}
use Rattle.c_text.proofs.Arena.{slice_get-some}
use Rattle.c_text.specs.CSpelling.{is_word_byte}
use Rattle.wf_exprs.specs.Names.{named}
use Rattle.wf_exprs.specs.Scopes.{are_named, is_named}
use Rattle.wf_exprs.proofs.Prefixes.{list_all-at}
use Rattle.wf_lower_stmts.specs.BodyNodes.{HasWords, is_spelt_method, is_spelt_struct, is_word_at}
use Rattle.wf_lower.proofs.Walks.{all_here}

-- The name of a variable.
pub named_there : (nodes : TypedNodes) (x : Var) → is_named nodes x ≡ true → x.name.0 < length nodes.texts
named_there nodes x h = let p = (both_true (nat_lt x.name.0 (length nodes.texts)) (list_all is_word_byte (text_of nodes x.name)) h).0 in grind (arith, nat_tests, p)

pub text_is : (nodes : TypedNodes) (t : TextId) (r : List ℕ) → slice_get nodes.texts t.0 ≡ Some r → text_of nodes t ≡ r
text_is nodes t r h = ap (λ o. unwrap_or o []) h

pub named_word : (nodes : TypedNodes) (x : Var) (r : List ℕ) → is_named nodes x ≡ true → slice_get nodes.texts x.name.0 ≡ Some r → list_all is_word_byte r ≡ true
named_word nodes x r h is = ap (list_all is_word_byte) (sym (text_is nodes x.name r is)) ∙ (both_true (nat_lt x.name.0 (length nodes.texts)) (list_all is_word_byte (text_of nodes x.name)) h).1

pub args_named : (nodes : TypedNodes) (m : Method) → is_spelt_method nodes m ≡ true → are_named nodes m.args ≡ true
args_named nodes m h = (both_true (are_named nodes m.args) (are_named nodes m.locals) (both_true (is_word_at nodes m.name) _ (both_true (nat_lt m.of.0 (length nodes.structs)) _ h).1).1).0

pub locals_named : (nodes : TypedNodes) (m : Method) → is_spelt_method nodes m ≡ true → are_named nodes m.locals ≡ true
locals_named nodes m h = (both_true (are_named nodes m.args) (are_named nodes m.locals) (both_true (is_word_at nodes m.name) _ (both_true (nat_lt m.of.0 (length nodes.structs)) _ h).1).1).1

-- The name of the argument with a number.
pub named_is : (nodes : TypedNodes) (xs : List Var) (n : ℕ) (d : Var) → n < length xs → named (map (λ x. x.name) (map (variable_of nodes) xs)) n ≡ text_of nodes (get_or xs n d).name
named_is nodes [] n d h = absurd (omega (arith, h))
named_is nodes (x ∷ xs) zero d h = refl
named_is nodes (x ∷ xs) (suc n) d h = named_is nodes xs n d (omega (arith, h))

-- The name of a variable, as the code reads it.
pub variable_text : (nodes t : TypedNodes) (x : Var) (r : List ℕ) → t ≡ nodes → slice_get t.texts x.name.0 ≡ Some r → text_of nodes x.name ≡ r
variable_text nodes t x r same h = text_is nodes x.name r (subst (λ (m : TypedNodes). slice_get m.texts x.name.0 ≡ Some r) same h)

pub variable_word : (nodes t : TypedNodes) (x : Var) (r : List ℕ) → t ≡ nodes → is_named nodes x ≡ true → slice_get t.texts x.name.0 ≡ Some r → list_all is_word_byte r ≡ true
variable_word nodes t x r same named h = named_word nodes x r named (subst (λ (m : TypedNodes). slice_get m.texts x.name.0 ≡ Some r) same h)

-- The name of an argument, as the code reads it.
module _ (nodes t : TypedNodes) (args xs : List Var) (n : ℕ) (d : Var) (r : List ℕ) (same : t ≡ nodes) (is : xs ≡ args) (known : n < length args) where
  pub arg_there : are_named nodes args ≡ true → (get_or xs n d).name.0 < length t.texts
  arg_there h =
      let there = named_there nodes (get_or args n d) (all_here (is_named nodes) args n d known h) in
      subst (λ (m : TypedNodes). (get_or xs n d).name.0 < length m.texts) (sym same) (subst (λ (ys : List Var). (get_or ys n d).name.0 < length nodes.texts) (sym is) there)

  arg_read : slice_get t.texts (get_or xs n d).name.0 ≡ Some r → slice_get nodes.texts (get_or args n d).name.0 ≡ Some r
  arg_read k = subst (λ (ys : List Var). slice_get nodes.texts (get_or ys n d).name.0 ≡ Some r) is (subst (λ (m : TypedNodes). slice_get m.texts (get_or xs n d).name.0 ≡ Some r) same k)

  pub arg_text : slice_get t.texts (get_or xs n d).name.0 ≡ Some r → r ≡ named (map (λ x. x.name) (map (variable_of nodes) args)) n
  arg_text k = sym (named_is nodes args n d known ∙ text_is nodes (get_or args n d).name r (arg_read k))

  pub arg_word : are_named nodes args ≡ true → slice_get t.texts (get_or xs n d).name.0 ≡ Some r → list_all is_word_byte r ≡ true
  arg_word h k = named_word nodes (get_or args n d) r (all_here (is_named nodes) args n d known h) (arg_read k)

-- The fields of a struct.
pub fields_named : (nodes : TypedNodes) → HasWords nodes → (s : ℕ) (it : Struct) → slice_get nodes.structs s ≡ Some it → are_named nodes it.fields ≡ true
fields_named nodes words s it is = (both_true (is_word_at nodes it.name) (are_named nodes it.fields) (list_all-at (is_spelt_struct nodes) nodes.structs s it words.struct_words is)).1

pub struct_at : (nodes : TypedNodes) (s : ℕ) (it : Struct) → slice_get nodes.structs s ≡ Some it → slice_get (package_of nodes).structs s ≡ Some (struct_of nodes it)
unfolding package_of
struct_at nodes s it is = let e = slice_get-map (struct_of nodes) nodes.structs s in rw (e, is) refl

pub fields_are : (nodes : TypedNodes) (s : ℕ) (it : Struct) → slice_get nodes.structs s ≡ Some it → fields_of (package_of nodes) s ≡ map (variable_of nodes) it.fields
fields_are nodes s it is = ap (λ (o : Option StructTree). unwrap_or (option_map (λ st. st.fields) o) []) (struct_at nodes s it is)

pub count_same : (nodes : TypedNodes) → length (package_of nodes).structs ≡ length nodes.structs
unfolding package_of
count_same nodes = length-map nodes.structs (struct_of nodes)

pub all_mapped : {X Y : Type 0} (p : Y → Bool) (f : X → Y) (xs : List X) → list_all p (map f xs) ≡ list_all (λ x. p (f x)) xs
all_mapped p f [] = refl
all_mapped p f (x ∷ xs) = ap (λ b. p (f x) && b) (all_mapped p f xs)

pub held_at : (p : PackageTree) (n : ℕ) (ss : List StructTree) (i : ℕ) (s : StructTree) → all_structs_whole p n ss ≡ true → slice_get ss i ≡ Some s → list_all (λ x. may_be_field p x.ty) s.fields ≡ true
held_at p n [] i s h k = absurd (cc k)
held_at p n (x ∷ ss) zero s h k =
    let e : x ≡ s = cc k in
    ap (λ (y : StructTree). list_all (λ v. may_be_field p v.ty) y.fields) (sym e) ∙ (both_true (list_all (λ v. may_be_field p v.ty) x.fields) _ (both_true (is_whole p (length p.structs) n) _ h).1).0
held_at p n (x ∷ ss) (suc i) s h k = held_at p (suc n) ss i s (both_true (list_all (λ v. may_be_field p v.ty) x.fields) _ (both_true (is_whole p (length p.structs) n) _ h).1).1 k

pub structs_whole : (p : PackageTree) → well_typed p ≡ true → all_structs_whole p 0 p.structs ≡ true
unfolding well_typed
structs_whole p h = (both_true (all_structs_whole p 0 p.structs) _ h).0

pub fields_held : (nodes : TypedNodes) → IsTyped nodes → (s : ℕ) (it : Struct) → slice_get nodes.structs s ≡ Some it → list_all (λ x. may_be_field (package_of nodes) x.ty) it.fields ≡ true
fields_held nodes typed s it is =
    let p = package_of nodes in
    sym (all_mapped (λ (v : Variable). may_be_field p v.ty) (variable_of nodes) it.fields) ∙ held_at p 0 p.structs s (struct_of nodes it) (structs_whole p typed.rules) (struct_at nodes s it is)

-- A method with its body.
method_with : (nodes : TypedNodes) (ms : List Method) (bodies : List Block) (n : ℕ) (m : Method) (b : Block) → slice_get ms n ≡ Some m → slice_get bodies n ≡ Some b → slice_get (methods_of nodes ms bodies) n ≡ Some (method_of nodes m b)
method_with nodes [] bodies n m b h k = absurd (cc h)
method_with nodes (x ∷ ms) [] n m b h k = absurd (cc k)
method_with nodes (x ∷ ms) (y ∷ bodies) zero m b h k = let e : x ≡ m = cc h in let f : y ≡ b = cc k in ap (λ z. Some (method_of nodes z y)) e ∙ ap (λ z. Some (method_of nodes m z)) f
method_with nodes (x ∷ ms) (y ∷ bodies) (suc n) m b h k = method_with nodes ms bodies n m b h k

pub method_at : (nodes : TypedNodes) (n : ℕ) (m : Method) (b : Block) → slice_get nodes.methods n ≡ Some m → slice_get nodes.bodies n ≡ Some b → slice_get (package_of nodes).methods n ≡ Some (method_of nodes m b)
unfolding package_of
method_at nodes n m b h k = method_with nodes nodes.methods nodes.bodies n m b h k

pub body_there : (nodes : TypedNodes) → IsTyped nodes → (n : ℕ) (b : Block) → slice_get nodes.bodies n ≡ Some b → block_below (length nodes.stmts) b ≡ true
body_there nodes typed n b h = list_all-at (λ b. block_below (length nodes.stmts) b) nodes.bodies n b typed.bodies_made h

pub method_spelt : (nodes : TypedNodes) → HasWords nodes → (n : ℕ) (m : Method) → slice_get nodes.methods n ≡ Some m → is_spelt_method nodes m ≡ true
method_spelt nodes words n m h = list_all-at (is_spelt_method nodes) nodes.methods n m words.method_words h

methods_count : (nodes : TypedNodes) (ms : List Method) (bodies : List Block) → length bodies ≡ length ms → length (methods_of nodes ms bodies) ≡ length ms
methods_count nodes [] bodies h = refl
methods_count nodes (m ∷ ms) [] h = absurd (cc h)
methods_count nodes (m ∷ ms) (b ∷ bodies) h = ap suc (methods_count nodes ms bodies (cc h))

pub methods_same : (nodes : TypedNodes) → IsTyped nodes → length (package_of nodes).methods ≡ length nodes.methods
unfolding package_of
methods_same nodes typed = methods_count nodes nodes.methods nodes.bodies typed.bodied

-- A method has a body.
pub made_there : (nodes : TypedNodes) → IsTyped nodes → (n : ℕ) (m : Method) → slice_get nodes.methods n ≡ Some m → (b : Block) × (slice_get (package_of nodes).methods n ≡ Some (method_of nodes m b))
made_there nodes typed n m h =
    let there = slice_get_within nodes.methods n m h in
    let body = slice_get-some nodes.bodies n (omega (arith, there, typed.bodied)) in
    (body.0, method_at nodes n m body.0 h body.1)

-- The body of a method, as the code has it.
pub body_same : (nodes : TypedNodes) (n : ℕ) (body : Block) → n < length nodes.methods → slice_get nodes.bodies n ≡ Some body → (m : MethodTree) → slice_get (package_of nodes).methods n ≡ Some m → block_of nodes body ≡ m.body
body_same nodes n body there is m known =
    let found = slice_get-some nodes.methods n there in
    let at : slice_get (package_of nodes).methods n ≡ Some (method_of nodes found.0 body) = method_at nodes n found.0 body found.1 is in
    let e : method_of nodes found.0 body ≡ m = cc (at, known) in
    ap (λ (it : MethodTree). it.body) e

-- A list has something for each method.
module _ {A : Type 0} (nodes : TypedNodes) (n : ℕ) (f : MethodTree → A) (entries : List A) (are : entries ≡ map f (package_of nodes).methods) where
  pub entry_there : IsTyped nodes → n < length nodes.methods → n < length entries
  entry_there typed there =
      let same : length entries ≡ length (package_of nodes).methods = ap length are ∙ length-map (package_of nodes).methods f in
      omega (arith, there, same, methods_same nodes typed)

  pub entry_is : (entry : A) (m : MethodTree) → slice_get entries n ≡ Some entry → slice_get (package_of nodes).methods n ≡ Some m → entry ≡ f m
  entry_is entry m h known = same_Some entry (f m) (sym h ∙ ap (λ l. slice_get l n) are ∙ slice_get-map f (package_of nodes).methods n ∙ ap (option_map f) known)

-- The order has numbers of methods alone.
method_there : (known : ℕ → Bool) (ms : List MethodTree) (n : ℕ) → calls_known known (slice_get ms n) ≡ true → n < length ms
method_there known [] n h = absurd (cc h)
method_there known (m ∷ ms) zero h = omega arith
method_there known (m ∷ ms) (suc n) h = omega (arith, method_there known ms n h)

method_known : (known : ℕ → Bool) (ms : List MethodTree) (n : ℕ) → calls_known known (slice_get ms n) ≡ true → nat_lt n (length ms) ≡ true
method_known known ms n h = let there = method_there known ms n h in grind (arith, nat_tests, there)

order_known : (p : PackageTree) (front rest : List ℕ) → calls_in_front p front rest ≡ true → list_all (λ m. nat_lt m (length p.methods)) rest ≡ true
order_known p front [] h = refl
order_known p front (m ∷ ms) h =
    let a = both_true (calls_known (is_among front) (slice_get p.methods m)) _ h in
    let b = both_true _ (calls_in_front p (m ∷ front) ms) a.1 in
    let first = method_known (is_among front) p.methods m a.0 in
    ap (λ x. x && list_all (λ n. nat_lt n (length p.methods)) ms) first ∙ order_known p (m ∷ front) ms b.1

pub in_order : (p : PackageTree) → well_typed p ≡ true → list_all (λ m. nat_lt m (length p.methods)) p.order ≡ true
unfolding well_typed
in_order p h =
    let a = both_true (all_structs_whole p 0 p.structs) _ h in
    let b = both_true (list_all (well_method p) p.methods) _ a.1 in
    let c = both_true (nat_eq (length p.order) (length p.methods)) _ b.1 in
    order_known p [] p.order (both_true (calls_in_front p [] p.order) (has_struct_order p) c.1).0

-- And that of the structs has numbers of structs alone.
struct_there : (known : ℕ → Bool) (ss : List StructTree) (n : ℕ) → is_whole_struct known (slice_get ss n) ≡ true → n < length ss
struct_there known [] n h = absurd (cc h)
struct_there known (s ∷ ss) zero h = omega arith
struct_there known (s ∷ ss) (suc n) h = omega (arith, struct_there known ss n h)

structs_known : (p : PackageTree) (front rest : List ℕ) → structs_in_front p front rest ≡ true → list_all (λ s. nat_lt s (length p.structs)) rest ≡ true
structs_known p front [] h = refl
structs_known p front (s ∷ ss) h =
    let a = both_true (is_whole_struct (is_among front) (slice_get p.structs s)) _ h in
    let b = both_true (not (is_among front s)) (structs_in_front p (s ∷ front) ss) a.1 in
    let below = struct_there (is_among front) p.structs s a.0 in
    let first : nat_lt s (length p.structs) ≡ true = grind (arith, nat_tests, below) in
    ap (λ x. x && list_all (λ n. nat_lt n (length p.structs)) ss) first ∙ structs_known p (s ∷ front) ss b.1

pub structs_in_order : (p : PackageTree) → well_typed p ≡ true → list_all (λ s. nat_lt s (length p.structs)) p.struct_order ≡ true
unfolding well_typed
structs_in_order p h =
    let a = both_true (all_structs_whole p 0 p.structs) _ h in
    let b = both_true (list_all (well_method p) p.methods) _ a.1 in
    let c = both_true (nat_eq (length p.order) (length p.methods)) _ b.1 in
    let d = both_true (calls_in_front p [] p.order) (has_struct_order p) c.1 in
    structs_known p [] p.struct_order (both_true (nat_eq (length p.struct_order) (length p.structs)) (structs_in_front p [] p.struct_order) d.1).1
