-- What a call is passed, what it is named and what takes its answer, while the unit grows.
use Rattle.std.proofs.Common.{◌≡◌, ◌∙◌, ℕ, zero, suc, ◌<◌, ◌≤◌, ◌+◌, Bool, true, false, List, [], ◌∷◌, ◌++◌, length, map, take, Option, None, Some, Result, Ok, Err, IfOk, OnOk, get_or, if◌then◌else◌, refl, sym, ap, subst, arith, append_assoc}
use Rattle.std.specs.Prelude.{slice_get, unwrap_or, IfSome}
use Rattle.std.specs.List.{list_all}
use Rattle.std.proofs.lemmas.Bool.Decides.{nat_tests}
use Rattle.wf_text.specs.declared.faults.NoMemory.{NoMemory}
use Rattle.wf_text.specs.declared.numbers.MethodId.{MethodId}
use Rattle.wf_text.specs.declared.numbers.StructId.{StructId}
use Rattle.wf_ast.specs.declared.declarations.Method.{Method}
use Rattle.wf_ast.specs.declared.numbers.ExprId.{ExprId}
use Rattle.wf_ast.specs.declared.variables.FieldId.{FieldId}
use Rattle.wf_ast.specs.declared.typed_code.Block as typed_code
use Rattle.wf_ast.specs.declared.typed_nodes.TypedNodes.{TypedNodes}
use Rattle.wf_ast.specs.declared.types.Ty.{Ty}
use Rattle.wf_ast.specs.declared.types.Ty.TheVariants as types
use Rattle.wf_ast.specs.TypedInvariant.{IsTyped, is_expr, is_io, is_list, is_tree_of}
use Rattle.wf_ast.specs.TypedPackage.{MethodTree, package_of, method_of}
use Rattle.wf_ast.specs.TypedTree.{ValueTree, numeric, logical, state, elements, io, Called, Target}
use Rattle.wf_ast.specs.TypedTrees.{slice_in, io_in, tree_of, type_of_node}
use Rattle.wf_ast.specs.WellTyped.{number_of}
use Rattle.wf_ast.proofs.Accessors.{tree_kind}
use Rattle.wf_ast.proofs.Arena.{both_true}
use Rattle.wf_points.proofs.NumberLemmas.{declared_there}
use Rattle.c_text.specs.declared.ids.CExprId.{CExprId}
use Rattle.c_text.specs.declared.ids.CNameId.{CNameId}
use Rattle.c_text.specs.declared.nodes.CArg.{CArg}
use Rattle.c_text.specs.declared.nodes.CArg.TheVariants as arg
use Rattle.c_text.specs.CFits.{HasArgs, HasTarget}
use Rattle.c_text.specs.CGrammar.{is_lvalue}
use Rattle.c_text.specs.CNodes.{Nodes, args_in, bytes_at, code_of, expr_of, value_in}
use Rattle.c_text.specs.CTree.{ExprTree, Args, no_arg, expr_arg, sizeof_arg}
use Rattle.c_text.specs.CTree as c
use Rattle.wf_exprs.specs.Exprs.{io_code, lowered_slice}
use Rattle.wf_exprs.specs.Grown.{Grows, HasCode, HasExpr, HasNamed}
use Rattle.wf_exprs.specs.Names.{Names, body_name, entry_name}
use Rattle.wf_exprs.specs.Words.{args}
use Rattle.wf_exprs.proofs.Growing.{grows_on}
use Rattle.wf_exprs.proofs.Prefixes.{list_all-at}
use Rattle.wf_exprs_nodes.specs.Trees.{is_single, lowered_value}
use Rattle.wf_exprs_nodes.proofs.ValueLaws.{kind, seen_type}
use Rattle.wf_lower_stmts.specs.BodyNodes.{HasWords, body_name_of, entry_name_of, is_spelt_method}
use Rattle.wf_lower_stmts.specs.Forms.{Form, get, got_local, put, status_local}
use Rattle.wf_lower_stmts.specs.Statements.{answer_local, call_into, callee_name, hand_on, handed_call, is_passed, is_wanted, lower_call, put_result, value_codes, values_codes}
use Rattle.wf_lower_blocks.specs.declared.calling.Called.{Called as CalledNode}
use Rattle.wf_lower_blocks.specs.declared.calling.Called.TheVariants as calls
use Rattle.wf_lower_blocks.specs.declared.calling.Taker.{Taker}
use Rattle.wf_lower_blocks.specs.declared.calling.Taker.TheVariants as takers
use Rattle.wf_lower_blocks.specs.Calls.{HasGiven, HasValue, call_with, called_in, callee_in, is_called, is_part, no_method, taken_by}

-- Arguments stay while the unit grows.
args_there : (a b : Nodes) (xs : List CArg) → Grows a b → HasArgs a (length a.exprs) xs → HasArgs b (length b.exprs) xs
args_there a b [] g h = h
args_there a b (arg.Expr e ∷ xs) g h = (g.more_exprs e.0 h.0, args_there a b xs g h.1)
args_there a b (arg.SizeOf n ∷ xs) g h = (g.more_names n.0 h.0, args_there a b xs g h.1)

args_same : (a b : Nodes) (xs : List CArg) → Grows a b → HasArgs a (length a.exprs) xs → args_in b.names (expr_of b) xs ≡ args_in a.names (expr_of a) xs
args_same a b [] g h = refl
args_same a b (arg.Expr e ∷ xs) g h = ap (λ x. expr_arg x (args_in b.names (expr_of b) xs)) (g.exprs e.0 h.0) ∙ ap (expr_arg (expr_of a e.0)) (args_same a b xs g h.1)
args_same a b (arg.SizeOf n ∷ xs) g h = ap (λ x. sizeof_arg x (args_in b.names (expr_of b) xs)) (g.names n.0 h.0) ∙ ap (sizeof_arg (bytes_at a.names n.0)) (args_same a b xs g h.1)

pub given_kept : (a b : Nodes) (xs : List CArg) (trees : List ExprTree) → Grows a b → HasGiven a xs trees → HasGiven b xs trees
given_kept a b xs trees g h = record { fits = args_there a b xs g h.fits; is = args_same a b xs g h.fits ∙ h.is }

-- One more argument.
abbrev arg_on : Args → ExprTree → Args
arg_on no_arg x = expr_arg x no_arg
arg_on (expr_arg e others) x = expr_arg e (arg_on others x)
arg_on (sizeof_arg n others) x = sizeof_arg n (arg_on others x)

nodes_on : (names : List (List ℕ)) (look : ℕ → ExprTree) (xs : List CArg) (e : CExprId) → args_in names look (xs ++ arg.Expr e ∷ []) ≡ arg_on (args_in names look xs) (look e.0)
nodes_on names look [] e = refl
nodes_on names look (arg.Expr x ∷ xs) e = ap (expr_arg (look x.0)) (nodes_on names look xs e)
nodes_on names look (arg.SizeOf n ∷ xs) e = ap (sizeof_arg (bytes_at names n.0)) (nodes_on names look xs e)

trees_on : (trees : List ExprTree) (x : ExprTree) → args (trees ++ x ∷ []) ≡ arg_on (args trees) x
trees_on [] x = refl
trees_on (t ∷ trees) x = ap (expr_arg t) (trees_on trees x)

fits_on : (u : Nodes) (n : ℕ) (xs : List CArg) (e : CExprId) → HasArgs u n xs → e.0 < n → HasArgs u n (xs ++ arg.Expr e ∷ [])
fits_on u n [] e h k = (k, tt)
fits_on u n (x ∷ xs) e h k = (h.0, fits_on u n xs e h.1 k)

given_on : (u : Nodes) (xs : List CArg) (trees : List ExprTree) (e : CExprId) (x : ExprTree) → HasGiven u xs trees → HasExpr u e.0 x → HasGiven u (xs ++ arg.Expr e ∷ []) (trees ++ x ∷ [])
given_on u xs trees e x h k = record {
  fits = fits_on u (length u.exprs) xs e h.fits k.there;
  is = nodes_on u.names (expr_of u) xs e ∙ ap (λ y. arg_on y (expr_of u e.0)) h.is ∙ ap (arg_on (args trees)) k.is ∙ sym (trees_on trees x);
}

pub none_given : (u : Nodes) (xs : List CArg) → xs ≡ [] → HasGiven u xs []
none_given u xs h = let P : List CArg → Type 0 = λ l. HasGiven u l [] in subst P (sym h) (record { fits = tt; is = refl })

pub one_given : (a b : Nodes) (old new : List CArg) (e : CExprId) (x : ExprTree) → Grows a b → HasExpr b e.0 x → new ≡ old ++ arg.Expr e ∷ []
    → (trees : List ExprTree) → HasGiven a old trees → HasGiven b new (trees ++ x ∷ [])
one_given a b old new e x g h is trees k =
    let P : List CArg → Type 0 = λ l. HasGiven b l (trees ++ x ∷ []) in
    subst P (sym is) (given_on b old trees e x (given_kept a b old trees g k) h)

pub two_given : (a b : Nodes) (old mid new : List CArg) (d e : CExprId) (x y : ExprTree) → Grows a b → HasExpr b d.0 x → HasExpr b e.0 y
    → mid ≡ old ++ arg.Expr d ∷ [] → new ≡ mid ++ arg.Expr e ∷ [] → (trees : List ExprTree) → HasGiven a old trees → HasGiven b new (trees ++ (x ∷ y ∷ []))
two_given a b old mid new d e x y g h j is more trees k =
    let P : List CArg → Type 0 = λ l. HasGiven b l ((trees ++ x ∷ []) ++ y ∷ []) in
    let Q : List ExprTree → Type 0 = λ l. HasGiven b new l in
    subst Q (append_assoc trees (x ∷ []) (y ∷ [])) (subst P (sym more) (given_on b mid (trees ++ x ∷ []) e y (one_given a b old mid d x g h is trees k) j))

-- What a push leaves.
abbrev pub Passes : (a b : Nodes) (old new : List CArg) (more : List ExprTree) → Type 0
Passes a b old new more = (trees : List ExprTree) → HasGiven a old trees → HasGiven b new (trees ++ more)

pub pushed : (a b : Nodes) (old new : List CArg) (e : CExprId) (x : ExprTree) (r : Result (Unit {0}) NoMemory) → Grows a b → HasExpr b e.0 x
    → OnOk r (new ≡ old ++ arg.Expr e ∷ []) → OnOk r (Passes a b old new (x ∷ []))
pushed a b old new e x (Ok done) g h is = one_given a b old new e x g h is
pushed a b old new e x (Err refused) g h is = is

pub pushed_two : (a b : Nodes) (old mid new : List CArg) (d e : CExprId) (x y : ExprTree) (r : Result (Unit {0}) NoMemory) → Grows a b → HasExpr b d.0 x → HasExpr b e.0 y
    → mid ≡ old ++ arg.Expr d ∷ [] → OnOk r (new ≡ mid ++ arg.Expr e ∷ []) → OnOk r (Passes a b old new (x ∷ y ∷ []))
pushed_two a b old mid new d e x y (Ok done) g h j is more = two_given a b old mid new d e x y g h j is more
pushed_two a b old mid new d e x y (Err refused) g h j is more = more

-- The same pushes, told by another list.
pub passes_as : (a b : Nodes) (old new : List CArg) (more other : List ExprTree) (r : Result (Unit {0}) NoMemory) → more ≡ other → OnOk r (Passes a b old new more) → OnOk r (Passes a b old new other)
passes_as a b old new more other r same h = let P : List ExprTree → Type 0 = λ l. OnOk r (Passes a b old new l) in subst P same h

-- Trees of the kinds of their types, and the values that they are passed as.
pub no_part : (nodes : TypedNodes) → IsTyped nodes → (e : ExprId) → is_expr nodes e ≡ true → is_part (type_of_node nodes e.0) ≡ false
no_part nodes typed e h = by (type_of_node nodes e.0) (tree_of nodes e) (tree_kind nodes typed e (grind (arith, nat_tests, h)))
  where
    by : (ty : Ty) (t : ValueTree) → is_tree_of ty t ≡ true → is_part ty ≡ false
    by (types.Num width lo hi) t k = refl
    by types.Flag t k = refl
    by types.Status t k = refl
    by types.Reader t k = refl
    by types.Writer t k = refl
    by (types.Slice width) t k = refl
    by (types.Array width lo hi count) t k = refl
    by (types.Part s) t k = absurd (cc k)

pub part_absurd : (t nodes : TypedNodes) (e : ExprId) (ty : Ty) (s : StructId) → t ≡ nodes → ty ≡ type_of_node t e.0 → ty ≡ types.Part s → IsTyped nodes → is_expr nodes e ≡ true → ⊥
part_absurd t nodes e ty s same asked is typed there = let h = no_part nodes typed e there in let k = ap is_part (seen_type t nodes e.0 ty (types.Part s) same asked is) in cc (h, k)

module _ (nodes : TypedNodes) (typed : IsTyped nodes) (e : ExprId) (there : is_expr nodes e ≡ true) where
  pub slice_is : is_list (type_of_node nodes e.0) ≡ true → tree_of nodes e ≡ elements (slice_in (tree_of nodes e))
  slice_is h = by (type_of_node nodes e.0) (tree_of nodes e) (kind nodes typed e there) h
    where
      by : (ty : Ty) (t : ValueTree) → is_tree_of ty t ≡ true → is_list ty ≡ true → t ≡ elements (slice_in t)
      by (types.Slice width) (elements t) h k = refl
      by (types.Slice width) t h k = absurd (cc h)
      by (types.Array width lo hi count) (elements t) h k = refl
      by (types.Array width lo hi count) t h k = absurd (cc h)
      by ty t h k = absurd (cc k)

  -- A reader or a writer, by what it is passed as.
  pub buffer_is : (names : Names) → is_io (type_of_node nodes e.0) ≡ true → io_code names (io_in (tree_of nodes e)) ∷ [] ≡ value_codes names (tree_of nodes e)
  buffer_is names h = by (type_of_node nodes e.0) (tree_of nodes e) (kind nodes typed e there) h
    where
      by : (ty : Ty) (t : ValueTree) → is_tree_of ty t ≡ true → is_io ty ≡ true → io_code names (io_in t) ∷ [] ≡ value_codes names t
      by types.Reader (io at n) h k = refl
      by types.Reader t h k = absurd (cc h)
      by types.Writer (io at n) h k = refl
      by types.Writer t h k = absurd (cc h)
      by ty t h k = absurd (cc k)

  -- A number, a truth value or a status, by what it is passed as.
  pub single_codes : (names : Names) → is_single (type_of_node nodes e.0) ≡ true → lowered_value names (tree_of nodes e) ∷ [] ≡ value_codes names (tree_of nodes e)
  single_codes names h = by (type_of_node nodes e.0) (tree_of nodes e) (kind nodes typed e there) h
    where
      by : (ty : Ty) (t : ValueTree) → is_tree_of ty t ≡ true → is_single ty ≡ true → lowered_value names t ∷ [] ≡ value_codes names t
      by (types.Num width lo hi) (numeric t) h k = refl
      by (types.Num width lo hi) t h k = absurd (cc h)
      by types.Flag (logical t) h k = refl
      by types.Flag t h k = absurd (cc h)
      by types.Status (state t) h k = refl
      by types.Status t h k = absurd (cc h)
      by ty t h k = absurd (cc k)

  pub slice_codes : (names : Names) → is_list (type_of_node nodes e.0) ≡ true
      → (lowered_slice names (slice_in (tree_of nodes e))).pointer ∷ (lowered_slice names (slice_in (tree_of nodes e))).length.code ∷ [] ≡ value_codes names (tree_of nodes e)
  slice_codes names h = sym (ap (value_codes names) (slice_is h))

-- The values so far, and one more.
append_nil : {A : Type 0} (xs : List A) → xs ++ [] ≡ xs
append_nil [] = refl
append_nil (x ∷ xs) = ap (λ l. x ∷ l) (append_nil xs)

values_next : (names : Names) (nodes : TypedNodes) (es : List ExprId) (i : ℕ) (d : ExprId) → i < length es
    → values_codes names (map (tree_of nodes) (take (suc i) es)) ≡ values_codes names (map (tree_of nodes) (take i es)) ++ value_codes names (tree_of nodes (get_or es i d))
values_next names nodes [] i d h = absurd (omega (arith, h))
values_next names nodes (e ∷ es) zero d h = append_nil (value_codes names (tree_of nodes e))
values_next names nodes (e ∷ es) (suc i) d h =
    ap (λ l. value_codes names (tree_of nodes e) ++ l) (values_next names nodes es i d (omega (arith, h)))
    ∙ sym (append_assoc (value_codes names (tree_of nodes e)) (values_codes names (map (tree_of nodes) (take i es))) (value_codes names (tree_of nodes (get_or es i d))))

pub values_on : (names : Names) (nodes : TypedNodes) (es : List ExprId) (i : ℕ) (d : ExprId) → i < length es
    → values_codes names (map (tree_of nodes) (take (i + 1) es)) ≡ values_codes names (map (tree_of nodes) (take i es)) ++ value_codes names (tree_of nodes (get_or es i d))
values_on names nodes es i d h = let one : i + 1 ≡ suc i = omega arith in ap (λ n. values_codes names (map (tree_of nodes) (take n es))) one ∙ values_next names nodes es i d h

pub passed_on : (names : Names) (nodes : TypedNodes) (u : Nodes) (xs : List CArg) (r : ExprTree) (es : List ExprId) (i : ℕ) (d : ExprId) → i < length es
    → HasGiven u xs (r ∷ (values_codes names (map (tree_of nodes) (take i es)) ++ value_codes names (tree_of nodes (get_or es i d)))) → HasGiven u xs (r ∷ values_codes names (map (tree_of nodes) (take (i + 1) es)))
passed_on names nodes u xs r es i d l h = let P : List ExprTree → Type 0 = λ ts. HasGiven u xs (r ∷ ts) in subst P (sym (values_on names nodes es i d l)) h

take_past : {A : Type 0} (xs : List A) (i : ℕ) → length xs ≤ i → take i xs ≡ xs
take_past [] zero h = refl
take_past [] (suc i) h = refl
take_past (x ∷ xs) zero h = absurd (omega (arith, h))
take_past (x ∷ xs) (suc i) h = ap (λ l. x ∷ l) (take_past xs i (omega (arith, h)))

pub passed_all : (names : Names) (nodes : TypedNodes) (u : Nodes) (xs : List CArg) (r : ExprTree) (es : List ExprId) (i : ℕ) → length es ≤ i
    → HasGiven u xs (r ∷ values_codes names (map (tree_of nodes) (take i es))) → HasGiven u xs (r ∷ values_codes names (map (tree_of nodes) es))
passed_all names nodes u xs r es i l h = let P : List ExprId → Type 0 = λ l. HasGiven u xs (r ∷ values_codes names (map (tree_of nodes) l)) in subst P (take_past es i l) h

pub item_true : {A : Type 0} (test : A → Bool) (es : List A) (i : ℕ) (d : A) → list_all test es ≡ true → i < length es → test (get_or es i d) ≡ true
item_true test [] i d h l = absurd (omega (arith, l))
item_true test (e ∷ es) zero d h l = (both_true (test e) (list_all test es) h).0
item_true test (e ∷ es) (suc i) d h l = item_true test es i d (both_true (test e) (list_all test es) h).1 (omega (arith, l))

-- The method that is called, and its name.
pub spelt_there : (nodes : TypedNodes) → HasWords nodes → (n : ℕ) (m : Method) → slice_get nodes.methods n ≡ Some m → is_spelt_method nodes m ≡ true
spelt_there nodes words n m is = list_all-at (is_spelt_method nodes) nodes.methods n m words.method_words is

pub callee_is : (nodes : TypedNodes) → IsTyped nodes → (called : CalledNode) (m : Method) → slice_get nodes.methods (number_of (called_in called)) ≡ Some m
    → (b : typed_code.Block) × (callee_in nodes called ≡ method_of nodes m b)
callee_is nodes typed called m is = let b = declared_there nodes typed (number_of (called_in called)) m is in (b.0, ap (λ o. unwrap_or o no_method) b.1)

pub callee_named : (nodes : TypedNodes) → IsTyped nodes → (called : CalledNode) (m : Method) → slice_get nodes.methods (number_of (called_in called)) ≡ Some m
    → (body_name (package_of nodes) (callee_in nodes called) ≡ body_name_of nodes m) × (entry_name (package_of nodes) (callee_in nodes called) ≡ entry_name_of nodes m)
callee_named nodes typed called m is =
    let b = callee_is nodes typed called m is in
    (ap (body_name (package_of nodes)) b.1, ap (entry_name (package_of nodes)) b.1)

pub renamed : (u : Nodes) (name other : List ℕ) (r : Result CNameId NoMemory) → name ≡ other → IfOk r (λ n. HasNamed u n.0 name) → IfOk r (λ n. HasNamed u n.0 other)
renamed u name other (Ok n) same h = record { there = h.there; is = h.is ∙ same }
renamed u name other (Err refused) same h = h

-- What takes the answer.
pub taker_kept : (a b : Nodes) (into : Option CExprId) → Grows a b → IfSome into (HasTarget a (length a.exprs)) → IfSome into (HasTarget b (length b.exprs))
taker_kept a b None g h = h
taker_kept a b (Some e) g h = (g.more_exprs e.0 h.0, ap is_lvalue (g.exprs e.0 h.0) ∙ h.1)

pub value_same : (a b : Nodes) (e : Option CExprId) → Grows a b → IfSome e (λ i. i.0 < length a.exprs) → value_in (expr_of b) e ≡ value_in (expr_of a) e
value_same a b None g h = refl
value_same a b (Some e) g h = ap Some (g.exprs e.0 h)

pub target_there : (u : Nodes) (into : Option CExprId) → IfSome into (HasTarget u (length u.exprs)) → IfSome into (λ i. i.0 < length u.exprs)
target_there u None h = h
target_there u (Some e) h = h.0

pub value_kept : (a b : Nodes) (e : Option CExprId) (tree : Option ExprTree) → Grows a b → HasValue a e tree → HasValue b e tree
value_kept a b None tree g h = record { there = h.there; is = h.is }
value_kept a b (Some e) tree g h = record { there = g.more_exprs e.0 h.there; is = ap Some (g.exprs e.0 h.there) ∙ h.is }

pub taker_is_target : (u : Nodes) (e : Option CExprId) (taker : Taker) → HasValue u e (taken_by taker) → IfSome e (HasTarget u (length u.exprs))
taker_is_target u None taker h = tt
taker_is_target u (Some e) takers.Status h = let is = h.is in let local : expr_of u e.0 ≡ status_local = cc is in (h.there, ap is_lvalue local)
taker_is_target u (Some e) takers.Got h = let is = h.is in let local : expr_of u e.0 ≡ got_local = cc is in (h.there, ap is_lvalue local)
taker_is_target u (Some e) takers.Nothing h = let is = h.is in absurd (cc is)

kept_value : (wanted : Bool) (look : ℕ → ExprTree) (answer : Option CExprId) (local : Option ExprTree) → value_in look answer ≡ local
    → value_in look (if wanted then answer else None) ≡ (if wanted then local else None)
kept_value true look answer local h = h
kept_value false look answer local h = refl

pub kept_target : (u : Nodes) (wanted : Bool) (kept answer : Option CExprId) → kept ≡ (if wanted then answer else None) → IfSome answer (HasTarget u (length u.exprs)) → IfSome kept (HasTarget u (length u.exprs))
kept_target u wanted kept answer same h = let P : Option CExprId → Type 0 = λ x. IfSome x (HasTarget u (length u.exprs)) in subst P (sym same) (by wanted)
  where
    by : (w : Bool) → IfSome (if w then answer else None) (HasTarget u (length u.exprs))
    by true = h
    by false = tt

-- What is called is there, and what it gives.
pub called_known : (nodes : TypedNodes) (called : CalledNode) → is_called nodes called ≡ true → number_of (called_in called) < length nodes.methods
called_known nodes called h = grind (arith, nat_tests, h)

pub taker_for : (nodes : TypedNodes) → IsTyped nodes → (called : CalledNode) (m : Method) → slice_get nodes.methods (number_of (called_in called)) ≡ Some m → (taker : Taker)
    → taken_by taker ≡ answer_local m.mark m.gives → taken_by taker ≡ answer_local (callee_in nodes called).mark (callee_in nodes called).gives
taker_for nodes typed called m is taker h = h ∙ sym (ap (λ (x : MethodTree). answer_local x.mark x.gives) (callee_is nodes typed called m is).1)

-- A call, in the terms of the unit before its arguments and its name were put in.
pub call_same : (a b d : Nodes) (into : Option CExprId) (function : ℕ) (name : List ℕ) (xs : List CArg) (trees : List ExprTree) (rest : ℕ) → Grows a b → Grows b d
    → IfSome into (HasTarget a (length a.exprs)) → HasNamed d function name → HasGiven b xs trees → rest < length a.stmts
    → c.call (value_in (expr_of d) into) (bytes_at d.names function) (args_in d.names (expr_of d) xs) (code_of d rest) ≡ c.call (value_in (expr_of a) into) name (args trees) (code_of a rest)
call_same a b d into function name xs trees rest g h target named given low =
    ap (λ x. c.call x (bytes_at d.names function) (args_in d.names (expr_of d) xs) (code_of d rest)) (value_same a d into (grows_on g h) (target_there a into target))
    ∙ ap (λ x. c.call (value_in (expr_of a) into) x (args_in d.names (expr_of d) xs) (code_of d rest)) named.is
    ∙ ap (λ x. c.call (value_in (expr_of a) into) name x (code_of d rest)) (given_kept b d xs trees h given).is
    ∙ ap (λ x. c.call (value_in (expr_of a) into) name (args trees) x) ((grows_on g h).stmts rest low)

-- A call between which places of buffers go back to them.
module _ (f : Form) (called : Called) (callee : MethodTree) (values : List ValueTree) where
  pub into_same : (a b d : Nodes) (into : Option CExprId) (rest after it : ℕ) → Grows a b → IfSome into (HasTarget a (length a.exprs))
      → code_of b after ≡ get f.names (is_passed values) 0 f.method.args (code_of a rest) → code_of d it ≡ call_with f (value_in (expr_of b) into) called callee values (code_of b after)
      → put f.names (is_passed values) 0 f.method.args (code_of d it) ≡ call_into f (value_in (expr_of a) into) called callee values (code_of a rest)
  into_same a b d into rest after it g target behind call =
      ap (put f.names (is_passed values) 0 f.method.args)
      (call ∙ ap (λ x. call_with f x called callee values (code_of b after)) (value_same a b into g (target_there a into target)) ∙ ap (call_with f (value_in (expr_of a) into) called callee values) behind)

  pub handed_same : (a b d : Nodes) (k status rest after : ℕ) → Grows b d → HasCode b after (hand_on f k (code_of a rest)) → HasExpr d status status_local
      → call_into f (Some (expr_of d status)) called callee values (code_of d after) ≡ handed_call f k called (Some callee) values (code_of a rest)
  handed_same a b d k status rest after g code local =
      ap (λ x. call_into f (Some x) called callee values (code_of d after)) local.is
      ∙ ap (call_into f (Some status_local) called callee values) (g.stmts after code.there ∙ code.is)

  pub plain_same : (target : Target) (a b d : Nodes) (answer kept : Option CExprId) (local : Option ExprTree) (rest after : ℕ) → Grows a b → Grows b d → rest < length a.stmts → HasValue b answer local
      → local ≡ answer_local callee.mark callee.gives → kept ≡ (if is_wanted target then answer else None)
      → code_of d after ≡ put_result f.names target (value_in (expr_of b) answer) (code_of b rest)
      → call_into f (value_in (expr_of d) kept) called callee values (code_of d after) ≡ lower_call f target called callee values (code_of a rest)
  plain_same target a b d answer kept local rest after g h low value same kept_is code =
      let there = value.is ∙ same in
      ap (λ x. call_into f (value_in (expr_of d) x) called callee values (code_of d after)) kept_is
      ∙ ap (λ x. call_into f x called callee values (code_of d after)) (kept_value (is_wanted target) (expr_of d) answer _ (value_same b d answer h value.there ∙ there))
      ∙ ap (call_into f (if is_wanted target then answer_local callee.mark callee.gives else None) called callee values)
      (code ∙ ap (λ x. put_result f.names target x (code_of b rest)) there ∙ ap (put_result f.names target (answer_local callee.mark callee.gives)) (g.stmts rest low))

-- The same of what accessors lend.
pub called_here : (t nodes : TypedNodes) → t ≡ nodes → (called : CalledNode) (n : ℕ) → n ≡ number_of (called_in called) → is_called nodes called ≡ true → n < length t.methods
called_here t nodes same called n is h = let k = called_known nodes called h in let l = ap (λ (x : TypedNodes). length x.methods) same in omega (arith, is, k, l)

pub spelt_seen : (t other nodes : TypedNodes) → t ≡ nodes → other ≡ nodes → HasWords nodes → (n : ℕ) (m : Method) → slice_get t.methods n ≡ Some m → is_spelt_method other m ≡ true
spelt_seen t other nodes same again words n m is =
    let P : TypedNodes → Type 0 = λ x. slice_get x.methods n ≡ Some m in
    ap (λ x. is_spelt_method x m) again ∙ spelt_there nodes words n m (subst P same is)

method_seen : (t nodes : TypedNodes) → t ≡ nodes → (called : CalledNode) (n : ℕ) (m : Method) → n ≡ number_of (called_in called) → slice_get t.methods n ≡ Some m → slice_get nodes.methods (number_of (called_in called)) ≡ Some m
method_seen t nodes same called n m is h = ap (λ (x : TypedNodes). slice_get x.methods (number_of (called_in called))) (sym same) ∙ ap (slice_get t.methods) (sym is) ∙ h

pub taken_local : (t nodes : TypedNodes) → t ≡ nodes → IsTyped nodes → (called : CalledNode) (n : ℕ) (m : Method) → n ≡ number_of (called_in called) → slice_get t.methods n ≡ Some m → (taker : Taker)
    → taken_by taker ≡ answer_local m.mark m.gives → taken_by taker ≡ answer_local (callee_in nodes called).mark (callee_in nodes called).gives
taken_local t nodes same typed called n m is h taker k = taker_for nodes typed called m (method_seen t nodes same called n m is h) taker k

module _ (t other nodes : TypedNodes) (same : t ≡ nodes) (again : other ≡ nodes) (typed : IsTyped nodes) (called : CalledNode) (n : ℕ) (m : Method) (is : n ≡ number_of (called_in called)) (h : slice_get t.methods n ≡ Some m) where
  pub body_named : body_name_of other m ≡ body_name (package_of nodes) (callee_in nodes called)
  body_named = ap (λ x. body_name_of x m) again ∙ sym (callee_named nodes typed called m (method_seen t nodes same called n m is h)).0

  pub entry_named : entry_name_of other m ≡ entry_name (package_of nodes) (callee_in nodes called)
  entry_named = ap (λ x. entry_name_of x m) again ∙ sym (callee_named nodes typed called m (method_seen t nodes same called n m is h)).1

  pub own_named : (o : MethodId) → called ≡ calls.Own o → body_name_of other m ≡ callee_name (package_of nodes) (called_in called) (callee_in nodes called)
  own_named o own = body_named ∙ ap (λ x. callee_name (package_of nodes) (called_in x) (callee_in nodes called)) (sym own)

  pub sub_named : (x : FieldId) (o : MethodId) → called ≡ calls.Sub x o → entry_name_of other m ≡ callee_name (package_of nodes) (called_in called) (callee_in nodes called)
  sub_named x o inside = entry_named ∙ ap (λ y. callee_name (package_of nodes) (called_in y) (callee_in nodes called)) (sym inside)
