-- The structs in fields are made ready field by field, and what is passed to a call.
use Rattle.std.proofs.Common.{◌≡◌, ◌∙◌, ap, sym, subst, ℕ, zero, suc, ◌+◌, ◌<◌, true, Result, Ok, Err, IfOk, None, Some, List, [], ◌∷◌, ◌++◌, drop, get_or, length, map, refl, arith, codes}
use Rattle.std.proofs.lemmas.Bool.Decides.{nat_tests}
use Rattle.std.proofs.lemmas.List.{length-map}
use Rattle.std.specs.Prelude.{nat_lt, slice_get}
use Rattle.wf_text.specs.declared.faults.NoMemory.{NoMemory}
use Rattle.wf_text.specs.declared.numbers.StructId.{StructId}
use Rattle.wf_ast.specs.declared.declarations.Struct.{Struct}
use Rattle.wf_ast.specs.declared.declarations.Var.{Var}
use Rattle.wf_ast.specs.declared.typed_nodes.TypedNodes.{TypedNodes}
use Rattle.wf_ast.specs.declared.types.Ty.{Ty}
use Rattle.wf_ast.specs.declared.types.Ty.TheVariants as types
use Rattle.wf_ast.specs.TypedPackage.{PackageTree, package_of, variable_of}
use Rattle.wf_ast.specs.TypedTrees.{text_of}
use Rattle.wf_ast.specs.WellTyped.{may_be_field}
use Rattle.wf_meaning.specs.SourceState.{fields_of}
use Rattle.c_text.specs.declared.ids.CExprId.{CExprId}
use Rattle.c_text.specs.declared.ids.CNameId.{CNameId}
use Rattle.c_text.specs.declared.kinds.CUnary.TheVariants.{Address}
use Rattle.c_text.specs.declared.nodes.CArg.{CArg}
use Rattle.c_text.specs.declared.nodes.CArg.TheVariants as arg
use Rattle.c_text.specs.declared.nodes.CLocal.{CLocal}
use Rattle.c_text.specs.declared.nodes.CParam.{CParam}
use Rattle.c_text.specs.CNodes.{Nodes, args_in, bytes_at, code_of, expr_of}
use Rattle.c_text.specs.CTree.{Args, Code, ExprTree, ParamTree, call, expr_arg, finish, leave, no_arg, sizeof_arg, unary}
use Rattle.wf_exprs.specs.Grown.{Grows, HasCode, HasExpr, HasNamed}
use Rattle.wf_exprs.specs.Names.{initialize_name}
use Rattle.wf_exprs.specs.Words.{args, num, of_self}
use Rattle.wf_exprs.proofs.Growing.{grows_on, kept_expr}
use Rattle.wf_lower.specs.Made.{HasArgTrees, HasLocalTrees, HasParamTree, HasParamTrees, ready_code}
use Rattle.wf_lower.specs.Unit.{initialize_code, initialize_part, initialize_parts}
use Rattle.wf_lower.proofs.Kept.{keeps, args_kept}
use Rattle.wf_lower.proofs.Known.{count_same, fields_are}
use Rattle.wf_lower.proofs.Walks.{to_suc}

dropped_map : (nodes : TypedNodes) (fs : List Var) (m : ℕ) (d : Var) → m < length fs → drop m (map (variable_of nodes) fs) ≡ variable_of nodes (get_or fs m d) ∷ drop (suc m) (map (variable_of nodes) fs)
dropped_map nodes [] m d h = absurd (omega (arith, h))
dropped_map nodes (x ∷ fs) zero d h = refl
dropped_map nodes (x ∷ fs) (suc m) d h = dropped_map nodes fs m d (omega (arith, h))

pub parts_step : (nodes : TypedNodes) (p : PackageTree) (rest code : Code) (fs : List Var) (left m : ℕ) (d : Var) → left ≡ m + 1 → m < length fs → code ≡ initialize_parts p (drop left (map (variable_of nodes) fs)) rest
    → initialize_part p (variable_of nodes (get_or fs m d)) code ≡ initialize_parts p (drop m (map (variable_of nodes) fs)) rest
parts_step nodes p rest code fs left m d e h is =
    ap (initialize_part p (variable_of nodes (get_or fs m d))) (is ∙ ap (λ n. initialize_parts p (drop n (map (variable_of nodes) fs)) rest) (e ∙ to_suc m))
    ∙ ap (λ xs. initialize_parts p xs rest) (sym (dropped_map nodes fs m d h))

pub parts_made : {a b : Nodes} (nodes : TypedNodes) (p : PackageTree) (rest : Code) (fs : List Var) (left m : ℕ) (d : Var) (s t : ℕ) → left ≡ m + 1 → m < length fs → HasCode a s (initialize_parts p (drop left (map (variable_of nodes) fs)) rest)
    → HasCode b t (initialize_part p (variable_of nodes (get_or fs m d)) (code_of a s)) → HasCode b t (initialize_parts p (drop m (map (variable_of nodes) fs)) rest)
parts_made {a} nodes p rest fs left m d s t e h before after = record { there = after.there; is = after.is ∙ parts_step nodes p rest (code_of a s) fs left m d e h before.is }

dropped_all : {X : Type 0} (xs : List X) (n : ℕ) → n ≡ length xs → drop n xs ≡ []
dropped_all [] zero h = refl
dropped_all [] (suc n) h = refl
dropped_all (x ∷ xs) zero h = absurd (omega (arith, h))
dropped_all (x ∷ xs) (suc n) h = dropped_all xs n (omega (arith, h))

pub parts_start : (a : Nodes) (nodes : TypedNodes) (p : PackageTree) (fs : List Var) (rest : ℕ) → rest < length a.stmts → HasCode a rest (initialize_parts p (drop (length fs) (map (variable_of nodes) fs)) (code_of a rest))
parts_start a nodes p fs rest h =
    record { there = h; is = ap (λ xs. initialize_parts p xs (code_of a rest)) (sym (dropped_all (map (variable_of nodes) fs) (length fs) (sym (length-map fs (variable_of nodes))))) }

-- A call with a name and arguments that were made before it.
pub call_same : {a b c : Nodes} (function : CNameId) (name : List ℕ) (xs : List CArg) (trees : Args) (rest : ℕ) → Grows a b → Grows b c → HasArgTrees b xs trees → HasNamed c function.0 name → rest < length a.stmts
    → call None (bytes_at c.names function.0) (args_in c.names (expr_of c) xs) (code_of c rest) ≡ call None name trees (code_of a rest)
call_same {a} {b} {c} function name xs trees rest g h args named there =
    ap (λ n. call None n (args_in c.names (expr_of c) xs) (code_of c rest)) named.is
    ∙ ap (λ x. call None name x (code_of c rest)) (args_kept b c (keeps h) args).are
    ∙ ap (call None name trees) (h.stmts rest (g.more_stmts rest there) ∙ g.stmts rest there)

-- Arguments that are passed, from the expressions that were made for them.
pub one_arg : (nodes : Nodes) (xs : List CArg) (e : CExprId) (tree : ExprTree) → xs ≡ arg.Expr e ∷ [] → HasExpr nodes e.0 tree → HasArgTrees nodes xs (args (tree ∷ []))
one_arg nodes xs e tree is h =
    let P : List CArg → Type 0 = λ l. HasArgTrees nodes l (args (tree ∷ [])) in
    subst P (sym is) (record { there = (h.there, tt); are = ap (λ t. expr_arg t no_arg) h.is })

pub cleared_args : (a b d : Nodes) (xs : List CArg) (e z : CExprId) (n : CNameId) (x y : ExprTree) (name : List ℕ) → Grows a b → Grows b d → HasExpr a e.0 x → HasExpr b z.0 y → HasNamed d n.0 name
    → xs ≡ arg.Expr e ∷ arg.Expr z ∷ arg.SizeOf n ∷ [] → HasArgTrees d xs (expr_arg x (expr_arg y (sizeof_arg name no_arg)))
cleared_args a b d xs e z n x y name g h first second third is =
    let P : List CArg → Type 0 = λ l. HasArgTrees d l (expr_arg x (expr_arg y (sizeof_arg name no_arg))) in
    let one = kept_expr e.0 x (grows_on g h) first in
    let two = kept_expr z.0 y h second in
    subst P (sym is) (record {
      there = (one.there, (two.there, (third.there, tt)));
      are =
          ap (λ t. expr_arg t (expr_arg (expr_of d z.0) (sizeof_arg (bytes_at d.names n.0) no_arg))) one.is
          ∙ ap (λ t. expr_arg x (expr_arg t (sizeof_arg (bytes_at d.names n.0) no_arg))) two.is
          ∙ ap (λ l. expr_arg x (expr_arg y (sizeof_arg l no_arg))) third.is;
    })

pub cleared_answer : (a b d : Nodes) (e z : CExprId) (n : CNameId) (x y : ExprTree) (name : List ℕ) (r : Result (List CArg) NoMemory) → Grows a b → Grows b d → HasExpr a e.0 x → HasExpr b z.0 y → HasNamed d n.0 name
    → IfOk r (λ xs. xs ≡ arg.Expr e ∷ arg.Expr z ∷ arg.SizeOf n ∷ []) → IfOk r (λ xs. HasArgTrees d xs (expr_arg x (expr_arg y (sizeof_arg name no_arg))))
cleared_answer a b d e z n x y name (Ok xs) g h first second third is = cleared_args a b d xs e z n x y name g h first second third is
cleared_answer a b d e z n x y name (Err refused) g h first second third is = is

-- A struct in a field is one of the package's.
pub part_known : (nodes : TypedNodes) (ty : Ty) (s : StructId) → ty ≡ types.Part s → may_be_field (package_of nodes) ty ≡ true → s.0 < length nodes.structs
part_known nodes ty s is h =
    let k : nat_lt s.0 (length nodes.structs) ≡ true = ap (nat_lt s.0) (sym (count_same nodes)) ∙ ap (may_be_field (package_of nodes)) (sym is) ∙ h in
    grind (arith, nat_tests, k)

pub part_by : (p : PackageTree) (nodes : TypedNodes) (x : Var) (s : StructId) (name : List ℕ) (rest : Code) → x.ty ≡ types.Part s → text_of nodes x.name ≡ name
    → call None (initialize_name p s.0) (args (unary Address (of_self (codes "f_" ++ name)) ∷ [])) rest ≡ initialize_part p (variable_of nodes x) rest
part_by p nodes x s name rest is named =
    ap (λ n. call None (initialize_name p s.0) (args (unary Address (of_self (codes "f_" ++ n)) ∷ [])) rest) (sym named)
    ∙ ap (λ t. initialize_part p (record { name = text_of nodes x.name; ty = t }) rest) (sym is)

-- The whole code of an init.
pub init_same : (nodes : TypedNodes) (s : ℕ) (it : Struct) (fs : List Var) (x y : Code) → slice_get nodes.structs s ≡ Some it → fs ≡ it.fields
    → x ≡ initialize_parts (package_of nodes) (map (variable_of nodes) fs) y → y ≡ leave (Some (num 0)) finish → ready_code x ≡ initialize_code (package_of nodes) s
init_same nodes s it fs x y is same parts end =
    let p = package_of nodes in
    ap ready_code (parts ∙ ap (λ l. initialize_parts p (map (variable_of nodes) l) y) same ∙ ap (λ l. initialize_parts p l y) (sym (fields_are nodes s it is)) ∙ ap (initialize_parts p (fields_of p s)) end)

-- Lists of one parameter and of no locals.
pub only_param : (nodes : Nodes) (p : CParam) (tree : ParamTree) (r : Result (List CParam) NoMemory) → HasParamTree nodes p tree → IfOk r (λ ps. ps ≡ p ∷ []) → IfOk r (λ ps. HasParamTrees nodes ps (tree ∷ []))
only_param nodes p tree (Ok ps) h is =
    let P : List CParam → Type 0 = λ l. HasParamTrees nodes l (tree ∷ []) in
    subst P (sym is) (record { there = (h.there, tt); are = ap (λ t. t ∷ []) h.is })
only_param nodes p tree (Err refused) h is = is

pub without_locals : (nodes : Nodes) (ls : List CLocal) → ls ≡ [] → HasLocalTrees nodes ls []
without_locals nodes ls is = let P : List CLocal → Type 0 = λ l. HasLocalTrees nodes l [] in subst P (sym is) (record { there = tt; are = refl })
