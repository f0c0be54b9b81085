-- Calls of the library's functions with another number of arguments.
use Rattle.std.proofs.Common.{◌≡◌, ℕ, suc, Bool, true, false, List, [], ◌∷◌, length, find, Option, Some, None, refl, sym, ◌∙◌, ap, nat_eq}
use Rattle.std.specs.Str.{bytes_eq}
use Rattle.c_text.specs.declared.kinds.CNumber.TheVariants as literal
use Rattle.c_text.specs.declared.nodes.CArg.{CArg}
use Rattle.c_text.specs.declared.nodes.CArg.TheVariants as arg
use Rattle.c_text.specs.CTree.{ExprTree, number, variable, member, element, pointed, operation, unary, cast, choice, called, Args, no_arg, expr_arg, sizeof_arg}
use Rattle.c_text.specs.CNodes.{Nodes, bytes_at, expr_of, args_in}
use Rattle.c_meaning.specs.CTypes.{CScope, ExprType, numbers, points_to, zero_literal, cell, object, byte, arg_types}
use Rattle.c_meaning.specs.UnitForm.{is_moved, is_set, is_object_pointer}
use Rattle.c_form_stmts.specs.Statements.{name_in, is_zero_literal}

moved_one : (t : Option ExprType) → is_moved (t ∷ []) ≡ false
moved_one None = refl
moved_one (Some (numbers c1)) = refl
moved_one (Some zero_literal) = refl
moved_one (Some (points_to (object n1))) = refl
moved_one (Some (points_to byte)) = refl
moved_one (Some (points_to (cell t1))) = refl

moved_two : (t u : Option ExprType) → is_moved (t ∷ u ∷ []) ≡ false
moved_two None u = refl
moved_two (Some (numbers c1)) u = refl
moved_two (Some zero_literal) u = refl
moved_two (Some (points_to (object n1))) u = refl
moved_two (Some (points_to byte)) u = refl
moved_two (Some (points_to (cell t1))) None = refl
moved_two (Some (points_to (cell t1))) (Some (numbers c2)) = refl
moved_two (Some (points_to (cell t1))) (Some zero_literal) = refl
moved_two (Some (points_to (cell t1))) (Some (points_to (object n2))) = refl
moved_two (Some (points_to (cell t1))) (Some (points_to byte)) = refl
moved_two (Some (points_to (cell t1))) (Some (points_to (cell t2))) = refl

moved_more : (t u v w : Option ExprType) (ts : List (Option ExprType)) → is_moved (t ∷ u ∷ v ∷ w ∷ ts) ≡ false
moved_more None u v w ts = refl
moved_more (Some (numbers c1)) u v w ts = refl
moved_more (Some zero_literal) u v w ts = refl
moved_more (Some (points_to (object n1))) u v w ts = refl
moved_more (Some (points_to byte)) u v w ts = refl
moved_more (Some (points_to (cell t1))) None v w ts = refl
moved_more (Some (points_to (cell t1))) (Some (numbers c2)) v w ts = refl
moved_more (Some (points_to (cell t1))) (Some zero_literal) v w ts = refl
moved_more (Some (points_to (cell t1))) (Some (points_to (object n2))) v w ts = refl
moved_more (Some (points_to (cell t1))) (Some (points_to byte)) v w ts = refl
moved_more (Some (points_to (cell t1))) (Some (points_to (cell t2))) v w ts = refl

moved_apart : (ts : List (Option ExprType)) → (length ts ≡ 3 → ⊥) → is_moved ts ≡ false
moved_apart [] apart = refl
moved_apart (t ∷ []) apart = moved_one t
moved_apart (t ∷ u ∷ []) apart = moved_two t u
moved_apart (t ∷ u ∷ v ∷ []) apart = absurd (apart refl)
moved_apart (t ∷ u ∷ v ∷ w ∷ ts) apart = moved_more t u v w ts

args_length : (nodes : Nodes) (scope : CScope) (given : List CArg) → length (arg_types scope (args_in nodes.names (expr_of nodes) given)) ≡ length given
args_length nodes scope [] = refl
args_length nodes scope (arg.Expr e ∷ given) = ap suc (args_length nodes scope given)
args_length nodes scope (arg.SizeOf n ∷ given) = ap suc (args_length nodes scope given)

pub moved_other : (nodes : Nodes) (scope : CScope) (given : List CArg) → (length given ≡ 3 → ⊥) → false ≡ is_moved (arg_types scope (args_in nodes.names (expr_of nodes) given))
moved_other nodes scope given apart = sym (moved_apart (arg_types scope (args_in nodes.names (expr_of nodes) given)) (λ same. apart (sym (args_length nodes scope given) ∙ same)))

set_one : (scope : CScope) (x : ExprTree) → is_set scope (expr_arg x no_arg) ≡ false
set_one scope (number n1) = refl
set_one scope (variable n1) = refl
set_one scope (member a1 n1) = refl
set_one scope (element a1 b1) = refl
set_one scope (pointed a1) = refl
set_one scope (operation o1 a1 b1 es1) = refl
set_one scope (unary o1 a1) = refl
set_one scope (cast t1 a1) = refl
set_one scope (choice a1 b1 d1) = refl
set_one scope (called n1 as_1) = refl

set_two : (scope : CScope) (x y : ExprTree) → is_set scope (expr_arg x (expr_arg y no_arg)) ≡ false
set_two scope (number n1) y = refl
set_two scope (variable n1) (number (literal.Int z)) = refl
set_two scope (variable n1) (number (literal.Unsigned z)) = refl
set_two scope (variable n1) (number (literal.Long z)) = refl
set_two scope (variable n1) (variable n2) = refl
set_two scope (variable n1) (member a2 n2) = refl
set_two scope (variable n1) (element a2 b2) = refl
set_two scope (variable n1) (pointed a2) = refl
set_two scope (variable n1) (operation o2 a2 b2 es2) = refl
set_two scope (variable n1) (unary o2 a2) = refl
set_two scope (variable n1) (cast t2 a2) = refl
set_two scope (variable n1) (choice a2 b2 d2) = refl
set_two scope (variable n1) (called n2 as_2) = refl
set_two scope (member a1 n1) y = refl
set_two scope (element a1 b1) y = refl
set_two scope (pointed a1) y = refl
set_two scope (operation o1 a1 b1 es1) y = refl
set_two scope (unary o1 a1) y = refl
set_two scope (cast t1 a1) y = refl
set_two scope (choice a1 b1 d1) y = refl
set_two scope (called n1 as_1) y = refl

set_more : (scope : CScope) (x y : ExprTree) (same : List ℕ) (more : Args) → (more ≡ no_arg → ⊥) → is_set scope (expr_arg x (expr_arg y (sizeof_arg same more))) ≡ false
set_more scope (number n1) y same more apart = refl
set_more scope (variable n1) (number (literal.Int z)) same no_arg apart = absurd (apart refl)
set_more scope (variable n1) (number (literal.Int z)) same (expr_arg w others) apart = refl
set_more scope (variable n1) (number (literal.Int z)) same (sizeof_arg w others) apart = refl
set_more scope (variable n1) (number (literal.Unsigned z)) same more apart = refl
set_more scope (variable n1) (number (literal.Long z)) same more apart = refl
set_more scope (variable n1) (variable n2) same more apart = refl
set_more scope (variable n1) (member a2 n2) same more apart = refl
set_more scope (variable n1) (element a2 b2) same more apart = refl
set_more scope (variable n1) (pointed a2) same more apart = refl
set_more scope (variable n1) (operation o2 a2 b2 es2) same more apart = refl
set_more scope (variable n1) (unary o2 a2) same more apart = refl
set_more scope (variable n1) (cast t2 a2) same more apart = refl
set_more scope (variable n1) (choice a2 b2 d2) same more apart = refl
set_more scope (variable n1) (called n2 as_2) same more apart = refl
set_more scope (member a1 n1) y same more apart = refl
set_more scope (element a1 b1) y same more apart = refl
set_more scope (pointed a1) y same more apart = refl
set_more scope (operation o1 a1 b1 es1) y same more apart = refl
set_more scope (unary o1 a1) y same more apart = refl
set_more scope (cast t1 a1) y same more apart = refl
set_more scope (choice a1 b1 d1) y same more apart = refl
set_more scope (called n1 as_1) y same more apart = refl

set_size : (scope : CScope) (x : ExprTree) (same : List ℕ) (more : Args) → is_set scope (expr_arg x (sizeof_arg same more)) ≡ false
set_size scope (number n1) same more = refl
set_size scope (variable n1) same more = refl
set_size scope (member a1 n1) same more = refl
set_size scope (element a1 b1) same more = refl
set_size scope (pointed a1) same more = refl
set_size scope (operation o1 a1 b1 es1) same more = refl
set_size scope (unary o1 a1) same more = refl
set_size scope (cast t1 a1) same more = refl
set_size scope (choice a1 b1 d1) same more = refl
set_size scope (called n1 as_1) same more = refl

set_expr : (scope : CScope) (x y w : ExprTree) (more : Args) → is_set scope (expr_arg x (expr_arg y (expr_arg w more))) ≡ false
set_expr scope (number n1) y w more = refl
set_expr scope (variable n1) (number (literal.Int z)) w more = refl
set_expr scope (variable n1) (number (literal.Unsigned z)) w more = refl
set_expr scope (variable n1) (number (literal.Long z)) w more = refl
set_expr scope (variable n1) (variable n2) w more = refl
set_expr scope (variable n1) (member a2 n2) w more = refl
set_expr scope (variable n1) (element a2 b2) w more = refl
set_expr scope (variable n1) (pointed a2) w more = refl
set_expr scope (variable n1) (operation o2 a2 b2 es2) w more = refl
set_expr scope (variable n1) (unary o2 a2) w more = refl
set_expr scope (variable n1) (cast t2 a2) w more = refl
set_expr scope (variable n1) (choice a2 b2 d2) w more = refl
set_expr scope (variable n1) (called n2 as_2) w more = refl
set_expr scope (member a1 n1) y w more = refl
set_expr scope (element a1 b1) y w more = refl
set_expr scope (pointed a1) y w more = refl
set_expr scope (operation o1 a1 b1 es1) y w more = refl
set_expr scope (unary o1 a1) y w more = refl
set_expr scope (cast t1 a1) y w more = refl
set_expr scope (choice a1 b1 d1) y w more = refl
set_expr scope (called n1 as_1) y w more = refl

abbrev left_args : Nodes → List CArg → Args
left_args nodes given = args_in nodes.names (expr_of nodes) given

some_args : (nodes : Nodes) (a : CArg) (given : List CArg) → left_args nodes (a ∷ given) ≡ no_arg → ⊥
some_args nodes (arg.Expr e) given is = absurd (cc (is))
some_args nodes (arg.SizeOf n) given is = absurd (cc (is))

set_apart : (nodes : Nodes) (scope : CScope) (given : List CArg) → (length given ≡ 3 → ⊥) → is_set scope (left_args nodes given) ≡ false
set_apart nodes scope [] apart = refl
set_apart nodes scope (arg.SizeOf n ∷ given) apart = refl
set_apart nodes scope (arg.Expr e ∷ []) apart = set_one scope (expr_of nodes e.0)
set_apart nodes scope (arg.Expr e ∷ arg.SizeOf n ∷ given) apart = set_size scope (expr_of nodes e.0) (bytes_at nodes.names n.0) (left_args nodes given)
set_apart nodes scope (arg.Expr e ∷ arg.Expr f ∷ []) apart = set_two scope (expr_of nodes e.0) (expr_of nodes f.0)
set_apart nodes scope (arg.Expr e ∷ arg.Expr f ∷ arg.Expr g ∷ given) apart = set_expr scope (expr_of nodes e.0) (expr_of nodes f.0) (expr_of nodes g.0) (left_args nodes given)
set_apart nodes scope (arg.Expr e ∷ arg.Expr f ∷ arg.SizeOf n ∷ []) apart = absurd (apart refl)
set_apart nodes scope (arg.Expr e ∷ arg.Expr f ∷ arg.SizeOf n ∷ a ∷ given) apart = set_more scope (expr_of nodes e.0) (expr_of nodes f.0) (bytes_at nodes.names n.0) (left_args nodes (a ∷ given)) (some_args nodes a given)

pub set_other : (nodes : Nodes) (scope : CScope) (given : List CArg) → (length given ≡ 3 → ⊥) → false ≡ is_set scope (args_in nodes.names (expr_of nodes) given)
set_other nodes scope given apart = sym (set_apart nodes scope given apart)

named_set : (scope : CScope) (n name same : List ℕ) (z : ℕ) (p : Bool) → name ≡ n → nat_eq z 0 ≡ true → bytes_eq name same ≡ true → p ≡ is_object_pointer (find (λ it. bytes_eq it.name name) scope.names) → p ≡ is_set scope (expr_arg (variable n) (expr_arg (number (literal.Int z)) (sizeof_arg same no_arg)))
named_set scope n name same z p is zero alike points = rw (← is, zero, alike) points

-- `memset` of a name, a literal and a `sizeof`.
pub set_by : (scope : CScope) (x y : ExprTree) (name same : List ℕ) (p : Bool) → Some name ≡ name_in x → is_zero_literal y ≡ true → bytes_eq name same ≡ true → p ≡ is_object_pointer (find (λ it. bytes_eq it.name name) scope.names) → p ≡ is_set scope (expr_arg x (expr_arg y (sizeof_arg same no_arg)))
set_by scope (number n1) y name same p named zero alike points = absurd (cc (named))
set_by scope (variable n1) (number (literal.Int z)) name same p named zero alike points = named_set scope n1 name same z p (cc (named)) zero alike points
set_by scope (variable n1) (number (literal.Unsigned z)) name same p named zero alike points = absurd (cc (zero))
set_by scope (variable n1) (number (literal.Long z)) name same p named zero alike points = absurd (cc (zero))
set_by scope (variable n1) (variable n2) name same p named zero alike points = absurd (cc (zero))
set_by scope (variable n1) (member a2 n2) name same p named zero alike points = absurd (cc (zero))
set_by scope (variable n1) (element a2 b2) name same p named zero alike points = absurd (cc (zero))
set_by scope (variable n1) (pointed a2) name same p named zero alike points = absurd (cc (zero))
set_by scope (variable n1) (operation o2 a2 b2 es2) name same p named zero alike points = absurd (cc (zero))
set_by scope (variable n1) (unary o2 a2) name same p named zero alike points = absurd (cc (zero))
set_by scope (variable n1) (cast t2 a2) name same p named zero alike points = absurd (cc (zero))
set_by scope (variable n1) (choice a2 b2 d2) name same p named zero alike points = absurd (cc (zero))
set_by scope (variable n1) (called n2 as_2) name same p named zero alike points = absurd (cc (zero))
set_by scope (member a1 n1) y name same p named zero alike points = absurd (cc (named))
set_by scope (element a1 b1) y name same p named zero alike points = absurd (cc (named))
set_by scope (pointed a1) y name same p named zero alike points = absurd (cc (named))
set_by scope (operation o1 a1 b1 es1) y name same p named zero alike points = absurd (cc (named))
set_by scope (unary o1 a1) y name same p named zero alike points = absurd (cc (named))
set_by scope (cast t1 a1) y name same p named zero alike points = absurd (cc (named))
set_by scope (choice a1 b1 d1) y name same p named zero alike points = absurd (cc (named))
set_by scope (called n1 as_1) y name same p named zero alike points = absurd (cc (named))
