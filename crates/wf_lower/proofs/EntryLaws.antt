-- Tests of the arguments, and what is handed on to a body.
use Rattle.std.proofs.Common.{◌≡◌, ◌<◌, ◌≤◌, ◌+◌, ◌^◌, ◌-◌, ℕ, zero, suc, Bool, true, false, not, if◌then◌else◌, Option, None, Some, Result, Ok, Err, IfOk, OnOk, List, [], ◌∷◌, ◌++◌, length, map, take, get_or, refl, sym, ◌∙◌, ap, subst, codes, arith, eqb}
use Rattle.std.specs.Prelude.{slice_get, IfSome, nat_lt}
use Rattle.std.proofs.lemmas.Bool.{eqb-true}
use Rattle.std.proofs.lemmas.List.{take_all}
use Rattle.wf_text.specs.declared.faults.NoMemory.{NoMemory}
use Rattle.wf_text.specs.Surface.{AnswerKind}
use Rattle.wf_text.specs.Surface as surface
use Rattle.wf_base.specs.BaseTable.{bits_of}
use Rattle.wf_ast.specs.declared.declarations.Method.{Method}
use Rattle.wf_ast.specs.declared.declarations.Var.{Var}
use Rattle.wf_ast.specs.declared.typed_code.Block as typed_code
use Rattle.wf_ast.specs.declared.types.Ty.{Ty}
use Rattle.wf_ast.specs.declared.types.Ty.TheVariants as types
use Rattle.wf_ast.specs.declared.typed_nodes.TypedNodes.{TypedNodes}
use Rattle.wf_ast.specs.TypedPackage.{Variable, MethodTree, variable_of, method_of, methods_of, package_of}
use Rattle.wf_ast.specs.TypedTrees.{text_of}
use Rattle.c_text.specs.declared.ids.CExprId.{CExprId}
use Rattle.c_text.specs.declared.nodes.CArg.{CArg}
use Rattle.c_text.specs.declared.nodes.CArg.TheVariants as arg
use Rattle.c_text.specs.declared.nodes.CItem.{CItem}
use Rattle.c_text.specs.declared.nodes.CParam.{CParam}
use Rattle.c_text.specs.declared.kinds.COp.TheVariants.{Either, Lt, Gt}
use Rattle.c_text.specs.CFits.{HasArgs, HasExprs, HasParams, HasTarget}
use Rattle.c_text.specs.CNodes.{Nodes, bytes_at, expr_of, args_in, operands_in, param_tree}
use Rattle.c_text.specs.CTree.{ExprTree, variable, operation, Operands, no_operand, operand, Args, Code}
use Rattle.c_text.specs.CTree as c
use Rattle.wf_exprs.specs.Exprs.{same_op, chained, with_operand}
use Rattle.wf_exprs.specs.Grown.{Grows, HasExpr}
use Rattle.wf_exprs.specs.Scopes.{are_named, is_named}
use Rattle.wf_exprs.specs.Words.{num, two, args}
use Rattle.wf_exprs.proofs.Prefixes.{list_all-at}
use Rattle.wf_exprs_nodes.proofs.ChainLaws.{appended, appended_one, appended_none}
use Rattle.wf_lower_stmts.specs.Forms.{when}
use Rattle.wf_lower_blocks.specs.Calls.{HasGiven, HasValue}
use Rattle.wf_lower.specs.Bodies.{answer_in, either_of, entry_function, handed, when_any, wrong_number, wrong_arg, wrong_args}
use Rattle.wf_lower.specs.Made.{HasItemTree}
use Rattle.wf_lower.proofs.BodyLaws.{param_there}
use Rattle.wf_lower.specs.Methods.{EntryTree, method_in, HasTests, test_trees, AddsTests, AddsGiven, any_of, is_apart, begins_apart}

pub append_none : {A : Type 0} (xs : List A) → xs ++ [] ≡ xs
append_none [] = refl
append_none (x ∷ xs) = ap (λ ys. x ∷ ys) (append_none xs)

pub append_two : {A : Type 0} (xs ys zs : List A) → (xs ++ ys) ++ zs ≡ xs ++ (ys ++ zs)
append_two [] ys zs = refl
append_two (x ∷ xs) ys zs = ap (λ l. x ∷ l) (append_two xs ys zs)

-- What stands at a place of a list.
pub stands_there : {A : Type 0} (xs : List A) (i : ℕ) (d : A) → i < length xs → slice_get xs i ≡ Some (get_or xs i d)
stands_there [] i d h = absurd (omega (arith, h))
stands_there (x ∷ xs) zero d h = refl
stands_there (x ∷ xs) (suc i) d h = stands_there xs i d (omega (arith, h))

pub arg_named : (nodes : TypedNodes) (ys xs : List Var) (i : ℕ) (d : Var) → ys ≡ xs → are_named nodes xs ≡ true → i < length ys → is_named nodes (get_or ys i d) ≡ true
arg_named nodes ys xs i d e h l = list_all-at (is_named nodes) ys i (get_or ys i d) (ap (are_named nodes) e ∙ h) (stands_there ys i d l)

-- Tests that a unit has, it has while it grows, and one more after them.
tests_there : (a b : Nodes) (es : List CExprId) → Grows a b → HasExprs (length a.exprs) es → HasExprs (length b.exprs) es
tests_there a b [] g h = h
tests_there a b (e ∷ es) g h = (g.more_exprs e.0 h.0, tests_there a b es g h.1)

tests_same : (a b : Nodes) (es : List CExprId) → Grows a b → HasExprs (length a.exprs) es → test_trees b es ≡ test_trees a es
tests_same a b [] g h = refl
tests_same a b (e ∷ es) g h = ap (λ t. t ∷ test_trees b es) (g.exprs e.0 h.0) ∙ ap (λ ts. expr_of a e.0 ∷ ts) (tests_same a b es g h.1)

pub kept_tests : {a b : Nodes} (es : List CExprId) (ts : List ExprTree) → Grows a b → HasTests a es ts → HasTests b es ts
kept_tests {a = a} {b = b} es ts g h = record { there = tests_there a b es g h.there; are = tests_same a b es g h.there ∙ h.are }

one_there : (n : ℕ) (es : List CExprId) (e : CExprId) → HasExprs n es → e.0 < n → HasExprs n (es ++ e ∷ [])
one_there n [] e h k = (k, h)
one_there n (x ∷ es) e h k = (h.0, one_there n es e h.1 k)

one_tree : (a : Nodes) (es : List CExprId) (e : CExprId) → test_trees a (es ++ e ∷ []) ≡ test_trees a es ++ expr_of a e.0 ∷ []
one_tree a [] e = refl
one_tree a (x ∷ es) e = ap (λ ts. expr_of a x.0 ∷ ts) (one_tree a es e)

one_test : (a : Nodes) (es : List CExprId) (ts : List ExprTree) (e : CExprId) (t : ExprTree) → HasTests a es ts → HasExpr a e.0 t → HasTests a (es ++ e ∷ []) (ts ++ t ∷ [])
one_test a es ts e t h k = record {
  there = one_there (length a.exprs) es e h.there k.there;
  are = one_tree a es e ∙ ap (λ x. x ++ expr_of a e.0 ∷ []) h.are ∙ ap (λ x. ts ++ x ∷ []) k.is;
}

pub pushed_test : (a b : Nodes) (old new : List CExprId) (e : CExprId) (t : ExprTree) (r : Result (Unit {0}) NoMemory) → Grows a b → HasExpr b e.0 t → OnOk r (new ≡ old ++ e ∷ []) → OnOk r (AddsTests a b old new (t ∷ []))
pushed_test a b old new e t (Ok u) g k h = λ ts has.
    let P : List CExprId → Type 0 = λ es. HasTests b es (ts ++ t ∷ []) in
    subst P (sym h) (one_test b old ts e t (kept_tests old ts g has) k)
pushed_test a b old new e t (Err fault) g k h = h

more_tests : (a b c : Nodes) (es fs gs : List CExprId) (ts us : List ExprTree) → AddsTests a b es fs ts → AddsTests b c fs gs us → AddsTests a c es gs (ts ++ us)
more_tests a b c es fs gs ts us h k = λ xs has. let P : List ExprTree → Type 0 = λ x. HasTests c gs x in subst P (append_two xs ts us) (k (xs ++ ts) (h xs has))

pub pushed_if : (a b : Nodes) (old new : List CExprId) (e : CExprId) (t : ExprTree) (r : Result (Unit {0}) NoMemory) (test : Bool) → test ≡ true → Grows a b → HasExpr b e.0 t → OnOk r (new ≡ old ++ e ∷ [])
    → OnOk r (AddsTests a b old new (if test then t ∷ [] else []))
pushed_if a b old new e t r true is g k h = pushed_test a b old new e t r g k h
pushed_if a b old new e t r false is g k h = absurd (cc is)

pub more_done : (a b c : Nodes) (es fs gs : List CExprId) (ts us : List ExprTree) (r : Result (Unit {0}) NoMemory) → AddsTests a b es fs ts → OnOk r (AddsTests b c fs gs us) → OnOk r (AddsTests a c es gs (ts ++ us))
more_done a b c es fs gs ts us (Ok u) h k = more_tests a b c es fs gs ts us h k
more_done a b c es fs gs ts us (Err fault) h k = k

pub tests_as : (a b : Nodes) (es fs : List CExprId) (ts us : List ExprTree) (r : Result (Unit {0}) NoMemory) → ts ≡ us → OnOk r (AddsTests a b es fs ts) → OnOk r (AddsTests a b es fs us)
tests_as a b es fs ts us r e h = let P : List ExprTree → Type 0 = λ xs. OnOk r (AddsTests a b es fs xs) in subst P e h

-- The tests of the first arguments, and one more.
wrong_upto : (nodes : TypedNodes) (xs : List Var) (i : ℕ) (x : Var) → slice_get xs i ≡ Some x
    → wrong_args (map (variable_of nodes) (take (suc i) xs)) ≡ wrong_args (map (variable_of nodes) (take i xs)) ++ wrong_arg (codes "a_" ++ text_of nodes x.name) x.ty
wrong_upto nodes [] i x e = absurd (cc e)
wrong_upto nodes (y ∷ ys) zero x e =
    let same : y ≡ x = cc e in
    append_none (wrong_arg (codes "a_" ++ text_of nodes y.name) y.ty) ∙ ap (λ (z : Var). wrong_arg (codes "a_" ++ text_of nodes z.name) z.ty) same
wrong_upto nodes (y ∷ ys) (suc i) x e =
    let first = wrong_arg (codes "a_" ++ text_of nodes y.name) y.ty in
    ap (λ l. first ++ l) (wrong_upto nodes ys i x e)
    ∙ sym (append_two first (wrong_args (map (variable_of nodes) (take i ys))) (wrong_arg (codes "a_" ++ text_of nodes x.name) x.ty))

pub wrong_next : (a b : Nodes) (nodes : TypedNodes) (ys xs : List Var) (i : ℕ) (d : Var) (es fs : List CExprId) (name : List ℕ) → ys ≡ xs → i < length ys → name ≡ text_of nodes (get_or ys i d).name
    → HasTests a es (wrong_args (map (variable_of nodes) (take i xs))) → AddsTests a b es fs (wrong_arg (codes "a_" ++ name) (get_or ys i d).ty)
    → HasTests b fs (wrong_args (map (variable_of nodes) (take (i + 1) xs)))
wrong_next a b nodes ys xs i d es fs name same l named has adds =
    let P : List ExprTree → Type 0 = λ ts. HasTests b fs ts in
    let Q : ℕ → Type 0 = λ n. HasTests b fs (wrong_args (map (variable_of nodes) (take n xs))) in
    let x = get_or ys i d in
    let so_far = wrong_args (map (variable_of nodes) (take i xs)) in
    let at : slice_get xs i ≡ Some x = ap (λ l. slice_get l i) (sym same) ∙ stands_there ys i d l in
    let next : suc i ≡ i + 1 = omega arith in
    subst Q next (subst P (ap (λ n. so_far ++ wrong_arg (codes "a_" ++ n) x.ty) named ∙ sym (wrong_upto nodes xs i x at)) (adds so_far has))

pub wrong_all : (u : Nodes) (nodes : TypedNodes) (ys xs : List Var) (i : ℕ) (es : List CExprId) → ys ≡ xs → length ys ≤ i → HasTests u es (wrong_args (map (variable_of nodes) (take i xs)))
    → HasTests u es (wrong_args (map (variable_of nodes) xs))
wrong_all u nodes ys xs i es same l h =
    let P : List Var → Type 0 = λ zs. HasTests u es (wrong_args (map (variable_of nodes) zs)) in
    let all : length xs ≤ i = omega (arith, l, ap length same) in
    subst P (take_all i xs all) h

-- The first test of an argument is no chain.
number_apart : (name : List ℕ) (bits low high : ℕ) (more : List ExprTree) → begins_apart more ≡ true → begins_apart (wrong_number name bits low high ++ more) ≡ true
number_apart name bits low high more h = by_tests (nat_lt 0 low) (nat_lt high (2 ^ bits - 1))
  where
    by_tests : (p q : Bool) → begins_apart (((if p then two Lt (variable name) (num low) ∷ [] else []) ++ (if q then two Gt (variable name) (num high) ∷ [] else [])) ++ more) ≡ true
    by_tests true q = refl
    by_tests false true = refl
    by_tests false false = h

arg_apart : (name : List ℕ) (ty : Ty) (more : List ExprTree) → begins_apart more ≡ true → begins_apart (wrong_arg name ty ++ more) ≡ true
arg_apart name (types.Num width lo hi) more h = number_apart name (bits_of width) lo hi more h
arg_apart name types.Reader more h = refl
arg_apart name types.Writer more h = refl
arg_apart name types.Flag more h = h
arg_apart name types.Status more h = h
arg_apart name (types.Slice width) more h = h
arg_apart name (types.Array width lo hi count) more h = h
arg_apart name (types.Part s) more h = h

pub args_apart : (xs : List Variable) → begins_apart (wrong_args xs) ≡ true
args_apart [] = refl
args_apart (x ∷ xs) = arg_apart (codes "a_" ++ x.name) x.ty (wrong_args xs) (args_apart xs)

-- A chain of tests is one operation.
abbrev pub operands_of : List ExprTree → Operands
operands_of [] = no_operand
operands_of (t ∷ ts) = operand t (operands_of ts)

pub operands_are : (nodes : Nodes) (es : List CExprId) → operands_in (expr_of nodes) es ≡ operands_of (test_trees nodes es)
operands_are nodes [] = refl
operands_are nodes (e ∷ es) = ap (operand (expr_of nodes e.0)) (operands_are nodes es)

chain_on : (a b : ExprTree) (os : Operands) (ts : List ExprTree) → either_of (operation Either a b os) ts ≡ operation Either a b (appended os (operands_of ts))
chain_on a b os [] = ap (operation Either a b) (sym (appended_none os))
chain_on a b os (t ∷ ts) = chain_on a b (with_operand os t) ts ∙ ap (operation Either a b) (appended_one os t (operands_of ts))

two_apart : (a b : ExprTree) → is_apart a ≡ true → chained true Either a b ≡ two Either a b
two_apart (c.number n) b h = refl
two_apart (c.variable name) b h = refl
two_apart (c.member of name) b h = refl
two_apart (c.element of at) b h = refl
two_apart (c.pointed of) b h = refl
two_apart (c.operation op first second others) b h = by_test (same_op Either op) h
  where
    by_test : (t : Bool) → not t ≡ true → (if t then c.operation op first second (with_operand others b) else two Either (c.operation op first second others) b) ≡ two Either (c.operation op first second others) b
    by_test true k = absurd (cc k)
    by_test false k = refl
two_apart (c.unary op of) b h = refl
two_apart (c.cast to of) b h = refl
two_apart (c.choice test met unmet) b h = refl
two_apart (c.called function given) b h = refl

pub chain_is : (a b : ExprTree) (ts : List ExprTree) → is_apart a ≡ true → either_of a (b ∷ ts) ≡ operation Either a b (operands_of ts)
chain_is a b ts h = ap (λ e. either_of e ts) (two_apart a b h) ∙ chain_on a b no_operand ts

-- The row of tests, by whether there are any.
pub any_none : (u : Nodes) (es : List CExprId) (b : Bool) (body rest : Code) → b ≡ eqb (length es) 0 → b ≡ true → when_any (test_trees u es) body rest ≡ rest
any_none u [] b body rest is holds = refl
any_none u (e ∷ es) b body rest is holds = let none = eqb-true (length (e ∷ es)) 0 (sym is ∙ holds) in absurd (omega (arith, none))

pub any_some : (u : Nodes) (es : List CExprId) (b : Bool) (body rest : Code) → b ≡ eqb (length es) 0 → b ≡ false → when_any (test_trees u es) body rest ≡ when (any_of (test_trees u es)) body rest
any_some u [] b body rest is holds = absurd (cc (is, holds))
any_some u (e ∷ es) b body rest is holds = refl

pub when_as : {a b : ExprTree} {x y r s : Code} → a ≡ b → x ≡ y → r ≡ s → when a x r ≡ when b y s
when_as {b = b} {x = x} {y = y} {r = r} e f g = ap (λ t. when t x r) e ∙ ap (λ z. when b z r) f ∙ ap (when b y) g

-- What takes an answer can be assigned to.
pub kept_value : {a b : Nodes} (v : Option CExprId) (t : Option ExprTree) → Grows a b → HasValue a v t → HasValue b v t
kept_value None t g h = record { there = h.there; is = h.is }
kept_value (Some e) t g h = record { there = g.more_exprs e.0 h.there; is = ap Some (g.exprs e.0 h.there) ∙ h.is }

pub answer_target : (nodes : Nodes) (v : Option CExprId) (kind : AnswerKind) → HasValue nodes v (answer_in kind) → IfSome v (HasTarget nodes (length nodes.exprs))
answer_target nodes None kind h = h.there
answer_target nodes (Some e) surface.status h = let is : expr_of nodes e.0 ≡ variable (codes "status") = cc h.is in (h.there, rw is refl)
answer_target nodes (Some e) (surface.numeric bits) h = let is : expr_of nodes e.0 ≡ variable (codes "got") = cc h.is in (h.there, rw is refl)
answer_target nodes (Some e) surface.truth h = let is : expr_of nodes e.0 ≡ variable (codes "got") = cc h.is in (h.there, rw is refl)
answer_target nodes (Some e) surface.nothing h = absurd (cc h.is)

-- Arguments that are passed, likewise.
given_there : (a b : Nodes) (xs : List CArg) → Grows a b → HasArgs a (length a.exprs) xs → HasArgs b (length b.exprs) xs
given_there a b [] g h = h
given_there a b (arg.Expr e ∷ xs) g h = (g.more_exprs e.0 h.0, given_there a b xs g h.1)
given_there a b (arg.SizeOf n ∷ xs) g h = (g.more_names n.0 h.0, given_there a b xs g h.1)

given_same : (a b : Nodes) (xs : List CArg) → Grows a b → HasArgs a (length a.exprs) xs → args_in b.names (expr_of b) xs ≡ args_in a.names (expr_of a) xs
given_same a b [] g h = refl
given_same a b (arg.Expr e ∷ xs) g h = ap (λ x. c.expr_arg x (args_in b.names (expr_of b) xs)) (g.exprs e.0 h.0) ∙ ap (c.expr_arg (expr_of a e.0)) (given_same a b xs g h.1)
given_same a b (arg.SizeOf n ∷ xs) g h = ap (λ x. c.sizeof_arg x (args_in b.names (expr_of b) xs)) (g.names n.0 h.0) ∙ ap (c.sizeof_arg (bytes_at a.names n.0)) (given_same a b xs g h.1)

pub kept_given : {a b : Nodes} (xs : List CArg) (ts : List ExprTree) → Grows a b → HasGiven a xs ts → HasGiven b xs ts
kept_given {a = a} {b = b} xs ts g h = record { fits = given_there a b xs g h.fits; is = given_same a b xs g h.fits ∙ h.is }

one_fits : (a : Nodes) (xs : List CArg) (e : CExprId) → HasArgs a (length a.exprs) xs → e.0 < length a.exprs → HasArgs a (length a.exprs) (xs ++ arg.Expr e ∷ [])
one_fits a [] e h k = (k, h)
one_fits a (x ∷ xs) e h k = (h.0, one_fits a xs e h.1 k)

one_more : (a : Nodes) (xs : List CArg) (ts : List ExprTree) (e : CExprId) → args_in a.names (expr_of a) xs ≡ args ts → args_in a.names (expr_of a) (xs ++ arg.Expr e ∷ []) ≡ args (ts ++ expr_of a e.0 ∷ [])
one_more a [] [] e h = refl
one_more a [] (t ∷ ts) e h = absurd (cc h)
one_more a (arg.Expr x ∷ xs) [] e h = absurd (cc h)
one_more a (arg.SizeOf n ∷ xs) [] e h = absurd (cc h)
one_more a (arg.SizeOf n ∷ xs) (t ∷ ts) e h = absurd (cc h)
one_more a (arg.Expr x ∷ xs) (t ∷ ts) e h =
    let first : expr_of a x.0 ≡ t = cc h in
    let others : args_in a.names (expr_of a) xs ≡ args ts = cc h in
    ap (λ y. c.expr_arg y (args_in a.names (expr_of a) (xs ++ arg.Expr e ∷ []))) first ∙ ap (c.expr_arg t) (one_more a xs ts e others)

pub pushed_arg : (a b : Nodes) (old new : List CArg) (e : CExprId) (t : ExprTree) (r : Result (Unit {0}) NoMemory) → Grows a b → HasExpr b e.0 t → OnOk r (new ≡ old ++ arg.Expr e ∷ []) → OnOk r (AddsGiven a b old new (t ∷ []))
pushed_arg a b old new e t (Ok u) g k h = λ ts has.
    let kept = kept_given old ts g has in
    let more : HasGiven b (old ++ arg.Expr e ∷ []) (ts ++ t ∷ []) = record {
      fits = one_fits b old e kept.fits k.there;
      is = one_more b old ts e kept.is ∙ ap (λ x. args (ts ++ x ∷ [])) k.is;
    } in
    let P : List CArg → Type 0 = λ xs. HasGiven b xs (ts ++ t ∷ []) in
    subst P (sym h) more
pushed_arg a b old new e t (Err fault) g k h = h

-- The first parameters handed on, and one more.
handed_upto : (names : List (List ℕ)) (ps : List CParam) (i : ℕ) (p : CParam) → slice_get ps i ≡ Some p
    → handed (map (param_tree names) (take (suc i) ps)) ≡ handed (map (param_tree names) (take i ps)) ++ variable (bytes_at names p.name.0) ∷ []
handed_upto names [] i p e = absurd (cc e)
handed_upto names (q ∷ ps) zero p e = ap (λ (x : CParam). variable (bytes_at names x.name.0) ∷ []) (let same : q ≡ p = cc e in same)
handed_upto names (q ∷ ps) (suc i) p e = ap (λ l. variable (bytes_at names q.name.0) ∷ l) (handed_upto names ps i p e)

pub handed_next : (f a b : Nodes) (ps : List CParam) (i : ℕ) (d : CParam) (xs ys : List CArg) → HasParams f ps → i < length ps → Grows f a
    → HasGiven a xs (handed (map (param_tree f.names) (take i ps))) → AddsGiven a b xs ys (variable (bytes_at a.names (get_or ps i d).name.0) ∷ [])
    → HasGiven b ys (handed (map (param_tree f.names) (take (i + 1) ps)))
handed_next f a b ps i d xs ys there l g has adds =
    let P : List ExprTree → Type 0 = λ ts. HasGiven b ys ts in
    let Q : ℕ → Type 0 = λ n. HasGiven b ys (handed (map (param_tree f.names) (take n ps))) in
    let p = get_or ps i d in
    let so_far = handed (map (param_tree f.names) (take i ps)) in
    let named = g.names p.name.0 (param_there f ps i d there l) in
    let next : suc i ≡ i + 1 = omega arith in
    subst Q next (subst P (ap (λ n. so_far ++ variable n ∷ []) named ∙ sym (handed_upto f.names ps i p (stands_there ps i d l))) (adds so_far has))

pub handed_all : (u : Nodes) (names : List (List ℕ)) (ps : List CParam) (i : ℕ) (xs : List CArg) → length ps ≤ i → HasGiven u xs (handed (map (param_tree names) (take i ps))) → HasGiven u xs (handed (map (param_tree names) ps))
handed_all u names ps i xs l h = let P : List CParam → Type 0 = λ qs. HasGiven u xs (handed (map (param_tree names) qs)) in subst P (take_all i ps l) h

pub call_as : {v w : Option ExprTree} {f g : List ℕ} {xs ys : Args} {r s : Code} → v ≡ w → f ≡ g → xs ≡ ys → r ≡ s → c.call v f xs r ≡ c.call w g ys s
call_as {w = w} {f = f} {g = g} {xs = xs} {ys = ys} {r = r} a b d e = ap (λ x. c.call x f xs r) a ∙ ap (λ x. c.call w x xs r) b ∙ ap (λ x. c.call w g x r) d ∙ ap (c.call w g ys) e

-- The entry of a method asks nothing of its body.
method_at : (nodes : TypedNodes) (ms : List Method) (bodies : List typed_code.Block) (n : ℕ) (m : Method) → slice_get ms n ≡ Some m
    → IfSome (slice_get (methods_of nodes ms bodies) n) (λ it. (body : typed_code.Block) × (it ≡ method_of nodes m body))
method_at nodes [] bodies n m h = absurd (cc h)
method_at nodes (x ∷ xs) [] n m h = tt
method_at nodes (x ∷ xs) (b ∷ bs) zero m h = (b, ap (λ y. method_of nodes y b) (let same : x ≡ m = cc h in same))
method_at nodes (x ∷ xs) (b ∷ bs) (suc n) m h = method_at nodes xs bs n m h

if_some : {A : Type 0} (P Q : A → Type 0) (o : Option A) → ((a : A) → P a → Q a) → IfSome o P → IfSome o Q
if_some P Q None f h = h
if_some P Q (Some a) f h = f a h

pub entry_told : (nodes : TypedNodes) (n : ℕ) (e : EntryTree) (u : Nodes) (r : Result CItem NoMemory) → e.nodes ≡ nodes → slice_get nodes.methods n ≡ Some e.method → e.number ≡ n
    → IfOk r (λ item. HasItemTree u item (entry_function (package_of e.nodes) e.number (method_in e)))
    → IfSome (slice_get (package_of nodes).methods n) (λ it. IfOk r (λ item. HasItemTree u item (entry_function (package_of nodes) n it)))
unfolding package_of
entry_told nodes n e u r nodes_are method_is number_is h =
    let T : TypedNodes → ℕ → Type 0 = λ x k. IfOk r (λ item. HasItemTree u item (entry_function (package_of x) k (method_of x e.method (record { items = [] })))) in
    let A : TypedNodes → Type 0 = λ x. T x e.number in
    let B : ℕ → Type 0 = λ k. T nodes k in
    let C : MethodTree → Type 0 = λ x. IfOk r (λ item. HasItemTree u item (entry_function (package_of nodes) n x)) in
    let base = subst B number_is (subst A nodes_are h) in
    if_some (λ it. (body : typed_code.Block) × (it ≡ method_of nodes e.method body)) C (slice_get (methods_of nodes nodes.methods nodes.bodies) n) (λ it known. subst C (sym known.1) base)
    (method_at nodes nodes.methods nodes.bodies n e.method method_is)
