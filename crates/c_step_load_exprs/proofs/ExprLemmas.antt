-- Expressions part by part.
use Rattle.std.proofs.Common.{◌≡◌, ◌<◌, ◌≤◌, ◌+◌, ℕ, zero, suc, Bool, true, false, ◌&&◌, List, [], ◌∷◌, ◌++◌, length, map, drop, Option, Some, None, IfSome, refl, sym, ap, ◌∙◌, subst, arith, get_or}
use Rattle.std.specs.Prelude.{nat_le}
use Rattle.std.proofs.lemmas.Bool.{le-leb, lt-leb, leb-true, leb-false}
use Rattle.std.specs.Option.{option_map}
use Rattle.std.proofs.lemmas.List.{append_assoc}
use Rattle.pens.proofs.Progress.{unroll}
use Rattle.c_text.specs.declared.ids.CExprId.{CExprId}
use Rattle.c_text.specs.declared.nodes.CArg.{CArg}
use Rattle.c_text.specs.declared.nodes.CArg.TheVariants as arg
use Rattle.c_text.specs.declared.nodes.CParam.{CParam}
use Rattle.c_text.specs.CTree.{ExprTree, number, variable, member, element, pointed, operation, unary, cast, choice, called}
use Rattle.c_text.specs.CNodes.{Nodes, expr_of, args_in, param_tree}
use Rattle.c_text.proofs.Parts.{no_arg_given}
use Rattle.c_meaning.specs.CTypes.{CScope, type_of, passable, arg_types}
use Rattle.c_meaning.specs.CTypes as by_name
use Rattle.c_form_exprs.specs.declared.types.ExprType.{ExprType}
use Rattle.c_form_exprs.specs.Spines.{Spine, link_of, arg_type}
use Rattle.c_form_exprs.specs.TypeViews.{value_in, HasValue, TellsType}
use Rattle.c_form_exprs.proofs.SpineLemmas.{spine_pop}
use Rattle.c_form_exprs.proofs.ArgLemmas.{takes_from}
use Rattle.c_step_exprs.specs.declared.instrs.Instr.{Instr}
use Rattle.c_step_exprs.specs.Resolving.{value_code, args_code, arg_count}
use Rattle.c_step_load_exprs.specs.Codes.{link_code, arg_code, fits_first}
use Rattle.c_step_load_exprs.proofs.CodeLemmas.{both}

-- From the first part to the whole: the links that are left, and what was put of what they lead to.
pub record Climbing (nodes : Nodes) (scope : CScope) (e : CExprId) (links : List CExprId) (found : Option ExprType) (before now : List Instr) : Type 0 where
  pub at : CExprId
  pub spine : Spine nodes e links at
  pub told : TellsType nodes found (type_of scope (expr_of nodes at.0))
  pub code : now ≡ before ++ value_code scope (expr_of nodes at.0)

link_value : (scope : CScope) (e front : ExprTree) → link_of e ≡ Some front → value_code scope e ≡ value_code scope front ++ link_code scope e
link_value scope (member of field) front is = let s : of ≡ front = cc (is) in ap (λ (t : ExprTree). value_code scope t ++ link_code scope (member of field)) s
link_value scope (element of index) front is = let s : of ≡ front = cc (is) in ap (λ (t : ExprTree). value_code scope t ++ link_code scope (element of index)) s
link_value scope (number n) front is = absurd (cc (is))
link_value scope (variable name) front is = absurd (cc (is))
link_value scope (pointed of) front is = absurd (cc (is))
link_value scope (operation op first second others) front is = absurd (cc (is))
link_value scope (unary op of) front is = absurd (cc (is))
link_value scope (cast to of) front is = absurd (cc (is))
link_value scope (choice test met unmet) front is = absurd (cc (is))
link_value scope (called function given) front is = absurd (cc (is))

pub climbing_below : (nodes : Nodes) (scope : CScope) (e : CExprId) (whole links : List CExprId) (x : CExprId) (found : Option ExprType) (before now : List Instr) → whole ≡ links ++ x ∷ [] → Climbing nodes scope e whole found before now → x.0 ≤ e.0
climbing_below nodes scope e whole links x found before now is h = (spine_pop nodes e links x h.at (subst (λ (xs : List CExprId). Spine nodes e xs h.at) is h.spine)).below

pub climbing_told : (nodes : Nodes) (scope : CScope) (e : CExprId) (links : List CExprId) (found : Option ExprType) (before now : List Instr) → Climbing nodes scope e links found before now → IfSome found (HasValue nodes)
climbing_told nodes scope e links found before now h = h.told.1

pub climbing_on : (nodes : Nodes) (scope : CScope) (e : CExprId) (whole links : List CExprId) (x : CExprId) (found next : Option ExprType) (before now after : List Instr) → whole ≡ links ++ x ∷ [] → Climbing nodes scope e whole found before now
    → ((front : ExprTree) → link_of (expr_of nodes x.0) ≡ Some front → option_map (value_in nodes.names) found ≡ type_of scope front → after ≡ now ++ link_code scope (expr_of nodes x.0))
    → ((front : ExprTree) → link_of (expr_of nodes x.0) ≡ Some front → option_map (value_in nodes.names) found ≡ type_of scope front → TellsType nodes next (type_of scope (expr_of nodes x.0)))
    → Climbing nodes scope e links next before after
climbing_on nodes scope e whole links x found next before now after is h code type =
    let popped = spine_pop nodes e links x h.at (subst (λ (xs : List CExprId). Spine nodes e xs h.at) is h.spine) in
    let front : ExprTree = expr_of nodes h.at.0 in
    let link : link_of (expr_of nodes x.0) ≡ Some (expr_of nodes h.at.0) = popped.link.is in
    record {
      at = x;
      spine = popped.spine;
      told = type (expr_of nodes h.at.0) link h.told.0;
      code = both before now after (value_code scope (expr_of nodes h.at.0)) (link_code scope (expr_of nodes x.0)) h.code (code (expr_of nodes h.at.0) link h.told.0)
          ∙ ap (λ (us : List Instr). before ++ us) (sym (link_value scope (expr_of nodes x.0) (expr_of nodes h.at.0) link));
    }

-- An argument more.
arg_first : (nodes : Nodes) (scope : CScope) (a : CArg) (args : List CArg) → args_code scope (args_in nodes.names (expr_of nodes) (a ∷ args)) ≡ arg_code nodes scope a ++ args_code scope (args_in nodes.names (expr_of nodes) args)
arg_first nodes scope (arg.Expr e) args = refl
arg_first nodes scope (arg.SizeOf n) args = refl

pub arg_put : (nodes : Nodes) (scope : CScope) (given : List CArg) (i : ℕ) (now after whole : List Instr) → i < length given
    → after ≡ now ++ arg_code nodes scope (get_or given i no_arg_given)
    → now ++ args_code scope (args_in nodes.names (expr_of nodes) (drop i given)) ≡ whole
    → after ++ args_code scope (args_in nodes.names (expr_of nodes) (drop (i + 1) given)) ≡ whole
arg_put nodes scope given i now after whole within e h =
    ap (λ (us : List Instr). us ++ args_code scope (args_in nodes.names (expr_of nodes) (drop (i + 1) given))) e
    ∙ (append_assoc now (arg_code nodes scope (get_or given i no_arg_given)) (args_code scope (args_in nodes.names (expr_of nodes) (drop (i + 1) given)))
    ∙ (ap (λ (us : List Instr). now ++ us) (sym (ap (λ (as_ : List CArg). args_code scope (args_in nodes.names (expr_of nodes) as_)) (unroll given i no_arg_given within) ∙ arg_first nodes scope (get_or given i no_arg_given) (drop (i + 1) given))) ∙ h))

type_first : (nodes : Nodes) (scope : CScope) (a : CArg) (args : List CArg) → arg_types scope (args_in nodes.names (expr_of nodes) (a ∷ args)) ≡ arg_type nodes scope a ∷ arg_types scope (args_in nodes.names (expr_of nodes) args)
type_first nodes scope (arg.Expr e) args = refl
type_first nodes scope (arg.SizeOf n) args = refl

passes_first : (nodes : Nodes) (params : List CParam) (i : ℕ) (t : Option by_name.ExprType) (ts : List (Option by_name.ExprType)) → passable (map (param_tree nodes.names) (drop i params)) (t ∷ ts) ≡ (fits_first (map (param_tree nodes.names) (drop i params)) t && passable (map (param_tree nodes.names) (drop (i + 1) params)) ts)
passes_first nodes [] zero t ts = refl
passes_first nodes [] (suc i) t ts = refl
passes_first nodes (p ∷ ps) zero None ts = refl
passes_first nodes (p ∷ ps) zero (Some t) ts = refl
passes_first nodes (p ∷ ps) (suc i) t ts = passes_first nodes ps i t ts ∙ ap (λ (n : ℕ). fits_first (map (param_tree nodes.names) (drop i ps)) t && passable (map (param_tree nodes.names) (drop n (p ∷ ps))) ts) (further i)
  where
    further : (n : ℕ) → suc (n + 1) ≡ suc n + 1
    further n = omega arith

and_assoc : (a b c : Bool) → (a && (b && c)) ≡ ((a && b) && c)
and_assoc true b c = refl
and_assoc false b c = refl

pub arg_passed : (nodes : Nodes) (scope : CScope) (params : List CParam) (given : List CArg) (i : ℕ) (fits next whole : Bool) (t : Option by_name.ExprType) (ok : Bool) → i < length given
    → t ≡ arg_type nodes scope (get_or given i no_arg_given) → ok ≡ fits_first (map (param_tree nodes.names) (drop i params)) t → next ≡ (fits && ok)
    → (fits && takes_from nodes scope params given i) ≡ whole → (next && takes_from nodes scope params given (i + 1)) ≡ whole
arg_passed nodes scope params given i fits next whole t ok within e f g h =
    let step : takes_from nodes scope params given i ≡ (fits_first (map (param_tree nodes.names) (drop i params)) (arg_type nodes scope (get_or given i no_arg_given)) && takes_from nodes scope params given (i + 1)) =
    ap (λ (as_ : List CArg). passable (map (param_tree nodes.names) (drop i params)) (arg_types scope (args_in nodes.names (expr_of nodes) as_))) (unroll given i no_arg_given within)
    ∙ (ap (passable (map (param_tree nodes.names) (drop i params))) (type_first nodes scope (get_or given i no_arg_given) (drop (i + 1) given))
    ∙ passes_first nodes params i (arg_type nodes scope (get_or given i no_arg_given)) (arg_types scope (args_in nodes.names (expr_of nodes) (drop (i + 1) given)))) in
    let same : ok ≡ fits_first (map (param_tree nodes.names) (drop i params)) (arg_type nodes scope (get_or given i no_arg_given)) = f ∙ ap (fits_first (map (param_tree nodes.names) (drop i params))) e in
    ap (λ (b : Bool). b && takes_from nodes scope params given (i + 1)) (g ∙ ap (λ (b : Bool). fits && b) same)
    ∙ (sym (and_assoc fits (fits_first (map (param_tree nodes.names) (drop i params)) (arg_type nodes scope (get_or given i no_arg_given))) (takes_from nodes scope params given (i + 1)))
    ∙ (ap (λ (b : Bool). fits && b) (sym step) ∙ h))

none_passed : (nodes : Nodes) (scope : CScope) (given : List CArg) → passable [] (arg_types scope (args_in nodes.names (expr_of nodes) (drop (length given) given))) ≡ true
none_passed nodes scope [] = refl
none_passed nodes scope (a ∷ given) = none_passed nodes scope given

all_passed : (nodes : Nodes) (scope : CScope) (params : List CParam) (given : List CArg) → takes_from nodes scope params given (length given) ≡ nat_le (length params) (length given)
all_passed nodes scope [] [] = refl
all_passed nodes scope [] (a ∷ given) = none_passed nodes scope given ∙ sym (le-leb 0 (suc (length given)) (omega arith))
all_passed nodes scope (p ∷ params) [] = sym (lt-leb (suc (length params)) 0 (omega arith))
all_passed nodes scope (p ∷ params) (a ∷ given) = all_passed nodes scope params given ∙ less_on (length params) (length given)
  where
    less_on : (m n : ℕ) → nat_le m n ≡ nat_le (suc m) (suc n)
    less_on m n = by (nat_le m n) refl
      where
        by : (b : Bool) → nat_le m n ≡ b → nat_le m n ≡ nat_le (suc m) (suc n)
        by true e = e ∙ sym (le-leb (suc m) (suc n) (omega (arith, leb-true m n e)))
        by false e = e ∙ sym (lt-leb (suc m) (suc n) (omega (arith, leb-false m n e)))

pub args_passed : (nodes : Nodes) (scope : CScope) (params : List CParam) (given : List CArg) (i : ℕ) (fits whole : Bool) → i ≡ length given → (fits && takes_from nodes scope params given i) ≡ whole → (fits && nat_le (length params) (length given)) ≡ whole
args_passed nodes scope params given i fits whole e h = ap (λ (b : Bool). fits && b) (sym (all_passed nodes scope params given)) ∙ (ap (λ (k : ℕ). fits && takes_from nodes scope params given k) (sym e) ∙ h)

pub args_counted : (nodes : Nodes) (given : List CArg) → arg_count (args_in nodes.names (expr_of nodes) given) ≡ length given
args_counted nodes [] = refl
args_counted nodes (arg.Expr e ∷ given) = ap suc (args_counted nodes given)
args_counted nodes (arg.SizeOf n ∷ given) = ap suc (args_counted nodes given)
