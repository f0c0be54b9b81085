-- Operands and arguments, one after the other.
use Rattle.std.proofs.Common.{◌≡◌, ℕ, suc, Bool, true, false, ◌&&◌, List, [], ◌∷◌, length, map, drop, Option, Some, None, refl, sym, ◌∙◌, ap}
use Rattle.c_text.specs.declared.nodes.CArg.{CArg}
use Rattle.c_text.specs.declared.nodes.CArg.TheVariants as arg
use Rattle.c_text.specs.declared.nodes.CParam.{CParam}
use Rattle.c_text.specs.CTree.{ParamTree}
use Rattle.c_text.specs.CNodes.{Nodes, expr_of, args_in, param_tree}
use Rattle.c_meaning.specs.CTypes as by_name
use Rattle.c_meaning.specs.CTypes.{CScope, arg_types, passable}
use Rattle.c_form_exprs.specs.Spines.{fits_type, arg_type}

-- The arguments after `i` fit the parameters after it.
abbrev pub takes_from : Nodes → CScope → List CParam → List CArg → ℕ → Bool
takes_from nodes scope params given i = passable (map (param_tree nodes.names) (drop i params)) (arg_types scope (args_in nodes.names (expr_of nodes) (drop i given)))

passable_step : (p : ParamTree) (ps : List ParamTree) (t : Option by_name.ExprType) (ts : List (Option by_name.ExprType)) → passable (p ∷ ps) (t ∷ ts) ≡ (fits_type p t && passable ps ts)
passable_step p ps None ts = refl
passable_step p ps (Some t) ts = refl

arg_first : (nodes : Nodes) (scope : CScope) (a : CArg) (args : List CArg) → arg_types scope (args_in nodes.names (expr_of nodes) (a ∷ args)) ≡ arg_type nodes scope a ∷ arg_types scope (args_in nodes.names (expr_of nodes) args)
arg_first nodes scope (arg.Expr e) args = refl
arg_first nodes scope (arg.SizeOf n) args = refl

pub takes_apart : (nodes : Nodes) (scope : CScope) (params : List CParam) (given : List CArg) → (length params ≡ length given → ⊥) → false ≡ passable (map (param_tree nodes.names) params) (arg_types scope (args_in nodes.names (expr_of nodes) given))
takes_apart nodes scope [] [] apart = absurd (apart refl)
takes_apart nodes scope [] (arg.Expr e ∷ given) apart = refl
takes_apart nodes scope [] (arg.SizeOf n ∷ given) apart = refl
takes_apart nodes scope (p ∷ params) [] apart = refl
takes_apart nodes scope (p ∷ params) (a ∷ given) apart =
    let rest = takes_apart nodes scope params given (λ e. apart (ap suc e)) in
    sym (ap (passable (map (param_tree nodes.names) (p ∷ params))) (arg_first nodes scope a given) ∙ (passable_step (param_tree nodes.names p) (map (param_tree nodes.names) params) (arg_type nodes scope a) (arg_types scope (args_in nodes.names (expr_of nodes) given)) ∙ (ap (λ b. fits_type (param_tree nodes.names p) (arg_type nodes scope a) && b) (sym rest) ∙ and_false (fits_type (param_tree nodes.names p) (arg_type nodes scope a)))))
  where
    and_false : (b : Bool) → (b && false) ≡ false
    and_false true = refl
    and_false false = refl
