-- Functions of numbers alone, by the types of the unit.
use Rattle.std.proofs.Common.{◌≡◌, ℕ, suc, Bool, false, ◌&&◌, List, [], ◌∷◌, map, length, Option, Some, None, refl, sym, arith}
use Rattle.std.proofs.lemmas.Bool.Decides.{nat_tests}
use Rattle.std.specs.List.{list_all}
use Rattle.std.specs.Bool.{◌==◌}
use Rattle.std.specs.Option.{option_map, is_some}
use Rattle.c_text.specs.declared.kinds.Linkage.{Linkage}
use Rattle.c_text.specs.declared.nodes.CType.{CType}
use Rattle.c_text.specs.declared.nodes.CType.TheVariants as type
use Rattle.c_text.specs.declared.nodes.CParam.{CParam}
use Rattle.c_text.specs.declared.nodes.CLocal.{CLocal}
use Rattle.c_text.specs.CTree.{ExprTree}
use Rattle.c_text.specs.CNodes.{Nodes, type_in, param_tree, local_tree, expr_of, code_of}
use Rattle.c_meaning.specs.CTypes.{is_numeric, is_inline, gives_number, no_locals, returned, is_expression}
use Rattle.c_form_exprs.specs.Callable.{is_numeric_type, gives_numeric}

pub numeric_in : (names : List (List ℕ)) (t : CType) → is_numeric (type_in names t) ≡ is_numeric_type t
numeric_in names (type.Uint u) = refl
numeric_in names type.Size = refl
numeric_in names type.Bool = refl
numeric_in names (type.UintPointer u) = refl
numeric_in names (type.StructPointer n) = refl
numeric_in names type.Text = refl

pub gives_in : (names : List (List ℕ)) (t : Option CType) → gives_number (option_map (type_in names) t) ≡ gives_numeric t
gives_in names None = refl
gives_in names (Some t) = numeric_in names t

pub params_in : (names : List (List ℕ)) (ps : List CParam) → list_all (λ p. is_numeric p.kind) (map (param_tree names) ps) ≡ list_all (λ p. is_numeric_type p.kind) ps
params_in names [] = refl
params_in names (p ∷ ps) = rw (numeric_in names p.kind, params_in names ps) refl

more_than_none : (n : ℕ) → (suc n == 0) ≡ false
more_than_none n = grind (arith, nat_tests)

locals_none : (names : List (List ℕ)) (look : ℕ → ExprTree) (ls : List CLocal) → (length ls == 0) ≡ no_locals (map (local_tree names look) ls)
locals_none names look [] = refl
locals_none names look (l ∷ ls) = more_than_none (length ls)

pub callable_by : (nodes : Nodes) (linkage : Linkage) (t : Option CType) (name : List ℕ) (ps : List CParam) (ls : List CLocal) (body : ℕ) (a b c d e : Bool) → a ≡ is_inline linkage → b ≡ gives_numeric t → c ≡ list_all (λ p. is_numeric_type p.kind) ps → d ≡ (length ls == 0) → e ≡ is_some (returned (code_of nodes body)) → (a && (b && (c && (d && e)))) ≡ is_expression (record { linkage = linkage; result_type = option_map (type_in nodes.names) t; name = name; params = map (param_tree nodes.names) ps; locals = map (local_tree nodes.names (expr_of nodes)) ls; body = code_of nodes body })
callable_by nodes linkage t name ps ls body a b c d e p q r s u = rw (p, q, r, s, u, gives_in nodes.names t, params_in nodes.names ps, sym (locals_none nodes.names (expr_of nodes) ls)) refl
