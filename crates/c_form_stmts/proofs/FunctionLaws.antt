-- A function is formed where its parameters, its locals and its body are, one after the other.
use Rattle.std.proofs.Common.{◌≡◌, ℕ, Bool, true, false, not, ◌&&◌, List, [], ◌∷◌, ◌++◌, map, Option, refl, sym, ◌∙◌, ap}
use Rattle.std.specs.List.{list_all}
use Rattle.std.specs.Option.{option_map}
use Rattle.std.proofs.lemmas.List.{map-append}
use Rattle.std.proofs.lemmas.List.Folds.{list_all-append}
use Rattle.c_text.specs.declared.kinds.Linkage.{Linkage}
use Rattle.c_text.specs.CTree.{TypeTree, Code, ParamTree, LocalTree, ItemTree}
use Rattle.c_meaning.specs.CTypes.{CScope, local_name, is_known, structs_of, scope_of}
use Rattle.c_meaning.specs.UnitForm.{is_among, all_distinct, is_library, is_result, own_names, formed_locals, Checked, checked, formed_function}
use Rattle.c_form_stmts.specs.Names.{are_new, is_own, with_names, params_fit, locals_fit}
use Rattle.c_text.specs.CNodes.{type_in, param_tree, local_tree, expr_of, code_of}
use Rattle.c_form_exprs.specs.Front.{Front, Within, front_items, scope_in}
use Rattle.c_form_stmts.specs.declared.functions.Parts.{Parts}
use Rattle.c_form_stmts.specs.Functions.{formed_body, formed_parts}
use Rattle.c_form_stmts.proofs.NameLemmas.{new_from_none, new_append, params_by, locals_by}

all_same : {X : Type 0} (p q : X → Bool) → ((x : X) → p x ≡ q x) → (xs : List X) → list_all p xs ≡ list_all q xs
all_same p q is [] = refl
all_same p q is (x ∷ xs) = ap (λ b. b && list_all p xs) (is x) ∙ ap (λ b. q x && b) (all_same p q is xs)

shuffle : (k n m o p f b : Bool) → (k && (((n && m) && (o && p)) && (f && b))) ≡ ((k && (o && n)) && ((f && (p && m)) && b))
shuffle false n m o p f b = refl
shuffle true true true true true true b = refl
shuffle true true true true true false b = refl
shuffle true true true true false true b = refl
shuffle true true true true false false b = refl
shuffle true true true false p f b = refl
shuffle true true false true true true b = refl
shuffle true true false true true false b = refl
shuffle true true false true false true b = refl
shuffle true true false true false false b = refl
shuffle true true false false p f b = refl
shuffle true false m true p f b = refl
shuffle true false m false p f b = refl

pub function_by : (before : List ItemTree) (all : List (List ℕ)) (taken : List ℕ → Bool) → ((q : List ℕ) → taken q ≡ is_among all q) → (linkage : Linkage) (t : Option TypeTree) (params : List ParamTree) (locals : List LocalTree) (body : Code) → formed_function before all linkage t params locals body ≡ (is_result t && (params_fit taken (scope_of before []) params && (locals_fit taken (scope_of before params) locals && formed_body (checked before linkage t (params ++ map local_name locals) body))))
function_by before all taken is linkage t params locals body =
    ap (λ b. is_result t && b) (ap (λ b. K && (b && (F && B))) own ∙ (shuffle K N M O P F B ∙ (ap (λ b. b && ((F && (P && M)) && B)) (sym (params_by taken (scope_of before []) params)) ∙ ap (λ b. params_fit taken (scope_of before []) params && (b && B)) (sym (locals_by taken (scope_of before params) locals)))))
  where
    K : Bool
    K = list_all (λ p. is_known (structs_of before) p.kind) params

    N : Bool
    N = are_new [] (map (λ it. it.name) params)

    M : Bool
    M = are_new (map (λ it. it.name) params) (map (λ it. it.name) (map local_name locals))

    O : Bool
    O = list_all (λ p. is_own taken p.name) params

    P : Bool
    P = list_all (λ p. is_own taken p.name) (map local_name locals)

    F : Bool
    F = formed_locals (scope_of before params) locals

    B : Bool
    B = formed_body (checked before linkage t (params ++ map local_name locals) body)

    owned : list_all (λ (it : ParamTree). not (is_among all it.name) && not (is_library it.name)) (params ++ map local_name locals) ≡ (O && P)
    owned = all_same (λ it. not (is_among all it.name) && not (is_library it.name)) (λ it. is_own taken it.name) (λ it. ap (λ b. not b && not (is_library it.name)) (sym (is it.name))) (params ++ map local_name locals) ∙ list_all-append (λ it. is_own taken it.name) params (map local_name locals)

    distinct : all_distinct (map (λ (it : ParamTree). it.name) (params ++ map local_name locals)) ≡ (N && M)
    distinct = ap all_distinct (map-append (λ (it : ParamTree). it.name) params (map local_name locals)) ∙ (sym (new_from_none (map (λ it. it.name) params ++ map (λ it. it.name) (map local_name locals))) ∙ new_append [] (map (λ it. it.name) params) (map (λ it. it.name) (map local_name locals)))

    own : own_names (params ++ map local_name locals) all ≡ ((N && M) && (O && P))
    own = ap (λ b. b && list_all (λ (it : ParamTree). not (is_among all it.name) && not (is_library it.name)) (params ++ map local_name locals)) distinct ∙ ap (λ b. (N && M) && b) owned

module _ (front : Front) (all : List (List ℕ)) (taken : List ℕ → Bool) (is : (q : List ℕ) → taken q ≡ is_among all q) (parts : Parts) where
  abbrev params_in : List ParamTree
  params_in = map (param_tree front.nodes.names) parts.params.now

  abbrev locals_in : List LocalTree
  locals_in = map (local_tree front.nodes.names (expr_of front.nodes)) parts.locals.now

  abbrev result_in : Option TypeTree
  result_in = option_map (type_in front.nodes.names) parts.result_type

  abbrev checked_here : Checked
  checked_here = checked (front_items front) parts.linkage result_in (params_in ++ map local_name locals_in) (code_of front.nodes parts.body.0)

  parts_by : (r p l : Bool) → is_result result_in ≡ r → params_fit taken (scope_of (front_items front) []) params_in ≡ p → locals_fit taken (scope_of (front_items front) params_in) locals_in ≡ l → formed_parts front all parts ≡ (r && (p && (l && formed_body checked_here)))
  parts_by r p l a b d = function_by (front_items front) all taken is parts.linkage result_in params_in locals_in (code_of front.nodes parts.body.0) ∙ (ap (λ x. x && (params_fit taken (scope_of (front_items front) []) params_in && (locals_fit taken (scope_of (front_items front) params_in) locals_in && formed_body checked_here))) a ∙ (ap (λ x. r && (x && (locals_fit taken (scope_of (front_items front) params_in) locals_in && formed_body checked_here))) b ∙ ap (λ x. r && (p && (x && formed_body checked_here))) d))

  pub no_result : false ≡ is_result result_in → false ≡ formed_parts front all parts
  no_result a = sym (parts_by false (params_fit taken (scope_of (front_items front) []) params_in) (locals_fit taken (scope_of (front_items front) params_in) locals_in) (sym a) refl refl)

  module _ (result_is : true ≡ is_result result_in) (s0 : Within) (first : s0 ≡ record { front = front; names = [] }) where
    told_first : (f : Bool) → f ≡ params_fit taken (scope_in s0) (map (param_tree s0.front.nodes.names) parts.params.now) → params_fit taken (scope_of (front_items front) []) params_in ≡ f
    told_first f h = sym (h ∙ ap (λ (w : Within). params_fit taken (scope_in w) (map (param_tree w.front.nodes.names) parts.params.now)) first)

    pub no_params : (f : Bool) → f ≡ false → f ≡ params_fit taken (scope_in s0) (map (param_tree s0.front.nodes.names) parts.params.now) → false ≡ formed_parts front all parts
    no_params f isnt h = sym (parts_by true false (locals_fit taken (scope_of (front_items front) params_in) locals_in) (sym result_is) (told_first f h ∙ isnt) refl)

    module _ (s1 : Within) (p : Bool) (met : p ≡ true) (params_are : p ≡ params_fit taken (scope_in s0) (map (param_tree s0.front.nodes.names) parts.params.now)) (front1 : p ≡ true → s1.front ≡ s0.front) (added1 : p ≡ true → scope_in s1 ≡ with_names (scope_in s0) (map (param_tree s0.front.nodes.names) parts.params.now)) where
      scope1 : scope_in s1 ≡ scope_of (front_items front) params_in
      scope1 = added1 met ∙ ap (λ (w : Within). with_names (scope_in w) (map (param_tree w.front.nodes.names) parts.params.now)) first

      at1 : s1.front ≡ front
      at1 = front1 met ∙ ap (λ (w : Within). w.front) first

      told_second : (f : Bool) → f ≡ locals_fit taken (scope_in s1) (map (local_tree s1.front.nodes.names (expr_of s1.front.nodes)) parts.locals.now) → locals_fit taken (scope_of (front_items front) params_in) locals_in ≡ f
      told_second f h = sym (h ∙ (ap (λ (sc : CScope). locals_fit taken sc (map (local_tree s1.front.nodes.names (expr_of s1.front.nodes)) parts.locals.now)) scope1 ∙ ap (λ (fr : Front). locals_fit taken (scope_of (front_items front) params_in) (map (local_tree fr.nodes.names (expr_of fr.nodes)) parts.locals.now)) at1))

      pub no_locals : (f : Bool) → f ≡ false → f ≡ locals_fit taken (scope_in s1) (map (local_tree s1.front.nodes.names (expr_of s1.front.nodes)) parts.locals.now) → false ≡ formed_parts front all parts
      no_locals f isnt h = sym (parts_by true true false (sym result_is) (told_first p params_are ∙ met) (told_second f h ∙ isnt))

      pub body_left : (s2 : Within) (l : Bool) → l ≡ true → l ≡ locals_fit taken (scope_in s1) (map (local_tree s1.front.nodes.names (expr_of s1.front.nodes)) parts.locals.now) → (l ≡ true → s2.front ≡ s1.front) → (l ≡ true → scope_in s2 ≡ with_names (scope_in s1) (map local_name (map (local_tree s1.front.nodes.names (expr_of s1.front.nodes)) parts.locals.now))) → formed_body (record { scope = scope_in s2; linkage = parts.linkage; result_type = option_map (type_in s2.front.nodes.names) parts.result_type; body = code_of s2.front.nodes parts.body.0 }) ≡ formed_parts front all parts
      body_left s2 l done locals_are front2 added2 =
          let at2 : s2.front ≡ front = front2 done ∙ at1 in
          let scope2 : scope_in s2 ≡ scope_of (front_items front) (params_in ++ map local_name locals_in) = added2 done ∙ (ap (λ (sc : CScope). with_names sc (map local_name (map (local_tree s1.front.nodes.names (expr_of s1.front.nodes)) parts.locals.now))) scope1 ∙ ap (λ (fr : Front). with_names (scope_of (front_items front) params_in) (map local_name (map (local_tree fr.nodes.names (expr_of fr.nodes)) parts.locals.now))) at1) in
          ap (λ (sc : CScope). formed_body (record { scope = sc; linkage = parts.linkage; result_type = option_map (type_in s2.front.nodes.names) parts.result_type; body = code_of s2.front.nodes parts.body.0 })) scope2
          ∙ (ap (λ (fr : Front). formed_body (record { scope = scope_of (front_items front) (params_in ++ map local_name locals_in); linkage = parts.linkage; result_type = option_map (type_in fr.nodes.names) parts.result_type; body = code_of fr.nodes parts.body.0 })) at2
          ∙ sym (parts_by true true true (sym result_is) (told_first p params_are ∙ met) (told_second l locals_are ∙ done)))
