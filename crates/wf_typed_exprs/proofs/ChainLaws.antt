-- The node of a chain makes the chain's tree, and its operands have the kinds that its operator takes.
use Rattle.std.proofs.Common.{◌≡◌, ℕ, ◌^◌, Bool, true, false, ◌&&◌, ◌||◌, List, [], ◌∷◌, length, map, Option, Some, None, nat_lt, refl, sym, ap, ◌∙◌, subst, arith}
use Rattle.std.specs.Prelude.{option_and_then, option_map, if◌then◌else◌}
use Rattle.std.specs.Bool.{⊤}
use Rattle.std.specs.List.{list_all}
use Rattle.std.proofs.lemmas.Bool.Decides.{nat_tests}
use Rattle.wf_text.specs.declared.place.Place.{Place}
use Rattle.wf_base.specs.declared.widths.Width.{Width}
use Rattle.wf_ast.specs.declared.numbers.ExprId.{ExprId}
use Rattle.wf_ast.specs.declared.operators.Op.{Op}
use Rattle.wf_ast.specs.declared.operators.Op.TheVariants as ops
use Rattle.wf_ast.specs.declared.types.Ty.{Ty}
use Rattle.wf_ast.specs.declared.types.Ty.TheVariants as types
use Rattle.wf_ast.specs.declared.typed_code.Expr.TheVariants as exprs
use Rattle.wf_ast.specs.declared.typed_nodes.TypedNodes.{TypedNodes}
use Rattle.wf_ast.specs.TypedTree.{Arith, plus, times, bits_and, bits_or, bits_xor, less, at_most, equal, differs, at_least, greater}
use Rattle.wf_ast.specs.TypedTrees.{OperatorKind, arithmetic, ordering, joining, operator_kind, made_or_number, tree_of, type_of_node, chain_of}
use Rattle.wf_ast.specs.TypedInvariant.{is_numeric, is_logical, is_state, chain_fits, node_fits}
use Rattle.wf_ast.specs.WellTyped.{is_shift}
use Rattle.wf_ast.specs.OperatorForms.{repeats}
use Rattle.wf_named.specs.NamedTree.{NamedExprTree, chain, NamedLinkTrees, no_link, link}
use Rattle.wf_named.specs.WellNamed.{named_expr, named_links}
use Rattle.wf_named.specs.Grammar.{has_operands, by_grammar, links_by_grammar}
use Rattle.wf_types_rules.specs.declared.meanings.Meaning.{Meaning}
use Rattle.wf_types_rules.specs.declared.meanings.Meaning.TheVariants as meanings
use Rattle.wf_types_rules.specs.declared.meanings.Operand.{Operand}
use Rattle.wf_types_rules.specs.Meanings as meant
use Rattle.wf_types_rules.specs.declared.settings.Setting.{Setting}
use Rattle.wf_types_rules.specs.Meanings.{all_of, place_of}
use Rattle.wf_types_rules.specs.Operands.{first_of, first_not, not_of_one_width, not_shifted, not_compared, not_taken, width_given, constant_value, constants_in, bits_in, constant_of, number_in, computed, given, meaning_of_operator}
use Rattle.wf_types_rules.specs.ExprTypes.{in_front, operand_at, meaning, operands_behind, operands}
use Rattle.wf_typed_tree.specs.ElaboratedExprs.{type_meant, number_or, signs_in, expr_tree, link_trees}
use Rattle.wf_typed_tree.specs.MeaningTrees.{HasMeaning}
use Rattle.wf_typed_tree.proofs.NumberLemmas.{both, and-true, or-left, or-right, then-parts, in-64}
use Rattle.wf_typed_tree.proofs.OperandLaws.{taken-parts, first-holds, one-width-parts}
use Rattle.wf_typed_tree.proofs.AllOperators.{shift-parts}
use Rattle.wf_typed_tree.proofs.ExprLaws.{expr-means}
use Rattle.wf_typed_exprs.specs.declared.operands.MadeOperands.{MadeOperands}
use Rattle.wf_typed_exprs.specs.Nodes.{number_meant, StandsForExpr, MakesExpr}
use Rattle.wf_typed_exprs.specs.Chains.{StandForLinks, AreOperands}
use Rattle.wf_typed_exprs.specs.Right.{Around, IsRight, AreRight}
use Rattle.wf_typed_exprs.proofs.FormLaws.{number-numeric, flag-logical, status-state, constant-fits}

-- What operands before others are made of.
record Front (s : Setting) (t : NamedExprTree) (others : Option (List Operand)) (all : List Operand) : Type 0 where
  of : Meaning
  rest : List Operand
  means : meaning s t ≡ Some of
  behind : others ≡ Some rest
  is : operand_at (place_of t) of ∷ rest ≡ all

front : (s : Setting) (t : NamedExprTree) (others : Option (List Operand)) (all : List Operand) → in_front (option_map (operand_at (place_of t)) (meaning s t)) others ≡ Some all → Front s t others all
front s t others all h = by_parts (meaning s t) others refl refl h
  where
    by_parts : (m : Option Meaning) (os : Option (List Operand)) → meaning s t ≡ m → others ≡ os → in_front (option_map (operand_at (place_of t)) m) os ≡ Some all → Front s t others all
    by_parts (Some m) (Some os) e f k = record { of = m; rest = os; means = e; behind = f; is = cc k }
    by_parts (Some m) None e f k = absurd (cc k)
    by_parts None os e f k = absurd (cc k)

-- The nodes have the types of these operands.
abbrev TypesAre : TypedNodes → List ExprId → List Operand → Type 0
TypesAre nodes [] [] = ⊤
TypesAre nodes (e ∷ es) (o ∷ os) = (type_of_node nodes e.0 ≡ type_meant (Some o.of)) × TypesAre nodes es os
TypesAre nodes es os = ⊥

links-typed : (s : Setting) (nodes : TypedNodes) (links : NamedLinkTrees) (es : List ExprId) (os : List Operand) → StandForLinks s links nodes es → operands_behind s links ≡ Some os → TypesAre nodes es os
links-typed s nodes no_link [] os h k = let e : [] ≡ os = cc k in subst (TypesAre nodes []) e tt
links-typed s nodes (link sign t others) (e ∷ es) os h k =
    let p = front s t (operands_behind s others) os k in
    let here : type_of_node nodes e.0 ≡ type_meant (Some p.of) = h.0.typed ∙ ap type_meant p.means in
    subst (TypesAre nodes (e ∷ es)) p.is (here, links-typed s nodes others es p.rest h.1 p.behind)
links-typed s nodes no_link (e ∷ es) os h k = absurd h
links-typed s nodes (link sign t others) [] os h k = absurd h

-- Tests of all operands, by those of their types.
abbrev AllPass : (Meaning → Bool) → List Operand → Type 0
AllPass test [] = ⊤
AllPass test (o ∷ os) = (test o.of ≡ true) × AllPass test os

types-pass : (nodes : TypedNodes) (test : Meaning → Bool) (kind : Ty → Bool) → ((m : Meaning) → test m ≡ true → kind (type_meant (Some m)) ≡ true)
    → (es : List ExprId) (os : List Operand) → TypesAre nodes es os → AllPass test os → list_all (λ e. kind (type_of_node nodes e.0)) es ≡ true
types-pass nodes test kind each [] [] h k = refl
types-pass nodes test kind each (e ∷ es) (o ∷ os) h k =
    let here : kind (type_of_node nodes e.0) ≡ true = rw h.0 (each o.of k.0) in
    and-true (kind (type_of_node nodes e.0)) _ here (types-pass nodes test kind each es os h.1 k.1)
types-pass nodes test kind each [] (o ∷ os) h k = absurd h
types-pass nodes test kind each (e ∷ es) [] h k = absurd h

all-flags : (os : List Operand) → first_not meant.is_flag os ≡ None → AllPass meant.is_flag os
all-flags [] h = tt
all-flags (o ∷ os) h = let p = first-holds meant.is_flag o os h in (p.0, all-flags os p.1)

all-numbers : (width : Option Width) (os : List Operand) → not_of_one_width width os ≡ None → AllPass meant.is_number os
all-numbers width [] h = tt
all-numbers width (o ∷ os) h = let p = one-width-parts width o os h in (p.number, all-numbers (first_of width (meant.width_of o.of)) os p.behind)

-- An arithmetic operator gives numbers.
computed-numeric : (op : Arith) (os : List Operand) (ns : Option (List ℕ)) (ty : Ty) → computed op os ns ≡ Some (meanings.Typed ty) → is_numeric ty ≡ true
computed-numeric op os (Some ns) ty h = by_value (constant_value op (bits_in (width_given op os)) ns) h
  where
    by_value : (v : Option ℕ) → constant_of (width_given op os) v ≡ Some (meanings.Typed ty) → is_numeric ty ≡ true
    by_value None k = absurd (cc k)
    by_value (Some v) k = let e : meanings.Constant (width_given op os) v ≡ meanings.Typed ty = cc k in absurd (cc e)
computed-numeric op os None ty h = by_width (width_given op os) h
  where
    by_width : (w : Option Width) → number_in w ≡ Some (meanings.Typed ty) → is_numeric ty ≡ true
    by_width None k = absurd (cc k)
    by_width (Some w) k = let e : meanings.Typed (all_of w) ≡ meanings.Typed ty = cc k in let f : all_of w ≡ ty = cc e in subst (λ t. is_numeric t ≡ true) f refl

chosen : {X : Type 0} (b : Bool) (x y z : X) → b ≡ true → (if b then x else y) ≡ z → x ≡ z
chosen true x y z e h = h
chosen false x y z e h = absurd (cc e)

passed : {X : Type 0} (b : Bool) (x y z : X) → b ≡ false → (if b then x else y) ≡ z → y ≡ z
passed false x y z e h = h
passed true x y z e h = absurd (cc e)

flag-given : (ty : Ty) → Some (meanings.Typed types.Flag) ≡ Some (meanings.Typed ty) → is_logical ty ≡ true
flag-given ty h = let e : meanings.Typed types.Flag ≡ meanings.Typed ty = cc h in let f : types.Flag ≡ ty = cc e in subst (λ t. is_logical t ≡ true) f refl

module _ (nodes : TypedNodes) where
  numbers-fit : (op : Arith) (e f : ExprId) (es : List ExprId) (os : List Operand) (ty : Ty) → is_shift op ≡ false → TypesAre nodes (e ∷ f ∷ es) os
      → not_taken (arithmetic op) os ≡ None → given (arithmetic op) os ≡ Some (meanings.Typed ty) → chain_fits nodes (arithmetic op) (e ∷ f ∷ es) ty ≡ true
  numbers-fit op e f es os ty shift h taken gives =
      let numbers = all-numbers None os (passed (is_shift op) (not_shifted os) (not_of_one_width None os) None shift taken) in
      and-true (is_numeric ty) _ (computed-numeric op os (constants_in os) ty gives) (types-pass nodes meant.is_number is_numeric number-numeric (e ∷ f ∷ es) os h numbers)

  flags-fit : (every : Bool) (e f : ExprId) (es : List ExprId) (os : List Operand) (ty : Ty) → TypesAre nodes (e ∷ f ∷ es) os
      → not_taken (joining every) os ≡ None → given (joining every) os ≡ Some (meanings.Typed ty) → chain_fits nodes (joining every) (e ∷ f ∷ es) ty ≡ true
  flags-fit every e f es os ty h taken gives =
      and-true (is_logical ty) _ (flag-given ty gives) (types-pass nodes meant.is_flag is_logical flag-logical (e ∷ f ∷ es) os h (all-flags os taken))

  numbers-compared : (e f : ExprId) (o q : Operand) → TypesAre nodes (e ∷ f ∷ []) (o ∷ q ∷ []) → not_of_one_width None (o ∷ q ∷ []) ≡ None
      → (is_numeric (type_of_node nodes e.0) && is_numeric (type_of_node nodes f.0)) ≡ true
  numbers-compared e f o q h taken =
      let numbers = all-numbers None (o ∷ q ∷ []) taken in
      and-true (is_numeric (type_of_node nodes e.0)) (is_numeric (type_of_node nodes f.0)) (rw h.0 (number-numeric o.of numbers.0)) (rw h.1.0 (number-numeric q.of numbers.1.0))

  all-compared : (e f : ExprId) (o q : Operand) → TypesAre nodes (e ∷ f ∷ []) (o ∷ q ∷ []) → not_compared (o ∷ q ∷ []) ≡ None
      → ((is_numeric (type_of_node nodes e.0) && is_numeric (type_of_node nodes f.0)) || (is_state (type_of_node nodes e.0) && is_state (type_of_node nodes f.0))) ≡ true
  all-compared e f o q h taken = by_test (meant.is_status o.of) refl taken
    where
      by_test : (b : Bool) → meant.is_status o.of ≡ b → (if b then first_not meant.is_status (q ∷ []) else not_of_one_width None (o ∷ q ∷ [])) ≡ None
          → ((is_numeric (type_of_node nodes e.0) && is_numeric (type_of_node nodes f.0)) || (is_state (type_of_node nodes e.0) && is_state (type_of_node nodes f.0))) ≡ true
      by_test true is k =
          let p = first-holds meant.is_status q [] k in
          or-right (is_numeric (type_of_node nodes e.0) && is_numeric (type_of_node nodes f.0)) (is_state (type_of_node nodes e.0) && is_state (type_of_node nodes f.0))
          (and-true (is_state (type_of_node nodes e.0)) (is_state (type_of_node nodes f.0)) (rw h.0 (status-state o.of is)) (rw h.1.0 (status-state q.of p.0)))
      by_test false is k =
          or-left (is_numeric (type_of_node nodes e.0) && is_numeric (type_of_node nodes f.0)) (is_state (type_of_node nodes e.0) && is_state (type_of_node nodes f.0)) (numbers-compared e f o q h k)

  -- Two operands.
  two-fit : (sort : OperatorKind) (e f : ExprId) (o q : Operand) (ty : Ty) → TypesAre nodes (e ∷ f ∷ []) (o ∷ q ∷ []) → not_taken sort (o ∷ q ∷ []) ≡ None
      → given sort (o ∷ q ∷ []) ≡ Some (meanings.Typed ty) → chain_fits nodes sort (e ∷ f ∷ []) ty ≡ true
  two-fit (arithmetic op) e f o q ty h taken gives = by_shift (is_shift op) refl
    where
      by_shift : (b : Bool) → is_shift op ≡ b → chain_fits nodes (arithmetic op) (e ∷ f ∷ []) ty ≡ true
      by_shift false is = numbers-fit op e f [] (o ∷ q ∷ []) ty is h taken gives
      by_shift true is =
          let p = shift-parts o q (chosen (is_shift op) (not_shifted (o ∷ q ∷ [])) (not_of_one_width None (o ∷ q ∷ [])) None is taken) in
          and-true (is_numeric ty) _ (computed-numeric op (o ∷ q ∷ []) (constants_in (o ∷ q ∷ [])) ty gives)
          (types-pass nodes meant.is_number is_numeric number-numeric (e ∷ f ∷ []) (o ∷ q ∷ []) h (p.left, (p.right, tt)))
  two-fit (joining every) e f o q ty h taken gives = flags-fit every e f [] (o ∷ q ∷ []) ty h taken gives
  two-fit (ordering equal) e f o q ty h taken gives = and-true (is_logical ty) _ (flag-given ty gives) (all-compared e f o q h taken)
  two-fit (ordering differs) e f o q ty h taken gives = and-true (is_logical ty) _ (flag-given ty gives) (all-compared e f o q h taken)
  two-fit (ordering less) e f o q ty h taken gives = and-true (is_logical ty) _ (flag-given ty gives) (numbers-compared e f o q h taken)
  two-fit (ordering at_most) e f o q ty h taken gives = and-true (is_logical ty) _ (flag-given ty gives) (numbers-compared e f o q h taken)
  two-fit (ordering at_least) e f o q ty h taken gives = and-true (is_logical ty) _ (flag-given ty gives) (numbers-compared e f o q h taken)
  two-fit (ordering greater) e f o q ty h taken gives = and-true (is_logical ty) _ (flag-given ty gives) (numbers-compared e f o q h taken)

  -- Two or more, of an operator that may stand in a row.
  row-fit : (op : Op) (e f : ExprId) (es : List ExprId) (os : List Operand) (ty : Ty) → repeats op ≡ true → TypesAre nodes (e ∷ f ∷ es) os → not_taken (operator_kind op) os ≡ None
      → given (operator_kind op) os ≡ Some (meanings.Typed ty) → chain_fits nodes (operator_kind op) (e ∷ f ∷ es) ty ≡ true
  row-fit ops.Add e f es os ty r h taken gives = numbers-fit plus e f es os ty refl h taken gives
  row-fit ops.Mul e f es os ty r h taken gives = numbers-fit times e f es os ty refl h taken gives
  row-fit ops.BitAnd e f es os ty r h taken gives = numbers-fit bits_and e f es os ty refl h taken gives
  row-fit ops.BitOr e f es os ty r h taken gives = numbers-fit bits_or e f es os ty refl h taken gives
  row-fit ops.BitXor e f es os ty r h taken gives = numbers-fit bits_xor e f es os ty refl h taken gives
  row-fit ops.And e f es os ty r h taken gives = flags-fit true e f es os ty h taken gives
  row-fit ops.Or e f es os ty r h taken gives = flags-fit false e f es os ty h taken gives
  row-fit op e f es os ty r h taken gives = absurd (cc r)

module _ (s : Setting) (nodes : TypedNodes) where
  chain-kinds : (op : Op) (links : NamedLinkTrees) (e : ExprId) (es : List ExprId) (o : Operand) (os : List Operand) (ty : Ty) → has_operands op links ≡ true
      → type_of_node nodes e.0 ≡ type_meant (Some o.of) → StandForLinks s links nodes es → operands_behind s links ≡ Some os
      → not_taken (operator_kind op) (o ∷ os) ≡ None → given (operator_kind op) (o ∷ os) ≡ Some (meanings.Typed ty) → chain_fits nodes (operator_kind op) (e ∷ es) ty ≡ true
  chain-kinds op no_link e es o os ty g t h k taken gives = absurd (cc g)
  chain-kinds op (link sign u no_link) e (f ∷ []) o os ty g t h k taken gives =
      let p = front s u (Some []) os k in
      let none : [] ≡ p.rest = let same : Some [] ≡ Some p.rest = p.behind in cc same in
      let q = operand_at (place_of u) p.of in
      let two : q ∷ [] ≡ os = ap (λ rest. q ∷ rest) none ∙ p.is in
      let T : List Operand → Type 0 = λ all. not_taken (operator_kind op) (o ∷ all) ≡ None in
      let G : List Operand → Type 0 = λ all. given (operator_kind op) (o ∷ all) ≡ Some (meanings.Typed ty) in
      two-fit nodes (operator_kind op) e f o q ty (t, (h.0.typed ∙ ap type_meant p.means, tt)) (subst T (sym two) taken) (subst G (sym two) gives)
  chain-kinds op (link sign u (link sign_behind v others)) e (f ∷ es) o os ty g t h k taken gives =
      row-fit nodes op e f es (o ∷ os) ty g (t, links-typed s nodes (link sign u (link sign_behind v others)) (f ∷ es) os h k) taken gives
  chain-kinds op (link sign u no_link) e [] o os ty g t h k taken gives = absurd h
  chain-kinds op (link sign u no_link) e (f ∷ f2 ∷ es) o os ty g t h k taken gives = absurd h.1
  chain-kinds op (link sign u (link sign_behind v others)) e [] o os ty g t h k taken gives = absurd h

  links-below : (links : NamedLinkTrees) (es : List ExprId) → StandForLinks s links nodes es → list_all (λ part. nat_lt part.0 (length nodes.exprs)) es ≡ true
  links-below no_link [] h = refl
  links-below (link sign t others) (e ∷ es) h =
      let here : nat_lt e.0 (length nodes.exprs) ≡ true = let l = h.0.there in grind (arith, nat_tests, l) in
      and-true (nat_lt e.0 (length nodes.exprs)) _ here (links-below others es h.1)
  links-below no_link (e ∷ es) h = absurd h
  links-below (link sign t others) [] h = absurd h

  links-made : (links : NamedLinkTrees) (es : List ExprId) → StandForLinks s links nodes es → map (tree_of nodes) es ≡ link_trees s links
  links-made no_link [] h = refl
  links-made (link sign t others) (e ∷ es) h = let p = h.0.tree_is in let q = links-made others es h.1 in rw (p, q) refl
  links-made no_link (e ∷ es) h = absurd h
  links-made (link sign t others) [] h = absurd h

  number-first : (at : Place) (signs : List Place) (ty : Ty) (k : Option ℕ) (op : Op) (es : List ExprId)
      → made_or_number (tree_of nodes) at signs ty k (exprs.Chain op es) ≡ number_or at k (chain_of at signs ty (operator_kind op) (map (tree_of nodes) es))
  number-first at signs ty None op es = refl
  number-first at signs ty (Some v) op es = refl

  -- The operands of a chain that breaks no rule break none.
  links-right : (k : ℕ) (around : Around s k) (links : NamedLinkTrees) (os : List Operand) → links_by_grammar links ≡ true → named_links around.names links ≡ true
      → operands_behind s links ≡ Some os → AreRight s k links
  links-right k around no_link os g n h = tt
  links-right k around (link sign t others) os g n h =
      let grammar = both (by_grammar t) (links_by_grammar others) g in
      let named = both (named_expr around.names t) (named_links around.names others) n in
      let p = front s t (operands_behind s others) os h in
      (record { around = around; grammar = grammar.0; named = named.0; of = p.of; means = p.means }, links-right k around others p.rest grammar.1 named.1 p.behind)

  pub chain-right : (k : ℕ) (op : Op) (first : NamedExprTree) (links : NamedLinkTrees) (at : Place) → IsRight s k (chain op first links at) → IsRight s k first × AreRight s k links
  chain-right k op first links at right =
      let grammar = both (has_operands op links) (by_grammar first && links_by_grammar links) right.grammar in
      let inside = both (by_grammar first) (links_by_grammar links) grammar.1 in
      let named = both (named_expr right.around.names first) (named_links right.around.names links) right.named in
      let all = then-parts (meaning_of_operator (operator_kind op)) (operands s first links) right.of right.means in
      let p = front s first (operands_behind s links) all.of all.is in
      (record { around = right.around; grammar = inside.0; named = named.0; of = p.of; means = p.means }, links-right k right.around links p.rest inside.1 named.1 p.behind)

  -- A constant has a number of its width.
  number-fits : (e : NamedExprTree) (right : IsRight s (length nodes.statuses) e) (w : Option Width) (v : ℕ) → meaning s e ≡ Some (meanings.Constant w v) → nat_lt v (2 ^ 64) ≡ true
  number-fits e right w v h =
      let it : HasMeaning right.around.context (meanings.Constant w v) (expr_tree s e) = expr-means right.around.names s right.around.context right.around.agree e (meanings.Constant w v) right.grammar right.named h in
      in-64 w v it.fits

  chain-fit : (op : Op) (first : NamedExprTree) (links : NamedLinkTrees) (at : Place) (e : ExprId) (es : List ExprId) (m : Meaning) → IsRight s (length nodes.statuses) (chain op first links at)
      → StandsForExpr s first nodes e → StandForLinks s links nodes es → meaning s (chain op first links at) ≡ Some m
      → node_fits nodes (type_meant (Some m)) (number_meant (Some m)) (exprs.Chain op (e ∷ es)) ≡ true
  chain-fit op first links at e es (meanings.Constant w v) right h hs is = constant-fits nodes w v (exprs.Chain op (e ∷ es)) (number-fits (chain op first links at) right w v is)
  chain-fit op first links at e es (meanings.Typed ty) right h hs is =
      let grammar = both (has_operands op links) (by_grammar first && links_by_grammar links) right.grammar in
      let all = then-parts (meaning_of_operator (operator_kind op)) (operands s first links) (meanings.Typed ty) is in
      let p = front s first (operands_behind s links) all.of all.is in
      let O : List Operand → Type 0 = λ os. meaning_of_operator (operator_kind op) os ≡ Some (meanings.Typed ty) in
      let o = operand_at (place_of first) p.of in
      let taken = taken-parts (operator_kind op) (o ∷ p.rest) (meanings.Typed ty) (subst O (sym p.is) all.gives) in
      chain-kinds op links e es o p.rest ty grammar.0 (h.typed ∙ ap type_meant p.means) hs p.behind taken.taken taken.gives

  pub chain-makes : (op : Op) (first : NamedExprTree) (links : NamedLinkTrees) (at : Place) (all : MadeOperands) → IsRight s (length nodes.statuses) (chain op first links at)
      → AreOperands s first links nodes all
      → MakesExpr s (chain op first links at) nodes (record { node = record { expr = exprs.Chain op all.parts; at = at; signs = all.signs }; of = option_and_then (meaning_of_operator (operator_kind op)) all.of })
  chain-makes op first links at all right h =
      let es = h.head ∷ h.others in
      let made : MakesExpr s (chain op first links at) nodes (record { node = record { expr = exprs.Chain op es; at = at; signs = signs_in links }; of = option_and_then (meaning_of_operator (operator_kind op)) (operands s first links) }) =
      record {
        placed = refl;
        means = refl;
        below = (let here : nat_lt h.head.0 (length nodes.exprs) ≡ true = let l = h.stands.there in grind (arith, nat_tests, l) in
            and-true (nat_lt h.head.0 (length nodes.exprs)) _ here (links-below links h.others h.stand));
        fits =
            let F : Option Meaning → Type 0 = λ o. node_fits nodes (type_meant o) (number_meant o) (exprs.Chain op es) ≡ true in
            subst F (sym right.means) (chain-fit op first links at h.head h.others right.of right h.stands h.stand right.means);
        tree_is =
            number-first at (signs_in links) (type_meant (meaning s (chain op first links at))) (number_meant (meaning s (chain op first links at))) op es
            ∙ ap (λ ts. number_or at (number_meant (meaning s (chain op first links at))) (chain_of at (signs_in links) (type_meant (meaning s (chain op first links at))) (operator_kind op) ts))
            (let t = h.stands.tree_is in let ts = links-made links h.others h.stand in let e : map (tree_of nodes) es ≡ expr_tree s first ∷ link_trees s links = rw (t, ts) refl in e);
      } in
      rw (h.parts, h.signs, h.means) made
