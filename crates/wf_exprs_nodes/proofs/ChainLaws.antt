-- What a chain of numbers is in C: one operation, or link after link.
use Rattle.std.proofs.Common.{◌≡◌, ℕ, ◌+◌, ◌<◌, ◌≤◌, Bool, true, false, List, [], ◌∷◌, length, map, drop, get_or, refl, sym, ap, ◌∙◌, subst, arith}
use Rattle.std.specs.Prelude.{nat_eq, if◌then◌else◌}
use Rattle.std.proofs.Math.ListN.{drop_of_length-le}
use Rattle.std.proofs.lemmas.List.{drop_more}
use Rattle.wf_text.specs.declared.place.Place.{Place}
use Rattle.wf_num.specs.declared.c_arithmetic.CTy.{CTy}
use Rattle.wf_num.specs.declared.c_arithmetic.CTy.TheVariants as types
use Rattle.wf_ast.specs.declared.numbers.ExprId.{ExprId}
use Rattle.wf_ast.specs.declared.types.Ty.{Ty}
use Rattle.wf_ast.specs.declared.typed_nodes.TypedNodes.{TypedNodes}
use Rattle.wf_ast.specs.TypedTree.{Arith, plus, minus, times, divided, remainder, shift_left, shift_right, bits_and, bits_or, bits_xor, mod_plus, mod_minus, mod_times, mod_shift_left, sat_plus, sat_minus, NumTree, ValueTree, link}
use Rattle.wf_ast.specs.TypedTrees.{OperatorKind, arithmetic, ordering, joining, num_in, num_chain, chain_of, num_type, tree_of}
use Rattle.wf_ast.specs.NodeKinds.{node_number}
use Rattle.wf_ast.specs.OperatorForms.{is_arithmetic}
use Rattle.c_text.specs.CTree.{ExprTree, operation, Operands, no_operand, operand}
use Rattle.wf_exprs.specs.Names.{Names}
use Rattle.wf_exprs.specs.Words.{two}
use Rattle.wf_exprs.specs.Exprs.{Rated, rated, rank, calculated, firm, balanced, op_of, with_operand, chained, linked, lowered}
use Rattle.wf_exprs.specs.Making.{HasRated, c_op, linked_by, rated_in}
use Rattle.wf_exprs.specs.declared.rated.Rated.{Rated as RatedNode}
use Rattle.c_text.specs.declared.ids.CExprId.{CExprId}
use Rattle.c_text.specs.CNodes.{Nodes, expr_of, operands_in}
use Rattle.wf_exprs_nodes.specs.Trees.{HasOperands, repeats_arith, repeats, chain_on, numbers_behind}
use Rattle.wf_exprs_nodes.proofs.OperandLaws.{has_is}
use Rattle.wf_exprs_nodes.proofs.SliceLaws.{rated_is}

-- Operands one after the other.
abbrev pub appended : Operands → Operands → Operands
appended no_operand other = other
appended (operand e es) other = operand e (appended es other)

pub appended_none : (es : Operands) → appended es no_operand ≡ es
appended_none no_operand = refl
appended_none (operand e es) = ap (operand e) (appended_none es)

pub appended_one : (es : Operands) (e : ExprTree) (other : Operands) → appended (with_operand es e) other ≡ appended es (operand e other)
appended_one no_operand e other = refl
appended_one (operand x es) e other = ap (operand x) (appended_one es e other)

same_rank : (ty : CTy) → nat_eq (rank ty) (rank ty) ≡ true
same_rank types.Int = refl
same_rank types.U32 = refl
same_rank types.U64 = refl

choose : {X : Type 0} (b : Bool) (x : X) → (if b then x else x) ≡ x
choose true x = refl
choose false x = refl

-- What has the type of its width stands as it is.
firm_same : (bits : ℕ) (code : ExprTree) → firm bits (rated code (calculated bits)) ≡ code
firm_same bits code = rw (same_rank (calculated bits)) refl

balanced_same : (bits : ℕ) (code : ExprTree) (b : Rated) → balanced bits (rated code (calculated bits)) b ≡ code
balanced_same bits code b = ap (λ e. if nat_eq (rank b.ty) (rank (calculated bits)) then code else e) (firm_same bits code) ∙ choose (nat_eq (rank b.ty) (rank (calculated bits))) code

-- One more operand of an operation with an operator that repeats.
linked_on : (op : Arith) (bits : ℕ) (f s : ExprTree) (es : Operands) (b : Rated) → repeats_arith op ≡ true
    → linked op bits true (rated (operation (op_of op) f s es) (calculated bits)) b ≡ operation (op_of op) f s (with_operand es b.code)
linked_on plus bits f s es b r = ap (λ e. chained true (op_of plus) e b.code) (balanced_same bits (operation (op_of plus) f s es) b)
linked_on times bits f s es b r = ap (λ e. chained true (op_of times) e b.code) (balanced_same bits (operation (op_of times) f s es) b)
linked_on bits_and bits f s es b r = ap (λ e. chained true (op_of bits_and) e b.code) (balanced_same bits (operation (op_of bits_and) f s es) b)
linked_on bits_or bits f s es b r = ap (λ e. chained true (op_of bits_or) e b.code) (balanced_same bits (operation (op_of bits_or) f s es) b)
linked_on bits_xor bits f s es b r = ap (λ e. chained true (op_of bits_xor) e b.code) (balanced_same bits (operation (op_of bits_xor) f s es) b)
linked_on minus bits f s es b r = absurd (cc r)
linked_on divided bits f s es b r = absurd (cc r)
linked_on remainder bits f s es b r = absurd (cc r)
linked_on shift_left bits f s es b r = absurd (cc r)
linked_on shift_right bits f s es b r = absurd (cc r)
linked_on mod_plus bits f s es b r = absurd (cc r)
linked_on mod_minus bits f s es b r = absurd (cc r)
linked_on mod_times bits f s es b r = absurd (cc r)
linked_on mod_shift_left bits f s es b r = absurd (cc r)
linked_on sat_plus bits f s es b r = absurd (cc r)
linked_on sat_minus bits f s es b r = absurd (cc r)

-- The first two operands.
linked_first : (op : Arith) (bits : ℕ) (a b : Rated) → repeats_arith op ≡ true → linked op bits false a b ≡ two (op_of op) (balanced bits a b) b.code
linked_first plus bits a b r = refl
linked_first times bits a b r = refl
linked_first bits_and bits a b r = refl
linked_first bits_or bits a b r = refl
linked_first bits_xor bits a b r = refl
linked_first minus bits a b r = absurd (cc r)
linked_first divided bits a b r = absurd (cc r)
linked_first remainder bits a b r = absurd (cc r)
linked_first shift_left bits a b r = absurd (cc r)
linked_first shift_right bits a b r = absurd (cc r)
linked_first mod_plus bits a b r = absurd (cc r)
linked_first mod_minus bits a b r = absurd (cc r)
linked_first mod_times bits a b r = absurd (cc r)
linked_first mod_shift_left bits a b r = absurd (cc r)
linked_first sat_plus bits a b r = absurd (cc r)
linked_first sat_minus bits a b r = absurd (cc r)

-- Links of an operator that doesn't repeat don't depend on what stands left of them.
linked_apart : (op : Arith) (bits : ℕ) (joined : Bool) (a b : Rated) → repeats_arith op ≡ false → linked op bits joined a b ≡ linked op bits false a b
linked_apart plus bits joined a b r = absurd (cc r)
linked_apart times bits joined a b r = absurd (cc r)
linked_apart bits_and bits joined a b r = absurd (cc r)
linked_apart bits_or bits joined a b r = absurd (cc r)
linked_apart bits_xor bits joined a b r = absurd (cc r)
linked_apart minus bits joined a b r = refl
linked_apart divided bits joined a b r = refl
linked_apart remainder bits joined a b r = refl
linked_apart shift_left bits joined a b r = refl
linked_apart shift_right bits joined a b r = refl
linked_apart mod_plus bits joined a b r = refl
linked_apart mod_minus bits joined a b r = refl
linked_apart mod_times bits joined a b r = refl
linked_apart mod_shift_left bits joined a b r = refl
linked_apart sat_plus bits joined a b r = refl
linked_apart sat_minus bits joined a b r = refl

pub map_numbers : (nodes : TypedNodes) (es : List ExprId) → map num_in (map (tree_of nodes) es) ≡ map (node_number nodes) es
map_numbers nodes [] = refl
map_numbers nodes (e ∷ es) = ap (λ ts. node_number nodes e ∷ ts) (map_numbers nodes es)

module _ (names : Names) where
  apart_on : (at : Place) (op : Arith) (bits : ℕ) (joined : Bool) (so_far : NumTree) (ts : List ValueTree) (signs : List Place) → repeats_arith op ≡ false
      → lowered names (num_chain at op bits joined so_far ts signs) ≡ chain_on names (arithmetic op) bits (lowered names so_far) (map num_in ts)
  apart_on at op bits joined so_far [] signs r = refl
  apart_on at op bits joined so_far (t ∷ ts) [] r =
      apart_on at op bits true (link at at op bits joined so_far (num_in t)) ts [] r
      ∙ ap (λ e. chain_on names (arithmetic op) bits (rated e (calculated bits)) (map num_in ts)) (linked_apart op bits joined (lowered names so_far) (lowered names (num_in t)) r)
  apart_on at op bits joined so_far (t ∷ ts) (sign ∷ signs) r =
      apart_on at op bits true (link at sign op bits joined so_far (num_in t)) ts signs r
      ∙ ap (λ e. chain_on names (arithmetic op) bits (rated e (calculated bits)) (map num_in ts)) (linked_apart op bits joined (lowered names so_far) (lowered names (num_in t)) r)

  -- The chain goes on from its first operand.
  pub links_begin : (nodes : TypedNodes) (at : Place) (signs : List Place) (ty : Ty) (sort : OperatorKind) (es : List ExprId) (d : ExprId) → is_arithmetic sort ≡ true → repeats sort ≡ false → 1 < length es
      → chain_on names sort (num_type ty).bits (lowered names (node_number nodes (get_or es 0 d))) (map (node_number nodes) (drop 1 es)) ≡ lowered names (num_in (chain_of at signs ty sort (map (tree_of nodes) es)))
  links_begin nodes at signs ty (arithmetic op) [] d h r l = absurd (omega (arith, l))
  links_begin nodes at signs ty (arithmetic op) (e ∷ es) d h r l =
      ap (chain_on names (arithmetic op) (num_type ty).bits (lowered names (node_number nodes e))) (sym (map_numbers nodes es))
      ∙ sym (apart_on at op (num_type ty).bits false (node_number nodes e) (map (tree_of nodes) es) signs r)
  links_begin nodes at signs ty (ordering op) es d h r l = absurd (cc h)
  links_begin nodes at signs ty (joining both) es d h r l = absurd (cc h)

  pub links_next : (nodes : TypedNodes) (sort : OperatorKind) (bits : ℕ) (left next all : Rated) (es : List ExprId) (i : ℕ) (d : ExprId) → i < length es
      → chain_on names sort bits left (map (node_number nodes) (drop i es)) ≡ all → next ≡ rated (linked_by sort bits left (lowered names (node_number nodes (get_or es i d)))) (calculated bits)
      → chain_on names sort bits next (map (node_number nodes) (drop (i + 1) es)) ≡ all
  links_next nodes sort bits left next all es i d l h e =
      let P : List ExprId → Type 0 = λ xs. chain_on names sort bits left (map (node_number nodes) xs) ≡ all in
      ap (λ o. chain_on names sort bits o (map (node_number nodes) (drop (i + 1) es))) e ∙ subst P (drop_more es i d l) h

  pub links_end : (nodes : TypedNodes) (sort : OperatorKind) (bits : ℕ) (left all : Rated) (es : List ExprId) (i : ℕ) → length es ≤ i
      → chain_on names sort bits left (map (node_number nodes) (drop i es)) ≡ all → left ≡ all
  links_end nodes sort bits left all es i l h =
      let P : List ExprId → Type 0 = λ xs. chain_on names sort bits left (map (node_number nodes) xs) ≡ all in
      subst P (drop_of_length-le es l) h

  -- A chain with an operator that repeats.
  repeated_on : (at : Place) (op : Arith) (bits : ℕ) (so_far : NumTree) (f s : ExprTree) (es : Operands) (ts : List ValueTree) (signs : List Place) → repeats_arith op ≡ true
      → lowered names so_far ≡ rated (operation (op_of op) f s es) (calculated bits)
      → lowered names (num_chain at op bits true so_far ts signs) ≡ rated (operation (op_of op) f s (appended es (numbers_behind names (map num_in ts)))) (calculated bits)
  repeated_on at op bits so_far f s es [] signs r h = h ∙ ap (λ x. rated (operation (op_of op) f s x) (calculated bits)) (sym (appended_none es))
  repeated_on at op bits so_far f s es (t ∷ ts) [] r h =
      repeated_on at op bits (link at at op bits true so_far (num_in t)) f s (with_operand es (lowered names (num_in t)).code) ts [] r
      (ap (λ a. rated (linked op bits true a (lowered names (num_in t))) (calculated bits)) h ∙ ap (λ e. rated e (calculated bits)) (linked_on op bits f s es (lowered names (num_in t)) r))
      ∙ ap (λ x. rated (operation (op_of op) f s x) (calculated bits)) (appended_one es (lowered names (num_in t)).code (numbers_behind names (map num_in ts)))
  repeated_on at op bits so_far f s es (t ∷ ts) (sign ∷ signs) r h =
      repeated_on at op bits (link at sign op bits true so_far (num_in t)) f s (with_operand es (lowered names (num_in t)).code) ts signs r
      (ap (λ a. rated (linked op bits true a (lowered names (num_in t))) (calculated bits)) h ∙ ap (λ e. rated e (calculated bits)) (linked_on op bits f s es (lowered names (num_in t)) r))
      ∙ ap (λ x. rated (operation (op_of op) f s x) (calculated bits)) (appended_one es (lowered names (num_in t)).code (numbers_behind names (map num_in ts)))

  from_two : (at : Place) (op : Arith) (bits : ℕ) (a b : NumTree) (ts : List ValueTree) (sign : Place) (signs : List Place) → repeats_arith op ≡ true
      → lowered names (num_chain at op bits true (link at sign op bits false a b) ts signs)
      ≡ rated (operation (op_of op) (balanced bits (lowered names a) (lowered names b)) (lowered names b).code (numbers_behind names (map num_in ts))) (calculated bits)
  from_two at op bits a b ts sign signs r =
      repeated_on at op bits (link at sign op bits false a b) (balanced bits (lowered names a) (lowered names b)) (lowered names b).code no_operand ts signs r
      (ap (λ e. rated e (calculated bits)) (linked_first op bits (lowered names a) (lowered names b) r))

  -- The whole chain as one operation.
  pub one_operation : (nodes : TypedNodes) (at : Place) (signs : List Place) (ty : Ty) (sort : OperatorKind) (es : List ExprId) (d : ExprId) → is_arithmetic sort ≡ true → repeats sort ≡ true → 1 < length es
      → rated (operation (c_op sort) (balanced (num_type ty).bits (lowered names (node_number nodes (get_or es 0 d))) (lowered names (node_number nodes (get_or es 1 d)))) (lowered names (node_number nodes (get_or es 1 d))).code (numbers_behind names (map (node_number nodes) (drop 2 es)))) (calculated (num_type ty).bits)
      ≡ lowered names (num_in (chain_of at signs ty sort (map (tree_of nodes) es)))
  one_operation nodes at signs ty (arithmetic op) [] d h r l = absurd (omega (arith, l))
  one_operation nodes at signs ty (arithmetic op) (a ∷ []) d h r l = absurd (omega (arith, l))
  one_operation nodes at [] ty (arithmetic op) (a ∷ b ∷ es) d h r l =
      ap (λ ts. rated (operation (op_of op) (balanced (num_type ty).bits (lowered names (node_number nodes a)) (lowered names (node_number nodes b))) (lowered names (node_number nodes b)).code (numbers_behind names ts)) (calculated (num_type ty).bits)) (sym (map_numbers nodes es))
      ∙ sym (from_two at op (num_type ty).bits (node_number nodes a) (node_number nodes b) (map (tree_of nodes) es) at [] r)
  one_operation nodes at (sign ∷ signs) ty (arithmetic op) (a ∷ b ∷ es) d h r l =
      ap (λ ts. rated (operation (op_of op) (balanced (num_type ty).bits (lowered names (node_number nodes a)) (lowered names (node_number nodes b))) (lowered names (node_number nodes b)).code (numbers_behind names ts)) (calculated (num_type ty).bits)) (sym (map_numbers nodes es))
      ∙ sym (from_two at op (num_type ty).bits (node_number nodes a) (node_number nodes b) (map (tree_of nodes) es) sign signs r)
  one_operation nodes at signs ty (ordering op) es d h r l = absurd (cc h)
  one_operation nodes at signs ty (joining both) es d h r l = absurd (cc h)

  -- Operands one by one.
  pub behind_more : (nodes : TypedNodes) (es : List ExprId) (i : ℕ) (d : ExprId) → i < length es
      → numbers_behind names (map (node_number nodes) (drop i es)) ≡ operand (lowered names (node_number nodes (get_or es i d))).code (numbers_behind names (map (node_number nodes) (drop (i + 1) es)))
  behind_more nodes es i d l = ap (λ xs. numbers_behind names (map (node_number nodes) xs)) (drop_more es i d l)

  pub behind_next : (nodes : TypedNodes) (es : List ExprId) (i : ℕ) (d : ExprId) (so_far all : Operands) → i < length es → appended so_far (numbers_behind names (map (node_number nodes) (drop i es))) ≡ all
      → appended (with_operand so_far (lowered names (node_number nodes (get_or es i d))).code) (numbers_behind names (map (node_number nodes) (drop (i + 1) es))) ≡ all
  behind_next nodes es i d so_far all l h =
      appended_one so_far (lowered names (node_number nodes (get_or es i d))).code (numbers_behind names (map (node_number nodes) (drop (i + 1) es))) ∙ ap (appended so_far) (sym (behind_more nodes es i d l)) ∙ h

  pub behind_end : (nodes : TypedNodes) (es : List ExprId) (i : ℕ) (so_far all : Operands) → length es ≤ i → appended so_far (numbers_behind names (map (node_number nodes) (drop i es))) ≡ all → so_far ≡ all
  behind_end nodes es i so_far all l h =
      let P : List ExprId → Type 0 = λ xs. appended so_far (numbers_behind names (map (node_number nodes) xs)) ≡ all in
      sym (appended_none so_far) ∙ subst P (drop_of_length-le es l) h

  -- The operation of what a unit has is the whole chain.
  pub operation_is : (nodes : TypedNodes) (at : Place) (signs : List Place) (ty : Ty) (sort : OperatorKind) (es : List ExprId) (d : ExprId) (u : Nodes) (first second : RatedNode) (others : List CExprId) (bits : ℕ)
      → is_arithmetic sort ≡ true → repeats sort ≡ true → 1 < length es → bits ≡ (num_type ty).bits
      → HasRated u first (lowered names (node_number nodes (get_or es 0 d))) → HasRated u second (lowered names (node_number nodes (get_or es 1 d))) → HasOperands u others (numbers_behind names (map (node_number nodes) (drop 2 es)))
      → rated (operation (c_op sort) (balanced bits (rated_in u first) (rated_in u second)) (expr_of u second.code.0) (operands_in (expr_of u) others)) (calculated bits) ≡ lowered names (num_in (chain_of at signs ty sort (map (tree_of nodes) es)))
  operation_is nodes at signs ty sort es d u first second others bits h r l w a b o =
      ap (λ x. rated (operation (c_op sort) (balanced x (rated_in u first) (rated_in u second)) (expr_of u second.code.0) (operands_in (expr_of u) others)) (calculated x)) w
      ∙ ap (λ x. rated (operation (c_op sort) (balanced (num_type ty).bits x (rated_in u second)) (expr_of u second.code.0) (operands_in (expr_of u) others)) (calculated (num_type ty).bits)) (rated_is u first (lowered names (node_number nodes (get_or es 0 d))) a)
      ∙ ap (λ x. rated (operation (c_op sort) (balanced (num_type ty).bits (lowered names (node_number nodes (get_or es 0 d))) x) x.code (operands_in (expr_of u) others)) (calculated (num_type ty).bits)) (rated_is u second (lowered names (node_number nodes (get_or es 1 d))) b)
      ∙ ap (λ x. rated (operation (c_op sort) (balanced (num_type ty).bits (lowered names (node_number nodes (get_or es 0 d))) (lowered names (node_number nodes (get_or es 1 d)))) (lowered names (node_number nodes (get_or es 1 d))).code x) (calculated (num_type ty).bits)) (has_is u others (numbers_behind names (map (node_number nodes) (drop 2 es))) o)
      ∙ one_operation nodes at signs ty sort es d h r l

  -- One link more of what a unit has.
  pub link_is : (sort : OperatorKind) (bits own : ℕ) (u : Nodes) (left right : RatedNode) (a b : Rated) → bits ≡ own → HasRated u left a → HasRated u right b
      → rated (linked_by sort bits (rated_in u left) (rated_in u right)) (calculated bits) ≡ rated (linked_by sort own a b) (calculated own)
  link_is sort bits own u left right a b w h k =
      ap (λ x. rated (linked_by sort x (rated_in u left) (rated_in u right)) (calculated x)) w
      ∙ ap (λ x. rated (linked_by sort own x (rated_in u right)) (calculated own)) (rated_is u left a h)
      ∙ ap (λ x. rated (linked_by sort own a x) (calculated own)) (rated_is u right b k)
