-- Matching a goal with an axiom, and its premises there: what each letter stands for, told by the goal's tree and by the
-- trees that are given.
use Rattle.std.specs.Prelude.{ℕ, Bool, false, not, ◌&&◌, ◌||◌, List, [], ◌∷◌, map, Option, None, Some, Result, Ok, Err, option_and_then, option_map, if◌then◌else◌, nat_eq}
use Rattle.std.specs.List.{find}
use Rattle.std.specs.Cmp.Lexicographic.{pointwise}
use Rattle.wf_ast.specs.declared.numbers.ExprId.{ExprId}
use Rattle.wf_ast.specs.declared.numbers.TextId.{TextId}
use Rattle.wf_ast.specs.declared.typed_nodes.TypedNodes.{TypedNodes}
use Rattle.wf_ast.specs.TypedTree.{NumTree, number, link, plus, CondTree, compare, Order}
use Rattle.wf_ast.specs.TypedTrees.{OperatorKind, ordering, no_place, num_in, tree_of, text_of}
use Rattle.wf_ast.specs.Same.{same_num, same_order}
use Rattle.wf_facts_exprs.specs.declared.facts.Cmp.{Cmp}
use Rattle.wf_facts_exprs.specs.Claims.{SideTree, single, sum_of, Claim, compared, order_of}
use Rattle.wf_axioms.specs.declared.axioms.Letter.{Letter}
use Rattle.wf_axioms.specs.declared.axioms.Letter.TheVariants.{A, B, C, D, B0, C0}
use Rattle.wf_axioms.specs.declared.axioms.Term.{Term}
use Rattle.wf_axioms.specs.declared.axioms.Term.TheVariants.{One, Sum, Zero}
use Rattle.wf_axioms.specs.declared.axioms.Axiom.{Axiom}
use Rattle.wf_axioms.specs.declared.asked.AxiomFault.{AxiomFault}
use Rattle.wf_axioms.specs.declared.asked.AxiomFault.TheVariants.{NotTheForm, UnboundLetter}
use Rattle.wf_axioms.specs.Axioms.{row_of, letter_text}

-- The tree that each letter stands for; None where it stands for none.
pub record Trees : Type 0 where
  pub a : Option NumTree
  pub b : Option NumTree
  pub c : Option NumTree
  pub d : Option NumTree
  pub b0 : Option NumTree
  pub c0 : Option NumTree

abbrev pub no_trees : Trees
no_trees = record { a = None; b = None; c = None; d = None; b0 = None; c0 = None }

abbrev pub stands_for : Trees → Letter → Option NumTree
stands_for ts A = ts.a
stands_for ts B = ts.b
stands_for ts C = ts.c
stands_for ts D = ts.d
stands_for ts B0 = ts.b0
stands_for ts C0 = ts.c0

-- The letter stands for this tree from now on.
abbrev pub with_tree : Letter → NumTree → Trees → Trees
with_tree A t ts = record { a = Some t; b = ts.b; c = ts.c; d = ts.d; b0 = ts.b0; c0 = ts.c0 }
with_tree B t ts = record { a = ts.a; b = Some t; c = ts.c; d = ts.d; b0 = ts.b0; c0 = ts.c0 }
with_tree C t ts = record { a = ts.a; b = ts.b; c = Some t; d = ts.d; b0 = ts.b0; c0 = ts.c0 }
with_tree D t ts = record { a = ts.a; b = ts.b; c = ts.c; d = Some t; b0 = ts.b0; c0 = ts.c0 }
with_tree B0 t ts = record { a = ts.a; b = ts.b; c = ts.c; d = ts.d; b0 = Some t; c0 = ts.c0 }
with_tree C0 t ts = record { a = ts.a; b = ts.b; c = ts.c; d = ts.d; b0 = ts.b0; c0 = Some t }

-- A letter that occurs again has to stand for the same tree.
abbrev pub bind_again : Option NumTree → Letter → NumTree → Trees → Option Trees
bind_again None l t ts = Some (with_tree l t ts)
bind_again (Some u) l t ts = if same_num u t then Some ts else None

abbrev pub bind : Letter → NumTree → Trees → Option Trees
bind l t ts = bind_again (stands_for ts l) l t ts

-- The operands of a `+` between two; None for every other tree.
abbrev pub summands : NumTree → Option (NumTree × NumTree)
summands (link at sign plus bits false t u) = Some (t, u)
summands t = None

-- A term matches a tree: a letter every tree, a sum a `+` between two operands and no other tree, and 0 none.
abbrev pub matched_term : Term → NumTree → Trees → Option Trees
matched_term (One l) t ts = bind l t ts
matched_term (Sum l m) t ts = option_and_then (λ p. option_and_then (bind m p.1) (bind l p.0 ts)) (summands t)
matched_term Zero t ts = None

-- The two sides of a comparison of numbers, and how they compare; None for every other condition.
abbrev pub comparison_in : CondTree → Option (NumTree × Order × NumTree)
comparison_in (compare at sign t op u) = Some (t, op, u)
comparison_in goal = None

-- What the letters stand for where two sides compare as what follows by the axiom; None where they don't.
abbrev pub matched_sides : Axiom → NumTree × Order × NumTree → Option Trees
matched_sides a c =
    if same_order c.1 (order_of (row_of a).goal.1)
    then option_and_then (matched_term (row_of a).goal.2 c.2) (matched_term (row_of a).goal.0 c.0 no_trees)
    else None

-- And those where the goal has the axiom's form.
abbrev pub matched : Axiom → CondTree → Option Trees
matched a goal = option_and_then (matched_sides a) (comparison_in goal)

-- A letter is free in an axiom where a premise has it and the goal doesn't.
abbrev pub letter_number : Letter → ℕ
letter_number A = 0
letter_number B = 1
letter_number C = 2
letter_number D = 3
letter_number B0 = 4
letter_number C0 = 5

abbrev pub in_term : Letter → Term → Bool
in_term l (One m) = nat_eq (letter_number l) (letter_number m)
in_term l (Sum m n) = nat_eq (letter_number l) (letter_number m) || nat_eq (letter_number l) (letter_number n)
in_term l Zero = false

abbrev pub in_comparison : Letter → Term × Cmp × Term → Bool
in_comparison l c = in_term l c.0 || in_term l c.2

abbrev pub in_some : Letter → List (Term × Cmp × Term) → Bool
in_some l [] = false
in_some l (c ∷ cs) = in_comparison l c || in_some l cs

abbrev pub is_free : Axiom → Letter → Bool
is_free a l = in_some l (row_of a).premises && not (in_comparison l (row_of a).goal)

-- The letter that is written so, if one is.
abbrev pub letter_named : List ℕ → Option Letter
letter_named text = find (λ l. pointwise nat_eq (letter_text l) text) (A ∷ B ∷ C ∷ D ∷ B0 ∷ C0 ∷ [])

-- A given letter has to be free, and has to stand for no tree yet.
abbrev pub bind_new : Option NumTree → Letter → NumTree → Trees → Option Trees
bind_new None l t ts = Some (with_tree l t ts)
bind_new (Some u) l t ts = None

abbrev pub bind_free : Axiom → NumTree → Trees → Letter → Option Trees
bind_free a t ts l = if is_free a l then bind_new (stands_for ts l) l t ts else None

abbrev pub with_one : Axiom → List ℕ × NumTree → Trees → Option Trees
with_one a g ts = option_and_then (bind_free a g.1 ts) (letter_named g.0)

abbrev pub with_given : Axiom → List (List ℕ × NumTree) → Trees → Option Trees
with_given a [] ts = Some ts
with_given a (g ∷ gs) ts = option_and_then (with_given a gs) (with_one a g ts)

-- The premises as claims; None where one of their letters stands for no tree.
abbrev pub side_of_term : Trees → Term → Option SideTree
side_of_term ts (One l) = option_map single (stands_for ts l)
side_of_term ts (Sum l m) = option_and_then (λ t. option_map (sum_of t) (stands_for ts m)) (stands_for ts l)
side_of_term ts Zero = Some (single (number no_place 0))

abbrev pub claim_of : Trees → Term × Cmp × Term → Option Claim
claim_of ts c = option_and_then (λ x. option_map (compared x (order_of c.1)) (side_of_term ts c.2)) (side_of_term ts c.0)

abbrev pub claims_of : Trees → List (Term × Cmp × Term) → Option (List Claim)
claims_of ts [] = Some []
claims_of ts (c ∷ cs) = option_and_then (λ f. option_map (λ fs. f ∷ fs) (claims_of ts cs)) (claim_of ts c)

abbrev pub unless_unbound : Option (List Claim) → Result (List Claim) AxiomFault
unless_unbound None = Err UnboundLetter
unless_unbound (Some fs) = Ok fs

abbrev pub after_matching : Axiom → List (List ℕ × NumTree) → Option Trees → Result (List Claim) AxiomFault
after_matching a given None = Err NotTheForm
after_matching a given (Some ts) = unless_unbound (option_and_then (λ us. claims_of us (row_of a).premises) (with_given a given ts))

-- What the axiom asks for where this is its goal and these letters are given.
abbrev pub premises_for : Axiom → CondTree → List (List ℕ × NumTree) → Result (List Claim) AxiomFault
premises_for a goal given = after_matching a given (matched a goal)

-- The letters that are given, with their trees.
abbrev pub given_trees : TypedNodes → List (TextId × ExprId) → List (List ℕ × NumTree)
given_trees nodes given = map (λ g. (text_of nodes g.0, num_in (tree_of nodes g.1))) given

-- How the operators of a kind compare.
abbrev pub order_by : OperatorKind → Option Order
order_by (ordering op) = Some op
order_by sort = None
