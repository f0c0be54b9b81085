-- The values that are given to a call, by their numbers, in the order in which its method declares its arguments.
use Rattle.std.specs.Prelude.{ℕ, List, [], ◌∷◌, ◌++◌, map, Option, Some, None, bytes_eq}
use Rattle.std.specs.List.{find}
use Rattle.wf_base.specs.BaseTable.{row_of}
use Rattle.wf_ast.specs.declared.numbers.ExprId.{ExprId}
use Rattle.wf_ast.specs.declared.parsed.Given.{Given}
use Rattle.wf_named.specs.NamedTree.{NamedExprTree}
use Rattle.wf_named.specs.NamedTrees.{expr_at}
use Rattle.wf_names_rules.specs.declared.callees.Callee.{Callee}
use Rattle.wf_names_rules.specs.declared.callees.Callee.TheVariants as callees
use Rattle.wf_names_rules.specs.Declarations.{is_spelt}
use Rattle.wf_names_resolve.specs.Resolved.{NamedGiven}

abbrev pub value_in : Option Given → List ExprId
value_in None = []
value_in (Some g) = g.value ∷ []

abbrev pub values_named : List Given → (wanted : List ℕ) → List ExprId
values_named given [] = []
values_named given (text ∷ texts) = value_in (find (λ g. is_spelt text g.name) given) ++ values_named given texts

abbrev pub values_spelt : (bytes : ℕ → List ℕ) → List Given → (wanted : List (List ℕ)) → List ExprId
values_spelt bytes given [] = []
values_spelt bytes given (name ∷ names) = value_in (find (λ g. bytes_eq name (bytes g.name.text.0)) given) ++ values_spelt bytes given names

abbrev pub values_for : (bytes : ℕ → List ℕ) → (args : ℕ → List ℕ) → Callee → List Given → List ExprId
values_for bytes args (callees.Own m) given = values_named given (args m)
values_for bytes args (callees.Base sig) given = values_spelt bytes given (map (λ arg. arg.0) (row_of sig).args)
values_for bytes args _ given = []

-- What is given, with the trees of its values.
abbrev pub given_tree : List NamedExprTree → Given → NamedGiven
given_tree ts g = record { name = g.name; value = expr_at ts g.value }

abbrev pub given_trees : List NamedExprTree → List Given → List NamedGiven
given_trees ts gs = map (given_tree ts) gs
