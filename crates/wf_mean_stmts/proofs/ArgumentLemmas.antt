-- The values of a call's arguments.
use Rattle.std.proofs.Common.{◌≡◌, ℕ, zero, suc, ◌<◌, false, List, [], ◌∷◌, length, map, drop, get_or, Option, Some, None, refl, sym, ap, ◌∙◌, arith}
use Rattle.wf_ast.specs.declared.declarations.Var.{Var}
use Rattle.wf_ast.specs.declared.numbers.ExprId.{ExprId}
use Rattle.wf_ast.specs.declared.typed_nodes.TypedNodes.{TypedNodes}
use Rattle.wf_ast.specs.TypedTree.{ValueTree}
use Rattle.wf_ast.specs.TypedTrees.{tree_of}
use Rattle.wf_ast.specs.TypedPackage.{Variable, variable_of}
use Rattle.wf_ast.specs.Value.{State, Value, value_of}
use Rattle.wf_meaning.specs.SourceStep.{cons_some, values_of}
use Rattle.wf_mean_stmts.specs.Arguments.{Fills, fitting_value, in_front}

none_behind : (v : Option Value) → cons_some v None ≡ None
none_behind None = refl
none_behind (Some v) = refl

-- Arguments that aren't as many as the method's.
others : (s : State) (xs : List Variable) (ts : List ValueTree) → (length xs ≡ length ts → ⊥) → values_of s xs ts ≡ None
others s [] [] h = absurd (h refl)
others s [] (t ∷ ts) h = refl
others s (x ∷ xs) [] h = refl
others s (x ∷ xs) (t ∷ ts) h = ap (cons_some _) (others s xs ts (λ e. h (omega (arith, e)))) ∙ none_behind _

pub too_many_or_few : (s : State) (xs : List Variable) (ts : List ValueTree) (slots : List Value) → (length xs ≡ length ts → ⊥) → Fills false (values_of s xs ts) slots
too_many_or_few s xs ts slots h = rw (others s xs ts h) tt

drop_at : {X : Type 0} (xs : List X) (i : ℕ) (d : X) → i < length xs → drop i xs ≡ get_or xs i d ∷ drop (suc i) xs
drop_at [] i d h = absurd (omega (arith, h))
drop_at (x ∷ xs) zero d h = refl
drop_at (x ∷ xs) (suc i) d h = drop_at xs i d (omega (arith, h))

none_fits : (s : State) (x : Variable) (xs : List Variable) (t : ValueTree) (ts : List ValueTree) → None ≡ fitting_value x.ty (value_of s t) → values_of s (x ∷ xs) (t ∷ ts) ≡ None
none_fits s x xs t ts e = ap (λ v. cons_some v (values_of s xs ts)) (sym e)

-- An argument that is stuck, or leaves its type.
pub stuck_at : (s : State) (nodes : TypedNodes) (declared : List Var) (args : List ExprId) (front : List Value) (slots : List Value) (values : Option (List Value)) (i : ℕ) (x : Var) (e : ExprId) → i < length declared → i < length args
    → None ≡ fitting_value (get_or declared i x).ty (value_of s (tree_of nodes (get_or args i e)))
    → values ≡ in_front front (values_of s (map (variable_of nodes) (drop i declared)) (map (tree_of nodes) (drop i args)))
    → Fills false values slots
stuck_at s nodes declared args front slots values i x e h k none is =
    let v = variable_of nodes (get_or declared i x) in
    let vs = map (variable_of nodes) (drop (suc i) declared) in
    let t = tree_of nodes (get_or args i e) in
    let ts = map (tree_of nodes) (drop (suc i) args) in
    let xs : map (variable_of nodes) (drop i declared) ≡ v ∷ vs = ap (map (variable_of nodes)) (drop_at declared i x h) in
    let ys : map (tree_of nodes) (drop i args) ≡ t ∷ ts = ap (map (tree_of nodes)) (drop_at args i e k) in
    let all : values_of s (map (variable_of nodes) (drop i declared)) (map (tree_of nodes) (drop i args)) ≡ None = ap (λ zs. values_of s zs (map (tree_of nodes) (drop i args))) xs ∙ ap (values_of s (v ∷ vs)) ys ∙ none_fits s v vs t ts none in
    let none_at_all : values ≡ None = is ∙ ap (in_front front) all in
    rw none_at_all tt
