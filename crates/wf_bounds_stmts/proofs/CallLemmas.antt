-- Calls of methods of the package, by the methods' declarations.
use Rattle.std.proofs.Common.{◌≡◌, ℕ, zero, suc, Bool, true, false, List, [], ◌∷◌, length, map, Option, Some, None, Result, refl, sym, ap, ◌∙◌, subst, arith}
use Rattle.std.specs.Prelude.{option_and_then, option_map, slice_get, unwrap_or}
use Rattle.std.proofs.lemmas.Bool.{and_parts}
use Rattle.std.proofs.lemmas.List.{length-map}
use Rattle.wf_text.specs.declared.place.Place.{Place}
use Rattle.wf_text.specs.declared.rules.Refusal.{Refusal}
use Rattle.wf_text.specs.declared.rules.Rule.TheVariants.{B8}
use Rattle.wf_text.specs.declared.numbers.MethodId.{MethodId}
use Rattle.wf_base.specs.declared.marks.Mark.{Mark}
use Rattle.wf_base.specs.declared.marks.Mark.TheVariants.{Pure}
use Rattle.wf_ast.specs.declared.variables.FieldId.{FieldId}
use Rattle.wf_ast.specs.declared.numbers.ExprId.{ExprId}
use Rattle.wf_ast.specs.declared.declarations.Var.{Var}
use Rattle.wf_ast.specs.declared.declarations.Method.{Method}
use Rattle.wf_ast.specs.declared.typed_code.Block as typed_code
use Rattle.wf_ast.specs.declared.typed_code.Callee.{Callee}
use Rattle.wf_ast.specs.declared.typed_code.Callee.TheVariants as callees
use Rattle.wf_ast.specs.declared.typed_nodes.TypedNodes.{TypedNodes}
use Rattle.wf_ast.specs.TypedTree.{NumType, ValueTree, Target, Called, own, sub, invoke}
use Rattle.wf_ast.specs.TypedTrees.{call_made, mark_of, tree_of}
use Rattle.wf_ast.specs.TypedPackage.{Variable, MethodTree, variable_of, method_of, methods_of, package_of}
use Rattle.wf_ast.specs.WellTyped.{Context, number_of, same_mark, calls_method, fits_type, fit_types, takes_answer, well_simple, well_invoked}
use Rattle.wf_base.specs.Effects.{allows}
use Rattle.wf_facts_exprs.specs.Claims.{Claim}
use Rattle.wf_facts_exprs.specs.Demands.{or_else}
use Rattle.wf_facts.specs.IndexedFacts.{FactList}
use Rattle.wf_bounds_stmts.specs.Requirements.{all_handed, number_type}
use Rattle.wf_bounds_stmts.specs.Targets.{answer_refusal}
use Rattle.wf_bounds_stmts.specs.Calls.{handed_to, handed_to_method, known_to_call, left_by_call, invoke_refusal, invoked, answered_by}
use Rattle.wf_bounds_stmts.specs.Outcomes.{Leaves, Settles}
use Rattle.wf_bounds_stmts.specs.Passing.{KeepsTypes, TakesArgs}
use Rattle.wf_bounds_stmts.proofs.TypeLemmas.{names_there, answer_there}
use Rattle.wf_bounds_stmts.proofs.BaseLemmas.{base_there, settled}

-- The tree of a method by its number.
pub method_tree : (nodes : TypedNodes) (ms : List Method) (bs : List typed_code.Block) (n : ℕ) (m : Method) → length bs ≡ length ms → slice_get ms n ≡ Some m
    → (b : typed_code.Block) × (slice_get (methods_of nodes ms bs) n ≡ Some (method_of nodes m b))
method_tree nodes [] bs n m e h = absurd (cc (h))
method_tree nodes (m' ∷ ms) [] n m e h = absurd (omega (arith, e))
method_tree nodes (m' ∷ ms) (b ∷ bs) zero m e h = (b, ap (λ (it : Option Method). tree it) h)
  where
    tree : Option Method → Option MethodTree
    tree None = None
    tree (Some it) = Some (method_of nodes it b)
method_tree nodes (m' ∷ ms) (b ∷ bs) (suc n) m e h = method_tree nodes ms bs n m (omega (arith, e)) h

-- And the other way round.
pub method_declared : (nodes : TypedNodes) (ms : List Method) (bs : List typed_code.Block) (n : ℕ) (m : Method) (it : MethodTree) → slice_get ms n ≡ Some m → slice_get (methods_of nodes ms bs) n ≡ Some it
    → (b : typed_code.Block) × (it ≡ method_of nodes m b)
method_declared nodes [] bs n m it h k = absurd (cc (h))
method_declared nodes (m' ∷ ms) [] n m it h k = absurd (cc (k))
method_declared nodes (m' ∷ ms) (b ∷ bs) zero m it h k =
    let same : m' ≡ m = cc (h) in
    let is : it ≡ method_of nodes m' b = cc (k) in
    (b, is ∙ ap (λ x. method_of nodes x b) same)
method_declared nodes (m' ∷ ms) (b ∷ bs) (suc n) m it h k = method_declared nodes ms bs n m it h k

types_same : (nodes : TypedNodes) (xs : List Var) → map (λ x. x.ty) (map (variable_of nodes) xs) ≡ map (λ x. x.ty) xs
types_same nodes [] = refl
types_same nodes (x ∷ xs) = ap (λ rest. x.ty ∷ rest) (types_same nodes xs)

fit_long : (c : Context) (xs : List Variable) (ts : List ValueTree) → fit_types c xs ts ≡ true → length ts ≡ length xs
fit_long c [] [] h = refl
fit_long c [] (t ∷ ts) h = absurd (cc (h))
fit_long c (x ∷ xs) [] h = absurd (cc (h))
fit_long c (x ∷ xs) (t ∷ ts) h = let e = fit_long c xs ts (and_parts (fits_type c x.ty t) _ h).1 in omega (arith, e)

-- What a well typed call tells of its method.
pub record IsCallOf (c : Context) (target : Target) (keep : Bool) (mark : Mark) (vs : List ValueTree) (callee : MethodTree) : Type 0 where
  pub fit : fit_types c callee.args vs ≡ true
  pub taken : takes_answer c target keep mark callee.gives ≡ true

invoked_well : (c : Context) (target : Target) (keep : Bool) (mark : Mark) (called : Called) (vs : List ValueTree) (o : Option MethodTree) → well_invoked c target keep mark called vs o ≡ true
    → (callee : MethodTree) × (o ≡ Some callee) × IsCallOf c target keep mark vs callee
invoked_well c target keep mark called vs None h = absurd (cc (h))
invoked_well c target keep mark called vs (Some callee) h =
    let last = and_parts (fit_types c callee.args vs) _ (and_parts (calls_method c called callee) _ (and_parts (allows c.method.mark mark) _ (and_parts (same_mark mark callee.mark) _ h).1).1).1 in
    (callee, refl, record { fit = last.0; taken = by (takes_answer c target keep mark callee.gives) refl (λ e. rw e at last.1) })
  where
    by : (b : Bool) → takes_answer c target keep mark callee.gives ≡ b → (takes_answer c target keep mark callee.gives ≡ false → false ≡ true) → takes_answer c target keep mark callee.gives ≡ true
    by true e k = e
    by false e k = absurd (cc (k e))

pub call_there : (nodes : TypedNodes) (c : Context) (loops : List ℕ) (at : Place) (target : Target) (keep : Bool) (callee : Callee) (vs : List ValueTree)
    → well_simple c loops (call_made nodes (tree_of nodes) at target keep callee vs) ≡ true → names_there c target ≡ true
call_there nodes c loops at target keep (callees.Own m) vs h =
    let it = invoked_well c target keep _ (own m.0) vs (slice_get c.within.methods m.0) h in answer_there c target keep _ it.0.gives it.2.taken
call_there nodes c loops at target keep (callees.Sub x m) vs h =
    let it = invoked_well c target keep _ (sub x.0 m.0) vs (slice_get c.within.methods m.0) h in answer_there c target keep _ it.0.gives it.2.taken
call_there nodes c loops at target keep (callees.Base on sig) vs h = base_there c loops at target (tree_of nodes on) sig vs h

package_methods : (nodes : TypedNodes) → (package_of nodes).methods ≡ methods_of nodes nodes.methods nodes.bodies
unfolding package_of
package_methods nodes = refl

-- As many values are handed over as are declared.
pub args_long : (nodes : TypedNodes) (c : Context) (loops : List ℕ) (at : Place) (target : Target) (keep : Bool) (mark : Mark) (called : Called) (args : List ExprId) (m : Method)
    → c.within ≡ package_of nodes → slice_get nodes.methods (number_of called) ≡ Some m → well_simple c loops (invoke at target keep mark called (map (tree_of nodes) args)) ≡ true
    → length args ≡ length m.args
args_long nodes c loops at target keep mark called args m inside is h =
    let n = number_of called in
    let it = invoked_well c target keep mark called (map (tree_of nodes) args) (slice_get c.within.methods n) h in
    let at_tree : slice_get (methods_of nodes nodes.methods nodes.bodies) n ≡ Some it.0 =
    ap (λ ms. slice_get ms n) (sym (package_methods nodes)) ∙ ap (λ p. slice_get p.methods n) (sym inside) ∙ it.1 in
    let declared = method_declared nodes nodes.methods nodes.bodies n m it.0 is at_tree in
    let long : length (map (tree_of nodes) args) ≡ length it.0.args = fit_long c it.0.args (map (tree_of nodes) args) it.2.fit in
    let same : length it.0.args ≡ length (map (variable_of nodes) m.args) = ap (λ x. length x.args) declared.1 in
    omega (arith, long, same, length-map args (tree_of nodes), length-map m.args (variable_of nodes))

-- The rule of a call, by the method's declaration.
module _ (nodes : TypedNodes) (fs : List Claim) (at : Place) (target : Target) (keep : Bool) (mark : Mark) (vs : List ValueTree) (m : Method) (of : Option NumType) where
  abbrev pub by_declaration : Option Refusal
  by_declaration =
      or_else (all_handed B8 (known_to_call keep mark fs) (handed_to (map (λ x. x.ty) m.args) vs)) (answer_refusal (left_by_call keep mark vs fs) at target of)

  pub call_left : (r : Result (Unit {0}) Refusal) (known : FactList) (called : Called) → slice_get nodes.methods (number_of called) ≡ Some m → length nodes.bodies ≡ length nodes.methods
      → of ≡ option_and_then number_type m.gives → Settles nodes by_declaration (invoked fs target keep mark vs) r known
      → Leaves nodes fs (invoke at target keep mark called vs) r known
  call_left r known called is bodied gives s = λ a inside site.
      let n = number_of called in
      let tree = method_tree nodes nodes.methods nodes.bodies n m bodied is in
      let found : slice_get a.context.within.methods n ≡ Some (method_of nodes m tree.0) =
      ap (λ p. slice_get p.methods n) inside ∙ ap (λ ms. slice_get ms n) (package_methods nodes) ∙ tree.1 in
      let args : handed_to_method (slice_get a.context.within.methods n) vs ≡ handed_to (map (λ x. x.ty) m.args) vs =
      ap (λ o. handed_to_method o vs) found ∙ ap (λ tys. handed_to tys vs) (types_same nodes m.args) in
      let answers : answered_by (slice_get a.context.within.methods n) ≡ of = ap answered_by found ∙ sym gives in
      let refused : by_declaration ≡ invoke_refusal a.context fs at target keep mark called vs =
      ap (λ hs. or_else (all_handed B8 (known_to_call keep mark fs) hs) (answer_refusal (left_by_call keep mark vs fs) at target of)) (sym args)
      ∙ ap (λ it. or_else (all_handed B8 (known_to_call keep mark fs) (handed_to_method (slice_get a.context.within.methods n) vs)) (answer_refusal (left_by_call keep mark vs fs) at target it)) (sym answers) in
      let P : Option Refusal → Type 0 = λ p. Settles nodes p (invoked fs target keep mark vs) r known in
      settled nodes (invoke_refusal a.context fs at target keep mark called vs) (invoked fs target keep mark vs) r known (subst P refused s)

-- As many are handed over to the method that a call names.
module _ (nodes : TypedNodes) (at : Place) (target : Target) (keep : Bool) (callee : Callee) (args : List ExprId) (well : KeepsTypes nodes (call_made nodes (tree_of nodes) at target keep callee (map (tree_of nodes) args))) where
  abbrev Well : Callee → Type 0
  Well it = well_simple well.context well.loops (call_made nodes (tree_of nodes) at target keep it (map (tree_of nodes) args)) ≡ true

  pub own_long : (m : MethodId) → callee ≡ callees.Own m → TakesArgs nodes m (length args)
  own_long m h method is =
      let P : Callee → Type 0 = λ it. Well it in
      args_long nodes well.context well.loops at target keep (mark_of nodes m.0) (own m.0) args method well.within is (subst P h well.well)

  pub sub_long : (x : FieldId) (m : MethodId) → callee ≡ callees.Sub x m → TakesArgs nodes m (length args)
  sub_long x m h method is =
      let P : Callee → Type 0 = λ it. Well it in
      args_long nodes well.context well.loops at target keep (mark_of nodes m.0) (sub x.0 m.0) args method well.within is (subst P h well.well)

-- The mark of a method that is there.
pub mark_is : (nodes : TypedNodes) (n : ℕ) (m : Method) → slice_get nodes.methods n ≡ Some m → m.mark ≡ mark_of nodes n
mark_is nodes n m h = sym (ap (λ o. unwrap_or (option_map (λ it. it.mark) o) Pure) h)
