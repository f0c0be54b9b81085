-- The arguments of a call, whether they have values and where they stand.
use Rattle.std.proofs.Common.{◌≡◌, ℕ, zero, suc, ◌<◌, Bool, true, false, ◌&&◌, List, [], ◌∷◌, length, map, set, drop, get_or, Option, Some, None, refl, sym, ap, ◌∙◌, subst, arith}
use Rattle.std.specs.Prelude.{is_some, option_map, slice_get, unwrap_or}
use Rattle.wf_ast.specs.declared.declarations.Method.{Method}
use Rattle.wf_ast.specs.declared.declarations.Var.{Var}
use Rattle.wf_ast.specs.declared.numbers.ExprId.{ExprId}
use Rattle.wf_ast.specs.declared.typed_nodes.TypedNodes.{TypedNodes}
use Rattle.wf_ast.specs.TypedTrees.{tree_of}
use Rattle.wf_ast.specs.TypedPackage.{variable_of}
use Rattle.wf_ast.specs.Value.{State, Value, value_of}
use Rattle.wf_meaning.specs.SourceStep.{cons_some, values_of}
use Rattle.wf_mean_exprs.specs.declared.objects.Frame.{Frame}
use Rattle.wf_mean_exprs.specs.MachineState.{slot_seen}
use Rattle.wf_mean_stmts.specs.declared.stage.Stage.{Stage}
use Rattle.wf_mean_stmts.specs.Arguments.{Fills, fitting_value}
use Rattle.wf_mean_stmts.proofs.StoringLemmas.{set_same}
use Rattle.wf_mean_runs.specs.Answers.{Given}
use Rattle.wf_mean_runs.specs.Calls.{args_in, frame_of}
use Rattle.wf_mean_runs.specs.Frames.{AreReady, Sizes, args_of, sizes_of}
use Rattle.wf_mean_runs.proofs.KeepLaws.{get_at}
use Rattle.wf_mean_runs.proofs.OrderLaws.{frame_is, frame_sizes}

both_some : (v : Option Value) (vs : Option (List Value)) → is_some (cons_some v vs) ≡ (is_some v && is_some vs)
both_some None vs = refl
both_some (Some v) None = refl
both_some (Some v) (Some vs) = refl

-- The first of the arguments that follow, and the others.
pub one_more : (s : State) (nodes : TypedNodes) (declared : List Var) (args : List ExprId) (i : ℕ) (x : Var) (e : ExprId) → i < length declared → i < length args
    → is_some (values_of s (map (variable_of nodes) (drop i declared)) (map (tree_of nodes) (drop i args)))
    ≡ (is_some (fitting_value (get_or declared i x).ty (value_of s (tree_of nodes (get_or args i e)))) && is_some (values_of s (map (variable_of nodes) (drop (suc i) declared)) (map (tree_of nodes) (drop (suc i) args))))
one_more s nodes [] args i x e h k = absurd (omega (arith, h))
one_more s nodes (y ∷ ys) [] i x e h k = absurd (omega (arith, k))
one_more s nodes (y ∷ ys) (f ∷ fs) zero x e h k = both_some (fitting_value y.ty (value_of s (tree_of nodes f))) (values_of s (map (variable_of nodes) ys) (map (tree_of nodes) fs))
one_more s nodes (y ∷ ys) (f ∷ fs) (suc i) x e h k = one_more s nodes ys fs i x e (omega (arith, h)) (omega (arith, k))

module _ (s : State) (nodes : TypedNodes) (declared : List Var) (args : List ExprId) (i : ℕ) (x : Var) (e : ExprId) (here : i < length declared) (there : i < length args) (a : Bool)
    (so_far : a ≡ is_some (values_of s (map (variable_of nodes) (drop i declared)) (map (tree_of nodes) (drop i args)))) (v : Option Value) where
  of_value : (b : Bool) → b ≡ is_some (fitting_value (get_or declared i x).ty v) → v ≡ value_of s (tree_of nodes (get_or args i e)) → a ≡ (b && is_some (values_of s (map (variable_of nodes) (drop (suc i) declared)) (map (tree_of nodes) (drop (suc i) args))))
  of_value b h is =
      let f : b ≡ is_some (fitting_value (get_or declared i x).ty (value_of s (tree_of nodes (get_or args i e)))) = h ∙ ap (λ w. is_some (fitting_value (get_or declared i x).ty w)) is in
      so_far ∙ one_more s nodes declared args i x e here there ∙ ap (λ t. t && is_some (values_of s (map (variable_of nodes) (drop (suc i) declared)) (map (tree_of nodes) (drop (suc i) args)))) (sym f)

  pub none_more : false ≡ is_some (fitting_value (get_or declared i x).ty v) → v ≡ value_of s (tree_of nodes (get_or args i e)) → false ≡ a
  none_more h is = sym (of_value false h is)

  pub some_more : true ≡ is_some (fitting_value (get_or declared i x).ty v) → v ≡ value_of s (tree_of nodes (get_or args i e)) → a ≡ is_some (values_of s (map (variable_of nodes) (drop (suc i) declared)) (map (tree_of nodes) (drop (suc i) args)))
  some_more h is = of_value true h is

-- A frame has as many arguments as its method.
pub args_sized : (nodes : TypedNodes) (below : List Frame) (stage : Stage) (m at : ℕ) (d : Frame) → AreReady nodes below stage → frame_of nodes (length below) m ≡ Some at → at < length below → length (get_or below at d).args.items ≡ length (args_of nodes m)
args_sized nodes below stage m at d ready found less =
    ap (λ (s : Sizes). s.args) (frame_sizes nodes below at m (get_or below at d) ready.frames less (get_at below at d less) (frame_is nodes m (length below) at ready.level found))

pub args_declared : (nodes : TypedNodes) (m : ℕ) (method : Method) → slice_get nodes.methods m ≡ Some method → length (args_of nodes m) ≡ length method.args
args_declared nodes m method e = ap (λ (o : Option Method). length (unwrap_or (option_map (λ (it : Method). it.args) o) [])) e

pub args_are_declared : (nodes : TypedNodes) (m : ℕ) (method : Method) → slice_get nodes.methods m ≡ Some method → args_of nodes m ≡ method.args
args_are_declared nodes m method e = ap (λ (o : Option Method). unwrap_or (option_map (λ (it : Method). it.args) o) []) e

-- The values stand in the frame.
set_got : {X : Type 0} (xs : List X) (i : ℕ) (x : X) → i < length xs → slice_get (set xs i x) i ≡ Some x
set_got [] i x h = absurd (omega (arith, h))
set_got (y ∷ ys) zero x h = refl
set_got (y ∷ ys) (suc i) x h = set_got ys i x (omega (arith, h))

set_length : {X : Type 0} (xs : List X) (i : ℕ) (x : X) → length (set xs i x) ≡ length xs
set_length [] i x = refl
set_length (y ∷ ys) zero x = refl
set_length (y ∷ ys) (suc i) x = ap suc (set_length ys i x)

pub given_there : (nodes : TypedNodes) (below : List Frame) (m at : ℕ) (frame : Frame) (filled : Bool) (values : Option (List Value)) → frame_of nodes (length below) m ≡ Some at → at < length below → Fills filled values (map slot_seen frame.args.items)
    → Given filled nodes (set below at frame) m values
given_there nodes below m at frame true (Some values) found less h = λ i e.
    let P : ℕ → Type 0 = λ n. frame_of nodes n m ≡ Some i in
    let there : frame_of nodes (length below) m ≡ Some i = subst P (set_length below at frame) e in
    let same : at ≡ i = cc (found, there) in
    ap (args_in (set below at frame)) (sym same) ∙ ap (λ (o : Option Frame). unwrap_or (option_map (λ (f : Frame). map slot_seen f.args.items) o) []) (set_got below at frame less) ∙ h
given_there nodes below m at frame false None found less h = tt
given_there nodes below m at frame true None found less h = absurd h
given_there nodes below m at frame false (Some values) found less h = absurd h

pub frames_same : (below : List Frame) (at : ℕ) (frame d : Frame) → at < length below → sizes_of frame ≡ sizes_of (get_or below at d) → map sizes_of (set below at frame) ≡ map sizes_of below
frames_same below at frame d less e = set_same sizes_of below at frame d less e
