-- What a target does with a value, by the type of what it names.
use Rattle.std.proofs.Common.{◌≡◌, ℕ, Bool, true, false, ◌&&◌, Option, Some, refl, sym, ◌∙◌, nat_le}
use Rattle.std.specs.Prelude.{option_and_then}
use Rattle.wf_text.specs.declared.place.Place.{Place}
use Rattle.wf_ast.specs.declared.types.Ty.{Ty}
use Rattle.wf_ast.specs.declared.types.Ty.TheVariants as types
use Rattle.wf_ast.specs.declared.typed_nodes.TypedNodes.{TypedNodes}
use Rattle.wf_ast.specs.TypedTree.{Path, local, field, arg, NumType, SliceTree, NumTree, to_element}
use Rattle.wf_ast.specs.TypedTrees.{named, target_of}
use Rattle.wf_ast.specs.Value.{Value, num, truth_value, status_number, span, buffer, only_if, Span, span_of, value}
use Rattle.wf_meaning.specs.World.{Body, Vars, in_range, put_value, set_element, set_path}
use Rattle.wf_mean_exprs.specs.MachineState.{sight}
use Rattle.wf_mean_stmts.specs.declared.stage.Stage.{Stage}
use Rattle.wf_mean_stmts.specs.Stages.{body_on, vars_on, sight_on}
use Rattle.wf_mean_stmts.specs.Targets.{stored_if, taken_by, put_by}

of_number : (test : Bool) (stored vars : Vars) → only_if test (Some stored) ≡ put_by (stored_if test) stored vars
of_number true stored vars = refl
of_number false stored vars = refl

pub named_takes : (b : Body) (at : Place) (ty : Ty) (path : Path) (v : Value) (vars : Vars) → put_value b (target_of (named at ty path)) v vars ≡ put_by (taken_by ty v) (set_path b path v vars) vars
named_takes b at (types.Num width lo hi) path (num n) vars = of_number (nat_le lo n && nat_le n hi) (set_path b path (num n) vars) vars
named_takes b at (types.Num width lo hi) path (truth_value t) vars = refl
named_takes b at (types.Num width lo hi) path (status_number n) vars = refl
named_takes b at (types.Num width lo hi) path (span s) vars = refl
named_takes b at (types.Num width lo hi) path (buffer k) vars = refl
named_takes b at types.Flag path (num n) vars = refl
named_takes b at types.Flag path (truth_value t) vars = refl
named_takes b at types.Flag path (status_number n) vars = refl
named_takes b at types.Flag path (span s) vars = refl
named_takes b at types.Flag path (buffer k) vars = refl
named_takes b at types.Status path (num n) vars = refl
named_takes b at types.Status path (truth_value t) vars = refl
named_takes b at types.Status path (status_number n) vars = refl
named_takes b at types.Status path (span s) vars = refl
named_takes b at types.Status path (buffer k) vars = refl
named_takes b at (types.Slice width) path (num n) vars = refl
named_takes b at (types.Slice width) path (truth_value t) vars = refl
named_takes b at (types.Slice width) path (status_number n) vars = refl
named_takes b at (types.Slice width) path (span s) vars = refl
named_takes b at (types.Slice width) path (buffer k) vars = refl
named_takes b at (types.Array width lo hi count) path v vars = refl
named_takes b at types.Reader (local n) v vars = refl
named_takes b at types.Reader (field n) v vars = refl
named_takes b at types.Reader (arg n) v vars = refl
named_takes b at types.Writer (local n) v vars = refl
named_takes b at types.Writer (field n) v vars = refl
named_takes b at types.Writer (arg n) v vars = refl
named_takes b at (types.Part s) path v vars = refl

-- A number goes to an element.
pub element_put : (nodes : TypedNodes) (stage : Stage) (at : Place) (of : NumType) (cells : SliceTree) (index : NumTree) (n : ℕ) (fits : Bool) (xs : Option Span) (k : Option ℕ)
    → fits ≡ in_range of n → fits ≡ true → xs ≡ span_of (sight_on nodes stage) cells → k ≡ value (sight_on nodes stage) index
    → put_value (body_on nodes stage) (to_element at of cells index) (num n) (vars_on nodes stage) ≡ option_and_then (λ xs. option_and_then (λ k. set_element xs k n (vars_on nodes stage)) k) xs
unfolding sight
element_put nodes stage at of cells index n fits xs k f t s i = rw (sym f ∙ t, sym s, sym i) refl
