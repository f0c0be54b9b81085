-- Base methods that are called as statements.
use Rattle.std.proofs.Common.{◌≡◌, ℕ, Bool, true, false, ◌&&◌, List, [], ◌∷◌, length, map, Option, Some, None, Result, Ok, Err, refl, sym, ap, ◌∙◌, subst}
use Rattle.std.specs.List.{list_all}
use Rattle.std.proofs.lemmas.Bool.{and_parts}
use Rattle.std.proofs.lemmas.List.{length-map}
use Rattle.wf_text.specs.declared.place.Place.{Place}
use Rattle.wf_text.specs.declared.rules.Refusal.{Refusal}
use Rattle.wf_text.specs.declared.rules.Rule.TheVariants.{B8}
use Rattle.wf_base.specs.declared.base_methods.BaseSig.{BaseSig}
use Rattle.wf_base.specs.declared.base_methods.BaseSig.TheVariants as sigs
use Rattle.wf_base.specs.declared.widths.Width.{Width}
use Rattle.wf_base.specs.declared.widths.Width.TheVariants.{W8, W32}
use Rattle.wf_ast.specs.declared.numbers.ExprId.{ExprId}
use Rattle.wf_ast.specs.declared.types.Ty.{Ty}
use Rattle.wf_ast.specs.declared.types.Ty.TheVariants as types
use Rattle.wf_ast.specs.declared.typed_nodes.TypedNodes.{TypedNodes}
use Rattle.wf_ast.specs.TypedTree.{ValueTree, numeric, elements, Target, arg, skip, write, copy_to_writer}
use Rattle.wf_ast.specs.TypedTrees.{base_call, io_in, num_in, slice_in, tree_of, type_of_node}
use Rattle.wf_ast.specs.TypedInvariant.{IsTyped, is_expr, is_numeric, is_tree_of}
use Rattle.wf_ast.specs.WellTyped.{Context, type_at, is_reader, is_writer, is_coroutine, may_go_into, well_num, well_slice, slice_of, takes_bits, has_none, well_simple}
use Rattle.wf_ast.specs.NodeKinds.{is_number_at, node_number, node_slice}
use Rattle.wf_ast.proofs.Accessors.{tree_kind}
use Rattle.wf_facts_exprs.specs.Claims.{Claim}
use Rattle.wf_facts_exprs.specs.Demands.{or_else}
use Rattle.wf_facts.specs.IndexedFacts.{FactList}
use Rattle.wf_bounds_stmts.specs.Requirements.{all_handed}
use Rattle.wf_bounds_stmts.specs.Targets.{answer_refusal}
use Rattle.wf_bounds_stmts.specs.Calls.{all_of, interrupted, awaited, await_refusal, perform_refusal, performed}
use Rattle.wf_bounds_stmts.specs.Outcomes.{Does, Leaves, Settles}
use Rattle.wf_bounds_stmts.specs.Passing.{KeepsTypes}
use Rattle.wf_bounds_stmts.proofs.TypeLemmas.{never_well, lt_from, names_there, bits_there, none_there, number_found, slice_found}

-- How many arguments each takes.
abbrev pub arg_count : BaseSig → ℕ
arg_count (sigs.Read form) = 0
arg_count sigs.SkipFast = 2
arg_count sig = 1

-- It is called as a statement.
abbrev pub is_called : BaseSig → Bool
is_called (sigs.Read form) = true
is_called sigs.Skip = true
is_called sigs.Write = true
is_called sigs.SkipFast = true
is_called sigs.WriteFast = true
is_called sigs.WriterCopy = true
is_called (sigs.SliceCopy width) = true
is_called sig = false

module _ (c : Context) (loops : List ℕ) (at : Place) (target : Target) (on : ValueTree) where
  pub called : (sig : BaseSig) (ts : List ValueTree) → well_simple c loops (base_call at target on sig ts) ≡ true → is_called sig ≡ true
  called (sigs.Read form) ts h = refl
  called sigs.Skip ts h = refl
  called sigs.Write ts h = refl
  called sigs.SkipFast ts h = refl
  called sigs.WriteFast ts h = refl
  called sigs.WriterCopy ts h = refl
  called (sigs.SliceCopy width) ts h = refl
  called sig ts h = absurd (never_well c loops h)

  pub args_counted : (sig : BaseSig) (ts : List ValueTree) → well_simple c loops (base_call at target on sig ts) ≡ true → length ts ≡ arg_count sig
  args_counted (sigs.Read form) [] h = refl
  args_counted sigs.Skip (n ∷ []) h = refl
  args_counted sigs.Write (a ∷ []) h = refl
  args_counted sigs.SkipFast (a ∷ b ∷ []) h = refl
  args_counted sigs.WriteFast (a ∷ []) h = refl
  args_counted sigs.WriterCopy (s ∷ []) h = refl
  args_counted (sigs.SliceCopy width) (s ∷ []) h = refl
  args_counted sig ts h = absurd (never_well c loops h)

  pub base_there : (sig : BaseSig) (ts : List ValueTree) → well_simple c loops (base_call at target on sig ts) ≡ true → names_there c target ≡ true
  base_there (sigs.Read form) [] h = bits_there c target _ (and_parts (is_reader (type_at c (arg (io_in on)))) _ (and_parts (is_coroutine c.method.mark) _ h).1).1
  base_there sigs.Skip (n ∷ []) h = none_there c target (and_parts (has_none target) _ (and_parts (is_reader (type_at c (arg (io_in on)))) _ (and_parts (is_coroutine c.method.mark) _ h).1).1).0
  base_there sigs.Write (a ∷ []) h = none_there c target (and_parts (has_none target) _ (and_parts (is_writer (type_at c (arg (io_in on)))) _ (and_parts (is_coroutine c.method.mark) _ h).1).1).0
  base_there sigs.SkipFast (a ∷ b ∷ []) h = none_there c target (and_parts (has_none target) _ (and_parts (is_reader (type_at c (arg (io_in on)))) _ (and_parts _ _ h).1).1).0
  base_there sigs.WriteFast (a ∷ []) h = none_there c target (and_parts (has_none target) _ (and_parts (is_writer (type_at c (arg (io_in on)))) _ (and_parts _ _ h).1).1).0
  base_there sigs.WriterCopy (s ∷ []) h = bits_there c target 64 (and_parts (takes_bits c target 64) _ (and_parts (is_writer (type_at c (arg (io_in on)))) _ (and_parts _ _ h).1).1).0
  base_there (sigs.SliceCopy width) (s ∷ []) h = bits_there c target 64 (and_parts (takes_bits c target 64) _ (and_parts _ _ h).1).0
  base_there sig ts h = absurd (never_well c loops h)

  pub skip_well : (n : ValueTree) → well_simple c loops (base_call at target on sigs.Skip (n ∷ [])) ≡ true → well_num c (num_in n) ≡ true
  skip_well n h =
      (and_parts (may_go_into 32 (num_in n)) _ (and_parts (has_none target) _ (and_parts (is_reader (type_at c (arg (io_in on)))) _ (and_parts (is_coroutine c.method.mark) _ h).1).1).1).1

  pub write_well : (a : ValueTree) → well_simple c loops (base_call at target on sigs.Write (a ∷ [])) ≡ true → well_num c (num_in a) ≡ true
  write_well a h =
      (and_parts (may_go_into 8 (num_in a)) _ (and_parts (has_none target) _ (and_parts (is_writer (type_at c (arg (io_in on)))) _ (and_parts (is_coroutine c.method.mark) _ h).1).1).1).1

  pub skip_fast_well : (a w : ValueTree) → well_simple c loops (base_call at target on sigs.SkipFast (a ∷ w ∷ [])) ≡ true → (well_num c (num_in a) ≡ true) × (well_num c (num_in w) ≡ true)
  skip_fast_well a w h =
      let both = and_parts (may_go_into 32 (num_in a) && well_num c (num_in a)) _ (and_parts (has_none target) _ (and_parts (is_reader (type_at c (arg (io_in on)))) _ (and_parts _ _ h).1).1).1 in
      ((and_parts (may_go_into 32 (num_in a)) _ both.0).1, (and_parts (may_go_into 32 (num_in w)) _ both.1).1)

  pub write_fast_well : (a : ValueTree) → well_simple c loops (base_call at target on sigs.WriteFast (a ∷ [])) ≡ true → well_num c (num_in a) ≡ true
  write_fast_well a h =
      (and_parts (may_go_into 8 (num_in a)) _ (and_parts (has_none target) _ (and_parts (is_writer (type_at c (arg (io_in on)))) _ (and_parts _ _ h).1).1).1).1

  pub copy_out_well : (s : ValueTree) → well_simple c loops (base_call at target on sigs.WriterCopy (s ∷ [])) ≡ true → well_slice c (slice_in s) ≡ true
  copy_out_well s h =
      (and_parts (well_slice c (slice_in s)) _ (and_parts (takes_bits c target 64) (slice_of c 8 (slice_in s)) (and_parts (is_writer (type_at c (arg (io_in on)))) _ (and_parts _ _ h).1).1).1).0

  pub copy_in_well : (width : Width) (s : ValueTree) → well_simple c loops (base_call at target on (sigs.SliceCopy width) (s ∷ [])) ≡ true → (well_slice c (slice_in on) ≡ true) × (well_slice c (slice_in s) ≡ true)
  copy_in_well width s h =
      let both = and_parts (well_slice c (slice_in on)) _ (and_parts (takes_bits c target 64) _ (and_parts _ _ h).1).1 in
      (both.0, (and_parts (well_slice c (slice_in s)) _ both.1).0)

-- A number's tree is one.
pub number_tree : (ty : Ty) (t : ValueTree) → is_tree_of ty t ≡ true → is_numeric ty ≡ true → t ≡ numeric (num_in t)
number_tree (types.Num width lo hi) (numeric t) h k = refl
number_tree (types.Num width lo hi) t h k = absurd (cc (h))
number_tree ty t h k = absurd (cc (k))

pub numeric_tree : (nodes : TypedNodes) → IsTyped nodes → (e : ExprId) → is_number_at nodes e ≡ true → tree_of nodes e ≡ numeric (node_number nodes e)
numeric_tree nodes typed e h =
    let both = and_parts (is_expr nodes e) _ h in
    number_tree (type_of_node nodes e.0) (tree_of nodes e) (tree_kind nodes typed e (lt_from _ _ both.0)) both.1

-- A list that only loses facts, told as that of any statement.
pub settled : (nodes : TypedNodes) (p : Option Refusal) (gs : List Claim) (r : Result (Unit {0}) Refusal) (known : FactList) → Settles nodes p gs r known → Does nodes p (Some gs) r known
settled nodes p gs (Ok done) known h = (h.0, ap Some (sym h.1))
settled nodes p gs (Err found) known h = h

module _ (nodes : TypedNodes) (fs : List Claim) (at : Place) (target : Target) (on : ValueTree) (r : Result (Unit {0}) Refusal) (known : FactList) where
  abbrev pub Left : BaseSig → List ExprId → Type 0
  Left sig args = Leaves nodes fs (base_call at target on sig (map (tree_of nodes) args)) r known

  abbrev Handed : Width → ValueTree → Type 0
  Handed width v = Settles nodes (or_else (all_handed B8 fs ((all_of width, v) ∷ [])) (answer_refusal (interrupted fs) at target None)) (awaited fs target) r known

  pub skip_left : (args : List ExprId) (e : ExprId) → args ≡ e ∷ [] → tree_of nodes e ≡ numeric (node_number nodes e) → Handed W32 (tree_of nodes e) → Left sigs.Skip args
  skip_left args e h n s =
      let P : List ExprId → Type 0 = λ xs. Left sigs.Skip xs in
      let Q : ValueTree → Type 0 = λ v. Handed W32 v in
      subst P (sym h) (λ a inside site. settled nodes (await_refusal fs at target (skip (node_number nodes e))) (awaited fs target) r known (subst Q n s))

  pub write_left : (args : List ExprId) (e : ExprId) → args ≡ e ∷ [] → tree_of nodes e ≡ numeric (node_number nodes e) → Handed W8 (tree_of nodes e) → Left sigs.Write args
  write_left args e h n s =
      let P : List ExprId → Type 0 = λ xs. Left sigs.Write xs in
      let Q : ValueTree → Type 0 = λ v. Handed W8 v in
      subst P (sym h) (λ a inside site. settled nodes (await_refusal fs at target (write (node_number nodes e))) (awaited fs target) r known (subst Q n s))

  pub copy_out_left : (args : List ExprId) (e : ExprId) (a : ℕ) → args ≡ e ∷ [] → a ≡ io_in on
      → Settles nodes (perform_refusal fs at target (copy_to_writer a (node_slice nodes e))) (performed fs target (copy_to_writer a (node_slice nodes e))) r known
      → Left sigs.WriterCopy args
  copy_out_left args e a h k s =
      let P : List ExprId → Type 0 = λ xs. Left sigs.WriterCopy xs in
      let Q : ℕ → Type 0 = λ n. Settles nodes (perform_refusal fs at target (copy_to_writer n (node_slice nodes e))) (performed fs target (copy_to_writer n (node_slice nodes e))) r known in
      let call = copy_to_writer (io_in on) (node_slice nodes e) in
      subst P (sym h) (λ x inside site. settled nodes (perform_refusal fs at target call) (performed fs target call) r known (subst Q k s))

-- What the rules of types tell of the arguments of a base method.
module _ (nodes : TypedNodes) (typed : IsTyped nodes) (at : Place) (target : Target) (on : ExprId) (sig : BaseSig) (args : List ExprId) (well : KeepsTypes nodes (base_call at target (tree_of nodes on) sig (map (tree_of nodes) args))) where
  abbrev Well : BaseSig → List ExprId → Type 0
  Well s es = well_simple well.context well.loops (base_call at target (tree_of nodes on) s (map (tree_of nodes) es)) ≡ true

  well_by : (s : BaseSig) → sig ≡ s → (es : List ExprId) → args ≡ es → Well s es
  well_by s h es k =
      let P : BaseSig → Type 0 = λ it. Well it args in
      let Q : List ExprId → Type 0 = λ it. Well s it in
      subst Q k (subst P h well.well)

  pub counted : (s : BaseSig) → sig ≡ s → length args ≡ arg_count s
  counted s h = sym (length-map args (tree_of nodes)) ∙ args_counted well.context well.loops at target (tree_of nodes on) s (map (tree_of nodes) args) (well_by s h args refl)

  first_there : (e : ExprId) (es : List ExprId) → args ≡ e ∷ es → list_all (is_expr nodes) args ≡ true → (is_expr nodes e ≡ true) × (list_all (is_expr nodes) es ≡ true)
  first_there e es h k = let P : List ExprId → Type 0 = λ it. list_all (is_expr nodes) it ≡ true in and_parts (is_expr nodes e) _ (subst P h k)

  module _ (e : ExprId) (one : args ≡ e ∷ []) (there : list_all (is_expr nodes) args ≡ true) where
    found : well_num well.context (node_number nodes e) ≡ true → is_number_at nodes e ≡ true
    found h = number_found nodes typed well.context e (first_there e [] one there).0 h

    pub skip_number : sig ≡ sigs.Skip → is_number_at nodes e ≡ true
    skip_number h = found (skip_well well.context well.loops at target (tree_of nodes on) (tree_of nodes e) (well_by sigs.Skip h (e ∷ []) one))

    pub write_number : sig ≡ sigs.Write → is_number_at nodes e ≡ true
    write_number h = found (write_well well.context well.loops at target (tree_of nodes on) (tree_of nodes e) (well_by sigs.Write h (e ∷ []) one))

    pub write_fast_number : sig ≡ sigs.WriteFast → is_number_at nodes e ≡ true
    write_fast_number h = found (write_fast_well well.context well.loops at target (tree_of nodes on) (tree_of nodes e) (well_by sigs.WriteFast h (e ∷ []) one))

    pub copy_out_slice : sig ≡ sigs.WriterCopy → tree_of nodes e ≡ elements (node_slice nodes e)
    copy_out_slice h = slice_found well.context (tree_of nodes e) (copy_out_well well.context well.loops at target (tree_of nodes on) (tree_of nodes e) (well_by sigs.WriterCopy h (e ∷ []) one))

    pub copy_in_slices : (width : Width) → sig ≡ sigs.SliceCopy width → (tree_of nodes on ≡ elements (node_slice nodes on)) × (tree_of nodes e ≡ elements (node_slice nodes e))
    copy_in_slices width h =
        let both = copy_in_well well.context well.loops at target (tree_of nodes on) width (tree_of nodes e) (well_by (sigs.SliceCopy width) h (e ∷ []) one) in
        (slice_found well.context (tree_of nodes on) both.0, slice_found well.context (tree_of nodes e) both.1)

  pub skip_fast_numbers : (e w : ExprId) → args ≡ e ∷ w ∷ [] → list_all (is_expr nodes) args ≡ true → sig ≡ sigs.SkipFast → (is_number_at nodes e ≡ true) × (is_number_at nodes w ≡ true)
  skip_fast_numbers e w two there h =
      let i = first_there e (w ∷ []) two there in
      let j = and_parts (is_expr nodes w) _ i.1 in
      let both = skip_fast_well well.context well.loops at target (tree_of nodes on) (tree_of nodes e) (tree_of nodes w) (well_by sigs.SkipFast h (e ∷ w ∷ []) two) in
      (number_found nodes typed well.context e i.0 both.0, number_found nodes typed well.context w j.0 both.1)
