-- Calls as statements, by what becomes of the answer: nothing, a status that `=?` keeps, or a target of `=`.
use Rattle.std.proofs.Common.{◌≡◌, ℕ, ◌+◌, Bool, true, false, not, ◌&&◌, List, ◌∷◌, ◌++◌, length, Option, Some, None, refl, sym, ap, subst, arith, nat_eq}
use Rattle.std.specs.Prelude.{option_map, option_and_then, is_some, slice_get, if◌then◌else◌}
use Rattle.wf_text.specs.declared.place.Place.{Place}
use Rattle.wf_text.specs.declared.rules.Rule.TheVariants.{E4}
use Rattle.wf_base.specs.declared.marks.Mark.{Mark}
use Rattle.wf_base.specs.declared.marks.Mark.TheVariants.{Pure, Impure, Coroutine}
use Rattle.wf_base.specs.declared.widths.Width.{Width}
use Rattle.wf_base.specs.declared.base_methods.ArgTy.{ArgTy}
use Rattle.wf_base.specs.declared.base_methods.Gives.{Gives}
use Rattle.wf_base.specs.declared.base_methods.Gives.TheVariants as gives
use Rattle.wf_base.specs.declared.base_methods.BaseSig.{BaseSig}
use Rattle.wf_base.specs.BaseTable.{bits_of, row_of}
use Rattle.wf_base.specs.Effects.{allows}
use Rattle.wf_ast.specs.declared.types.Ty.{Ty}
use Rattle.wf_ast.specs.declared.types.Ty.TheVariants as types
use Rattle.wf_ast.specs.TypedTree.{Target, to_number, to_element, to_slice, to_nothing, Called, own, sub}
use Rattle.wf_ast.specs.TypedTrees.{base_call}
use Rattle.wf_ast.specs.WellTyped.{Context, is_pure, is_coroutine, same_mark, may_write, well_num, is_slice, type_at, takes_bits, is_status_target, takes_answer, well_simple}
use Rattle.wf_ast.specs.TypedTree as typed
use Rattle.wf_ast.specs.WellTyped as well
use Rattle.wf_named.specs.declared.nodes.NamedCallee.{NamedCallee}
use Rattle.wf_named.specs.declared.nodes.NamedCallee.TheVariants as callees
use Rattle.wf_named.specs.declared.nodes.NamedPath.{NamedPath}
use Rattle.wf_named.specs.NamedTree.{NamedArgTrees, NamedCallTree, call, NamedTargetTree, to_path, NamedMethodTree, NamedPackageTree}
use Rattle.wf_named.specs.NamedTree as named
use Rattle.wf_named.specs.WellNamed.{count_args, is_wanted, args_wanted, kind_of, has_kind, type_of_variable, named_args, named_call, named_target}
use Rattle.wf_named.specs.Grammar.{args_by_grammar, call_by_grammar, target_by_grammar}
use Rattle.wf_types_rules.specs.declared.meanings.Meaning.{Meaning}
use Rattle.wf_types_rules.specs.declared.meanings.Meaning.TheVariants as meanings
use Rattle.wf_types_rules.specs.Meanings.{all_of, same_width, variable}
use Rattle.wf_types_rules.specs.Meanings as meant
use Rattle.wf_types_rules.specs.Operands.{differs_in}
use Rattle.wf_types_rules.specs.ExprTypes.{given_by_base}
use Rattle.wf_types_rules.specs.Parts.{target_parts, whole_call_parts, kept}
use Rattle.wf_types_rules.specs.Judgements.{fails, base_arg, wanted, target_meaning, not_kept_in_status, is_coroutine_called, keeps_no_coroutine}
use Rattle.wf_types_rules.specs.Judgements as judged
use Rattle.wf_types_rules.proofs.TypeRows as rows
use Rattle.wf_typed_tree.specs.ElaboratedExprs.{variable_tree, path_tree, arg_trees}
use Rattle.wf_typed_tree.specs.ElaboratedStmts.{target_tree, call_tree}
use Rattle.wf_typed_tree.specs.MeaningTrees.{kind_meant}
use Rattle.wf_typed_tree.proofs.NumberLemmas.{both, and-true, same-bits}
use Rattle.wf_typed_tree.proofs.NoBreaks.{AllFine, fine-split, at-none, not-not, holds}
use Rattle.wf_typed_tree.proofs.KnownMeanings.{kind-there}
use Rattle.wf_typed_tree.proofs.Agreement.{PackageIs, MethodIs, method-known, method-agrees}
use Rattle.wf_typed_tree.proofs.ValueLaws.{Accepts}
use Rattle.wf_typed_tree.proofs.BodyLaws.{around, names, context, TargetIs, variable-target, element-target}
use Rattle.wf_typed_tree.proofs.BaseCallLaws.{on-kind, Goes, base-keeps}
use Rattle.wf_typed_tree.proofs.CallArgLaws.{row-args-fit}
use Rattle.wf_typed_tree.proofs.CalledLaws.{tested, mark-allowed, mark-same, Calls, own-calls, sub-calls, call-keeps}

pub same-marks : (a b : Mark) → same_mark a b ≡ true → a ≡ b
same-marks Pure Pure h = refl
same-marks Impure Impure h = refl
same-marks Coroutine Coroutine h = refl
same-marks a b h = absurd (cc h)

-- No answer is missed where nothing takes it.
nothing-taken : (c : Context) (mark : Mark) (given : Option Ty) → takes_answer c to_nothing false mark given ≡ true
nothing-taken c Coroutine given = refl
nothing-taken c Pure None = refl
nothing-taken c Pure (Some ty) = refl
nothing-taken c Impure None = refl
nothing-taken c Impure (Some ty) = refl

goes-nowhere : (c : Context) (given : Gives) → Goes c to_nothing given
goes-nowhere c gives.Nothing = refl
goes-nowhere c (gives.Num width) = refl
goes-nowhere c gives.Flag = tt

-- The status of a coroutine is kept in a status.
kept-taken : (c : Context) (target : Target) (mark own_mark : Mark) (given : Option Ty) → same_mark mark own_mark ≡ true → is_coroutine own_mark ≡ true
    → is_status_target target ≡ true → well.takes c target types.Status ≡ true → takes_answer c target true mark given ≡ true
kept-taken c target Coroutine Coroutine given h k s t = and-true (is_status_target target) (well.takes c target types.Status) s t
kept-taken c target Pure Coroutine given h k s t = absurd (cc h)
kept-taken c target Impure Coroutine given h k s t = absurd (cc h)
kept-taken c target mark own_mark given h k s t = absurd (cc k)

status-type : (ty : Ty) → meant.is_status (meanings.Typed ty) ≡ true → ty ≡ types.Status
status-type types.Status h = refl
status-type ty h = absurd (cc h)

-- A result is taken by a target that takes its type.
pub answer-taken : (c : Context) (target : Target) (mark own_mark : Mark) (ty : Ty) → same_mark mark own_mark ≡ true → is_coroutine own_mark ≡ false → well.takes c target ty ≡ true
    → takes_answer c target false mark (Some ty) ≡ true
answer-taken c target Pure own_mark ty h k t = t
answer-taken c target Impure own_mark ty h k t = t
answer-taken c target Coroutine Coroutine ty h k t = absurd (cc k)
answer-taken c target Coroutine own_mark ty h k t = absurd (cc h)

bits-taken : (c : Context) (target : Target) (v w : Width) (lo hi l h : ℕ) → bits_of v ≡ bits_of w → well.takes c target (types.Num v lo hi) ≡ true → well.takes c target (types.Num w l h) ≡ true
bits-taken c (to_number at of path) v w lo hi l h e t =
    let P : ℕ → Type 0 = λ bits. (may_write c.method.mark path && (nat_eq of.bits bits && well_num c (typed.read at of path))) ≡ true in subst P e t
bits-taken c (to_element at of cells index) v w lo hi l h e t =
    let P : ℕ → Type 0 = λ bits. (not (is_pure c.method.mark) && (nat_eq of.bits bits && well_num c (typed.element at of cells index))) ≡ true in subst P e t
bits-taken c to_nothing v w lo hi l h e t = refl
bits-taken c target v w lo hi l h e t = absurd (cc t)

slices-taken : (c : Context) (target : Target) (v w : Width) → bits_of v ≡ bits_of w → well.takes c target (types.Slice v) ≡ true → well.takes c target (types.Slice w) ≡ true
slices-taken c (to_slice at bits path) v w e t =
    let P : ℕ → Type 0 = λ of. (may_write c.method.mark path && (nat_eq bits of && is_slice bits (type_at c path))) ≡ true in subst P e t
slices-taken c to_nothing v w e t = refl
slices-taken c target v w e t = absurd (cc t)

not-differs : (v w : Width) → not (differs_in (Some v) (Some w)) ≡ true → bits_of v ≡ bits_of w
not-differs v w h = same-bits v w (twice (same_width v w) h)
  where
    twice : (b : Bool) → not (not b) ≡ true → b ≡ true
    twice true h = refl
    twice false h = absurd (cc h)

pub takes-same : (c : Context) (target : Target) (ty own_ty : Ty) → judged.takes ty (meanings.Typed own_ty) ≡ true → well.takes c target ty ≡ true → well.takes c target own_ty ≡ true
takes-same c target (types.Num v lo hi) (types.Num w l h) e t = bits-taken c target v w lo hi l h (not-differs v w e) t
takes-same c target types.Flag types.Flag e t = t
takes-same c target types.Status types.Status e t = t
takes-same c target types.Reader types.Reader e t = t
takes-same c target types.Writer types.Writer e t = t
takes-same c target (types.Slice v) (types.Slice w) e t = slices-taken c target v w (same-bits v w e) t
takes-same c target ty own_ty e t = absurd (cc e)

-- What a base method gives goes to a target that takes it.
pub goes : (c : Context) (target : Target) (given : Gives) (ty own_ty : Ty) → given_by_base given ≡ Some own_ty → judged.takes ty (meanings.Typed own_ty) ≡ true → Accepts c ty target → Goes c target given
goes c target gives.Nothing ty own_ty e h k = absurd (cc e)
goes c target (gives.Num w) (types.Num v lo hi) own_ty e h k =
    let same : all_of w ≡ own_ty = cc e in
    let T : Ty → Type 0 = λ z. judged.takes (types.Num v lo hi) (meanings.Typed z) ≡ true in
    let B : ℕ → Type 0 = λ bits. takes_bits c target bits ≡ true in
    subst B (not-differs v w (subst T (sym same) h)) (k.bits v lo hi refl)
goes c target (gives.Num w) ty own_ty e h k =
    let same : all_of w ≡ own_ty = cc e in
    let T : Ty → Type 0 = λ z. judged.takes ty (meanings.Typed z) ≡ true in
    absurd (cc (subst T (sym same) h))
goes c target gives.Flag ty own_ty e h k = tt

module _ (p : NamedPackageTree) (n : ℕ) (m : NamedMethodTree) (is : MethodIs p m) (whole : PackageIs p) where
  pub target-is : (t : NamedTargetTree) → AllFine p (around p n m is) (target_parts t) → target_by_grammar t ≡ true → named_target (names p n m is) t ≡ true → TargetIs p n m is t
  target-is (to_path q) h g k = variable-target p n m is q.at q.of h.0 k
  target-is (named.to_element q i at) h g k = element-target p n m is q i at h g k

  -- What a base method is called on, and its arguments.
  pub record OnBase (on : NamedPath) (sig : BaseSig) (count : ℕ) : Type 0 where
    pub of : Meaning
    pub meant : variable (around p n m is) on.of ≡ Some of
    pub kind : has_kind (row_of sig).on (kind_meant of) ≡ true
    pub many : count ≡ length (row_of sig).args

  pub on-base : (on : NamedPath) (sig : BaseSig) (count : ℕ) → is_wanted (args_wanted (names p n m is) (callees.Base on sig)) count ≡ true → OnBase on sig count
  on-base on sig count h =
      let wants = tested (has_kind (row_of sig).on (option_and_then kind_of (type_of_variable (names p n m is) on.of))) (length (row_of sig).args) count h in
      let it = method-known p m is on.of (kind-there (type_of_variable (names p n m is) on.of) sig wants.0) in
      record { of = it.0; meant = it.1; kind = (method-agrees p n m is).kinds on.of it.0 (row_of sig).on it.1 wants.0; many = wants.1 }

  pub base-wanted : (on : NamedPath) (sig : BaseSig) (count : ℕ) → OnBase on sig count → (i : ℕ) (a : List ℕ × ArgTy) → slice_get (row_of sig).args i ≡ Some a
      → wanted (around p n m is) (callees.Base on sig) i ≡ Some (base_arg (row_of sig).on a.1)
  base-wanted on sig count it i a e =
      let type : List ℕ × ArgTy → Ty = λ b. base_arg (row_of sig).on b.1 in
      let P : Option Meaning → Type 0 = λ o. (if is_some o then option_map type (slice_get (row_of sig).args i) else None) ≡ Some (type a) in
      subst P (sym it.meant) (ap (option_map type) e)

  -- A base method that suspends or writes.
  pub base-call-keeps : (loops : List ℕ) (target : Target) (on : NamedPath) (sig : BaseSig) (at : Place) (mark : Mark) (args : NamedArgTrees) → OnBase on sig (count_args args)
      → AllFine p (around p n m is) (whole_call_parts (call (callees.Base on sig) at mark args)) → args_by_grammar args ≡ true → named_args (names p n m is) args ≡ true
      → not (is_pure (row_of sig).mark) ≡ true → Goes (context p n m is) target (row_of sig).gives
      → well_simple (context p n m is) loops (base_call at target (path_tree (around p n m is) on) sig (arg_trees (around p n m is) args)) ≡ true
  base-call-keeps loops target on sig at mark args it h g k pure to =
      let same = same-marks mark (row_of sig).mark (mark-same p n m is whole (callees.Base on sig) at mark (row_of sig).mark args h refl) in
      let A : Mark → Type 0 = λ z. allows m.mark z ≡ true in
      let may = subst A same (mark-allowed p n m is whole (callees.Base on sig) at mark args h) in
      let fit = row-args-fit p n m is (callees.Base on sig) (row_of sig).on 0 args (row_of sig).args h.1 g k it.many
      (λ i a e. let plain : i ≡ 0 + i = omega arith in
      let V : ℕ → Type 0 = λ l. wanted (around p n m is) (callees.Base on sig) l ≡ Some (base_arg (row_of sig).on a.1) in subst V plain (base-wanted on sig (count_args args) it i a e)) in
      let P : Option Meaning → Type 0 = λ o. well_simple (context p n m is) loops (base_call at target (variable_tree on.at on.of o) sig (arg_trees (around p n m is) args)) ≡ true in
      subst P (sym it.meant)
      (base-keeps (context p n m is) loops at target (variable_tree on.at on.of (Some it.of)) sig (arg_trees (around p n m is) args) pure may
      (on-kind (names p n m is) (around p n m is) (context p n m is) (method-agrees p n m is) on.at on.of (row_of sig).on it.of it.meant it.kind) to fit)

  row-marked : (on : NamedPath) (sig : BaseSig) (at : Place) (mark : Mark) (args : NamedArgTrees) → AllFine p (around p n m is) (whole_call_parts (call (callees.Base on sig) at mark args))
      → not (is_pure mark) ≡ true → not (is_pure (row_of sig).mark) ≡ true
  row-marked on sig at mark args h pure =
      let P : Mark → Type 0 = λ z. not (is_pure z) ≡ true in
      subst P (same-marks mark (row_of sig).mark (mark-same p n m is whole (callees.Base on sig) at mark (row_of sig).mark args h refl)) pure

  -- A call whose answer goes nowhere.
  pub call-alone-keeps : (loops : List ℕ) (c : NamedCallTree) → AllFine p (around p n m is) (whole_call_parts c) → call_by_grammar c ≡ true → named_call (names p n m is) c ≡ true
      → well_simple (context p n m is) loops (call_tree (around p n m is) to_nothing false c) ≡ true
  call-alone-keeps loops (call (callees.Own k) at mark args) h g w =
      let grammar = both (not (is_pure mark)) (args_by_grammar args) g in
      let parts = both (is_wanted (args_wanted (names p n m is) (callees.Own k)) (count_args args)) (named_args (names p n m is) args) w in
      let it = own-calls p n m is whole k (count_args args) parts.0 in
      call-keeps p n m is whole loops (callees.Own k) (own k.0) to_nothing false at mark args it.0 it.1 h grammar.1 parts.1 (nothing-taken (context p n m is) mark _)
  call-alone-keeps loops (call (callees.Sub x k) at mark args) h g w =
      let grammar = both (not (is_pure mark)) (args_by_grammar args) g in
      let parts = both (is_wanted (args_wanted (names p n m is) (callees.Sub x k)) (count_args args)) (named_args (names p n m is) args) w in
      let it = sub-calls p n m is whole x k (count_args args) parts.0 in
      call-keeps p n m is whole loops (callees.Sub x k) (sub x.0 k.0) to_nothing false at mark args it.0 it.1 h grammar.1 parts.1 (nothing-taken (context p n m is) mark _)
  call-alone-keeps loops (call (callees.Base on sig) at mark args) h g w =
      let grammar = both (not (is_pure mark)) (args_by_grammar args) g in
      let parts = both (is_wanted (args_wanted (names p n m is) (callees.Base on sig)) (count_args args)) (named_args (names p n m is) args) w in
      base-call-keeps loops to_nothing on sig at mark args (on-base on sig (count_args args) parts.0) h grammar.1 parts.1 (row-marked on sig at mark args h grammar.0)
      (goes-nowhere (context p n m is) (row_of sig).gives)

  -- A call whose status `=?` keeps.
  kept-call : (loops : List ℕ) (t : NamedTargetTree) (callee : NamedCallee) (called : Called) (at : Place) (mark : Mark) (args : NamedArgTrees) (it : Calls p n m is whole callee called)
      → count_args args ≡ length it.of.args → AllFine p (around p n m is) (kept t (call callee at mark args) ∷ (target_parts t ++ whole_call_parts (call callee at mark args)))
      → target_by_grammar t ≡ true → args_by_grammar args ≡ true → named_target (names p n m is) t ≡ true → named_args (names p n m is) args ≡ true
      → well_simple (context p n m is) loops (typed.invoke at (target_tree (around p n m is) t) true mark called (arg_trees (around p n m is) args)) ≡ true
  kept-call loops t callee called at mark args it count h gt ga kt ka =
      let parts = fine-split p (around p n m is) (target_parts t) (whole_call_parts (call callee at mark args)) h.1 in
      let to = target-is t parts.0 gt kt in
      let kept_status = at-none (fails meant.is_status (target_meaning (around p n m is) t)) at (h.0 E4 not_kept_in_status rows.not_kept_in_status) in
      let status = status-type to.ty (holds meant.is_status (target_meaning (around p n m is) t) (meanings.Typed to.ty) to.means kept_status) in
      let coroutine = it.coroutine (not-not (is_coroutine_called (around p n m is) callee) (at-none _ at (h.0 E4 keeps_no_coroutine rows.keeps_no_coroutine))) in
      let T : Ty → Type 0 = λ z. well.takes (context p n m is) (target_tree (around p n m is) t) z ≡ true in
      let same = mark-same p n m is whole callee at mark it.of.mark args parts.1 it.mark in
      call-keeps p n m is whole loops callee called (target_tree (around p n m is) t) true at mark args it count parts.1 ga ka
      (kept-taken (context p n m is) (target_tree (around p n m is) t) mark it.of.mark _ same coroutine (to.accepts.status status) (subst T status to.accepts.takes))

  pub call-kept-keeps : (loops : List ℕ) (t : NamedTargetTree) (c : NamedCallTree) → AllFine p (around p n m is) (kept t c ∷ (target_parts t ++ whole_call_parts c)) → target_by_grammar t ≡ true
      → call_by_grammar c ≡ true → named_target (names p n m is) t ≡ true → named_call (names p n m is) c ≡ true
      → well_simple (context p n m is) loops (call_tree (around p n m is) (target_tree (around p n m is) t) true c) ≡ true
  call-kept-keeps loops t (call (callees.Own k) at mark args) h gt gc kt w =
      let grammar = both (not (is_pure mark)) (args_by_grammar args) gc in
      let parts = both (is_wanted (args_wanted (names p n m is) (callees.Own k)) (count_args args)) (named_args (names p n m is) args) w in
      let it = own-calls p n m is whole k (count_args args) parts.0 in
      kept-call loops t (callees.Own k) (own k.0) at mark args it.0 it.1 h gt grammar.1 kt parts.1
  call-kept-keeps loops t (call (callees.Sub x k) at mark args) h gt gc kt w =
      let grammar = both (not (is_pure mark)) (args_by_grammar args) gc in
      let parts = both (is_wanted (args_wanted (names p n m is) (callees.Sub x k)) (count_args args)) (named_args (names p n m is) args) w in
      let it = sub-calls p n m is whole x k (count_args args) parts.0 in
      kept-call loops t (callees.Sub x k) (sub x.0 k.0) at mark args it.0 it.1 h gt grammar.1 kt parts.1
  call-kept-keeps loops t (call (callees.Base on sig) at mark args) h gt gc kt w =
      let called = at-none (not (is_coroutine_called (around p n m is) (callees.Base on sig))) at (h.0 E4 keeps_no_coroutine rows.keeps_no_coroutine) in absurd (cc called)
