-- The entries of methods have the types that C asks, after the items that stand before them.
use Rattle.std.proofs.Common.{◌≡◌, ◌⊎◌, inl, inr, ℕ, zero, suc, ◌+◌, ◌-◌, ◌<◌, ◌^◌, Bool, true, false, not, List, [], ◌∷◌, ◌++◌, length, map, Option, Some, None, nat_lt, refl, sym, ◌∙◌, subst, arith}
use Rattle.std.specs.Prelude.{if◌then◌else◌, find, slice_get, bytes_eq, codes, is_some}
use Rattle.std.specs.List.{list_all, AllByRecursion}
use Rattle.wf_text.specs.Surface as surface
use Rattle.wf_text.specs.Surface.{AnswerKind}
use Rattle.wf_base.specs.BaseTable.{bits_of}
use Rattle.wf_base.specs.declared.marks.Mark.{Mark}
use Rattle.wf_base.specs.declared.marks.Mark.TheVariants.{Pure, Impure, Coroutine}
use Rattle.wf_ast.specs.declared.types.Ty.{Ty}
use Rattle.wf_ast.specs.declared.types.Ty.TheVariants as types
use Rattle.wf_ast.specs.TypedPackage.{Variable, MethodTree, PackageTree, kind_of, answers_of}
use Rattle.wf_ast.specs.WellTyped.{is_coroutine, is_pure}
use Rattle.wf_meaning.specs.Entry.{bad_receiver, bad_argument, not_initialized, interleaved, was_disabled}
use Rattle.wf_num.specs.declared.c_arithmetic.CTy.TheVariants as ctys
use Rattle.c_text.specs.CSpelling.{is_word_byte}
use Rattle.c_text.specs.declared.kinds.COp.TheVariants.{Lt, Gt, Eq, Ne, Both, Either}
use Rattle.c_text.specs.declared.kinds.CUint.TheVariants.{U8, U32}
use Rattle.c_text.specs.declared.kinds.CUnary.TheVariants.{Not}
use Rattle.c_text.specs.declared.kinds.Linkage.TheVariants.{External}
use Rattle.c_text.specs.CTree.{TypeTree, uint, size, boolean, uint_pointer, struct_pointer, text, ExprTree, variable, element, unary, Code, finish, assign, ParamTree, ItemTree}
use Rattle.c_meaning.specs.CTypes.{CScope, Function, structs_of, functions_of, scope_of, struct_named, function_named, local_name, variable_held, ExprType, points_to, byte, one, numbers, value_type, type_of, held_of, arg_types, is_known, assignable, passable, io_buffer, promoted}
use Rattle.c_meaning.specs.CStep.{callee_of}
use Rattle.c_meaning.specs.UnitForm.{uint_of as form_uint, Checked, checked, all_distinct, is_among, has_type, is_called, may_keep, formed_call, formed_return, formed_locals, answer_type, arg_params, args_params}
use Rattle.wf_exprs.specs.Names.{struct_type, body_name, status_name}
use Rattle.wf_exprs.specs.Words.{num, width_of, two, self, of_self, args}
use Rattle.wf_exprs.specs.Exprs.{chained, status_constant}
use Rattle.wf_exprs.specs.Helpers.{all_saturating}
use Rattle.wf_exprs.specs.Reads.{code_reads}
use Rattle.wf_lower_stmts.specs.Forms.{status_local, got_local, when}
use Rattle.wf_lower.specs.Bodies.{params_of, result_of, refuse, refused_with, wrong_arg, wrong_args, either_of, when_any, when_wrong, when_other, disable_if_marked, table, settle_if_coroutine, answer_locals, answer_in, answered, handed, entry_code, entry_function}
use Rattle.wf_lower.specs.Unit.{struct_fields, all_functions, is_used}
use Rattle.wf_lower_laws.specs.NameLaw.{begins}
use Rattle.wf_lower_laws.specs.FormLaw.{typed_code, typed_item}
use Rattle.wf_lower_laws.specs.KindLaw.{IsNum, IsText}
use Rattle.wf_lower_laws.proofs.Apart.{left_or}
use Rattle.wf_lower_laws.proofs.Names.{both_hold, among_passes}
use Rattle.wf_lower_laws.proofs.OwnNames.{args_labels, args_all, all_both, map_both}
use Rattle.wf_lower_laws.proofs.NameLaw.{Words}
use Rattle.wf_lower_laws.proofs.ExprKinds.{num_kind, two_kind, chained_kind}
use Rattle.wf_lower_laws.proofs.CodeTypes.{num_fits, text_fits, same_width, member_num, CodeOk, ok_finish, ok_if, ok_assign, ok_leave, ok_when, ok_call, num_typed, fits_typed}
use Rattle.wf_lower_laws.proofs.Frames.{Agreed, code_same, same_bytes, is_result_of}
use Rattle.wf_lower_laws.proofs.Finding.{found_behind, found_none, There, there_found, there_front, there_behind, there_later}
use Rattle.wf_lower_laws.proofs.Scopes.{name_of, name_type, HasSelf, own_cell, life_in, active_in}
use Rattle.wf_lower_laws.proofs.MethodScope.{MayBeCalled}
use Rattle.wf_lower_laws.proofs.Statuses.{all_texts, constant_text}
use Rattle.wf_lower_laws.proofs.Prefixes.{AreFunctions, before_function, text_alike, function_alike, other_alike, used_by}
use Rattle.wf_lower_laws.proofs.BodyTypes.{LocalOk, params_known, locals_formed, zero_ok}
use Rattle.wf_lower_laws.proofs.FieldNames.{labels as field_labels}
use Rattle.wf_lower_laws.proofs.Straight.{straight_reads}
use Rattle.wf_lower_laws.proofs.Bodies.{settles}

assignable_self : (t : TypeTree) → assignable t (value_type t) ≡ true
assignable_self (uint u) = refl
assignable_self size = refl
assignable_self boolean = refl
assignable_self (uint_pointer u) = same_width u
assignable_self (struct_pointer name) = same_bytes name
assignable_self text = refl

module _ (p : PackageTree) (n : ℕ) (m : MethodTree) (items : List ItemTree) (are : AreFunctions items) (place : ℕ) (at : slice_get (all_functions p) place ≡ Some (entry_function p n m)) where
  abbrev B : List ItemTree
  B = before_function p items

  abbrev kind : AnswerKind
  kind = answers_of m.mark m.gives

  abbrev code : Code
  code = entry_code p n m

  abbrev own_names : List ParamTree
  own_names = params_of p m ++ map local_name (answer_locals kind)

  abbrev S : CScope
  S = scope_of B own_names

  abbrev T : CScope
  T = record { structs = structs_of B; texts = all_texts 0 p.statuses; functions = functions_of all_saturating ++ functions_of items; names = own_names }

  abbrev C : Checked
  C = record { scope = T; linkage = External; result_type = result_of m; body = code }

  abbrev Set : List ℕ → Type 0
  Set name = is_some (find (λ it. bytes_eq it.name name) own_names) ≡ true

  abbrev Ok : Code → Type 0
  Ok e = CodeOk C Set MayBeCalled e

  pub record EntryGiven : Type 0 where
    pub own : struct_named (structs_of B) (struct_type p m.of) ≡ Some (record { fields = struct_fields p m.of; name = struct_type p m.of })
    pub fields_apart : all_distinct (field_labels (struct_fields p m.of)) ≡ true
    pub distinct : all_distinct (map name_of own_names) ≡ true
    pub words : Words m
    pub few : length p.statuses < 2 ^ 64
    pub base : (k : ℕ) → k < 10 → is_some (slice_get p.statuses k) ≡ true
    pub body : Function
    pub found : function_named (functions_of items) (body_name p m) ≡ Some body
    pub params : body.params ≡ params_of p m
    pub result : body.result_type ≡ result_of m

  module _ (g : EntryGiven) where
    -- ---- names

    lookup : (x : ParamTree) → There x own_names → find (λ it. bytes_eq it.name x.name) own_names ≡ Some x
    lookup x h = there_found name_of own_names x g.distinct h

    has_self : HasSelf T p m.of
    has_self = record { own = g.own; distinct = g.fields_apart; receiver = refl }

    done : Ok finish
    done = ok_finish C Set MayBeCalled

    life_held : held_of T (of_self (codes "life")) ≡ Some (one (uint U8))
    life_held = own_cell T p m.of has_self (uint U8) (codes "life") refl (life_in p m.of)

    active_held : held_of T (of_self (codes "active")) ≡ Some (one (uint U32))
    active_held = own_cell T p m.of has_self (uint U32) (codes "active") refl (active_in p m.of)

    life_num : IsNum T (of_self (codes "life"))
    life_num = member_num T (uint U8) self (codes "life") refl life_held

    active_num : IsNum T (of_self (codes "active"))
    active_num = member_num T (uint U32) self (codes "active") refl active_held

    no_status : (k : ℕ) → find (λ it. bytes_eq it.name (status_name k)) own_names ≡ None
    no_status k = found_none name_of own_names (status_name k) (out (status_name k) refl)
      where
        U : List ℕ → Bool
        U z = not (begins (codes "status_") z)

        answers_all : (a : AnswerKind) → list_all (λ z. not (begins (codes "status_") z)) (map name_of (map local_name (answer_locals a))) ≡ true
        answers_all surface.status = refl
        answers_all (surface.numeric bits) = refl
        answers_all surface.truth = refl
        answers_all surface.nothing = refl

        all : list_all (λ z. not (begins (codes "status_") z)) (map name_of own_names) ≡ true
        all =
            let P : List (List ℕ) → Type 0 = λ ls. list_all (λ z. not (begins (codes "status_") z)) ls ≡ true in
            subst P (sym (map_both name_of (params_of p m) (map local_name (answer_locals kind))))
            (both_hold true _ refl (all_both (λ z. not (begins (codes "status_") z)) (args_labels m.args) (map name_of (map local_name (answer_locals kind)))
            (args_all (λ z. not (begins (codes "status_") z)) (λ z. list_all is_word_byte z) m.args g.words.args_words (λ x _. (refl, (refl, refl)))) (answers_all kind)))

        out : (l : List ℕ) → not (begins (codes "status_") l) ≡ false → is_among (map name_of own_names) l ≡ false
        out l e = by (is_among (map name_of own_names) l) refl
          where
            by : (b : Bool) → is_among (map name_of own_names) l ≡ b → is_among (map name_of own_names) l ≡ false
            by false q = q
            by true q = absurd (cc (among_passes (λ z. not (begins (codes "status_") z)) (map name_of own_names) l all q, e))

    constant : (k : ℕ) → k < 10 → IsText T (status_constant k)
    constant k l = constant_text T p.statuses refl g.few k (g.base k l) (no_status k)

    -- ---- answers

    fits_answer : (a : AnswerKind) (k : ℕ) → k < 10 → formed_return C (refused_with a k) (answer_type a) ≡ true
    fits_answer surface.status k l = let v = text_fits T (status_constant k) (constant k l) in rw v.is v.fits
    fits_answer (surface.numeric bits) k l = refl
    fits_answer surface.truth k l = refl
    fits_answer surface.nothing k l = refl

    refuse_ok : (k : ℕ) → k < 10 → Ok (refuse m k)
    refuse_ok k l = ok_leave C Set MayBeCalled (refused_with kind k) finish (fits_answer kind k l) done

    disable_ok : (rest : Code) → Ok rest → Ok (disable_if_marked m.mark rest)
    disable_ok rest ok = ok_if C Set MayBeCalled (is_pure m.mark) rest (assign (of_self (codes "life")) (num 2) rest) ok (disables rest ok)
      where
        disables : (rest : Code) → Ok rest → Ok (assign (of_self (codes "life")) (num 2) rest)
        disables rest ok = ok_assign C Set MayBeCalled (uint U8) (of_self (codes "life")) (num 2) rest (record { held = life_held; settled = λ l e. absurd (cc e) }) (num_fits T (uint U8) (num 2) refl (num_kind T 2)) ok

    life_set : (k : ℕ) (rest : Code) → Ok rest → Ok (assign (of_self (codes "life")) (num k) rest)
    life_set k rest ok = ok_assign C Set MayBeCalled (uint U8) (of_self (codes "life")) (num k) rest (record { held = life_held; settled = λ l e. absurd (cc e) }) (num_fits T (uint U8) (num k) refl (num_kind T k)) ok

    active_set : (k : ℕ) (rest : Code) → Ok rest → Ok (assign (of_self (codes "active")) (num k) rest)
    active_set k rest ok = ok_assign C Set MayBeCalled (uint U32) (of_self (codes "active")) (num k) rest (record { held = active_held; settled = λ l e. absurd (cc e) }) (num_fits T (uint U32) (num k) refl (num_kind T k)) ok

    -- ---- wrong arguments

    nums_both : (xs ys : List ExprTree) → AllByRecursion (IsNum T) xs → AllByRecursion (IsNum T) ys → AllByRecursion (IsNum T) (xs ++ ys)
    nums_both [] ys h j = j
    nums_both (x ∷ xs) ys h j = (h.0, nums_both xs ys h.1 j)

    nums_if : (b : Bool) (xs : List ExprTree) → AllByRecursion (IsNum T) xs → AllByRecursion (IsNum T) (if b then xs else [])
    nums_if true xs h = h
    nums_if false xs h = tt

    args_there : (xs : List Variable) (i : ℕ) (v : Variable) (q : ParamTree) → slice_get xs i ≡ Some v → There q (arg_params (record { name = v.name; kind = kind_of v.ty })) → There q (args_params (map (λ x. record { name = x.name; kind = kind_of x.ty }) xs))
    args_there [] i v q e h = absurd (cc e)
    args_there (y ∷ xs) zero v q e h =
        let same : y ≡ v = cc e in
        let P : Variable → Type 0 = λ z. There q (arg_params (record { name = z.name; kind = kind_of z.ty }) ++ args_params (map (λ x. record { name = x.name; kind = kind_of x.ty }) xs)) in
        subst P (sym same) (there_front q (arg_params (record { name = v.name; kind = kind_of v.ty })) (args_params (map (λ x. record { name = x.name; kind = kind_of x.ty }) xs)) h)
    args_there (y ∷ xs) (suc i) v q e h = there_behind q (arg_params (record { name = y.name; kind = kind_of y.ty })) (args_params (map (λ x. record { name = x.name; kind = kind_of x.ty }) xs)) (args_there xs i v q e h)

    param_type : (i : ℕ) (v : Variable) (q : ParamTree) → slice_get m.args i ≡ Some v → There q (arg_params (record { name = v.name; kind = kind_of v.ty })) → type_of T (variable q.name) ≡ Some (value_type q.kind)
    param_type i v q e h = name_type T q (lookup q (there_front q (params_of p m) (map local_name (answer_locals kind)) (there_later q (record { kind = struct_pointer (struct_type p m.of); name = codes "self" }) (args_params (map (λ x. record { name = x.name; kind = kind_of x.ty }) m.args)) (args_there m.args i v q e h))))

    not_num : (e : ExprTree) (t : ExprType) → type_of T e ≡ Some t → IsNum T (unary Not e)
    not_num e t h = record { type = numbers ctys.Int; is = rw h refl; ty = ctys.Int; counts = refl }

    wrong_num : (i : ℕ) (name : List ℕ) (ty : Ty) → slice_get m.args i ≡ Some (record { name = name; ty = ty }) → AllByRecursion (IsNum T) (wrong_arg (codes "a_" ++ name) ty)
    wrong_num i name (types.Num width lo hi) e =
        let t = form_uint (bits_of width) in
        let own_num : IsNum T (variable (codes "a_" ++ name)) = record { type = value_type (uint t); is = param_type i (record { name = name; ty = types.Num width lo hi }) (record { kind = uint t; name = codes "a_" ++ name }) e (0, refl); ty = promoted t; counts = refl } in
        nums_both _ _ (nums_if (nat_lt 0 lo) (two Lt (variable (codes "a_" ++ name)) (num lo) ∷ []) (two_kind T Lt _ (num lo) own_num (num_kind T lo), tt))
        (nums_if (nat_lt hi (2 ^ bits_of width - 1)) (two Gt (variable (codes "a_" ++ name)) (num hi) ∷ []) (two_kind T Gt _ (num hi) own_num (num_kind T hi), tt))
    wrong_num i name types.Reader e = (not_num _ _ (param_type i (record { name = name; ty = types.Reader }) (record { kind = struct_pointer io_buffer; name = codes "a_" ++ name }) e (0, refl)), tt)
    wrong_num i name types.Writer e = (not_num _ _ (param_type i (record { name = name; ty = types.Writer }) (record { kind = struct_pointer io_buffer; name = codes "a_" ++ name }) e (0, refl)), tt)
    wrong_num i name types.Flag e = tt
    wrong_num i name types.Status e = tt
    wrong_num i name (types.Slice width) e = tt
    wrong_num i name (types.Array width lo hi count) e = tt
    wrong_num i name (types.Part s) e = tt

    wrong_nums : (k : ℕ) (xs : List Variable) → ((i : ℕ) (v : Variable) → slice_get xs i ≡ Some v → slice_get m.args (k + i) ≡ Some v) → AllByRecursion (IsNum T) (wrong_args xs)
    wrong_nums k [] h = tt
    wrong_nums k (x ∷ xs) h =
        let q : k + 0 ≡ k = omega arith in
        let P : ℕ → Type 0 = λ z. slice_get m.args z ≡ Some x in
        nums_both (wrong_arg (codes "a_" ++ x.name) x.ty) (wrong_args xs) (wrong_num k x.name x.ty (subst P q (h 0 x refl)))
        (wrong_nums (suc k) xs (λ i v e. let r : k + suc i ≡ suc k + i = omega arith in let Q : ℕ → Type 0 = λ z. slice_get m.args z ≡ Some v in subst Q r (h (suc i) v e)))

    either_num : (e : ExprTree) (es : List ExprTree) → IsNum T e → AllByRecursion (IsNum T) es → IsNum T (either_of e es)
    either_num e [] h j = h
    either_num e (x ∷ es) h j = either_num (chained true Either e x) es (chained_kind T true Either e x h j.0) j.1

    any_ok : (es : List ExprTree) (body rest : Code) → AllByRecursion (IsNum T) es → Ok body → Ok rest → Ok (when_any es body rest)
    any_ok [] body rest h b r = r
    any_ok (e ∷ es) body rest h b r = ok_when C Set MayBeCalled (either_of e es) body rest (num_typed C Set MayBeCalled _ (either_num e es h.0 h.1)) b r

    -- ---- rows

    self_typed : has_type C (unary Not self) ≡ true
    self_typed = refl

    table_ok : (rest : Code) → Ok rest → Ok (table n m rest)
    table_ok rest ok =
        ok_when C Set MayBeCalled (unary Not self) (refuse m bad_receiver) _ self_typed (refuse_ok bad_receiver (omega arith))
        (ok_when C Set MayBeCalled _ (refuse m not_initialized) _ (num_typed C Set MayBeCalled _ (two_kind T Eq (num 0) (of_self (codes "life")) (num_kind T 0) life_num)) (refuse_ok not_initialized (omega arith))
        (ok_if C Set MayBeCalled (is_pure m.mark) _ _ wrong (ok_when C Set MayBeCalled _ (refuse m was_disabled) _ (num_typed C Set MayBeCalled _ (two_kind T Eq (num 2) (of_self (codes "life")) (num_kind T 2) life_num)) (refuse_ok was_disabled (omega arith)) wrong)))
      where
        other : Ok (when_other n m rest)
        other =
            ok_if C Set MayBeCalled (is_coroutine m.mark) _ rest
            (ok_when C Set MayBeCalled _ _ rest (num_typed C Set MayBeCalled _ (two_kind T Both (of_self (codes "active")) _ active_num (two_kind T Ne (of_self (codes "active")) (num (n + 1)) active_num (num_kind T (n + 1)))))
            (life_set 2 (refuse m interleaved) (refuse_ok interleaved (omega arith))) ok) ok

        wrong : Ok (when_wrong m (when_other n m rest))
        wrong =
            any_ok (wrong_args m.args) (disable_if_marked m.mark (refuse m bad_argument)) (when_other n m rest)
            (wrong_nums 0 m.args (λ i v e. let q : i ≡ 0 + i = omega arith in let P : ℕ → Type 0 = λ z. slice_get m.args z ≡ Some v in subst P q e)) (disable_ok (refuse m bad_argument) (refuse_ok bad_argument (omega arith))) other

    -- ---- the call

    handed_all : (qs : List ParamTree) → ((q : ParamTree) → There q qs → There q own_names) → passable qs (arg_types T (args (handed qs))) ≡ true
    handed_all [] h = refl
    handed_all (q ∷ qs) h =
        let t = name_type T q (lookup q (h q (0, refl))) in
        rw t (both_hold (assignable q.kind (value_type q.kind)) _ (assignable_self q.kind) (handed_all qs (λ x k. h x (there_later x q qs k))))

    answer_name : (a : AnswerKind) (x : ParamTree) → kind ≡ a → There x (map local_name (answer_locals a)) → find (λ it. bytes_eq it.name x.name) own_names ≡ Some x
    answer_name a x e h =
        let P : AnswerKind → Type 0 = λ z. There x (map local_name (answer_locals z)) in
        lookup x (there_behind x (params_of p m) (map local_name (answer_locals kind)) (subst P (sym e) h))

    answer_held : (a : AnswerKind) → kind ≡ a → may_keep C (answer_in a) (answer_type a) ≡ true
    answer_held surface.status e = rw (answer_name surface.status (record { kind = text; name = codes "status" }) e (0, refl)) refl
    answer_held (surface.numeric bits) e = rw (answer_name (surface.numeric bits) (record { kind = uint (width_of bits); name = codes "got" }) e (0, refl)) refl
    answer_held surface.truth e = rw (answer_name surface.truth (record { kind = boolean; name = codes "got" }) e (0, refl)) refl
    answer_held surface.nothing e = refl

    coroutine_kind : is_coroutine m.mark ≡ true → kind ≡ surface.status
    coroutine_kind e = by m.mark e
      where
        by : (mark : Mark) → is_coroutine mark ≡ true → answers_of mark m.gives ≡ surface.status
        by Coroutine k = refl
        by Pure k = absurd (cc k)
        by Impure k = absurd (cc k)

    status_type : kind ≡ surface.status → type_of T status_local ≡ Some (points_to byte)
    status_type e = name_type T (record { kind = text; name = codes "status" }) (answer_name surface.status (record { kind = text; name = codes "status" }) e (0, refl))

    first_num : kind ≡ surface.status → (k : ℕ) → IsNum T (two Eq (num k) (element status_local (num 0)))
    first_num e k = two_kind T Eq (num k) (element status_local (num 0)) (num_kind T k) (record { type = numbers ctys.Int; is = rw (status_type e) refl; ty = ctys.Int; counts = refl })

    settle_ok : (rest : Code) → Ok rest → Ok (settle_if_coroutine n m rest)
    settle_ok rest ok = by (is_coroutine m.mark) refl
      where
        by : (b : Bool) → is_coroutine m.mark ≡ b
            → Ok (if b then assign (of_self (codes "active")) (num 0) (when status_local (when (two Eq (num 36) (element status_local (num 0))) (assign (of_self (codes "active")) (num (n + 1)) finish) (when (two Eq (num 35) (element status_local (num 0))) (assign (of_self (codes "life")) (num 2) finish) finish)) rest) else rest)
        by false e = ok
        by true e =
            let k = coroutine_kind e in
            active_set 0 _
            (ok_when C Set MayBeCalled status_local _ rest (fits_typed C Set MayBeCalled text status_local (text_fits T status_local (inr (status_type k))))
            (ok_when C Set MayBeCalled _ _ _ (num_typed C Set MayBeCalled _ (first_num k 36)) (active_set (n + 1) finish done)
            (ok_when C Set MayBeCalled _ _ finish (num_typed C Set MayBeCalled _ (first_num k 35)) (life_set 2 finish done) done)) ok)

    answered_ok : (a : AnswerKind) → kind ≡ a → Ok (answered (answer_in a))
    answered_ok surface.status e = ok_leave C Set MayBeCalled (Some status_local) finish (returned surface.status e (let v = text_fits T status_local (inr (status_type e)) in rw v.is v.fits)) done
      where
        returned : (a : AnswerKind) → kind ≡ a → formed_return C (answer_in a) (answer_type a) ≡ true → formed_return C (answer_in a) (result_of m) ≡ true
        returned a e h = let P : AnswerKind → Type 0 = λ z. formed_return C (answer_in a) (answer_type z) ≡ true in subst P (sym e) h
    answered_ok (surface.numeric bits) e =
        ok_leave C Set MayBeCalled (Some got_local) finish
        (let P : AnswerKind → Type 0 = λ z. formed_return C (Some got_local) (answer_type z) ≡ true in subst P (sym e) (rw (name_type T (record { kind = uint (width_of bits); name = codes "got" }) (answer_name (surface.numeric bits) (record { kind = uint (width_of bits); name = codes "got" }) e (0, refl))) refl)) done
    answered_ok surface.truth e =
        ok_leave C Set MayBeCalled (Some got_local) finish
        (let P : AnswerKind → Type 0 = λ z. formed_return C (Some got_local) (answer_type z) ≡ true in subst P (sym e) (rw (name_type T (record { kind = boolean; name = codes "got" }) (answer_name surface.truth (record { kind = boolean; name = codes "got" }) e (0, refl))) refl)) done
    answered_ok surface.nothing e = done

    answered_reads : (a : AnswerKind) (l : List ℕ) → is_result_of l (answer_in a) ≡ true → code_reads l (answered (answer_in a)) ≡ true
    answered_reads surface.status l h = left_or (bytes_eq l (codes "status")) false h
    answered_reads (surface.numeric bits) l h = left_or (bytes_eq l (codes "got")) false h
    answered_reads surface.truth l h = left_or (bytes_eq l (codes "got")) false h
    answered_reads surface.nothing l h = absurd (cc h)

    body_found : function_named T.functions (body_name p m) ≡ Some g.body
    body_found = found_behind (λ (f : Function). f.name) (functions_of all_saturating) (functions_of items) (body_name p m) (out (is_among (map (λ (f : Function). f.name) (functions_of all_saturating)) (body_name p m)) refl) ∙ g.found
      where
        out : (b : Bool) → is_among (map (λ (f : Function). f.name) (functions_of all_saturating)) (body_name p m) ≡ b → is_among (map (λ (f : Function). f.name) (functions_of all_saturating)) (body_name p m) ≡ false
        out false e = e
        out true e = absurd (cc (among_passes (begins (codes "sat_")) (map (λ (f : Function). f.name) (functions_of all_saturating)) (body_name p m) refl e))

    call_formed : formed_call (callee_of (body_name p m)) C (answer_in kind) (body_name p m) (args (handed (params_of p m))) ≡ true
    call_formed =
        let es = args (handed (params_of p m)) in
        let Q : Option Function → Type 0 = λ o. is_called C (answer_in kind) (arg_types T es) o ≡ true in
        let R : List ParamTree → Type 0 = λ ps. passable ps (arg_types T es) ≡ true in
        let V : Option TypeTree → Type 0 = λ t. may_keep C (answer_in kind) t ≡ true in
        let passed = handed_all (params_of p m) (λ q k. there_front q (params_of p m) (map local_name (answer_locals kind)) k) in
        subst Q (sym body_found) (both_hold (passable g.body.params (arg_types T es)) (may_keep C (answer_in kind) g.body.result_type) (subst R (sym g.params) passed) (subst V (sym g.result) (answer_held kind refl)))

    entry_ok : Ok code
    entry_ok =
        table_ok _ (ok_call C Set MayBeCalled (answer_in kind) (body_name p m) (args (handed (params_of p m))) _ call_formed (refl, inl refl)
        (λ l h. straight_reads l (answered (answer_in kind)) _ (settles n m (answered (answer_in kind))) (answered_reads kind l h)) (settle_ok _ (answered_ok kind refl)))

    -- ---- the same in the scope that the entry has

    used : (l : List ℕ) → code_reads l code ≡ true → is_used (all_functions p) l ≡ true
    used l h = used_by (all_functions p) place (entry_function p n m) l at h

    agreed : (l : List ℕ) → code_reads l code ≡ true → Agreed S T l
    agreed l h = record { held = rw (text_alike p items are l (used l h)) refl; function = function_alike p items are l (used l h) }

    abbrev own_checked : Checked
    own_checked = checked B External (result_of m) own_names code

    code_typed : typed_code own_checked code ≡ true
    code_typed = code_same S T refl own_checked C refl refl refl code agreed (λ l a. by l (entry_ok.fair l a)) (λ l k. (let q = entry_ok.called l k in record { function = other_alike p items are l q.0; moves = q.1 })) ∙ entry_ok.typed
      where
        by : (l : List ℕ) → Set l ⊎ (code_reads l code ≡ true) → variable_held S l ≡ variable_held T l
        by l (inr r) = (agreed l r).held
        by l (inl k) = some (find (λ it. bytes_eq it.name l) own_names) refl k
          where
            some : (o : Option ParamTree) → find (λ it. bytes_eq it.name l) own_names ≡ o → is_some o ≡ true → variable_held S l ≡ variable_held T l
            some None e i = absurd (cc i)
            some (Some x) e i = rw e refl

    locals_ok : (a : AnswerKind) → AllByRecursion (LocalOk B (params_of p m)) (answer_locals a)
    locals_ok surface.status = (zero_ok B (params_of p m) text (codes "status") refl, tt)
    locals_ok (surface.numeric bits) = (zero_ok B (params_of p m) (uint (width_of bits)) (codes "got") refl, tt)
    locals_ok surface.truth = (zero_ok B (params_of p m) boolean (codes "got") refl, tt)
    locals_ok surface.nothing = tt

    pub entry_typed : typed_item B (entry_function p n m) ≡ true
    entry_typed =
        both_hold (list_all (λ q. is_known (structs_of B) q.kind) (params_of p m)) _ (both_hold (is_some (struct_named (structs_of B) (struct_type p m.of))) _ (rw g.own refl) (params_known (structs_of B) m.args refl))
        (both_hold (formed_locals (scope_of B (params_of p m)) (answer_locals kind)) _ (locals_formed B (params_of p m) (answer_locals kind) (locals_ok kind)) code_typed)
