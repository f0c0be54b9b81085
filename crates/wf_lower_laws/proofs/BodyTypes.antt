-- The bodies of methods have the types that C asks, after the items that stand before them.
use Rattle.std.proofs.Common.{◌≡◌, ◌⊎◌, inl, inr, ℕ, suc, ◌+◌, Bool, true, false, List, [], ◌∷◌, ◌++◌, map, Option, Some, None, refl, sym, ap, ◌∙◌, subst, arith, append_assoc, append-nil}
use Rattle.std.specs.Prelude.{if◌then◌else◌, cond, find, slice_get, bytes_eq, codes, is_some}
use Rattle.std.specs.List.{list_all, AllByRecursion}
use Rattle.std.proofs.lemmas.Slice.Eq.{bytes_eq-Decides}
use Rattle.wf_base.specs.BaseTable.{bits_of}
use Rattle.wf_ast.specs.declared.types.Ty.{Ty}
use Rattle.wf_ast.specs.declared.types.Ty.TheVariants as types
use Rattle.wf_ast.specs.TypedPackage.{Variable, MethodTree, PackageTree, kind_of}
use Rattle.wf_ast.specs.WellTyped.{is_coroutine, may_be_result, well_block, calls_only}
use Rattle.wf_meaning.specs.Remaining.{number_of}
use Rattle.c_text.specs.declared.kinds.CNumber.TheVariants.{Int}
use Rattle.c_text.specs.declared.kinds.CUint.TheVariants.{U8, U16, U64}
use Rattle.c_text.specs.declared.kinds.Linkage.TheVariants.{Static}
use Rattle.c_text.specs.CTree.{TypeTree, uint, size, boolean, uint_pointer, struct_pointer, text, ExprTree, variable, member, Code, finish, empty, nested, assign, call, jump, branch, repeat, select, leave, case_label, default_label, name_label, FieldTree, plain, ParamTree, LocalTree, ItemTree}
use Rattle.c_meaning.specs.CTypes.{CScope, StructDecl, Function, structs_of, functions_of, scope_of, struct_named, local_name, variable_held, points_to, object, type_of, is_known, io_buffer}
use Rattle.c_meaning.specs.UnitForm.{Checked, checked, has_type, is_among, all_distinct, arg_params, args_params, formed_initial, formed_locals}
use Rattle.wf_exprs.specs.Names.{struct_type, io_place, io_end, io_bytes, point_field, held_field, count_field}
use Rattle.wf_exprs.specs.Words.{num, width_of, of_self}
use Rattle.wf_exprs.specs.Exprs.{io_code}
use Rattle.wf_exprs.specs.Reads.{code_reads}
use Rattle.wf_lower_stmts.specs.Forms.{Form, form_of, is_io, place_in, end_of, resume_local, holds_something, counts_bytes, keeps, restore_count, restore_started, when, when_some}
use Rattle.wf_lower_stmts.specs.Lower.{ending}
use Rattle.wf_lower.specs.Bodies.{params_of, result_of, io_locals, bytes_locals, local_of, locals_of, further_locals, resume_of, only_read, touched, resumed, statements_of, body_code, fixed_locals, own_names, body_locals, body_function}
use Rattle.wf_lower.specs.Unit.{struct_fields, all_functions, is_used}
use Rattle.wf_lower_laws.specs.FormLaw.{typed_code, typed_item}
use Rattle.wf_lower_laws.specs.KindLaw.{IsNum}
use Rattle.wf_lower_laws.proofs.Apart.{left_or, right_or}
use Rattle.wf_lower_laws.proofs.Names.{either_true, both_hold}
use Rattle.wf_lower_laws.proofs.OwnNames.{map_both}
use Rattle.wf_lower_laws.proofs.ExprKinds.{num_kind}
use Rattle.wf_lower_laws.proofs.CodeTypes.{Fits, num_fits, held_fits, variable_num, member_num, CodeOk, ok_finish, ok_number, ok_when, ok_select, ok_empty, ok_case, num_typed, num_counts}
use Rattle.wf_lower_laws.proofs.Frames.{Agreed, CallAgreed, code_same, same_bytes}
use Rattle.wf_lower_laws.proofs.Typing.{Serves, restores_ok, statements_ok, ending_ok}
use Rattle.wf_lower_laws.proofs.Finding.{found_front, found_both, found_alike, There, there_found, there_later, distinct_front}
use Rattle.wf_lower_laws.proofs.Scopes.{name_of, name_held, name_type, io_written, io_read, io_limit, io_pointer, HasSelf, own_cell, method_in}
use Rattle.wf_lower_laws.proofs.MethodScope.{MayBeCalled, front, behind, resume_locals, T, c, Settled, Given, resume_found, args_there}
use Rattle.wf_lower_laws.proofs.Prefixes.{AreFunctions, before_function, read_alike, text_alike, function_alike, other_alike, used_by}
use Rattle.wf_lower_laws.proofs.Straight.{straight_reads}
use Rattle.wf_lower_laws.proofs.Bodies.{touches}
use Rattle.wf_lower_laws.proofs.NameLaw.{named_at}

-- ---- a body's own code

module _ (p : PackageTree) (n : ℕ) (m : MethodTree) (structs : List StructDecl) (fs : List Function) (known : ℕ → Bool) (g : Given p n m structs fs known)
    (s : Serves (c p n m structs fs) (form_of p m) (Settled p n m structs fs) MayBeCalled known) where
  abbrev f : Form
  f = form_of p m

  abbrev C : Checked
  C = c p n m structs fs

  abbrev Set : List ℕ → Type 0
  Set = Settled p n m structs fs

  abbrev Ok : Code → Type 0
  Ok code = CodeOk C Set MayBeCalled code

  restored_ok : is_coroutine m.mark ≡ true → Ok (resumed f)
  restored_ok e = restores_ok C f Set MayBeCalled known s m.locals (restore_started m finish) s.kept e (by (keeps holds_something m.body) refl (counted (keeps counts_bytes m.body) refl))
    where
      counted : (b : Bool) → keeps counts_bytes m.body ≡ b → Ok (if b then assign (variable (codes "count")) (of_self (count_field m.name)) finish else finish)
      counted false k = ok_finish C Set MayBeCalled
      counted true k =
          let cell = s.count_kept e k in
          ok_number C Set MayBeCalled (variable (codes "count")) _ finish
          (record { type = uint U8; numeric = refl; cell = record { held = s.count_held; settled = λ l q. (let P : List ℕ → Type 0 = Set in subst P (sym ((bytes_eq-Decides l (codes "count")).0 q)) (s.count_settled e k)) } })
          (member_num (C.scope) cell.type _ _ cell.numeric cell.cell.held) (ok_finish C Set MayBeCalled)

      by : (b : Bool) → keeps holds_something m.body ≡ b → Ok (restore_count m finish) → Ok (if b then assign (variable (codes "held")) (of_self (held_field m.name)) (restore_count m finish) else restore_count m finish)
      by false k more = more
      by true k more =
          let cell = s.held_kept e k in
          ok_number C Set MayBeCalled (variable (codes "held")) _ (restore_count m finish)
          (record { type = uint U64; numeric = refl; cell = record { held = s.held_held; settled = λ l q. (let P : List ℕ → Type 0 = Set in subst P (sym ((bytes_eq-Decides l (codes "held")).0 q)) (s.held_settled e k)) } })
          (member_num (C.scope) cell.type _ _ cell.numeric cell.cell.held) more

  when_some_ok : (test : ExprTree) (body rest : Code) → has_type C test ≡ true → Ok body → Ok rest → Ok (when_some test body rest)
  when_some_ok test finish rest h b r = r
  when_some_ok test (nested inner other) rest h b r = ok_when C Set MayBeCalled test (nested inner other) rest h b r
  when_some_ok test (empty other) rest h b r = ok_when C Set MayBeCalled test (empty other) rest h b r
  when_some_ok test (assign target value other) rest h b r = ok_when C Set MayBeCalled test (assign target value other) rest h b r
  when_some_ok test (call target function given other) rest h b r = ok_when C Set MayBeCalled test (call target function given other) rest h b r
  when_some_ok test (jump label other) rest h b r = ok_when C Set MayBeCalled test (jump label other) rest h b r
  when_some_ok test (branch t body o x other) rest h b r = ok_when C Set MayBeCalled test (branch t body o x other) rest h b r
  when_some_ok test (repeat t body other) rest h b r = ok_when C Set MayBeCalled test (repeat t body other) rest h b r
  when_some_ok test (select on body other) rest h b r = ok_when C Set MayBeCalled test (select on body other) rest h b r
  when_some_ok test (leave value other) rest h b r = ok_when C Set MayBeCalled test (leave value other) rest h b r
  when_some_ok test (case_label k other) rest h b r = ok_when C Set MayBeCalled test (case_label k other) rest h b r
  when_some_ok test (default_label other) rest h b r = ok_when C Set MayBeCalled test (default_label other) rest h b r
  when_some_ok test (name_label label other) rest h b r = ok_when C Set MayBeCalled test (name_label label other) rest h b r

  pub body_ok : may_be_result m.mark m.gives ≡ true → well_block (record { within = p; method = m }) [] m.body ≡ true → calls_only known m.body ≡ true → Ok (body_code f)
  body_ok r w k = by (is_coroutine m.mark) refl
    where
      own : Ok (statements_of f)
      own = statements_ok C f Set MayBeCalled known s r (number_of m.body) w k

      resume_num : is_coroutine m.mark ≡ true → IsNum C.scope resume_local
      resume_num e = variable_num C.scope (uint U16) (codes "resume") refl (name_held C.scope (record { kind = uint U16; name = codes "resume" }) (resume_found p n m structs fs known g e))

      by : (b : Bool) → is_coroutine m.mark ≡ b → Ok (if b then assign (of_self (point_field m.name)) (num 0) (when_some resume_local (resumed f) (select resume_local (case_label (Int 0) (empty (statements_of f))) (ending f))) else statements_of f)
      by false e = own
      by true e =
          ok_number C Set MayBeCalled (of_self (point_field m.name)) (num 0) _ (s.point e) (num_kind C.scope 0)
          (when_some_ok resume_local (resumed f) _ (num_typed C Set MayBeCalled resume_local (resume_num e)) (restored_ok e)
          (ok_select C Set MayBeCalled resume_local _ (ending f) (num_counts C Set MayBeCalled resume_local (resume_num e)) (ok_case C Set MayBeCalled (Int 0) _ (ok_empty C Set MayBeCalled (statements_of f) own))
          (ending_ok C f Set MayBeCalled known s r)))

-- ---- the same in the scope that the body has

among_found : (xs : List ParamTree) (l : List ℕ) → is_among (map name_of xs) l ≡ true → is_some (find (λ it. bytes_eq (name_of it) l) xs) ≡ true
among_found [] l a = absurd (cc a)
among_found (x ∷ xs) l a = by (either_true (bytes_eq l x.name) (is_among (map name_of xs) l) a) (among_found xs l)
  where
    by : (bytes_eq l x.name ≡ true) ⊎ (is_among (map name_of xs) l ≡ true) → (is_among (map name_of xs) l ≡ true → is_some (find (λ it. bytes_eq (name_of it) l) xs) ≡ true)
        → is_some (cond (bytes_eq x.name l) (Some x) (find (λ it. bytes_eq (name_of it) l) xs)) ≡ true
    by (inl t) more =
        let same : l ≡ x.name = (bytes_eq-Decides l x.name).0 t in
        let P : List ℕ → Type 0 = λ z. is_some (cond (bytes_eq x.name z) (Some x) (find (λ it. bytes_eq (name_of it) z) xs)) ≡ true in
        subst P (sym same) (rw (same_bytes x.name) refl)
    by (inr t) more = later (bytes_eq x.name l) (more t)
      where
        later : (b : Bool) → is_some (find (λ it. bytes_eq (name_of it) l) xs) ≡ true → is_some (cond b (Some x) (find (λ it. bytes_eq (name_of it) l) xs)) ≡ true
        later true k = refl
        later false k = k

names_same : (ls : List LocalTree) → map name_of (map local_name ls) ≡ map (λ (l : LocalTree). l.name) ls
names_same [] = refl
names_same (l ∷ ls) = ap (λ zs. l.name ∷ zs) (names_same ls)

touched_typed : (c : Checked) (names : List (List ℕ)) (code rest : Code) → ((l : List ℕ) → is_among names l ≡ true → has_type c (variable l) ≡ true) → typed_code c rest ≡ true → typed_code c (touched names code rest) ≡ true
touched_typed c [] code rest h t = t
touched_typed c (name ∷ names) code rest h t = by (code_reads name code) (h name (left_or (bytes_eq name name) (is_among names name) (same_bytes name))) (touched_typed c names code rest (λ l a. h l (right_or (bytes_eq l name) (is_among names l) a)) t)
  where
    by : (b : Bool) → has_type c (variable name) ≡ true → typed_code c (touched names code rest) ≡ true → typed_code c (if b then touched names code rest else when (variable name) finish (touched names code rest)) ≡ true
    by true v k = k
    by false v k = both_hold (has_type c (variable name)) _ v k

-- ---- parameters and locals

module _ (structs : List StructDecl) where
  pub params_known : (xs : List Variable) → is_some (struct_named structs io_buffer) ≡ true → list_all (λ q. is_known structs q.kind) (args_params (map (λ x. record { name = x.name; kind = kind_of x.ty }) xs)) ≡ true
  params_known [] h = refl
  params_known (x ∷ xs) h = by x.ty (params_known xs h)
    where
      rest : List ParamTree
      rest = args_params (map (λ x. record { name = x.name; kind = kind_of x.ty }) xs)

      by : (ty : Ty) → list_all (λ q. is_known structs q.kind) rest ≡ true → list_all (λ q. is_known structs q.kind) (arg_params (record { name = x.name; kind = kind_of ty }) ++ rest) ≡ true
      by (types.Num width lo hi) k = k
      by types.Flag k = k
      by types.Status k = k
      by types.Reader k = both_hold (is_some (struct_named structs io_buffer)) _ h k
      by types.Writer k = both_hold (is_some (struct_named structs io_buffer)) _ h k
      by (types.Slice width) k = k
      by (types.Array width lo hi count) k = k
      by (types.Part s) k = k

module _ (before : List ItemTree) (params : List ParamTree) where
  -- A local whose initial value has its type after any names.
  pub record LocalOk (l : LocalTree) : Type 0 where
    pub known : is_known (structs_of before) l.kind ≡ true
    pub initial : (ys : List ParamTree) → formed_initial (scope_of before (params ++ ys)) l.kind l.initial ≡ true

  locals_from : (ls : List LocalTree) (ys : List ParamTree) → AllByRecursion LocalOk ls → formed_locals (scope_of before (params ++ ys)) ls ≡ true
  locals_from [] ys h = refl
  locals_from (l ∷ ls) ys h =
      let P : List ParamTree → Type 0 = λ z. formed_locals (scope_of before z) ls ≡ true in
      both_hold (is_known (structs_of before) l.kind) _ h.0.known (both_hold (formed_initial (scope_of before (params ++ ys)) l.kind l.initial) _ (h.0.initial ys)
      (subst P (sym (append_assoc params ys (local_name l ∷ []))) (locals_from ls (ys ++ local_name l ∷ []) h.1)))

  pub locals_formed : (ls : List LocalTree) → AllByRecursion LocalOk ls → formed_locals (scope_of before params) ls ≡ true
  locals_formed ls h = let P : List ParamTree → Type 0 = λ z. formed_locals (scope_of before z) ls ≡ true in subst P (append-nil params) (locals_from ls [] h)

  all_both : (xs ys : List LocalTree) → AllByRecursion LocalOk xs → AllByRecursion LocalOk ys → AllByRecursion LocalOk (xs ++ ys)
  all_both [] ys h j = j
  all_both (x ∷ xs) ys h j = (h.0, all_both xs ys h.1 j)

  all_if : (b : Bool) (xs ys : List LocalTree) → AllByRecursion LocalOk xs → AllByRecursion LocalOk ys → AllByRecursion LocalOk (if b then xs else ys)
  all_if true xs ys h j = h
  all_if false xs ys h j = j

  pub zero_ok : (t : TypeTree) (name : List ℕ) → is_known (structs_of before) t ≡ true → LocalOk (record { kind = t; name = name; initial = Some (num 0) })
  zero_ok t name k = record { known = k; initial = λ ys. refl }

  source_ok : (name : List ℕ) (ty : Ty) → AllByRecursion LocalOk (local_of (record { name = name; ty = ty }))
  source_ok name (types.Num width lo hi) = (zero_ok (uint (width_of (bits_of width))) (codes "v_" ++ name) refl, tt)
  source_ok name types.Flag = (zero_ok boolean (codes "v_" ++ name) refl, tt)
  source_ok name types.Status = (zero_ok text (codes "v_" ++ name) refl, tt)
  source_ok name (types.Slice width) = (zero_ok (uint_pointer (width_of (bits_of width))) (codes "vp_" ++ name) refl, (zero_ok size (codes "vl_" ++ name) refl, tt))
  source_ok name types.Reader = tt
  source_ok name types.Writer = tt
  source_ok name (types.Array width lo hi count) = tt
  source_ok name (types.Part s) = tt

  sources_ok : (xs : List Variable) → AllByRecursion LocalOk (locals_of xs)
  sources_ok [] = tt
  sources_ok (x ∷ xs) = all_both (local_of x) (locals_of xs) (source_ok x.name x.ty) (sources_ok xs)

  read_ok : (code : Code) (ls : List LocalTree) → AllByRecursion LocalOk ls → AllByRecursion LocalOk (only_read code ls)
  read_ok code [] h = tt
  read_ok code (l ∷ ls) h = all_if (code_reads l.name code) (l ∷ only_read code ls) (only_read code ls) (h.0, read_ok code ls h.1) (read_ok code ls h.1)

  further_ok : AllByRecursion LocalOk further_locals
  further_ok = (zero_ok text (codes "status") refl, (zero_ok (uint U64) (codes "got") refl, (zero_ok size (codes "size") refl, (zero_ok (uint U64) (codes "held") refl, (zero_ok (uint U8) (codes "count") refl, tt)))))

  -- A number, or a pointer, as an initial value.
  value_ok : (t : TypeTree) (name : List ℕ) (e : ExprTree) → is_known (structs_of before) t ≡ true → ((ys : List ParamTree) → Fits (scope_of before (params ++ ys)) t e) → LocalOk (record { kind = t; name = name; initial = Some e })
  value_ok t name e k h = record { known = k; initial = λ ys. rw ((h ys).is) ((h ys).fits) }

-- ---- a body in its place

module _ (p : PackageTree) (n : ℕ) (m : MethodTree) (items : List ItemTree) (are : AreFunctions items) (place : ℕ) (at : slice_get (all_functions p) place ≡ Some (body_function (form_of p m))) (known : ℕ → Bool)
    (g : Given p n m (structs_of (before_function p items)) (functions_of items) known)
    (s : Serves (c p n m (structs_of (before_function p items)) (functions_of items)) (form_of p m) (Settled p n m (structs_of (before_function p items)) (functions_of items)) MayBeCalled known) where
  abbrev B : List ItemTree
  B = before_function p items

  abbrev F : Form
  F = form_of p m

  abbrev code : Code
  code = body_code F

  abbrev front_names : List ParamTree
  front_names = front p n m (structs_of B) (functions_of items)

  abbrev full : CScope
  full = T p n m (structs_of B) (functions_of items)

  abbrev own_scope : CScope
  own_scope = scope_of B (params_of p m ++ map local_name (body_locals F))

  abbrev read_behind : List ParamTree
  read_behind = map local_name (only_read code (bytes_locals F 0 m.args)) ++ (map local_name (only_read code further_locals) ++ map local_name (resume_locals p n m (structs_of B) (functions_of items)))

  names_are : params_of p m ++ map local_name (body_locals F) ≡ front_names ++ read_behind
  names_are =
      ap (λ z. params_of p m ++ z) (map_both local_name (fixed_locals F) _)
      ∙ (sym (append_assoc (params_of p m) (map local_name (fixed_locals F)) _)
      ∙ ap (λ z. front_names ++ z) (map_both local_name (only_read code (bytes_locals F 0 m.args)) _ ∙ ap (λ z. map local_name (only_read code (bytes_locals F 0 m.args)) ++ z) (map_both local_name (only_read code further_locals) _)))

  names_alike : (l : List ℕ) → code_reads l code ≡ true → find (λ it. bytes_eq it.name l) own_scope.names ≡ find (λ it. bytes_eq it.name l) full.names
  names_alike l h =
      let resumes = map local_name (resume_locals p n m (structs_of B) (functions_of items)) in
      let bytes = map local_name (bytes_locals F 0 m.args) in
      let read_bytes = map local_name (only_read code (bytes_locals F 0 m.args)) in
      let further = map local_name further_locals in
      let read_further = map local_name (only_read code further_locals) in
      ap (λ (z : List ParamTree). find (λ it. bytes_eq it.name l) z) names_are
      ∙ found_both name_of front_names read_behind (bytes ++ (further ++ resumes)) l
      (found_alike name_of read_bytes bytes (read_further ++ resumes) l (read_alike code l (bytes_locals F 0 m.args) h)
      ∙ found_both name_of bytes (read_further ++ resumes) (further ++ resumes) l (found_alike name_of read_further further resumes l (read_alike code l further_locals h)))

  used : (l : List ℕ) → code_reads l code ≡ true → is_used (all_functions p) l ≡ true
  used l h = used_by (all_functions p) place (body_function F) l at (straight_reads l code (touched (own_names F) code code) (touches (own_names F) code code) h)

  agreed : (l : List ℕ) → code_reads l code ≡ true → Agreed own_scope full l
  agreed l h = record { held = rw (names_alike l h, text_alike p items are l (used l h)) refl; function = function_alike p items are l (used l h) }

  settled_held : (l : List ℕ) → Settled p n m (structs_of B) (functions_of items) l → variable_held own_scope l ≡ variable_held full l
  settled_held l (inr r) = (agreed l r).held
  settled_held l (inl k) = by (find (λ it. bytes_eq it.name l) front_names) refl k
    where
      by : (o : Option ParamTree) → find (λ it. bytes_eq it.name l) front_names ≡ o → is_some o ≡ true → variable_held own_scope l ≡ variable_held full l
      by None e i = absurd (cc i)
      by (Some x) e i =
          let a : find (λ it. bytes_eq it.name l) own_scope.names ≡ Some x = ap (λ (z : List ParamTree). find (λ it. bytes_eq it.name l) z) names_are ∙ found_front name_of front_names read_behind l x e in
          let b : find (λ it. bytes_eq it.name l) full.names ≡ Some x = found_front name_of front_names (behind p n m (structs_of B) (functions_of items)) l x e in
          rw (a, b) refl

  called_alike : (l : List ℕ) → MayBeCalled l → CallAgreed own_scope full l
  called_alike l k = record { function = other_alike p items are l k.0; moves = k.1 }

  abbrev own_checked : Checked
  own_checked = checked B Static (result_of m) (params_of p m ++ map local_name (body_locals F)) (touched (own_names F) code code)

  code_typed : CodeOk (c p n m (structs_of B) (functions_of items)) (Settled p n m (structs_of B) (functions_of items)) MayBeCalled code → typed_code own_checked code ≡ true
  code_typed ok =
      code_same own_scope full refl own_checked (c p n m (structs_of B) (functions_of items)) refl refl refl code agreed (λ l a. by l (ok.fair l a)) (λ l k. called_alike l (ok.called l k)) ∙ ok.typed
    where
      by : (l : List ℕ) → Settled p n m (structs_of B) (functions_of items) l ⊎ (code_reads l code ≡ true) → variable_held own_scope l ≡ variable_held full l
      by l (inl k) = settled_held l k
      by l (inr r) = (agreed l r).held

  front_typed : (l : List ℕ) → is_among (own_names F) l ≡ true → has_type own_checked (variable l) ≡ true
  front_typed l a = by (find (λ it. bytes_eq it.name l) front_names) refl (among_found front_names l (subst P (sym same) a))
    where
      P : List (List ℕ) → Type 0
      P z = is_among z l ≡ true

      same : map name_of front_names ≡ own_names F
      same = map_both name_of (params_of p m) (map local_name (fixed_locals F)) ∙ ap (λ z. map (λ (x : ParamTree). x.name) (params_of p m) ++ z) (names_same (fixed_locals F))

      by : (o : Option ParamTree) → find (λ it. bytes_eq it.name l) front_names ≡ o → is_some o ≡ true → has_type own_checked (variable l) ≡ true
      by None e i = absurd (cc i)
      by (Some x) e i =
          let b : find (λ it. bytes_eq it.name l) own_scope.names ≡ Some x = ap (λ (z : List ParamTree). find (λ it. bytes_eq it.name l) z) names_are ∙ found_front name_of front_names read_behind l x e in
          rw b refl

  -- ---- initial values

  params_distinct : all_distinct (map name_of (params_of p m)) ≡ true
  params_distinct =
      let P : List (List ℕ) → Type 0 = λ z. all_distinct z ≡ true in
      distinct_front (map name_of (params_of p m)) (map name_of (map local_name (fixed_locals F))) (subst P (map_both name_of (params_of p m) (map local_name (fixed_locals F))) g.distinct)

  abbrev scope_with : List ParamTree → CScope
  scope_with ys = scope_of B (params_of p m ++ ys)

  buffer_in : (ys : List ParamTree) (i : ℕ) (name : List ℕ) (ty : Ty) → slice_get m.args i ≡ Some (record { name = name; ty = ty }) → is_io ty ≡ true → type_of (scope_with ys) (variable (codes "a_" ++ name)) ≡ Some (points_to (object io_buffer))
  buffer_in ys i name ty e h =
      let x : ParamTree = record { kind = struct_pointer io_buffer; name = codes "a_" ++ name } in
      name_type (scope_with ys) x (found_front name_of (params_of p m) ys x.name x (there_found name_of (params_of p m) x params_distinct
      (there_later x _ _ (args_there p n m (structs_of B) (functions_of items) known g m.args i (record { name = name; ty = ty }) x e (by ty h)))))
    where
      by : (ty : Ty) → is_io ty ≡ true → There {X = ParamTree} (record { kind = struct_pointer io_buffer; name = codes "a_" ++ name }) (arg_params (record { name = name; kind = kind_of ty }))
      by types.Reader h = (0, refl)
      by types.Writer h = (0, refl)
      by types.Flag h = absurd (cc h)
      by types.Status h = absurd (cc h)
      by (types.Num width lo hi) h = absurd (cc h)
      by (types.Slice width) h = absurd (cc h)
      by (types.Array width lo hi count) h = absurd (cc h)
      by (types.Part q) h = absurd (cc h)

  io_in : (ys : List ParamTree) (i : ℕ) (v : Variable) → slice_get m.args i ≡ Some v → is_io v.ty ≡ true → type_of (scope_with ys) (io_code F.names i) ≡ Some (points_to (object io_buffer))
  io_in ys i v e h =
      let P : List ℕ → Type 0 = λ z. type_of (scope_with ys) (variable (codes "a_" ++ z)) ≡ Some (points_to (object io_buffer)) in
      subst P (sym (named_at m.args i v e)) (buffer_in ys i v.name v.ty e h)

  place_fits : (ys : List ParamTree) (i : ℕ) (ty : Ty) → is_io ty ≡ true → type_of (scope_with ys) (io_code F.names i) ≡ Some (points_to (object io_buffer))
      → Fits (scope_with ys) size (place_in (io_code F.names i) ty) × Fits (scope_with ys) size (end_of (io_code F.names i) ty)
  place_fits ys i types.Reader h t = (
    num_fits (scope_with ys) size _ refl (member_num (scope_with ys) size (io_code F.names i) (codes "ri") refl (io_read (scope_with ys) g.io (io_code F.names i) t)),
    num_fits (scope_with ys) size _ refl (member_num (scope_with ys) size (io_code F.names i) (codes "wi") refl (io_written (scope_with ys) g.io (io_code F.names i) t)),
  )
  place_fits ys i types.Writer h t = (
    num_fits (scope_with ys) size _ refl (member_num (scope_with ys) size (io_code F.names i) (codes "wi") refl (io_written (scope_with ys) g.io (io_code F.names i) t)),
    num_fits (scope_with ys) size _ refl (io_limit (scope_with ys) g.io (io_code F.names i) t),
  )
  place_fits ys i types.Flag h t = absurd (cc h)
  place_fits ys i types.Status h t = absurd (cc h)
  place_fits ys i (types.Num width lo hi) h t = absurd (cc h)
  place_fits ys i (types.Slice width) h t = absurd (cc h)
  place_fits ys i (types.Array width lo hi count) h t = absurd (cc h)
  place_fits ys i (types.Part q) h t = absurd (cc h)

  abbrev Of : ℕ → List Variable → Type 0
  Of k xs = (i : ℕ) (v : Variable) → slice_get xs i ≡ Some v → slice_get m.args (k + i) ≡ Some v

  of_next : (k : ℕ) (x : Variable) (xs : List Variable) → Of k (x ∷ xs) → Of (suc k) xs
  of_next k x xs h i v e = let q : k + suc i ≡ suc k + i = omega arith in let P : ℕ → Type 0 = λ z. slice_get m.args z ≡ Some v in subst P q (h (suc i) v e)

  of_first : (k : ℕ) (x : Variable) (xs : List Variable) → Of k (x ∷ xs) → slice_get m.args k ≡ Some x
  of_first k x xs h = let q : k + 0 ≡ k = omega arith in let P : ℕ → Type 0 = λ z. slice_get m.args z ≡ Some x in subst P q (h 0 x refl)

  of_all : Of 0 m.args
  of_all i v e = let q : i ≡ 0 + i = omega arith in let P : ℕ → Type 0 = λ z. slice_get m.args z ≡ Some v in subst P q e

  places_ok : (k : ℕ) (xs : List Variable) → Of k xs → AllByRecursion (LocalOk B (params_of p m)) (io_locals F k xs)
  places_ok k [] h = tt
  places_ok k (x ∷ xs) h = by (is_io x.ty) refl (places_ok (suc k) xs (of_next k x xs h))
    where
      by : (b : Bool) → is_io x.ty ≡ b → AllByRecursion (LocalOk B (params_of p m)) (io_locals F (suc k) xs)
          → AllByRecursion (LocalOk B (params_of p m)) (if b then record { kind = size; name = io_place F.names k; initial = Some (place_in (io_code F.names k) x.ty) } ∷ record { kind = size; name = io_end F.names k; initial = Some (end_of (io_code F.names k) x.ty) } ∷ io_locals F (suc k) xs else io_locals F (suc k) xs)
      by false e more = more
      by true e more = (
        value_ok B (params_of p m) size (io_place F.names k) _ refl (λ ys. (place_fits ys k x.ty e (io_in ys k x (of_first k x xs h) e)).0),
        (value_ok B (params_of p m) size (io_end F.names k) _ refl (λ ys. (place_fits ys k x.ty e (io_in ys k x (of_first k x xs h) e)).1), more),
      )

  pointers_ok : (k : ℕ) (xs : List Variable) → Of k xs → AllByRecursion (LocalOk B (params_of p m)) (bytes_locals F k xs)
  pointers_ok k [] h = tt
  pointers_ok k (x ∷ xs) h = by (is_io x.ty) refl (pointers_ok (suc k) xs (of_next k x xs h))
    where
      by : (b : Bool) → is_io x.ty ≡ b → AllByRecursion (LocalOk B (params_of p m)) (bytes_locals F (suc k) xs)
          → AllByRecursion (LocalOk B (params_of p m)) (if b then record { kind = uint_pointer U8; name = io_bytes F.names k; initial = Some (member (io_code F.names k) (codes "ptr")) } ∷ bytes_locals F (suc k) xs else bytes_locals F (suc k) xs)
      by false e more = more
      by true e more = (
        value_ok B (params_of p m) (uint_pointer U8) (io_bytes F.names k) (member (io_code F.names k) (codes "ptr")) refl
            (λ ys. held_fits (scope_with ys) (uint_pointer U8) (member (io_code F.names k) (codes "ptr")) (io_pointer (scope_with ys) g.io (io_code F.names k) (io_in ys k x (of_first k x xs h) e)) refl),
        more,
      )

  self_in : (ys : List ParamTree) → HasSelf (scope_with ys) p m.of
  self_in ys = record { own = g.own; distinct = g.fields_apart; receiver = refl }

  resume_ok : (b : Bool) → is_coroutine m.mark ≡ b → AllByRecursion (LocalOk B (params_of p m)) (if b then resume_of m ∷ [] else [])
  resume_ok false e = tt
  resume_ok true e =
      let x : FieldTree = record { kind = plain (uint U16); name = point_field m.name; count = None } in
      let there : There x (struct_fields p m.of) = method_in p n m x g.is (rw e (0, refl)) in (
        value_ok B (params_of p m) (uint U16) (codes "resume") (of_self (point_field m.name)) refl
            (λ ys. num_fits (scope_with ys) (uint U16) (of_self (point_field m.name)) refl (member_num (scope_with ys) (uint U16) _ (point_field m.name) refl (own_cell (scope_with ys) p m.of (self_in ys) (uint U16) (point_field m.name) refl there))),
        tt,
      )

  body_locals_ok : AllByRecursion (LocalOk B (params_of p m)) (body_locals F)
  body_locals_ok =
      all_both B (params_of p m) (fixed_locals F) _ (all_both B (params_of p m) (io_locals F 0 m.args) (locals_of m.locals) (places_ok 0 m.args of_all) (sources_ok B (params_of p m) m.locals))
      (all_both B (params_of p m) (only_read code (bytes_locals F 0 m.args)) _ (read_ok B (params_of p m) code (bytes_locals F 0 m.args) (pointers_ok 0 m.args of_all))
      (all_both B (params_of p m) (only_read code further_locals) _ (read_ok B (params_of p m) code further_locals (further_ok B (params_of p m))) (resume_ok (is_coroutine m.mark) refl)))

  pub params_so : list_all (λ q. is_known (structs_of B) q.kind) (params_of p m) ≡ true
  params_so = both_hold (is_some (struct_named (structs_of B) (struct_type p m.of))) _ (rw g.own refl) (params_known (structs_of B) m.args refl)

  pub body_typed : CodeOk (c p n m (structs_of B) (functions_of items)) (Settled p n m (structs_of B) (functions_of items)) MayBeCalled code → typed_item B (body_function F) ≡ true
  body_typed ok =
      both_hold (list_all (λ q. is_known (structs_of B) q.kind) (params_of p m)) _ params_so
      (both_hold (formed_locals (scope_of B (params_of p m)) (body_locals F)) _ (locals_formed B (params_of p m) (body_locals F) body_locals_ok) (touched_typed own_checked (own_names F) code code front_typed (code_typed ok)))
